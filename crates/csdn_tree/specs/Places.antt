-- Where terms stand.
use Rattle.std.specs.Prelude.{ℕ}
use Rattle.csdn_tree.specs.declared.names.RawTerm.{RawTerm}
use Rattle.csdn_tree.specs.declared.names.RawTerm.TheVariants.{Name, Port}

-- where a term's first byte stands
abbrev pub place : RawTerm → ℕ
place (Name n) = n.at
place (Port k) = k.at
