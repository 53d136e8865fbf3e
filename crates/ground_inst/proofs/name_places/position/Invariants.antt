use Rattle.std.proofs.Common.{◌≡◌, map, take}
use Rattle.csdn_core.specs.declared.terms.Term.TheVariants.{Port}
use Rattle.decision_laws.specs.Copies.{index_of}
use Rattle.ground_inst.proofs.name_places.position.Given as goal

-- the numeral isn't among the first
abbrev pub invariant-loop-place : goal.invariant-loop-place
invariant-loop-place l = index_of (Port l.numeral) (map Port (take l.place l.numerals)) ≡ l.place
