-- The numbers k of all `prt(k)`, in the order of the text.
use Rattle.std.specs.Prelude.{ℕ, List, [], ◌∷◌, ◌++◌}
use Rattle.csdn_tree.specs.declared.names.RawTerm.{RawTerm}
use Rattle.csdn_tree.specs.declared.names.RawTerm.TheVariants.{Name, Port}
use Rattle.csdn_tree.specs.declared.syntax.RawFlow.{RawFlow}
use Rattle.csdn_tree.specs.declared.syntax.RawFormula.{RawFormula}
use Rattle.csdn_tree.specs.declared.syntax.RawFormula.TheVariants as f
use Rattle.csdn_tree.specs.declared.syntax.RawCommand.{RawCommand}
use Rattle.csdn_tree.specs.declared.syntax.RawCommand.TheVariants as c
use Rattle.csdn_tree.specs.declared.syntax.RawRow.{RawRow}
use Rattle.csdn_tree.specs.declared.syntax.RawPattern.{RawPattern}
use Rattle.csdn_tree.specs.declared.syntax.RawPattern.TheVariants.{Any as AnyPort, Port as OnePort}
use Rattle.csdn_tree.specs.declared.syntax.RawItem.{RawItem}
use Rattle.csdn_tree.specs.declared.syntax.RawItem.TheVariants as item
use Rattle.csdn_tree.specs.RawTree.{raw_seq, raw_if, raw_pick, raw_not, raw_two, raw_bind}

-- the number of `prt(number)`
abbrev pub term_numerals : RawTerm → List ℕ
term_numerals (Name n) = []
term_numerals (Port k) = k.number ∷ []

abbrev pub terms_numerals : List RawTerm → List ℕ
terms_numerals [] = []
terms_numerals (t ∷ ts) = term_numerals t ++ terms_numerals ts

abbrev pub flow_numerals : RawFlow → List ℕ
flow_numerals w = term_numerals w.source ++ (term_numerals w.target ++ (term_numerals w.ingress ++ term_numerals w.egress))

unfoldable pub formula_numerals : RawFormula → List ℕ
formula_numerals f.True = []
formula_numerals f.False = []
formula_numerals (f.Atom name ts) = terms_numerals ts
formula_numerals (f.Same t u) = term_numerals t ++ term_numerals u
formula_numerals (f.Flow at word w) = flow_numerals w
formula_numerals (f.RcvThis at w) = term_numerals w.source ++ (term_numerals w.target ++ term_numerals w.ingress)
formula_numerals (raw_not p) = formula_numerals p
formula_numerals (raw_two k p q) = formula_numerals p ++ formula_numerals q
formula_numerals (raw_bind which name sort p) = formula_numerals p

unfoldable pub command_numerals : RawCommand → List ℕ
command_numerals c.Skip = []
command_numerals (raw_seq a b) = command_numerals a ++ command_numerals b
command_numerals (raw_if p a b) = formula_numerals p ++ (command_numerals a ++ command_numerals b)
command_numerals (raw_pick name sort p a b) = formula_numerals p ++ (command_numerals a ++ command_numerals b)
command_numerals (c.Change word name ts) = terms_numerals ts
command_numerals (c.Switch word w) = flow_numerals w
command_numerals (c.Flood w) = term_numerals w.source ++ (term_numerals w.target ++ term_numerals w.ingress)

abbrev pub port_numerals : RawPattern → List ℕ
port_numerals (AnyPort n) = []
port_numerals (OnePort k) = k.number ∷ []

abbrev pub rows_numerals : List RawRow → List ℕ
rows_numerals [] = []
rows_numerals (row ∷ rows) = terms_numerals row.terms ++ rows_numerals rows

abbrev pub item_numerals : RawItem → List ℕ
item_numerals (item.Relation r) = rows_numerals r.rows
item_numerals (item.Constant name sort) = []
item_numerals (item.Invariant kind name p) = formula_numerals p
item_numerals (item.Handler h) = port_numerals h.ingress ++ command_numerals h.body
item_numerals (item.Timeout t) = []

abbrev pub items_numerals : List RawItem → List ℕ
items_numerals [] = []
items_numerals (x ∷ xs) = item_numerals x ++ items_numerals xs
