-- The text of a program: one item after another, each on lines of its own.
use Rattle.std.specs.Prelude.{ℕ, if◌then◌else◌, List, [], ◌∷◌, codes, map}
use Rattle.std.specs.Fmt.{decimal}
use Rattle.csdn_tree.specs.declared.syntax.InvariantKind.{InvariantKind}
use Rattle.csdn_tree.specs.declared.syntax.InvariantKind.TheVariants as v
use Rattle.csdn_tree.specs.declared.syntax.RawItem.{RawItem}
use Rattle.csdn_tree.specs.declared.syntax.RawItem.TheVariants as item
use Rattle.csdn_tree.specs.declared.syntax.RawPattern.{RawPattern}
use Rattle.csdn_tree.specs.declared.syntax.RawPattern.TheVariants.{Any as AnyPort, Port as OnePort}
use Rattle.csdn_tree.specs.declared.syntax.RawProgram.{RawProgram}
use Rattle.csdn_tree.specs.declared.syntax.RawRelation.{RawRelation}
use Rattle.csdn_tree.specs.declared.syntax.RawRow.{RawRow}
use Rattle.csdn_print.specs.declared.forms.Lead.TheVariants.{Nothing}
use Rattle.csdn_print.specs.Words.{◌·◌, listed, sort_text, sorts_text, terms_text, port_text}
use Rattle.csdn_print.specs.Formulas.{formula_text}
use Rattle.csdn_print.specs.Commands.{inner, block_text, command_text}

-- an initial value; none where there are no rows
abbrev pub initial_text : List RawRow → List ℕ
initial_text [] = []
initial_text (row ∷ rows) = codes " = {" · listed (map (λ (r : RawRow). terms_text r.terms) (row ∷ rows)) · codes "}"

-- a declaration, and the initial value that a `rel` may have
abbrev pub relation_text : RawRelation → List ℕ
relation_text r = (if r.fixed then codes "static " else codes "rel ") · r.name.text · sorts_text r.sorts · (if r.fixed then [] else initial_text r.rows) · codes ";"

abbrev pub invariant_word : InvariantKind → List ℕ
invariant_word v.Topology = codes "topology "
invariant_word v.Safety = codes "safety "
invariant_word v.Trans = codes "trans "

abbrev pub pattern_text : RawPattern → List ℕ
pattern_text (AnyPort x) = x.text
pattern_text (OnePort k) = port_text k

abbrev pub item_text : RawItem → List ℕ
item_text (item.Relation r) = relation_text r
item_text (item.Constant x s) = codes "const " · x.text · codes ":" · sort_text s · codes ";"
item_text (item.Invariant kind x p) = invariant_word kind · x.text · codes ": " · formula_text Nothing p · codes ";"
item_text (item.Handler h) = codes "pktIn(" · h.switch.text · codes ", " · h.source.text · codes "->" · h.target.text · codes ", " · pattern_text h.ingress · codes ") "
    · block_text [] (command_text (inner []) h.body)
item_text (item.Timeout t) = codes "timeout " · decimal t.seconds · codes ";"

-- items one after another, each with the end of its line
abbrev pub items_text : List RawItem → List ℕ
items_text [] = []
items_text (x ∷ xs) = item_text x · codes "\n" · items_text xs

abbrev pub program_text : RawProgram → List ℕ
program_text raw = items_text raw.items
