-- Places rise in the order of the text: each tree stands from one place on and below another.
use Rattle.std.specs.Prelude.{ℕ, ◌+◌, ◌<◌, ◌≤◌, List, [], ◌∷◌}
use Rattle.csdn_tree.specs.declared.names.RawTerm.{RawTerm}
use Rattle.csdn_tree.specs.declared.names.RawTerm.TheVariants.{Name}
use Rattle.csdn_tree.specs.declared.syntax.RawFormula.{RawFormula}
use Rattle.csdn_tree.specs.declared.syntax.RawFormula.TheVariants as f
use Rattle.csdn_tree.specs.declared.syntax.RawCommand.{RawCommand}
use Rattle.csdn_tree.specs.declared.syntax.RawCommand.TheVariants as c
use Rattle.csdn_tree.specs.declared.syntax.RawRow.{RawRow}
use Rattle.csdn_tree.specs.declared.syntax.RawPattern.{RawPattern}
use Rattle.csdn_tree.specs.declared.syntax.RawPattern.TheVariants.{Any as AnyPort, Port as OnePort}
use Rattle.csdn_tree.specs.declared.syntax.RawItem.{RawItem}
use Rattle.csdn_tree.specs.declared.syntax.RawItem.TheVariants as item
use Rattle.csdn_tree.specs.RawTree.{raw_seq, raw_if, raw_pick, raw_not, raw_two, raw_bind}
use Rattle.csdn_tree.specs.Places.{place as place_of}

unfoldable pub TermsWithin : ℕ → List RawTerm → ℕ → Type 0
TermsWithin from [] to = from ≤ to
TermsWithin from (t ∷ ts) to = (from ≤ place_of t) × TermsWithin (place_of t + 1) ts to

unfoldable pub Within : ℕ → RawFormula → ℕ → Type 0
Within from f.True to = from ≤ to
Within from f.False to = from ≤ to
Within from (f.Atom name ts) to = (from ≤ name.at) × TermsWithin (name.at + 1) ts to
Within from (f.Same t u) to = TermsWithin from (t ∷ u ∷ []) to
Within from (f.Flow at word w) to =
    (from ≤ w.switch.at) × (w.switch.at < at) × TermsWithin (at + 1) (w.source ∷ w.target ∷ w.ingress ∷ w.egress ∷ []) to
Within from (f.RcvThis at w) to =
    (from ≤ w.switch.at) × (w.switch.at < at) × TermsWithin (at + 1) (w.source ∷ w.target ∷ w.ingress ∷ []) to
Within from (raw_not p) to = Within from p to
Within from (raw_two k p q) to = (middle : ℕ) × Within from p middle × Within middle q to
Within from (raw_bind which name sort p) to = (from ≤ name.at) × Within (name.at + 1) p to

unfoldable pub CommandWithin : ℕ → RawCommand → ℕ → Type 0
CommandWithin from c.Skip to = from ≤ to
CommandWithin from (raw_seq a b) to = (middle : ℕ) × CommandWithin from a middle × CommandWithin middle b to
CommandWithin from (raw_if p a b) to = (first : ℕ) × (second : ℕ) × Within from p first × CommandWithin first a second × CommandWithin second b to
CommandWithin from (raw_pick name sort p a b) to =
    (first : ℕ) × (second : ℕ) × (from ≤ name.at) × Within (name.at + 1) p first × CommandWithin first a second × CommandWithin second b to
CommandWithin from (c.Change word name ts) to = (from ≤ name.at) × TermsWithin (name.at + 1) ts to
CommandWithin from (c.Switch word w) to = TermsWithin from (Name w.switch ∷ w.source ∷ w.target ∷ w.ingress ∷ w.egress ∷ []) to
CommandWithin from (c.Flood w) to = TermsWithin from (Name w.switch ∷ w.source ∷ w.target ∷ w.ingress ∷ []) to

unfoldable pub RowsWithin : ℕ → List RawRow → ℕ → Type 0
RowsWithin from [] to = from ≤ to
RowsWithin from (row ∷ rows) to = (middle : ℕ) × (from ≤ row.at) × TermsWithin (row.at + 1) row.terms middle × RowsWithin middle rows to

abbrev pub port_place : RawPattern → ℕ
port_place (AnyPort n) = n.at
port_place (OnePort k) = k.at

abbrev pub ItemWithin : ℕ → RawItem → ℕ → Type 0
ItemWithin from (item.Relation r) to = (from ≤ r.name.at) × RowsWithin (r.name.at + 1) r.rows to
ItemWithin from (item.Constant name sort) to = (from ≤ name.at) × (name.at < to)
ItemWithin from (item.Invariant kind name p) to = (from ≤ name.at) × Within (name.at + 1) p to
ItemWithin from (item.Handler h) to =
    (from ≤ h.at) × (h.at < h.switch.at) × (h.switch.at < h.source.at) × (h.source.at < h.target.at) × (h.target.at < port_place h.ingress)
    × CommandWithin (port_place h.ingress + 1) h.body to
ItemWithin from (item.Timeout t) to = (from ≤ t.at) × (t.at < to)

-- the places of a program rise in the order of the text
unfoldable pub ItemsWithin : ℕ → List RawItem → ℕ → Type 0
ItemsWithin from [] to = from ≤ to
ItemsWithin from (x ∷ xs) to = (middle : ℕ) × ItemWithin from x middle × ItemsWithin middle xs to
