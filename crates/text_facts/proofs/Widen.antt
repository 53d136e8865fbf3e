-- What stands between two places stands between any two around them.
use Rattle.std.proofs.Common.{ℕ, ◌+◌, ◌≤◌, List, [], ◌∷◌, arith}
use Rattle.std.proofs.Math.Nat.{le_refl}
use Rattle.csdn_tree.specs.declared.names.RawTerm.{RawTerm}
use Rattle.csdn_tree.specs.declared.names.RawTerm.TheVariants.{Name}
use Rattle.csdn_tree.specs.declared.syntax.RawFlow.{RawFlow}
use Rattle.csdn_tree.specs.declared.syntax.RawPacket.{RawPacket}
use Rattle.csdn_tree.specs.declared.syntax.RawFormula.{RawFormula}
use Rattle.csdn_tree.specs.declared.syntax.RawFormula.TheVariants as f
use Rattle.csdn_tree.specs.declared.syntax.RawCommand.{RawCommand}
use Rattle.csdn_tree.specs.declared.syntax.RawCommand.TheVariants as c
use Rattle.csdn_tree.specs.declared.syntax.RawRow.{RawRow}
use Rattle.csdn_tree.specs.declared.syntax.RawItem.{RawItem}
use Rattle.csdn_tree.specs.declared.syntax.RawItem.TheVariants as item
use Rattle.csdn_tree.specs.Places.{place}
use Rattle.csdn_tree.specs.RawTree.{raw_not, raw_two, raw_bind, raw_seq, raw_if, raw_pick}
use Rattle.csdn_tree.specs.Within.{TermsWithin, Within, CommandWithin, RowsWithin, port_place, ItemWithin, ItemsWithin}

pub widen_terms : (ts : List RawTerm) (a b c d : ℕ) → c ≤ a → b ≤ d → TermsWithin a ts b → TermsWithin c ts d
unfolding TermsWithin
widen_terms [] a b c d l r h = omega (arith, l, r, h)
widen_terms (t ∷ ts) a b c d l r h = (omega (arith, l, h.0), widen_terms ts (place t + 1) b (place t + 1) d (le_refl (place t + 1)) r h.1)

pub widen_formula : (p : RawFormula) (a b c d : ℕ) → c ≤ a → b ≤ d → Within a p b → Within c p d
unfolding Within
widen_formula f.True a b c d l r h = omega (arith, l, r, h)
widen_formula f.False a b c d l r h = omega (arith, l, r, h)
widen_formula (f.Atom name ts) a b c d l r h = (omega (arith, l, h.0), widen_terms ts (name.at + 1) b (name.at + 1) d (le_refl (name.at + 1)) r h.1)
widen_formula (f.Same t u) a b c d l r h = widen_terms (t ∷ u ∷ []) a b c d l r h
widen_formula (f.Flow at word w) a b c d l r h = (omega (arith, l, h.0), h.1, widen_terms (w.source ∷ w.target ∷ w.ingress ∷ w.egress ∷ []) (at + 1) b (at + 1) d (le_refl (at + 1)) r h.2)
widen_formula (f.RcvThis at w) a b c d l r h = (omega (arith, l, h.0), h.1, widen_terms (w.source ∷ w.target ∷ w.ingress ∷ []) (at + 1) b (at + 1) d (le_refl (at + 1)) r h.2)
widen_formula (raw_not p) a b c d l r h = widen_formula p a b c d l r h
widen_formula (raw_two k p q) a b c d l r h = (h.0, widen_formula p a h.0 c h.0 l (le_refl h.0) h.1, widen_formula q h.0 b h.0 d (le_refl h.0) r h.2)
widen_formula (raw_bind which name sort p) a b c d l r h = (omega (arith, l, h.0), widen_formula p (name.at + 1) b (name.at + 1) d (le_refl (name.at + 1)) r h.1)

abbrev flow_terms : RawFlow → List RawTerm
flow_terms w = Name w.switch ∷ w.source ∷ w.target ∷ w.ingress ∷ w.egress ∷ []

abbrev packet_terms : RawPacket → List RawTerm
packet_terms w = Name w.switch ∷ w.source ∷ w.target ∷ w.ingress ∷ []

pub widen_command : (x : RawCommand) (a b c d : ℕ) → c ≤ a → b ≤ d → CommandWithin a x b → CommandWithin c x d
unfolding CommandWithin
widen_command c.Skip a b c d l r h = omega (arith, l, r, h)
widen_command (raw_seq x y) a b c d l r h = (h.0, widen_command x a h.0 c h.0 l (le_refl h.0) h.1, widen_command y h.0 b h.0 d (le_refl h.0) r h.2)
widen_command (raw_if p x y) a b c d l r h =
    (h.0, h.1, widen_formula p a h.0 c h.0 l (le_refl h.0) h.2, h.3, widen_command y h.1 b h.1 d (le_refl h.1) r h.4)
widen_command (raw_pick name sort p x y) a b c d l r h =
    (h.0, h.1, omega (arith, l, h.2), h.3, h.4, widen_command y h.1 b h.1 d (le_refl h.1) r h.5)
widen_command (c.Change word name ts) a b c d l r h = (omega (arith, l, h.0), widen_terms ts (name.at + 1) b (name.at + 1) d (le_refl (name.at + 1)) r h.1)
widen_command (c.Switch word w) a b c d l r h = widen_terms (flow_terms w) a b c d l r h
widen_command (c.Flood w) a b c d l r h = widen_terms (packet_terms w) a b c d l r h

pub widen_rows : (rs : List RawRow) (a b c d : ℕ) → c ≤ a → b ≤ d → RowsWithin a rs b → RowsWithin c rs d
unfolding RowsWithin
widen_rows [] a b c d l r h = omega (arith, l, r, h)
widen_rows (row ∷ rows) a b c d l r h = (h.0, omega (arith, l, h.1), h.2, widen_rows rows h.0 b h.0 d (le_refl h.0) r h.3)

pub widen_item : (x : RawItem) (a b c d : ℕ) → c ≤ a → b ≤ d → ItemWithin a x b → ItemWithin c x d
widen_item (item.Relation x) a b c d l r h = (omega (arith, l, h.0), widen_rows x.rows (x.name.at + 1) b (x.name.at + 1) d (le_refl (x.name.at + 1)) r h.1)
widen_item (item.Constant name sort) a b c d l r h = (omega (arith, l, h.0), omega (arith, r, h.1))
widen_item (item.Invariant kind name p) a b c d l r h = (omega (arith, l, h.0), widen_formula p (name.at + 1) b (name.at + 1) d (le_refl (name.at + 1)) r h.1)
widen_item (item.Handler x) a b c d l r h =
    (omega (arith, l, h.0), h.1, h.2, h.3, h.4, widen_command x.body (port_place x.ingress + 1) b (port_place x.ingress + 1) d (le_refl (port_place x.ingress + 1)) r h.5)
widen_item (item.Timeout t) a b c d l r h = (omega (arith, l, h.0), omega (arith, r, h.1))

pub widen_items : (xs : List RawItem) (a b c d : ℕ) → c ≤ a → b ≤ d → ItemsWithin a xs b → ItemsWithin c xs d
unfolding ItemsWithin
widen_items [] a b c d l r h = omega (arith, l, r, h)
widen_items (x ∷ xs) a b c d l r h = (h.0, widen_item x a h.0 c h.0 l (le_refl h.0) h.1, widen_items xs h.0 b h.0 d (le_refl h.0) r h.2)
