-- Each binder has a place of its own: there are no more of them than places.
use Rattle.std.proofs.Common.{ℕ, ◌+◌, ◌≤◌, List, [], ◌∷◌, arith}
use Rattle.csdn_tree.specs.declared.names.RawTerm.TheVariants.{Name}
use Rattle.csdn_tree.specs.declared.syntax.RawFormula.{RawFormula}
use Rattle.csdn_tree.specs.declared.syntax.RawFormula.TheVariants as f
use Rattle.csdn_tree.specs.declared.syntax.RawCommand.{RawCommand}
use Rattle.csdn_tree.specs.declared.syntax.RawCommand.TheVariants as c
use Rattle.csdn_tree.specs.declared.syntax.RawRow.{RawRow}
use Rattle.csdn_tree.specs.declared.syntax.RawItem.{RawItem}
use Rattle.csdn_tree.specs.declared.syntax.RawItem.TheVariants as item
use Rattle.csdn_tree.specs.RawTree.{raw_not, raw_two, raw_bind, raw_seq, raw_if, raw_pick}
use Rattle.csdn_tree.specs.Within.{Within, CommandWithin, RowsWithin, port_place, ItemWithin, ItemsWithin}
use Rattle.csdn_tree.proofs.Ends.{terms_end}
use Rattle.csdn_tree.specs.Binders.{binders, command_binders, item_binders, items_binders}

formula_fewer : (p : RawFormula) (a b : ℕ) → Within a p b → a + binders p ≤ b
unfolding Within binders
formula_fewer f.True a b h = omega (arith, h)
formula_fewer f.False a b h = omega (arith, h)
formula_fewer (f.Atom name ts) a b h = omega (arith, h.0, terms_end (name.at + 1) b ts h.1)
formula_fewer (f.Same t u) a b h = omega (arith, terms_end a b (t ∷ u ∷ []) h)
formula_fewer (f.Flow at word w) a b h = omega (arith, h.0, h.1, terms_end (at + 1) b (w.source ∷ w.target ∷ w.ingress ∷ w.egress ∷ []) h.2)
formula_fewer (f.RcvThis at w) a b h = omega (arith, h.0, h.1, terms_end (at + 1) b (w.source ∷ w.target ∷ w.ingress ∷ []) h.2)
formula_fewer (raw_not p) a b h = formula_fewer p a b h
formula_fewer (raw_two k p q) a b h = omega (arith, formula_fewer p a h.0 h.1, formula_fewer q h.0 b h.2)
formula_fewer (raw_bind which name sort p) a b h = omega (arith, h.0, formula_fewer p (name.at + 1) b h.1)

command_fewer : (x : RawCommand) (a b : ℕ) → CommandWithin a x b → a + command_binders x ≤ b
unfolding CommandWithin command_binders
command_fewer c.Skip a b h = omega (arith, h)
command_fewer (raw_seq x y) a b h = omega (arith, command_fewer x a h.0 h.1, command_fewer y h.0 b h.2)
command_fewer (raw_if p x y) a b h = omega (arith, formula_fewer p a h.0 h.2, command_fewer x h.0 h.1 h.3, command_fewer y h.1 b h.4)
command_fewer (raw_pick name sort p x y) a b h =
    omega (arith, h.2, formula_fewer p (name.at + 1) h.0 h.3, command_fewer x h.0 h.1 h.4, command_fewer y h.1 b h.5)
command_fewer (c.Change word name ts) a b h = omega (arith, h.0, terms_end (name.at + 1) b ts h.1)
command_fewer (c.Switch word w) a b h = omega (arith, terms_end a b (Name w.switch ∷ w.source ∷ w.target ∷ w.ingress ∷ w.egress ∷ []) h)
command_fewer (c.Flood w) a b h = omega (arith, terms_end a b (Name w.switch ∷ w.source ∷ w.target ∷ w.ingress ∷ []) h)

rows_end : (rs : List RawRow) (a b : ℕ) → RowsWithin a rs b → a ≤ b
unfolding RowsWithin
rows_end [] a b h = h
rows_end (row ∷ rows) a b h = omega (arith, h.1, terms_end (row.at + 1) h.0 row.terms h.2, rows_end rows h.0 b h.3)

item_fewer : (x : RawItem) (a b : ℕ) → ItemWithin a x b → a + item_binders x ≤ b
item_fewer (item.Relation x) a b h = omega (arith, h.0, rows_end x.rows (x.name.at + 1) b h.1)
item_fewer (item.Constant name sort) a b h = omega (arith, h.0, h.1)
item_fewer (item.Invariant kind name p) a b h = omega (arith, h.0, formula_fewer p (name.at + 1) b h.1)
item_fewer (item.Handler x) a b h = omega (arith, h.0, h.1, h.2, h.3, h.4, command_fewer x.body (port_place x.ingress + 1) b h.5)
item_fewer (item.Timeout t) a b h = omega (arith, h.0, h.1)

pub items_fewer : (xs : List RawItem) (a b : ℕ) → ItemsWithin a xs b → a + items_binders xs ≤ b
unfolding ItemsWithin items_binders
items_fewer [] a b h = omega (arith, h)
items_fewer (x ∷ xs) a b h = omega (arith, item_fewer x a h.0 h.1, items_fewer xs h.0 b h.2)
