-- How many variables are bound.
use Rattle.std.specs.Prelude.{ℕ, ◌+◌, List, [], ◌∷◌}
use Rattle.csdn_tree.specs.declared.syntax.RawFormula.{RawFormula}
use Rattle.csdn_tree.specs.declared.syntax.RawFormula.TheVariants as f
use Rattle.csdn_tree.specs.declared.syntax.RawCommand.{RawCommand}
use Rattle.csdn_tree.specs.declared.syntax.RawCommand.TheVariants as c
use Rattle.csdn_tree.specs.declared.syntax.RawItem.{RawItem}
use Rattle.csdn_tree.specs.declared.syntax.RawItem.TheVariants as item
use Rattle.csdn_tree.specs.RawTree.{raw_seq, raw_if, raw_pick, raw_not, raw_two, raw_bind}

-- how many variables a formula binds
unfoldable pub binders : RawFormula → ℕ
binders f.True = 0
binders f.False = 0
binders (f.Atom name ts) = 0
binders (f.Same t u) = 0
binders (f.Flow at word w) = 0
binders (f.RcvThis at w) = 0
binders (raw_not p) = binders p
binders (raw_two k p q) = binders p + binders q
binders (raw_bind which name sort p) = 1 + binders p

-- how many variables a command binds
unfoldable pub command_binders : RawCommand → ℕ
command_binders c.Skip = 0
command_binders (raw_seq a b) = command_binders a + command_binders b
command_binders (raw_if p a b) = binders p + (command_binders a + command_binders b)
command_binders (raw_pick name sort p a b) = (1 + binders p) + (command_binders a + command_binders b)
command_binders (c.Change word name us) = 0
command_binders (c.Switch word w) = 0
command_binders (c.Flood w) = 0

-- .. and an item: a handler binds four besides those of its body
abbrev pub item_binders : RawItem → ℕ
item_binders (item.Relation r) = 0
item_binders (item.Constant name sort) = 0
item_binders (item.Invariant kind name p) = binders p
item_binders (item.Handler h) = 4 + command_binders h.body
item_binders (item.Timeout t) = 0

-- how many variables are bound
unfoldable pub items_binders : List RawItem → ℕ
items_binders [] = 0
items_binders (x ∷ xs) = item_binders x + items_binders xs
