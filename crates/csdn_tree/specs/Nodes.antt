-- How many nodes formulas and commands of a tree have: what their recursions make less.
use Rattle.std.specs.Prelude.{ℕ, ◌+◌}
use Rattle.csdn_tree.specs.declared.syntax.RawFormula.{RawFormula}
use Rattle.csdn_tree.specs.declared.syntax.RawFormula.TheVariants as f
use Rattle.csdn_tree.specs.declared.syntax.RawCommand.{RawCommand}
use Rattle.csdn_tree.specs.declared.syntax.RawCommand.TheVariants as c
use Rattle.csdn_tree.specs.RawTree.{raw_seq, raw_if, raw_pick, raw_not, raw_two, raw_bind}

unfoldable pub raw_nodes : RawFormula → ℕ
raw_nodes f.True = 1
raw_nodes f.False = 1
raw_nodes (f.Atom name ts) = 1
raw_nodes (f.Same t u) = 1
raw_nodes (f.Flow at word w) = 1
raw_nodes (f.RcvThis at w) = 1
raw_nodes (raw_not p) = raw_nodes p + 1
raw_nodes (raw_two k p q) = raw_nodes p + raw_nodes q + 1
raw_nodes (raw_bind which name sort p) = raw_nodes p + 1

-- how many commands a command of a tree has
unfoldable pub raw_commands : RawCommand → ℕ
raw_commands c.Skip = 1
raw_commands (raw_seq a b) = raw_commands a + raw_commands b + 1
raw_commands (raw_if p a b) = raw_commands a + raw_commands b + 1
raw_commands (raw_pick name sort p a b) = raw_commands a + raw_commands b + 1
raw_commands (c.Change word name ts) = 1
raw_commands (c.Switch word w) = 1
raw_commands (c.Flood w) = 1
