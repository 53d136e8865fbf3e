-- How many variables are bound at once.
use Rattle.std.specs.Prelude.{ℕ, ◌+◌, max}
use Rattle.csdn_core.specs.declared.syntax.Formula.{Formula}
use Rattle.csdn_core.specs.declared.syntax.Formula.TheVariants as f
use Rattle.csdn_core.specs.declared.syntax.Command.{Command}
use Rattle.csdn_core.specs.declared.syntax.Command.TheVariants as c
use Rattle.csdn_core.specs.Tree.{negation, conjunction, disjunction, implication, equivalence, universal, existential, sequence, conditional, choice}

-- how many quantifiers stand in one another
unfoldable pub depth : Formula → ℕ
depth f.True = 0
depth f.False = 0
depth (f.Atom r ts) = 0
depth (f.Same t u) = 0
depth (negation p) = depth p
depth (conjunction p q) = max (depth p) (depth q)
depth (disjunction p q) = max (depth p) (depth q)
depth (implication p q) = max (depth p) (depth q)
depth (equivalence p q) = max (depth p) (depth q)
depth (universal v s p) = depth p + 1
depth (existential v s p) = depth p + 1

-- .. and how many variables are bound at once while a command is executed
unfoldable pub command_depth : Command → ℕ
command_depth (sequence a b) = max (command_depth a) (command_depth b)
command_depth (conditional p a b) = max (depth p) (max (command_depth a) (command_depth b))
command_depth (choice v s p a b) = max (max (depth p) (command_depth a) + 1) (command_depth b)
command_depth c.Skip = 0
command_depth (c.Insert r ts) = 0
command_depth (c.Remove r ts) = 0
command_depth (c.Install ts) = 0
command_depth (c.Uninstall ts) = 0
command_depth (c.Forward ts) = 0
command_depth (c.Flood ts) = 0
