-- The nodes of formulas and commands at what code reads.
use Rattle.std.proofs.Common.{◌≡◌, ◌+◌}
use Rattle.csdn_core.specs.declared.terms.VarId.{VarId}
use Rattle.csdn_core.specs.declared.terms.Sort.{Sort}
use Rattle.csdn_core.specs.declared.syntax.Formula.{Formula}
use Rattle.csdn_core.specs.declared.syntax.Formula.TheVariants as f
use Rattle.csdn_core.specs.declared.syntax.Command.{Command}
use Rattle.csdn_core.specs.declared.syntax.Command.TheVariants as c
use Rattle.csdn_core.proofs.Shapes.{Not-is, And-is, Or-is, Implies-is, Iff-is, Forall-is, Exists-is, Seq-is, If-is, Pick-is}
use Rattle.csdn_core.specs.Nodes.{nodes, command_nodes}

pub nodes-Not : (p : Formula) → nodes (f.Not p) ≡ nodes p + 1
unfolding nodes
nodes-Not p = rw Not-is

pub nodes-And : (p q : Formula) → nodes (f.And p q) ≡ nodes p + nodes q + 1
unfolding nodes
nodes-And p q = rw And-is

pub nodes-Or : (p q : Formula) → nodes (f.Or p q) ≡ nodes p + nodes q + 1
unfolding nodes
nodes-Or p q = rw Or-is

pub nodes-Implies : (p q : Formula) → nodes (f.Implies p q) ≡ nodes p + nodes q + 1
unfolding nodes
nodes-Implies p q = rw Implies-is

pub nodes-Iff : (p q : Formula) → nodes (f.Iff p q) ≡ nodes p + nodes q + 1
unfolding nodes
nodes-Iff p q = rw Iff-is

pub nodes-Forall : (v : VarId) (s : Sort) (p : Formula) → nodes (f.Forall v s p) ≡ nodes p + 1
unfolding nodes
nodes-Forall v s p = rw Forall-is

pub nodes-Exists : (v : VarId) (s : Sort) (p : Formula) → nodes (f.Exists v s p) ≡ nodes p + 1
unfolding nodes
nodes-Exists v s p = rw Exists-is

pub ruleset node_steps = (nodes-Not, nodes-And, nodes-Or, nodes-Implies, nodes-Iff, nodes-Forall, nodes-Exists)

pub command_nodes-Seq : (a b : Command) → command_nodes (c.Seq a b) ≡ command_nodes a + command_nodes b + 1
unfolding command_nodes
command_nodes-Seq a b = rw Seq-is

pub command_nodes-If : (p : Formula) (a b : Command) → command_nodes (c.If p a b) ≡ command_nodes a + command_nodes b + 1
unfolding command_nodes
command_nodes-If p a b = rw If-is

pub command_nodes-Pick : (v : VarId) (s : Sort) (p : Formula) (a b : Command) → command_nodes (c.Pick v s p a b) ≡ command_nodes a + command_nodes b + 1
unfolding command_nodes
command_nodes-Pick v s p a b = rw Pick-is

pub ruleset command_node_steps = (command_nodes-Seq, command_nodes-If, command_nodes-Pick)
