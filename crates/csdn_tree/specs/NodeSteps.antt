-- The clauses of nodes, at what the code sees.
use Rattle.std.specs.Prelude.{◌≡◌, ℕ, ◌+◌, List, refl}
use Rattle.csdn_core.specs.declared.terms.Sort.{Sort}
use Rattle.csdn_tree.specs.declared.names.RawName.{RawName}
use Rattle.csdn_tree.specs.declared.names.RawTerm.{RawTerm}
use Rattle.csdn_tree.specs.declared.syntax.FlowWord.{FlowWord}
use Rattle.csdn_tree.specs.declared.syntax.SwitchWord.{SwitchWord}
use Rattle.csdn_tree.specs.declared.syntax.RawFlow.{RawFlow}
use Rattle.csdn_tree.specs.declared.syntax.RawPacket.{RawPacket}
use Rattle.csdn_tree.specs.declared.syntax.ChangeWord.{ChangeWord}
use Rattle.csdn_tree.specs.declared.syntax.Connective.{Connective}
use Rattle.csdn_tree.specs.declared.syntax.Quantifier.{Quantifier}
use Rattle.csdn_tree.specs.declared.syntax.RawFormula.{RawFormula}
use Rattle.csdn_tree.specs.declared.syntax.RawFormula.TheVariants as f
use Rattle.csdn_tree.specs.declared.syntax.RawCommand.{RawCommand}
use Rattle.csdn_tree.specs.declared.syntax.RawCommand.TheVariants as c
use Rattle.csdn_tree.specs.RawTree.{Seq-is, If-is, Pick-is, Not-is, Two-is, Bind-is}
use Rattle.csdn_tree.specs.Nodes.{raw_nodes, raw_commands}

pub raw_nodes-True : raw_nodes f.True ≡ 1
unfolding raw_nodes
raw_nodes-True = refl

pub raw_nodes-False : raw_nodes f.False ≡ 1
unfolding raw_nodes
raw_nodes-False = refl

pub raw_nodes-Atom : (name : RawName) (ts : List RawTerm) → raw_nodes (f.Atom name ts) ≡ 1
unfolding raw_nodes
raw_nodes-Atom name ts = refl

pub raw_nodes-Same : (t u : RawTerm) → raw_nodes (f.Same t u) ≡ 1
unfolding raw_nodes
raw_nodes-Same t u = refl

pub raw_nodes-Flow : (at : ℕ) (word : FlowWord) (w : RawFlow) → raw_nodes (f.Flow at word w) ≡ 1
unfolding raw_nodes
raw_nodes-Flow at word w = refl

pub raw_nodes-RcvThis : (at : ℕ) (w : RawPacket) → raw_nodes (f.RcvThis at w) ≡ 1
unfolding raw_nodes
raw_nodes-RcvThis at w = refl

pub raw_nodes-Not : (p : RawFormula) → raw_nodes (f.Not p) ≡ raw_nodes p + 1
unfolding raw_nodes
raw_nodes-Not p = rw Not-is

pub raw_nodes-Two : (k : Connective) (p q : RawFormula) → raw_nodes (f.Two k p q) ≡ raw_nodes p + raw_nodes q + 1
unfolding raw_nodes
raw_nodes-Two k p q = rw Two-is

pub raw_nodes-Bind : (which : Quantifier) (name : RawName) (sort : Sort) (p : RawFormula) → raw_nodes (f.Bind which name sort p) ≡ raw_nodes p + 1
unfolding raw_nodes
raw_nodes-Bind which name sort p = rw Bind-is

pub raw_commands-Skip : raw_commands c.Skip ≡ 1
unfolding raw_commands
raw_commands-Skip = refl

pub raw_commands-Seq : (a b : RawCommand) → raw_commands (c.Seq a b) ≡ raw_commands a + raw_commands b + 1
unfolding raw_commands
raw_commands-Seq a b = rw Seq-is

pub raw_commands-If : (p : RawFormula) (a b : RawCommand) → raw_commands (c.If p a b) ≡ raw_commands a + raw_commands b + 1
unfolding raw_commands
raw_commands-If p a b = rw If-is

pub raw_commands-Pick : (name : RawName) (sort : Sort) (p : RawFormula) (a b : RawCommand) → raw_commands (c.Pick name sort p a b) ≡ raw_commands a + raw_commands b + 1
unfolding raw_commands
raw_commands-Pick name sort p a b = rw Pick-is

pub raw_commands-Change : (word : ChangeWord) (name : RawName) (ts : List RawTerm) → raw_commands (c.Change word name ts) ≡ 1
unfolding raw_commands
raw_commands-Change word name ts = refl

pub raw_commands-Switch : (word : SwitchWord) (w : RawFlow) → raw_commands (c.Switch word w) ≡ 1
unfolding raw_commands
raw_commands-Switch word w = refl

pub raw_commands-Flood : (w : RawPacket) → raw_commands (c.Flood w) ≡ 1
unfolding raw_commands
raw_commands-Flood w = refl

pub ruleset raw_node_steps = (raw_nodes-True, raw_nodes-False, raw_nodes-Atom, raw_nodes-Same, raw_nodes-Flow, raw_nodes-RcvThis, raw_nodes-Not, raw_nodes-Two, raw_nodes-Bind, raw_commands-Skip, raw_commands-Seq, raw_commands-If, raw_commands-Pick, raw_commands-Change, raw_commands-Switch, raw_commands-Flood)
