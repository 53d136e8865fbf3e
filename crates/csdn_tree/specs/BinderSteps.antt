-- The clauses of binders, at what the code sees.
use Rattle.std.specs.Prelude.{◌≡◌, ℕ, ◌+◌, List, refl}
use Rattle.csdn_core.specs.declared.terms.Sort.{Sort}
use Rattle.csdn_tree.specs.declared.names.RawName.{RawName}
use Rattle.csdn_tree.specs.declared.names.RawTerm.{RawTerm}
use Rattle.csdn_tree.specs.declared.syntax.FlowWord.{FlowWord}
use Rattle.csdn_tree.specs.declared.syntax.SwitchWord.{SwitchWord}
use Rattle.csdn_tree.specs.declared.syntax.RawFlow.{RawFlow}
use Rattle.csdn_tree.specs.declared.syntax.RawPacket.{RawPacket}
use Rattle.csdn_tree.specs.declared.syntax.ChangeWord.{ChangeWord}
use Rattle.csdn_tree.specs.declared.syntax.Connective.{Connective}
use Rattle.csdn_tree.specs.declared.syntax.Quantifier.{Quantifier}
use Rattle.csdn_tree.specs.declared.syntax.RawFormula.{RawFormula}
use Rattle.csdn_tree.specs.declared.syntax.RawFormula.TheVariants as f
use Rattle.csdn_tree.specs.declared.syntax.RawCommand.{RawCommand}
use Rattle.csdn_tree.specs.declared.syntax.RawCommand.TheVariants as c
use Rattle.csdn_tree.specs.RawTree.{Seq-is, If-is, Pick-is, Not-is, Two-is, Bind-is}
use Rattle.csdn_tree.specs.Binders.{binders, command_binders}

pub binders-True : binders f.True ≡ 0
unfolding binders
binders-True = refl

pub binders-False : binders f.False ≡ 0
unfolding binders
binders-False = refl

pub binders-Atom : (name : RawName) (ts : List RawTerm) → binders (f.Atom name ts) ≡ 0
unfolding binders
binders-Atom name ts = refl

pub binders-Same : (t u : RawTerm) → binders (f.Same t u) ≡ 0
unfolding binders
binders-Same t u = refl

pub binders-Flow : (at : ℕ) (word : FlowWord) (w : RawFlow) → binders (f.Flow at word w) ≡ 0
unfolding binders
binders-Flow at word w = refl

pub binders-RcvThis : (at : ℕ) (w : RawPacket) → binders (f.RcvThis at w) ≡ 0
unfolding binders
binders-RcvThis at w = refl

pub binders-Not : (p : RawFormula) → binders (f.Not p) ≡ binders p
unfolding binders
binders-Not p = rw Not-is

pub binders-Two : (k : Connective) (p q : RawFormula) → binders (f.Two k p q) ≡ binders p + binders q
unfolding binders
binders-Two k p q = rw Two-is

pub binders-Bind : (which : Quantifier) (name : RawName) (sort : Sort) (p : RawFormula) → binders (f.Bind which name sort p) ≡ 1 + binders p
unfolding binders
binders-Bind which name sort p = rw Bind-is

pub command_binders-Skip : command_binders c.Skip ≡ 0
unfolding command_binders
command_binders-Skip = refl

pub command_binders-Seq : (a b : RawCommand) → command_binders (c.Seq a b) ≡ command_binders a + command_binders b
unfolding command_binders
command_binders-Seq a b = rw Seq-is

pub command_binders-If : (p : RawFormula) (a b : RawCommand) → command_binders (c.If p a b) ≡ binders p + (command_binders a + command_binders b)
unfolding command_binders
command_binders-If p a b = rw If-is

pub command_binders-Pick : (name : RawName) (sort : Sort) (p : RawFormula) (a b : RawCommand) → command_binders (c.Pick name sort p a b) ≡ (1 + binders p) + (command_binders a + command_binders b)
unfolding command_binders
command_binders-Pick name sort p a b = rw Pick-is

pub command_binders-Change : (word : ChangeWord) (name : RawName) (us : List RawTerm) → command_binders (c.Change word name us) ≡ 0
unfolding command_binders
command_binders-Change word name us = refl

pub command_binders-Switch : (word : SwitchWord) (w : RawFlow) → command_binders (c.Switch word w) ≡ 0
unfolding command_binders
command_binders-Switch word w = refl

pub command_binders-Flood : (w : RawPacket) → command_binders (c.Flood w) ≡ 0
unfolding command_binders
command_binders-Flood w = refl

pub ruleset binder_steps = (binders-True, binders-False, binders-Atom, binders-Same, binders-Flow, binders-RcvThis, binders-Not, binders-Two, binders-Bind, command_binders-Skip, command_binders-Seq, command_binders-If, command_binders-Pick, command_binders-Change, command_binders-Switch, command_binders-Flood)
