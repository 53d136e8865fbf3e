-- The clauses of commands, at what the code sees.
use Rattle.std.specs.Prelude.{◌≡◌, ◌+◌, List, [], ◌∷◌, ◌++◌, refl}
use Rattle.csdn_core.specs.declared.terms.FormulaPlace.TheVariants.{Handler as InHandler}
use Rattle.csdn_core.specs.declared.terms.Sort.{Sort}
use Rattle.csdn_core.specs.declared.syntax.Command.TheVariants as command
use Rattle.csdn_tree.specs.declared.names.RawName.{RawName}
use Rattle.csdn_tree.specs.declared.names.RawTerm.{RawTerm}
use Rattle.csdn_tree.specs.declared.names.RawTerm.TheVariants.{Name}
use Rattle.csdn_tree.specs.declared.syntax.ChangeWord.{ChangeWord}
use Rattle.csdn_tree.specs.declared.syntax.RawFlow.{RawFlow}
use Rattle.csdn_tree.specs.declared.syntax.RawPacket.{RawPacket}
use Rattle.csdn_tree.specs.declared.syntax.RawFormula.{RawFormula}
use Rattle.csdn_tree.specs.declared.syntax.RawCommand.{RawCommand}
use Rattle.csdn_tree.specs.declared.syntax.RawCommand.TheVariants as c
use Rattle.csdn_tree.specs.declared.syntax.SwitchWord.{SwitchWord}
use Rattle.csdn_tree.specs.RawTree.{Seq-is, If-is, Pick-is}
use Rattle.csdn_tree.specs.Binders.{binders, command_binders}
use Rattle.csdn_types.specs.declared.own.OwnTerms.{OwnTerms}
use Rattle.csdn_types.specs.declared.terms.Use.TheVariants.{Write}
use Rattle.csdn_types.specs.Scope.{Scope, bound}
use Rattle.csdn_types.specs.Typed.{typed, terms_of, term_of, flow_of, packet_of, next_var}
use Rattle.csdn_types.specs.Faults.{faults, atom_faults, variable_faults}
use Rattle.csdn_types.specs.Commands.{switch_faults, flood_faults, later, command_faults, relation_id, changed, switched, command_typed}

pub command_faults-Skip : (own : OwnTerms) (s : Scope) → command_faults own s c.Skip ≡ []
unfolding command_faults
command_faults-Skip own s = refl

pub command_faults-Seq : (own : OwnTerms) (s : Scope) (a b : RawCommand) → command_faults own s (c.Seq a b) ≡ command_faults own s a ++ command_faults own (later s (command_binders a)) b
unfolding command_faults
command_faults-Seq own s a b = rw Seq-is

pub command_faults-If : (own : OwnTerms) (s : Scope) (p : RawFormula) (a b : RawCommand) → command_faults own s (c.If p a b) ≡ faults InHandler s p ++ (command_faults own (later s (binders p)) a ++ command_faults own (later s (binders p + command_binders a)) b)
unfolding command_faults
command_faults-If own s p a b = rw If-is

pub command_faults-Pick : (own : OwnTerms) (s : Scope) (name : RawName) (sort : Sort) (p : RawFormula) (a b : RawCommand) → command_faults own s (c.Pick name sort p a b) ≡ (variable_faults s name ++ (faults InHandler (bound s name sort) p ++ command_faults own (later (bound s name sort) (binders p)) a)) ++ command_faults own (later s ((1 + binders p) + command_binders a)) b
unfolding command_faults
command_faults-Pick own s name sort p a b = rw Pick-is

pub command_faults-Change : (own : OwnTerms) (s : Scope) (word : ChangeWord) (name : RawName) (us : List RawTerm) → command_faults own s (c.Change word name us) ≡ atom_faults Write s name us
unfolding command_faults
command_faults-Change own s word name us = refl

pub command_faults-Switch : (own : OwnTerms) (s : Scope) (word : SwitchWord) (w : RawFlow) → command_faults own s (c.Switch word w) ≡ switch_faults word own s w
unfolding command_faults
command_faults-Switch own s word w = refl

pub command_faults-Flood : (own : OwnTerms) (s : Scope) (w : RawPacket) → command_faults own s (c.Flood w) ≡ flood_faults own s w
unfolding command_faults
command_faults-Flood own s w = refl

pub command_typed-Skip : (s : Scope) → command_typed s c.Skip ≡ command.Skip
unfolding command_typed
command_typed-Skip s = refl

pub command_typed-Seq : (s : Scope) (a b : RawCommand) → command_typed s (c.Seq a b) ≡ command.Seq (command_typed s a) (command_typed (later s (command_binders a)) b)
unfolding command_typed
command_typed-Seq s a b = rw Seq-is

pub command_typed-If : (s : Scope) (p : RawFormula) (a b : RawCommand) → command_typed s (c.If p a b) ≡ command.If (typed s p) (command_typed (later s (binders p)) a) (command_typed (later s (binders p + command_binders a)) b)
unfolding command_typed
command_typed-If s p a b = rw If-is

pub command_typed-Pick : (s : Scope) (name : RawName) (sort : Sort) (p : RawFormula) (a b : RawCommand) → command_typed s (c.Pick name sort p a b) ≡ command.Pick (next_var s) sort (typed (bound s name sort) p) (command_typed (later (bound s name sort) (binders p)) a) (command_typed (later s ((1 + binders p) + command_binders a)) b)
unfolding command_typed
command_typed-Pick s name sort p a b = rw Pick-is

pub command_typed-Change : (s : Scope) (word : ChangeWord) (name : RawName) (us : List RawTerm) → command_typed s (c.Change word name us) ≡ changed word (relation_id s name) (terms_of s us)
unfolding command_typed
command_typed-Change s word name us = refl

pub command_typed-Switch : (s : Scope) (word : SwitchWord) (w : RawFlow) → command_typed s (c.Switch word w) ≡ switched word (term_of s (Name w.switch) ∷ flow_of s w)
unfolding command_typed
command_typed-Switch s word w = refl

pub command_typed-Flood : (s : Scope) (w : RawPacket) → command_typed s (c.Flood w) ≡ command.Flood (term_of s (Name w.switch) ∷ packet_of s w)
unfolding command_typed
command_typed-Flood s w = refl

pub ruleset command_steps = (command_faults-Skip, command_faults-Seq, command_faults-If, command_faults-Pick, command_faults-Change, command_faults-Switch, command_faults-Flood, command_typed-Skip, command_typed-Seq, command_typed-If, command_typed-Pick, command_typed-Change, command_typed-Switch, command_typed-Flood)
