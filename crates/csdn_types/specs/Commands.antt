-- Commands: their rules, and what stands for them.
use Rattle.std.specs.Prelude.{ℕ, ◌+◌, not, List, [], ◌∷◌, ◌++◌, unwrap_or}
use Rattle.csdn_core.specs.Same.{same_term}
use Rattle.csdn_core.specs.declared.terms.FormulaPlace.TheVariants.{Handler as InHandler}
use Rattle.csdn_core.specs.declared.terms.Sort.{Sort}
use Rattle.csdn_core.specs.declared.terms.Sort.TheVariants.{Sw, Ho, Pr}
use Rattle.csdn_core.specs.declared.terms.RelId.{RelId}
use Rattle.csdn_core.specs.declared.terms.Term.{Term}
use Rattle.csdn_core.specs.declared.syntax.Command.{Command}
use Rattle.csdn_core.specs.declared.syntax.Command.TheVariants as command
use Rattle.csdn_tree.specs.declared.names.RawTerm.TheVariants.{Name}
use Rattle.csdn_tree.specs.declared.names.RawTerm.{RawTerm}
use Rattle.csdn_tree.specs.declared.names.RawName.{RawName}
use Rattle.csdn_types.specs.declared.refusal.SortRefusal.{SortRefusal}
use Rattle.csdn_types.specs.declared.refusal.SortRefusal.TheVariants.{NotAllowed}
use Rattle.csdn_tree.specs.declared.syntax.ChangeWord.{ChangeWord}
use Rattle.csdn_tree.specs.declared.syntax.ChangeWord.TheVariants as change
use Rattle.csdn_tree.specs.declared.syntax.RawFlow.{RawFlow}
use Rattle.csdn_tree.specs.declared.syntax.RawPacket.{RawPacket}
use Rattle.csdn_tree.specs.declared.syntax.RawCommand.{RawCommand}
use Rattle.csdn_tree.specs.declared.syntax.RawCommand.TheVariants as c
use Rattle.csdn_tree.specs.declared.syntax.SwitchWord.{SwitchWord}
use Rattle.csdn_tree.specs.declared.syntax.SwitchWord.TheVariants as switch
use Rattle.csdn_tree.specs.RawTree.{raw_seq, raw_if, raw_pick}
use Rattle.csdn_tree.specs.Places.{place as place_of}
use Rattle.csdn_types.specs.declared.own.OwnTerms.{OwnTerms}
use Rattle.csdn_types.specs.declared.terms.Use.TheVariants.{Write}
use Rattle.csdn_types.specs.Scope.{Scope, relation_named, bound}
use Rattle.csdn_types.specs.Typed.{typed, term_of, terms_of, flow_of, packet_of, next_var}
use Rattle.csdn_tree.specs.Binders.{binders, command_binders}
use Rattle.csdn_types.specs.Faults.{fault_if, term_faults, flow_faults, atom_faults, variable_faults, faults}

-- a term that has to be one of the handler's own
abbrev pub own_faults : Scope → Sort → Term → RawTerm → List SortRefusal
own_faults s sort own u = term_faults s sort u ++ fault_if (not (same_term (term_of s u) own)) (NotAllowed (place_of u))

abbrev pub install_faults : OwnTerms → Scope → RawFlow → List SortRefusal
install_faults own s w = own_faults s Sw own.switch (Name w.switch) ++ flow_faults s w

abbrev pub forward_faults : OwnTerms → Scope → RawFlow → List SortRefusal
forward_faults own s w =
    own_faults s Sw own.switch (Name w.switch)
    ++ (own_faults s Ho own.source w.source ++ (own_faults s Ho own.target w.target ++ (own_faults s Pr own.ingress w.ingress ++ term_faults s Pr w.egress)))

abbrev pub switch_faults : SwitchWord → OwnTerms → Scope → RawFlow → List SortRefusal
switch_faults switch.Install = install_faults
switch_faults switch.Uninstall = install_faults
switch_faults switch.Forward = forward_faults

abbrev pub flood_faults : OwnTerms → Scope → RawPacket → List SortRefusal
flood_faults own s w =
    own_faults s Sw own.switch (Name w.switch) ++ (own_faults s Ho own.source w.source ++ (own_faults s Ho own.target w.target ++ own_faults s Pr own.ingress w.ingress))

-- the scope with so many numbers used
abbrev pub later : Scope → ℕ → Scope
later s n = record s { next = s.next + n }

unfoldable pub command_faults : OwnTerms → Scope → RawCommand → List SortRefusal
command_faults own s c.Skip = []
command_faults own s (raw_seq a b) = command_faults own s a ++ command_faults own (later s (command_binders a)) b
command_faults own s (raw_if p a b) =
    faults InHandler s p ++ (command_faults own (later s (binders p)) a ++ command_faults own (later s (binders p + command_binders a)) b)
command_faults own s (raw_pick name sort p a b) =
    (variable_faults s name ++ (faults InHandler (bound s name sort) p ++ command_faults own (later (bound s name sort) (binders p)) a))
    ++ command_faults own (later s ((1 + binders p) + command_binders a)) b
command_faults own s (c.Change word name us) = atom_faults Write s name us
command_faults own s (c.Switch word w) = switch_faults word own s w
command_faults own s (c.Flood w) = flood_faults own s w

abbrev pub relation_id : Scope → RawName → RelId
relation_id s name = record { 0 = unwrap_or (relation_named s name.text) 0 }

abbrev pub changed : ChangeWord → RelId → List Term → Command
changed change.Insert id ts = command.Insert id ts
changed change.Remove id ts = command.Remove id ts

abbrev pub switched : SwitchWord → List Term → Command
switched switch.Install ts = command.Install ts
switched switch.Uninstall ts = command.Uninstall ts
switched switch.Forward ts = command.Forward ts

unfoldable pub command_typed : Scope → RawCommand → Command
command_typed s c.Skip = command.Skip
command_typed s (raw_seq a b) = command.Seq (command_typed s a) (command_typed (later s (command_binders a)) b)
command_typed s (raw_if p a b) =
    command.If (typed s p) (command_typed (later s (binders p)) a) (command_typed (later s (binders p + command_binders a)) b)
command_typed s (raw_pick name sort p a b) =
    command.Pick (next_var s) sort (typed (bound s name sort) p) (command_typed (later (bound s name sort) (binders p)) a) (command_typed (later s ((1 + binders p) + command_binders a)) b)
command_typed s (c.Change word name us) = changed word (relation_id s name) (terms_of s us)
command_typed s (c.Switch word w) = switched word (term_of s (Name w.switch) ∷ flow_of s w)
command_typed s (c.Flood w) = command.Flood (term_of s (Name w.switch) ∷ packet_of s w)
