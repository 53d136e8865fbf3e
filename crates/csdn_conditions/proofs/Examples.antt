-- The laws of conditions at a program of `timeout 30;` alone, over one switch, one host and one port.
use Rattle.std.proofs.Common.{◌≡◌, false, true, List, length, refl, arith}
use Rattle.csdn_core.specs.declared.event.Event.{Event}
use Rattle.csdn_core.specs.declared.event.Packet.TheVariants.{Nothing}
use Rattle.csdn_core.specs.declared.syntax.Formula.TheVariants.{True}
use Rattle.csdn_core.specs.Truth.{truth}
use Rattle.csdn_core.specs.Network.{Network, State, structure}
use Rattle.csdn_core.specs.Run.{empty_state, no_values, Run}
use Rattle.csdn_core.specs.Holds.{IsTopology}
use Rattle.csdn_core.specs.SortedIn.{HaveSortsIn, IsSortedIn}
use Rattle.csdn_core.specs.Sorted.{flow_sorts}
use Rattle.fol_forms.specs.Renumber.{renumbered, binders}
use Rattle.fol_forms.specs.Replace.{replace}
use Rattle.csdn_wp.specs.Preconditions.{wp}
use Rattle.csdn_wp.specs.EventPreconditions.{member, members, wp_in, for_rules, wp_flow, wp_expire}
use Rattle.csdn_wp.proofs.Examples.{bare, bare_well, N, N_is, some_rule, one_rule}
use Rattle.csdn_conditions.specs.declared.kinds.CondKind.TheVariants.{Network as NetworkKind}
use Rattle.csdn_conditions.specs.declared.sentence.Condition.{Condition}
use Rattle.csdn_conditions.specs.Closed.{IsClosed}
use Rattle.csdn_conditions.specs.Conditions.{after_events, condition, sentence}
use Rattle.csdn_core.specs.Satisfied.{HasNetwork}
use Rattle.csdn_conditions.specs.Valid.{IsValid, HasCase}
use Rattle.csdn_conditions.proofs.Cases.{case_closed, case_network, case_sentence, case_valid}
use Rattle.csdn_conditions.proofs.Inductive.{runs_break, runs_end}

some_rule_closed : IsClosed bare some_rule
unfolding IsSortedIn HaveSortsIn
some_rule_closed = (record { sorts = flow_sorts; declared = refl; terms = (refl, (refl, (refl, (refl, (refl, tt))))) }, refl)

-- From one rule, some run of two events ends without a rule: it has an expiry.

none_after_two : truth (structure bare N one_rule Nothing) (after_events bare 2 some_rule) no_values ≡ false
unfolding truth wp_in members member wp wp_flow wp_expire for_rules renumbered binders replace
none_after_two = refl

a_run : (events : List Event) × (y : State) × (length events ≡ 2) × Run bare N one_rule events y × (truth (structure bare N y Nothing) some_rule no_values ≡ false)
a_run = runs_break bare bare_well N N_is 2 some_rule some_rule_closed one_rule none_after_two

-- After no event it is still there.

rule_after_none : truth (structure bare N one_rule Nothing) (after_events bare 0 some_rule) no_values ≡ true
unfolding truth
rule_after_none = refl

every_run : (events : List Event) (y : State) → length events ≡ 0 → Run bare N one_rule events y → truth (structure bare N y Nothing) some_rule no_values ≡ true
every_run = runs_end bare bare_well N N_is 0 some_rule some_rule_closed one_rule rule_after_none

-- A condition that asks for a rule has a case, the state without one: so it is not valid, and its sentence can be true.

abbrev asks : Condition
asks = record { kind = NetworkKind; hypothesis = True; goal = some_rule }

a_case : HasCase bare asks
unfolding truth
a_case = (N, empty_state, N_is, refl, refl)

not_valid : IsValid bare asks → ⊥
not_valid valid = (case_valid bare asks).0 valid a_case

sentence_true : HasNetwork bare (sentence asks)
sentence_true = (case_sentence bare asks).0 a_case

sentence_closed : IsClosed bare (sentence asks)
unfolding IsSortedIn
sentence_closed = case_closed bare asks tt some_rule_closed

-- A network meets the topology invariants, of which there are none.

a_network : (M : Network) × IsTopology bare M
a_network = (N, record { network = N_is; topology = λ i d within. absurd (omega arith) })

network_case : HasCase bare (condition bare 0 NetworkKind)
network_case = (case_network bare bare_well 0).1 a_network
