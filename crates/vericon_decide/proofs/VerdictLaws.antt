-- From clauses to verdicts.
use Rattle.std.proofs.Common.{ℕ, List, Option, Some, None, not, IsFalse}
use Rattle.std.proofs.lemmas.Bool.{and_parts, not-true}
use Rattle.csdn_core.specs.declared.event.Packet.TheVariants.{Nothing}
use Rattle.csdn_core.specs.declared.program.Parts.{Parts}
use Rattle.csdn_core.specs.declared.syntax.Formula.{Formula}
use Rattle.csdn_core.specs.Truth.{truth}
use Rattle.csdn_core.specs.Network.{Network, State, IsNetwork, structure}
use Rattle.csdn_core.specs.Run.{no_values}
use Rattle.csdn_core.specs.Satisfied.{IsTrueIn, HasNetwork}
use Rattle.clause_log.specs.Literals.{ClauseList}
use Rattle.clause_log.specs.Refutations.{Step}
use Rattle.clause_search.specs.Outcomes.{IsRefutationOf}
use Rattle.decision_laws.specs.Laws.{IsSentence, AreTied}
use Rattle.decision_laws.proofs.Bridge.{refuted_networks}
use Rattle.net_structs.specs.declared.case.Case.{Case}
use Rattle.net_structs.specs.declared.row.Row.{Row}
use Rattle.net_structs.specs.Rows.{held}
use Rattle.class_networks.specs.Cases.{HasState, MakesTrue}
use Rattle.csdn_conditions.specs.declared.sentence.Condition.{Condition}
use Rattle.csdn_conditions.specs.Closed.{IsClosed}
use Rattle.csdn_conditions.specs.Conditions.{sentence}
use Rattle.csdn_conditions.specs.Valid.{HasCase}
use Rattle.csdn_conditions.proofs.Cases.{case_closed, case_sentence}
use Rattle.vericon_decide.specs.declared.solving.Solution.TheVariants.{Refuted}
use Rattle.vericon_decide.specs.Verdicts.{IsSettled, IsInside, IsProven, IsCaseOf}

pub settled_by : (P : Parts) (F : Formula) (cs : ClauseList) (log : List Step) → IsSentence P F → AreTied P F cs.clauses → IsRefutationOf cs log → IsSettled P F (Refuted (record { clauses = cs; log = log }))
settled_by P F cs log is tied refuted =
    (λ has. refuted_networks P F is cs.clauses log tied refuted.accepted has, record { tied = tied; refuted = refuted })

pub sentence_of : (P : Parts) (size : ℕ) (c : Condition) → IsClosed P c.hypothesis → IsClosed P c.goal → IsInside P size c → IsSentence P (sentence c)
sentence_of P size c hypothesis goal inside = record { closed = case_closed P c hypothesis goal; inside = inside.1 }

pub proven_by : (P : Parts) (size : ℕ) (c : Condition) → IsInside P size c → (HasNetwork P (sentence c) → ⊥) → IsProven P size c
proven_by P size c inside none = record { inside = inside; no_case = λ has. none ((case_sentence P c).0 has) }

-- where the sentence is true, the hypothesis is and the goal is not
sentence_parts : (P : Parts) (c : Condition) (N : Network) (x : State) → IsTrueIn P (sentence c) N x → IsTrueIn P c.hypothesis N x × IsFalse (truth (structure P N x Nothing) c.goal no_values)
unfolding truth
sentence_parts P c N x both =
    let parts = and_parts (truth (structure P N x Nothing) c.hypothesis no_values) (not (truth (structure P N x Nothing) c.goal no_values)) both in
    (parts.0, not-true _ parts.1)

state_parts : (P : Parts) (c : Condition) (N : Network) (state : Option (List Row)) → HasState state (λ rows. IsTrueIn P (sentence c) N (held rows))
    → HasState state (λ rows. IsTrueIn P c.hypothesis N (held rows)) × HasState state (λ rows. IsFalse (truth (structure P N (held rows) Nothing) c.goal no_values))
state_parts P c N None is = absurd is
state_parts P c N (Some rows) is = sentence_parts P c N (held rows) is

pub case_of_sentence : (P : Parts) (c : Condition) (case : Case) → MakesTrue P (sentence c) case → IsCaseOf P c case
case_of_sentence P c case is =
    let parts = state_parts P c case.network case.state is.state in
    record { network = is.network; tuples = is.tuples; hypothesis = parts.0; goal = parts.1; packet = is.packet }

state_has : (P : Parts) (c : Condition) (N : Network) (state : Option (List Row)) → IsNetwork P N → HasState state (λ rows. IsTrueIn P c.hypothesis N (held rows))
    → HasState state (λ rows. IsFalse (truth (structure P N (held rows) Nothing) c.goal no_values)) → HasCase P c
state_has P c N None network h g = absurd g
state_has P c N (Some rows) network h g = (N, held rows, network, h, g)

pub case_has : (P : Parts) (c : Condition) (case : Case) → IsCaseOf P c case → HasCase P c
case_has P c case is = state_has P c case.network case.state is.network is.hypothesis is.goal
