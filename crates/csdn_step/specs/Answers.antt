-- Which events are refused.
use Rattle.std.specs.Prelude.{◌≡◌, Bool, true, ◌&&◌, if◌then◌else◌, [], ◌∷◌, Option, Some, None, is_some, Result, Ok, Err}
use Rattle.std.specs.List.{list_any}
use Rattle.csdn_core.specs.declared.terms.Pred.TheVariants.{Ft}
use Rattle.csdn_core.specs.declared.event.Event.{Event}
use Rattle.csdn_core.specs.declared.event.Event.TheVariants.{PktIn, PktFlow, Expire}
use Rattle.csdn_core.specs.declared.program.Parts.{Parts}
use Rattle.csdn_core.specs.Network.{Network, State}
use Rattle.net_structs.specs.Networks.{has}
use Rattle.csdn_step.specs.declared.events.StepRefusal.{StepRefusal}
use Rattle.csdn_step.specs.declared.events.StepRefusal.TheVariants.{Stranger, NotEnabled, Memory}

-- whether all elements of an event are the network's
abbrev pub is_of_network : Network → Event → Bool
is_of_network N (PktIn s a b i) = has N.switches s && (has N.hosts a && (has N.hosts b && has N.ports i))
is_of_network N (PktFlow s a b i o) = has N.switches s && (has N.hosts a && (has N.hosts b && (has N.ports i && has N.ports o)))
is_of_network N (Expire s a b i) = has N.switches s && (has N.hosts a && (has N.hosts b && has N.ports i))

-- a packet may come in at any time, and flow where a rule for it is there; rules expire where the program says so and one is
-- there
abbrev pub is_enabled : Parts → Network → State → Event → Bool
is_enabled P N x (PktIn s a b i) = true
is_enabled P N x (PktFlow s a b i o) = x Ft (s ∷ a ∷ b ∷ i ∷ o ∷ [])
is_enabled P N x (Expire s a b i) = is_some P.timeout && list_any (λ o. x Ft (s ∷ a ∷ b ∷ i ∷ o ∷ [])) N.ports

abbrev pub first_refusal : Parts → Network → State → Event → Option StepRefusal
first_refusal P N x event = if is_of_network N event then (if is_enabled P N x event then None else Some NotEnabled) else Some Stranger

-- an answer where nothing is to be refused, and else the first refusal, unless memory ran out
abbrev pub IsAnswer : {X : Type 0} → Option StepRefusal → Result X StepRefusal → Type 0
IsAnswer first (Ok answer) = first ≡ None
IsAnswer first (Err Memory) = Unit {0}
IsAnswer first (Err why) = first ≡ Some why
