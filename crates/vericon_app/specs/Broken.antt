-- What a counterexample means.
use Rattle.std.specs.Prelude.{◌≡◌, ℕ, List, Option, length, IsFalse}
use Rattle.csdn_core.specs.declared.event.Event.{Event}
use Rattle.csdn_core.specs.declared.event.Packet.TheVariants.{Nothing}
use Rattle.csdn_core.specs.declared.program.Parts.{Parts}
use Rattle.csdn_core.specs.Truth.{truth}
use Rattle.csdn_core.specs.Network.{Network, State, structure}
use Rattle.csdn_core.specs.Run.{no_values, initial, Run}
use Rattle.csdn_conditions.specs.declared.kinds.CondKind.{CondKind}
use Rattle.csdn_conditions.specs.declared.kinds.CondKind.TheVariants.{Network as NetworkKind, Init, Step, Trans}
use Rattle.csdn_conditions.specs.Answers.{OfCondition}
use Rattle.csdn_conditions.specs.Conditions.{formula_at}
use Rattle.net_structs.specs.declared.case.Case.{Case}
use Rattle.vericon_decide.specs.Verdicts.{IsCaseOf}
use Rattle.answer_listing.specs.Counterexamples.{IsCounterexampleText}
use Rattle.vericon_edge.specs.Told.{Told, MayHold}
use Rattle.vericon_edge.specs.Written.{Grown}
use Rattle.csdn_read.specs.Programs.{Spells}

-- for `init k v` some run of k events from the initial state ends where the invariant v is false; of the other kinds nothing is said
abbrev pub EndsBroken : Parts → Network → CondKind → Type 0
EndsBroken P N NetworkKind = Unit {0}
EndsBroken P N (Init k v) = (events : List Event) × (y : State) × (length events ≡ k) × Run P N (initial P N) events y × IsFalse (truth (structure P N y Nothing) (formula_at P.safety v) no_values)
EndsBroken P N (Step v event) = Unit {0}
EndsBroken P N (Trans t event) = Unit {0}

-- The file's bytes spell a program, and what was written names a condition of it and shows a case of that condition, which reads back.
pub record IsShownBroken (told : Told) (old new : Option (List ℕ)) : Type 0 where
  pub bytes : List ℕ
  pub told_bytes : MayHold told bytes
  pub program : Parts
  pub spells : Spells bytes program
  pub level : ℕ
  pub index : ℕ
  pub case : Case
  pub case_of : OfCondition program level index (λ c. IsCaseOf program c case)
  pub ends : OfCondition program level index (λ c. EndsBroken program case.network c.kind)
  pub text : List ℕ
  pub shows : IsCounterexampleText program level index case text
  pub written : Grown old new text
