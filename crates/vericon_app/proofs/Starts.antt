-- A case of a condition on the start shows a run from the initial state.
use Rattle.std.proofs.Common.{◌≡◌, ◌∙◌, sym, subst, ℕ, List, Option, Some, None, length}
use Rattle.std.specs.Prelude.{◌↔◌, IsTrue, IsFalse, All}
use Rattle.std.proofs.lemmas.Bool.{and_parts}
use Rattle.csdn_core.specs.declared.event.Packet.{Packet}
use Rattle.csdn_core.specs.declared.event.Packet.TheVariants.{Nothing}
use Rattle.csdn_core.specs.declared.program.Parts.{Parts}
use Rattle.csdn_core.specs.declared.syntax.Formula.{Formula}
use Rattle.csdn_core.specs.Truth.{truth}
use Rattle.csdn_core.specs.Network.{Network, State, IsNetwork, structure}
use Rattle.csdn_core.specs.Run.{no_values, initial}
use Rattle.csdn_core.specs.Satisfied.{IsTrueIn}
use Rattle.csdn_core.specs.WellSorted.{IsWellSorted}
use Rattle.net_structs.specs.declared.row.Row.{Row}
use Rattle.net_structs.specs.declared.case.Case.{Case}
use Rattle.net_structs.specs.Rows.{held}
use Rattle.class_networks.specs.Cases.{HasState}
use Rattle.csdn_conditions.specs.declared.kinds.CondKind.{CondKind}
use Rattle.csdn_conditions.specs.declared.kinds.CondKind.TheVariants.{Network as NetworkKind, Init, Step, Trans}
use Rattle.csdn_conditions.specs.declared.sentence.Condition.{Condition}
use Rattle.csdn_conditions.specs.Answers.{OfCondition}
use Rattle.csdn_conditions.specs.Conditions.{formula_at, after_events, hypothesis, conclusion, condition}
use Rattle.csdn_conditions.specs.Initial.{IsInitial}
use Rattle.csdn_conditions.specs.Start.{start}
use Rattle.csdn_conditions.proofs.ClosedConditions.{events_closed, safety_closed, kind_of_member}
use Rattle.csdn_conditions.proofs.Inductive.{runs_break}
use Rattle.csdn_conditions.proofs.Complete.{truth-agree}
use Rattle.vericon_decide.specs.Verdicts.{IsCaseOf}
use Rattle.csdn_types.proofs.WholeProgram.{parts_well_sorted}
use Rattle.text_facts.proofs.Facts.{from_text}
use Rattle.vericon_app.specs.Broken.{EndsBroken}
use Rattle.csdn_read.specs.Programs.{Spells}

-- what bytes spell is well-sorted
pub spelled_well : (bytes : List ℕ) (P : Parts) → Spells bytes P → IsWellSorted P
spelled_well bytes P spells = subst IsWellSorted (sym spells.types.is) (parts_well_sorted spells.tree (from_text bytes spells.tree spells.reads) spells.types.keeps)

-- `start` says that a state is the initial one
abbrev pub StartsExactly : Type 0
StartsExactly = (P : Parts) → IsWellSorted P → (N : Network) (x : State) (packet : Packet) → IsTrue (truth (structure P N x packet) (start P) no_values) ↔ IsInitial P N x

module _ (exact : StartsExactly) (P : Parts) (well : IsWellSorted P) where
  module _ (N : Network) (network : IsNetwork P N) where
    ends : (n : ℕ) (kind : CondKind) (x : State) → IsTrueIn P (hypothesis P n kind) N x → IsFalse (truth (structure P N x Nothing) (conclusion P n kind) no_values) → EndsBroken P N kind
    unfolding truth
    ends n NetworkKind x h wrong = tt
    ends n (Init k v) x h wrong =
        let agree : IsInitial P N x = (exact P well N x Nothing).0 (and_parts _ _ h).1 in
        let q : Formula = formula_at P.safety v in
        let closed = safety_closed P well v in
        runs_break P well N network k q closed (initial P N)
        (sym (truth-agree P N network x (initial P N) agree (after_events P k q) (events_closed P well k q closed)) ∙ wrong)
    ends n (Step v event) x h wrong = tt
    ends n (Trans t event) x h wrong = tt

    ends_in : (n : ℕ) (kind : CondKind) (state : Option (List Row)) → HasState state (λ rows. IsTrueIn P (hypothesis P n kind) N (held rows))
        → HasState state (λ rows. IsFalse (truth (structure P N (held rows) Nothing) (conclusion P n kind) no_values)) → EndsBroken P N kind
    ends_in n kind None h wrong = absurd h
    ends_in n kind (Some rows) h wrong = ends n kind (held rows) h wrong

  ends_by : (n : ℕ) (kind : CondKind) (case : Case) → IsCaseOf P (condition P n kind) case → EndsBroken P case.network kind
  ends_by n kind case is = ends_in case.network is.network n kind case.state is.hypothesis is.goal

  pub case_ends : (n i : ℕ) (case : Case) → OfCondition P n i (λ (c : Condition). IsCaseOf P c case) → OfCondition P n i (λ (c : Condition). EndsBroken P case.network c.kind)
  case_ends n i case found =
      let c = found.condition in
      let kind = kind_of_member P well n i c found.there in
      record {
        condition = c;
        there = found.there;
        holds =
            subst (λ (d : Condition). IsCaseOf P d case → EndsBroken P case.network d.kind) kind.2 (ends_by n kind.0 case) found.holds;
      }
