-- The conditions of an inductive program are valid.
use Rattle.std.proofs.Common.{◌≡◌, ◌≢◌, ◌↔◌, ◌∙◌, sym, ap, subst, refl, ℕ, zero, suc, ◌+◌, ◌*◌, ◌-◌, ◌/◌, ◌%◌, ◌<◌, ◌≤◌, ◌⊎◌, inl, inr, Bool, true, false, not, List, [], ◌∷◌, length, map, Some, IsTrue, if◌then◌else◌, arith, true≢false}
use Rattle.std.specs.Prelude.{slice_get, slice_index_or, is_some}
use Rattle.std.specs.List.{flat_map, list_all, range_with_len}
use Rattle.std.proofs.Math.Nat.{mod-lt}
use Rattle.std.proofs.lemmas.Option.{slice_get_within, slice_get-get_or, none-some}
use Rattle.std.proofs.lemmas.Bool.{and_parts, true_from_ne_false}
use Rattle.std.proofs.lemmas.List.Folds.{list_all-append}
use Rattle.csdn_core.specs.declared.terms.Sort.{Sort}
use Rattle.csdn_core.specs.declared.terms.Pred.{Pred}
use Rattle.csdn_core.specs.declared.terms.Pred.TheVariants.{Stored, Ft, Sent, RcvThis}
use Rattle.csdn_core.specs.declared.terms.FormulaPlace.TheVariants.{Topology}
use Rattle.csdn_core.specs.declared.event.Event.{Event}
use Rattle.csdn_core.specs.declared.event.Packet.TheVariants.{Nothing}
use Rattle.csdn_core.specs.declared.program.Parts.{Parts}
use Rattle.csdn_core.specs.declared.program.Invariant.{Invariant}
use Rattle.csdn_core.specs.declared.syntax.Formula.{Formula}
use Rattle.csdn_core.specs.Truth.{truth}
use Rattle.csdn_core.specs.Network.{Network, State, structure, holds_in, is_fixed, HaveElements, IsNetwork}
use Rattle.csdn_core.specs.Run.{empty_state, no_values, initial, packet_of, Step}
use Rattle.csdn_core.specs.Holds.{AllTrue, IsTopology, IsSafe, IsSafeFor, IsInductive}
use Rattle.csdn_core.specs.Sorted.{sorts_of}
use Rattle.csdn_core.specs.WellSorted.{IsWellSorted, signature}
use Rattle.csdn_conditions.specs.declared.kinds.EventKind.{EventKind}
use Rattle.csdn_conditions.specs.declared.kinds.EventKind.TheVariants as e
use Rattle.csdn_conditions.specs.declared.kinds.CondKind.{CondKind}
use Rattle.csdn_conditions.specs.declared.kinds.CondKind.TheVariants.{Network as NetworkKind, Init, Step as StepKind, Trans}
use Rattle.csdn_conditions.specs.declared.sentence.Condition.{Condition}
use Rattle.csdn_conditions.specs.Kinds.{kinds_of, events}
use Rattle.csdn_conditions.specs.Conditions.{formulas, formula_at, after_event, after_events, all_after, topology, safe_for, hypothesis, conclusion, condition, conditions}
use Rattle.csdn_conditions.specs.Closed.{IsClosed}
use Rattle.csdn_conditions.specs.Initial.{is_of_states, IsInitial}
use Rattle.csdn_conditions.specs.Valid.{IsValid}
use Rattle.csdn_conditions.proofs.ClosedParts.{AreSortedIn, invariants_sorted}
use Rattle.csdn_conditions.proofs.ClosedConditions.{any_event, events_closed, safety_closed, trans_any, kind_of_member}
use Rattle.csdn_conditions.proofs.KindLaws.{IsOneOf, some_where, init_at, init_within, step_at, step_within, trans_at, trans_within}
use Rattle.csdn_core.proofs.Agreement.{structure_of, elements_there, truth_sees}
use Rattle.csdn_conditions.proofs.StartTruth.{truth-all, is_initial}
use Rattle.csdn_conditions.proofs.Inductive.{IsStatic, static_names, truth-state, formula_there, kind_of, Breaks, event_breaks, topology_true, quiet, runs_end, ends_true}
use Rattle.csdn_core.specs.SortedIn.{no_scope, any_relation, no_rcv_this, IsSortedIn}
use Rattle.csdn_conditions.specs.Among.{IsInductiveAmong}

-- sentences have the same truth in states that agree on a network's elements

module _ (P : Parts) (N : Network) (network : IsNetwork P N) (x y : State)
    (agree : (r : Pred) (ss : List Sort) (cells : List ℕ) → IsTrue (is_of_states P r) → sorts_of (signature P) r ≡ Some ss → HaveElements N ss cells → x r cells ≡ y r cells) where
  unless_fixed : (b : Bool) (u v w : Bool) → (not b ≡ true → v ≡ w) → (if b then u else v) ≡ (if b then u else w)
  unless_fixed true u v w same = refl
  unless_fixed false u v w same = same refl

  holds_agree : (r : Pred) (ss : List Sort) (cells : List ℕ) → no_rcv_this r → sorts_of (signature P) r ≡ Some ss → HaveElements N ss cells → holds_in P N x Nothing r cells ≡ holds_in P N y Nothing r cells
  holds_agree (Stored r) ss cells named declared have = unless_fixed (is_fixed P r.0) _ _ _ (λ states. agree (Stored r) ss cells states declared have)
  holds_agree Ft ss cells named declared have = agree Ft ss cells refl declared have
  holds_agree Sent ss cells named declared have = agree Sent ss cells refl declared have
  holds_agree RcvThis ss cells named declared have = absurd (true≢false named)

  pub truth-agree : (p : Formula) → IsClosed P p → truth (structure P N x Nothing) p no_values ≡ truth (structure P N y Nothing) p no_values
  truth-agree p closed =
      truth_sees (signature P) no_rcv_this (structure P N x Nothing) (structure P N y Nothing) (structure_of P N network x Nothing)
      (record { elements = λ s. refl; constants = λ k. refl; tuples = λ r ss cells named declared there. holds_agree r ss cells named declared (elements_there P N network x Nothing ss cells there) })
      no_scope p no_values no_values closed (record { there = λ v s is. absurd (none-some s is); same = λ v s is. refl })

-- what the kinds of a level are, past the first

module _ (es : List EventKind) (some_events : 0 < length es) (n s t : ℕ) where
  some_kind : (a b : CondKind) → Some a ≡ Some b → a ≡ b
  some_kind a b is = cc

  event_at : ℕ → EventKind
  event_at p = slice_index_or es (p % length es) e.PktIn

  some_event : (p : ℕ) → slice_get es (p % length es) ≡ Some (event_at p)
  unfolding event_at
  some_event p = slice_get-get_or es (p % length es) e.PktIn (mod-lt p some_events)

  small_or_not : (a b : ℕ) → (a < b) ⊎ (b ≤ a)
  small_or_not a b = grind arith

  -- a kind that says something of events
  abbrev pub IsOfEvents : CondKind → Type 0
  IsOfEvents NetworkKind = ⊥
  IsOfEvents (Init k v) = (k ≤ n) × (v < s)
  IsOfEvents (StepKind v event) = (v < s) × IsOneOf es event
  IsOfEvents (Trans u event) = (u < t) × IsOneOf es event

  pub of_events : (i : ℕ) (kind : CondKind) → slice_get (kinds_of es n s t) i ≡ Some kind → 0 < i → IsOfEvents kind
  of_events i kind there past =
      let m : ℕ = length es in
      let within : i < length (kinds_of es n s t) = slice_get_within (kinds_of es n s t) i kind there in
      let some : i ≢ 0 = λ is. omega (arith, is, past) in
      elim (small_or_not (i - 1) ((n + 1) * s)) [
        | inl first ↦ subst IsOfEvents (some_kind (Init ((i - 1) / s) ((i - 1) % s)) kind (sym (init_at es m refl some_events n s t i some first) ∙ there)) (init_within n s (i - 1) first)
        | inr later ↦ elim (small_or_not (i - 1 - (n + 1) * s) (s * m)) [
          | inl second ↦
              let p : ℕ = i - 1 - (n + 1) * s in
              subst IsOfEvents (some_kind (StepKind (p / m) (event_at p)) kind (sym (step_at es m refl some_events n s t i (event_at p) some later second (some_event p)) ∙ there)) (step_within es m refl some_events n s t p second, (p % m, some_event p))
          | inr last ↦
              let p : ℕ = i - 1 - (n + 1) * s - s * m in
              subst IsOfEvents (some_kind (Trans (p / m) (event_at p)) kind (sym (trans_at es m refl some_events n s t i within some later last (event_at p) (some_event p)) ∙ there)) (trans_within es m refl some_events n s t i within some later last, (p % m, some_event p))
        ]
      ]

module _ (P : Parts) (well : IsWellSorted P) (N : Network) (network : IsNetwork P N) where
  abbrev Sat : State → Formula → Type 0
  Sat x p = IsTrue (truth (structure P N x Nothing) p no_values)

  abbrev T : State → Formula → Bool
  T x p = truth (structure P N x Nothing) p no_values

  event_from : (kind : EventKind) → IsOneOf (events P) kind → (q : Formula) → IsSortedIn (signature P) any_relation no_scope q → (x : State)
      → ((event : Event) (y : State) → kind_of event ≡ kind → Step P N x event y → IsTrue (truth (structure P N y (packet_of event)) q no_values)) → Sat x (after_event P kind q)
  unfolding Breaks
  event_from kind there q sorted x h =
      true_from_ne_false _ (λ isnt. (let (event, is, y, step, wrong) = event_breaks P well N network kind there q sorted x isnt in true≢false (sym (h event y is step) ∙ wrong)))

  -- what hypotheses say

  all_more : (v : Invariant) (vs : List Invariant) → IsTrue (truth (structure P N empty_state Nothing) v.formula no_values) → AllTrue P N empty_state Nothing vs → AllTrue P N empty_state Nothing (v ∷ vs)
  all_more v vs h rest zero d within = h
  all_more v vs h rest (suc k) d within = rest k d (omega arith)

  pub topology_holds : (x : State) → Sat x (topology P) → AllTrue P N empty_state Nothing P.topology
  topology_holds x h =
      each P.topology (invariants_sorted P (IsStatic P) Topology (static_names P) P.topology well.topology)
      (sym (truth-all (structure P N x Nothing) no_values (formulas P.topology)) ∙ h)
    where
      each : (vs : List Invariant) → AreSortedIn P (IsStatic P) no_scope (formulas vs) → list_all (T x) (formulas vs) ≡ true → AllTrue P N empty_state Nothing vs
      each [] sorted all = λ k d within. absurd (omega arith)
      each (v ∷ vs) sorted all =
          all_more v vs (sym (truth-state P N x empty_state v.formula sorted.0) ∙ (and_parts _ _ all).0) (each vs sorted.1 (and_parts _ _ all).1)

  -- a formula of a list all of whose formulas are true after k events
  after_at : (k : ℕ) (x : State) (vs : List Invariant) (v : ℕ) → v < length vs → list_all (T x) (map (after_events P k) (formulas vs)) ≡ true → Sat x (after_events P k (formula_at vs v))
  after_at k x [] v within all = absurd (omega arith)
  after_at k x (u ∷ vs) zero within all = (and_parts _ _ all).0
  after_at k x (u ∷ vs) (suc v) within all = after_at k x vs v (omega arith) (and_parts _ _ all).1

  level_at : (x : State) (a m k : ℕ) → k < m → list_all (T x) (flat_map (λ j. map (after_events P j) (formulas P.safety)) (range_with_len a m)) ≡ true
      → list_all (T x) (map (after_events P (a + k)) (formulas P.safety)) ≡ true
  level_at x a zero k few all = absurd (omega arith)
  level_at x a (suc m) zero few all =
      let same : a ≡ a + zero = omega arith in
      subst (λ (j : ℕ). list_all (T x) (map (after_events P j) (formulas P.safety)) ≡ true) same
      (and_parts _ _ (sym (list_all-append (T x) (map (after_events P a) (formulas P.safety)) (flat_map (λ j. map (after_events P j) (formulas P.safety)) (range_with_len (a + 1) m))) ∙ all)).0
  level_at x a (suc m) (suc k) few all =
      let same : (a + 1) + k ≡ a + suc k = omega arith in
      subst (λ (j : ℕ). list_all (T x) (map (after_events P j) (formulas P.safety)) ≡ true) same
      (level_at x (a + 1) m k (omega arith)
      (and_parts _ _ (sym (list_all-append (T x) (map (after_events P a) (formulas P.safety)) (flat_map (λ j. map (after_events P j) (formulas P.safety)) (range_with_len (a + 1) m))) ∙ all)).1)

  safe_from : (n : ℕ) (x : State) → Sat x (safe_for P n) → IsSafeFor P N n x
  safe_from n x h = λ es y few run v d within.
      let all = sym (truth-all (structure P N x Nothing) no_values (all_after P n (formulas P.safety))) ∙ h in
      let number : 0 + length es ≡ length es = omega arith in
      let level : list_all (T x) (map (after_events P (length es)) (formulas P.safety)) ≡ true =
      subst (λ (j : ℕ). list_all (T x) (map (after_events P j) (formulas P.safety)) ≡ true) number (level_at x 0 (n + 1) (length es) (omega (arith, few)) all) in
      subst (λ (p : Formula). Sat y p) (formula_there P.safety v d within)
      (runs_end P well N network (length es) (formula_at P.safety v) (safety_closed P well v) x (after_at (length es) x P.safety v within level) es y refl run)

  -- an invariant in a safe state
  safe_at : (y : State) (v : ℕ) → v < length P.safety → IsSafe P N y → Sat y (formula_at P.safety v)
  safe_at y v within safe = at P.safety v within safe
    where
      at : (vs : List Invariant) (k : ℕ) → k < length vs → AllTrue P N y Nothing vs → Sat y (formula_at vs k)
      at [] k within all = absurd (omega arith)
      at (u ∷ vs) zero within all = all 0 u (omega arith)
      at (u ∷ vs) (suc k) within all = at vs k (omega arith) (λ j d less. all (suc j) d (omega (arith, less)))

  trans_at_event : (y : State) (event : Event) (u : ℕ) → u < length P.trans → AllTrue P N y (packet_of event) P.trans → IsTrue (truth (structure P N y (packet_of event)) (formula_at P.trans u) no_values)
  trans_at_event y event u within all = at P.trans u within all
    where
      at : (vs : List Invariant) (k : ℕ) → k < length vs → AllTrue P N y (packet_of event) vs → IsTrue (truth (structure P N y (packet_of event)) (formula_at vs k) no_values)
      at [] k within all = absurd (omega arith)
      at (u ∷ vs) zero within all = all 0 u (omega arith)
      at (u ∷ vs) (suc k) within all = at vs k (omega arith) (λ j d less. all (suc j) d (omega (arith, less)))

  module _ (n : ℕ) (Kind : State → Type 0) (inductive : IsTopology P N → IsInductiveAmong Kind P N n) where
    by_kind : (kind : CondKind) → IsOfEvents (events P) (some_where (is_some P.timeout)) n (length P.safety) (length P.trans) kind → (x : State) → Kind x → Sat x (hypothesis P n kind) → Sat x (conclusion P n kind)
    unfolding truth
    by_kind NetworkKind some x is_kind h = absurd some
    by_kind (Init k v) some x is_kind h =
        let all = topology_holds x (and_parts _ _ h).0 in
        let points = inductive (record { network = network; topology = all }) in
        let agree : IsInitial P N x = is_initial P N x Nothing well (and_parts _ _ h).1 in
        let q : Formula = formula_at P.safety v in
        truth-agree P N network x (initial P N) agree (after_events P k q) (events_closed P well k q (safety_closed P well v))
        ∙ ends_true P well N network k q (safety_closed P well v) (initial P N)
        (λ es y many run. safe_at y v some.1 (points.initially es y (omega (arith, many, some.0)) run))
    by_kind (StepKind v kind) some x is_kind h =
        let all = topology_holds x (and_parts _ _ h).0 in
        let points = inductive (record { network = network; topology = all }) in
        let safe : IsSafeFor P N n x = safe_from n x (and_parts _ _ h).1 in
        let q : Formula = formula_at P.safety v in
        let closed : IsClosed P (after_events P n q) = events_closed P well n q (safety_closed P well v) in
        event_from kind some.1 (after_events P n q) (any_event P well (after_events P n q) closed) x
        (λ event y is step.
        quiet P well N network (after_events P n q) closed y (packet_of event)
        ∙ ends_true P well N network n q (safety_closed P well v) y (λ es z many run. safe_at z v some.0 (points.safety x (event ∷ es) z is_kind safe (ap suc many) (y, step, run))))
    by_kind (Trans u kind) some x is_kind h =
        let all = topology_holds x (and_parts _ _ h).0 in
        let points = inductive (record { network = network; topology = all }) in
        let safe : IsSafeFor P N n x = safe_from n x (and_parts _ _ h).1 in
        event_from kind some.1 (formula_at P.trans u) (trans_any P well u) x (λ event y is step. trans_at_event y event u some.0 (points.trans x event y is_kind safe step))

-- the condition holds in states of the kind
pub complete_among : (Kind : State → Type 0) (P : Parts) → IsWellSorted P → (n : ℕ) → ((N : Network) → IsTopology P N → IsInductiveAmong Kind P N n) → (i : ℕ) (c : Condition) → slice_get (conditions P n) i ≡ Some c → 0 < i
    → (N : Network) (x : State) → IsNetwork P N → Kind x → IsTrue (truth (structure P N x Nothing) c.hypothesis no_values) → IsTrue (truth (structure P N x Nothing) c.goal no_values)
complete_among Kind P well n inductive i c there past N x network is_kind =
    let found = kind_of_member P well n i c there in
    subst (λ (d : Condition). IsTrue (truth (structure P N x Nothing) d.hypothesis no_values) → IsTrue (truth (structure P N x Nothing) d.goal no_values)) found.2
    (λ h. by_kind P well N network n Kind (inductive N) found.0 (of_events (events P) (some_where (is_some P.timeout)) n (length P.safety) (length P.trans) i found.0 found.1 past) x is_kind h)

-- induction over all states
pub among_all : (Kind : State → Type 0) (n : ℕ) (P : Parts) → IsInductive n P → (N : Network) → IsTopology P N → IsInductiveAmong Kind P N n
among_all Kind n P inductive N is_topology =
    let points = inductive N is_topology in
    record { initially = points.initially; safety = λ x es y is_kind. points.safety x es y; trans = λ x event y is_kind. points.trans x event y }

pub complete : (P : Parts) → IsWellSorted P → (n : ℕ) → IsInductive n P → (i : ℕ) (c : Condition) → slice_get (conditions P n) i ≡ Some c → 0 < i → IsValid P c
complete P well n inductive i c there past N x network h =
    complete_among (λ y. Unit {0}) P well n (among_all (λ y. Unit {0}) n P inductive) i c there past N x network tt h

-- the first condition

pub no_network : (P : Parts) → IsWellSorted P → (n : ℕ) → IsValid P (condition P n NetworkKind) ↔ ((N : Network) → IsTopology P N → ⊥)
unfolding truth
no_network P well n = (
  (λ valid N is. true≢false (sym (valid N empty_state is.network (topology_true P well N is.network is.topology empty_state)))),
  (λ none N x network h. absurd (none N (record { network = network; topology = topology_holds P well N network x h }))),
)
