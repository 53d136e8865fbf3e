-- A program whose conditions are valid is inductive.
use Rattle.std.proofs.Common.{inl, inr, ◌≡◌, ◌∙◌, sym, ap, subst, refl, ℕ, zero, suc, ◌+◌, ◌*◌, ◌<◌, ◌≤◌, Bool, true, false, List, [], ◌∷◌, length, map, Option, Some, None, IsTrue, if◌then◌else◌, arith, true≢false}
use Rattle.std.specs.Prelude.{slice_get, slice_index_or, option_map, is_some, IsFalse}
use Rattle.std.specs.List.{flat_map, list_all, range_with_len}
use Rattle.std.proofs.lemmas.Option.{slice_get-map, same_Some}
use Rattle.std.proofs.lemmas.Bool.{and_from, and_parts, true_from_ne_false}
use Rattle.std.proofs.lemmas.List.Folds.{list_all-append, list_all-map}
use Rattle.csdn_core.specs.declared.terms.Pred.{Pred}
use Rattle.csdn_core.specs.declared.terms.Pred.TheVariants.{Stored, Ft, Sent, RcvThis}
use Rattle.csdn_core.specs.declared.terms.FormulaPlace.TheVariants.{Topology}
use Rattle.csdn_core.specs.declared.event.Event.{Event}
use Rattle.csdn_core.specs.declared.event.Event.TheVariants.{PktIn, PktFlow, Expire}
use Rattle.csdn_core.specs.declared.event.Packet.{Packet}
use Rattle.csdn_core.specs.declared.event.Packet.TheVariants.{Nothing}
use Rattle.csdn_core.specs.declared.program.Parts.{Parts}
use Rattle.csdn_core.specs.declared.program.Relation.{Relation}
use Rattle.csdn_core.specs.declared.program.Invariant.{Invariant}
use Rattle.csdn_core.specs.declared.syntax.Formula.{Formula}
use Rattle.csdn_core.specs.Tree.{conjunction}
use Rattle.csdn_core.specs.Truth.{truth}
use Rattle.csdn_core.specs.Network.{Network, State, structure, holds_in, is_fixed, is_fixed_in, IsNetwork}
use Rattle.csdn_core.specs.Run.{empty_state, no_values, initial, packet_of, Step, Run}
use Rattle.csdn_core.specs.Holds.{AllTrue, IsSafe, IsSafeFor, IsInductiveIn, IsInductive}
use Rattle.csdn_core.specs.Sorted.{IsAllowed}
use Rattle.csdn_core.specs.WellSorted.{IsWellSorted, signature}
use Rattle.csdn_wp.proofs.Flow.{flow_kept, flow_breaks}
use Rattle.csdn_wp.proofs.Expiry.{expire_kept, expire_breaks}
use Rattle.csdn_wp.proofs.Coincidence.{truth_alike}
use Rattle.csdn_wp.proofs.Programs.{in_kept, in_breaks}
use Rattle.csdn_wp.proofs.Truths.{false_side}
use Rattle.csdn_wp.proofs.Sentences.{truth-packet}
use Rattle.csdn_conditions.specs.declared.kinds.EventKind.{EventKind}
use Rattle.csdn_conditions.specs.declared.kinds.EventKind.TheVariants as e
use Rattle.csdn_conditions.specs.declared.kinds.CondKind.{CondKind}
use Rattle.csdn_conditions.specs.declared.kinds.CondKind.TheVariants.{Init, Step as StepKind, Trans}
use Rattle.csdn_conditions.specs.declared.sentence.Condition.{Condition}
use Rattle.csdn_conditions.specs.Kinds.{events_where, events, kinds}
use Rattle.csdn_conditions.specs.Conditions.{formulas, formula_at, after_event, after_any, after_events, all_after, topology, safe_for, condition, conditions}
use Rattle.csdn_conditions.specs.Closed.{IsClosed}
use Rattle.csdn_conditions.specs.Valid.{IsValid}
use Rattle.csdn_conditions.proofs.ClosedParts.{AreSortedIn, invariants_sorted, safety_sorted}
use Rattle.csdn_conditions.proofs.ClosedConditions.{any_event, events_closed, safety_closed, trans_any}
use Rattle.csdn_conditions.proofs.KindLaws.{IsOneOf, some_where, init_there, step_there, trans_there}
use Rattle.csdn_conditions.proofs.StartTruth.{truth-all, start_true}
use Rattle.csdn_core.specs.SortedIn.{no_scope, Relations, any_relation, no_rcv_this, IsSortedIn}

-- formulas that name static relations alone have the same truth in all states

abbrev pub IsStatic : Parts → Relations
IsStatic P (Stored r) = is_fixed P r.0 ≡ true
IsStatic P Ft = ⊥
IsStatic P Sent = ⊥
IsStatic P RcvThis = ⊥

pub static_names : (P : Parts) (r : Pred) → IsAllowed (signature P) Topology r → IsStatic P r
static_names P (Stored r) allowed = at (slice_get P.relations r.0) allowed
  where
    at : (o : Option Relation) → option_map (λ (d : Relation). d.fixed) o ≡ Some true → is_fixed_in o ≡ true
    at None is = absurd (cc)
    at (Some d) is = cc
static_names P Ft allowed = absurd allowed
static_names P Sent allowed = absurd allowed
static_names P RcvThis allowed = absurd allowed

module _ (P : Parts) (N : Network) (x y : State) where
  when_fixed : (b : Bool) (u v w : Bool) → b ≡ true → (if b then u else v) ≡ (if b then u else w)
  when_fixed true u v w is = refl
  when_fixed false u v w is = absurd (true≢false (sym is))

  holds-state : (r : Pred) (cells : List ℕ) → IsStatic P r → holds_in P N x Nothing r cells ≡ holds_in P N y Nothing r cells
  holds-state (Stored r) cells static = when_fixed (is_fixed P r.0) _ _ _ static
  holds-state Ft cells static = absurd static
  holds-state Sent cells static = absurd static
  holds-state RcvThis cells static = absurd static

  pub truth-state : (p : Formula) → IsSortedIn (signature P) (IsStatic P) no_scope p → truth (structure P N x Nothing) p no_values ≡ truth (structure P N y Nothing) p no_values
  truth-state p sorted = truth_alike (signature P) (IsStatic P) (structure P N x Nothing) (holds_in P N y Nothing) holds-state no_scope p no_values no_values sorted (λ v s is. refl)

-- lists of invariants

pub formula_there : (vs : List Invariant) (k : ℕ) (d : Invariant) → k < length vs → formula_at vs k ≡ (slice_index_or vs k d).formula
formula_there [] k d within = absurd (omega arith)
formula_there (v ∷ vs) zero d within = refl
formula_there (v ∷ vs) (suc k) d within = formula_there vs k d (omega arith)

-- what kind of event it is
abbrev pub kind_of : Event → EventKind
kind_of (PktIn s a b i) = e.PktIn
kind_of (PktFlow s a b i o) = e.PktFlow
kind_of (Expire s a b i) = e.Expire

-- the events of a program

second_there : (timed : Bool) → slice_get (events_where timed) 1 ≡ Some e.PktFlow
second_there true = refl
second_there false = refl

third_there : (timed : Bool) → timed ≡ true → slice_get (events_where timed) 2 ≡ Some e.Expire
third_there true is = refl
third_there false is = absurd (true≢false (sym is))

-- an event that is enabled is one of the program's
pub event_there : (P : Parts) (N : Network) (event : Event) (x y : State) → Step P N x event y → IsOneOf (events P) (kind_of event)
event_there P N (PktIn s a b i) x y step = (0, refl)
event_there P N (PktFlow s a b i o) x y step = (1, second_there (is_some P.timeout))
event_there P N (Expire s a b i) x y (in_s, in_a, in_b, in_i, timed, there, is) = (2, third_there (is_some P.timeout) timed)

-- rules of a program that has expiries end by themselves
is_timed : (timed : Bool) (r : ℕ) → slice_get (events_where timed) r ≡ Some e.Expire → timed ≡ true
is_timed true r is = refl
is_timed false zero is = absurd (cc)
is_timed false (suc zero) is = absurd (cc)
is_timed false (suc (suc r)) is = absurd (cc)

-- tests of what is made of each event

pub passes_at : (test : EventKind → Bool) (es : List EventKind) (event : EventKind) (r : ℕ) → slice_get es r ≡ Some event → list_all test es ≡ true → test event ≡ true
passes_at test [] event r is all = absurd (cc)
passes_at test (k ∷ es) event zero is all = let same : k ≡ event = same_Some k event is in ap test (sym same) ∙ (and_parts (test k) (list_all test es) all).0
passes_at test (k ∷ es) event (suc r) is all = passes_at test es event r is (and_parts (test k) (list_all test es) all).1

fails_at : (test : EventKind → Bool) (es : List EventKind) → list_all test es ≡ false → (event : EventKind) × IsOneOf es event × (test event ≡ false)
fails_at test [] none = absurd (true≢false none)
fails_at test (k ∷ es) some = elim (false_side (test k) (list_all test es) some) [
  | inl here ↦ (k, (0, refl), here)
  | inr later ↦ (let found = fails_at test es later.1 in (found.0, (suc found.1.0, found.1.1), found.2))
]

module _ (P : Parts) (well : IsWellSorted P) (N : Network) (network : IsNetwork P N) where
  abbrev Sat : State → Formula → Type 0
  Sat x p = IsTrue (truth (structure P N x Nothing) p no_values)

  abbrev T : State → Formula → Bool
  T x p = truth (structure P N x Nothing) p no_values

  -- after one event

  event_true : (event : Event) (q : Formula) → IsSortedIn (signature P) any_relation no_scope q → (x y : State) → Sat x (after_event P (kind_of event) q) → Step P N x event y
      → IsTrue (truth (structure P N y (packet_of event)) q no_values)
  event_true (PktIn s a b i) q sorted x y h step = in_kept P well N network q sorted x h s a b i y step
  event_true (PktFlow s a b i o) q sorted x y h step = flow_kept P q sorted N x h s a b i o y step
  event_true (Expire s a b i) q sorted x y h step = expire_kept P q sorted N x h s a b i y step

  -- an event of the kind that ends where the formula is false
  unfoldable pub Breaks : EventKind → Formula → State → Type 0
  Breaks kind q x = (event : Event) × (kind_of event ≡ kind) × (y : State) × Step P N x event y × IsFalse (truth (structure P N y (packet_of event)) q no_values)

  pub event_breaks : (kind : EventKind) → IsOneOf (events P) kind → (q : Formula) → IsSortedIn (signature P) any_relation no_scope q → (x : State) → T x (after_event P kind q) ≡ false → Breaks kind q x
  unfolding Breaks
  event_breaks e.PktIn there q sorted x h = let (s, a, b, i, y, step, wrong) = in_breaks P well N network q sorted x h in (PktIn s a b i, refl, y, step, wrong)
  event_breaks e.PktFlow there q sorted x h = let (s, a, b, i, o, y, step, wrong) = flow_breaks P q sorted N x h in (PktFlow s a b i o, refl, y, step, wrong)
  event_breaks e.Expire (r, is) q sorted x h = let (s, a, b, i, y, step, wrong) = expire_breaks P q sorted N x (is_timed (is_some P.timeout) r is) h in (Expire s a b i, refl, y, step, wrong)

  pub quiet : (q : Formula) → IsClosed P q → (y : State) (packet : Packet) → truth (structure P N y packet) q no_values ≡ truth (structure P N y Nothing) q no_values
  quiet q closed y packet = truth-packet P N y packet no_scope q no_values closed

  event_kept : (event : Event) (q : Formula) → IsClosed P q → (x y : State) → Sat x (after_event P (kind_of event) q) → Step P N x event y → Sat y q
  event_kept event q closed x y h step = sym (quiet q closed y (packet_of event)) ∙ event_true event q (any_event P well q closed) x y h step

  -- after any event

  all_events : (q : Formula) (x : State) → T x (after_any P q) ≡ list_all (λ kind. T x (after_event P kind q)) (events P)
  all_events q x = truth-all (structure P N x Nothing) no_values (map (λ kind. after_event P kind q) (events P)) ∙ list_all-map (T x) (λ kind. after_event P kind q) (events P)

  one_of : (event : Event) (q : Formula) (x y : State) → Step P N x event y → Sat x (after_any P q) → Sat x (after_event P (kind_of event) q)
  one_of event q x y step h = let there = event_there P N event x y step in passes_at (λ kind. T x (after_event P kind q)) (events P) (kind_of event) there.0 there.1 (sym (all_events q x) ∙ h)

  -- after k events

  pub runs_end : (k : ℕ) (q : Formula) → IsClosed P q → (x : State) → Sat x (after_events P k q) → (es : List Event) (y : State) → length es ≡ k → Run P N x es y → Sat y q
  runs_end zero q closed x h [] y many run = subst (λ (z : State). Sat z q) (sym run) h
  runs_end zero q closed x h (event ∷ es) y many run = absurd (omega (arith, many))
  runs_end (suc k) q closed x h [] y many run = absurd (omega (arith, many))
  runs_end (suc k) q closed x h (event ∷ es) y many (z, step, run) =
      let before : IsClosed P (after_events P k q) = events_closed P well k q closed in
      runs_end k q closed z (event_kept event (after_events P k q) before x z (one_of event (after_events P k q) x z step h) step) es y (omega (arith, many)) run

  -- where the formula isn't true after k events, some run of k events ends where it is false
  pub runs_break : (k : ℕ) (q : Formula) → IsClosed P q → (x : State) → T x (after_events P k q) ≡ false
      → (es : List Event) × (y : State) × (length es ≡ k) × Run P N x es y × (T y q ≡ false)
  unfolding Breaks
  runs_break zero q closed x h = ([], x, refl, refl, h)
  runs_break (suc k) q closed x h =
      let w : Formula = after_events P k q in
      let before : IsClosed P w = events_closed P well k q closed in
      let (kind, there, isnt) = fails_at (λ kind. T x (after_event P kind w)) (events P) (sym (all_events w x) ∙ h) in
      let (event, is, z, step, wrong) = event_breaks kind there w (any_event P well w before) x isnt in
      let rest = runs_break k q closed z (sym (quiet w before z (packet_of event)) ∙ wrong) in
      (event ∷ rest.0, rest.1, ap suc rest.2, (z, step, rest.3), rest.4)

  pub ends_true : (k : ℕ) (q : Formula) → IsClosed P q → (x : State) → ((es : List Event) (y : State) → length es ≡ k → Run P N x es y → Sat y q) → Sat x (after_events P k q)
  ends_true k q closed x h =
      true_from_ne_false _ (λ isnt. (let (es, y, many, run, wrong) = runs_break k q closed x isnt in true≢false (sym (h es y many run) ∙ wrong)))

  -- hypotheses

  pub topology_true : AllTrue P N empty_state Nothing P.topology → (x : State) → Sat x (topology P)
  topology_true all x =
      truth-all (structure P N x Nothing) no_values (formulas P.topology)
      ∙ each P.topology (invariants_sorted P (IsStatic P) Topology (static_names P) P.topology well.topology) all
    where
      each : (vs : List Invariant) → AreSortedIn P (IsStatic P) no_scope (formulas vs) → AllTrue P N empty_state Nothing vs → list_all (λ p. truth (structure P N x Nothing) p no_values) (formulas vs) ≡ true
      each [] sorted all = refl
      each (v ∷ vs) sorted all =
          and_from _ _ (truth-state P N x empty_state v.formula sorted.0 ∙ all 0 v (omega arith)) (each vs sorted.1 (λ k d within. all (suc k) d (omega (arith, within))))

  safe_true : (n : ℕ) (x : State) → IsSafeFor P N n x → Sat x (safe_for P n)
  safe_true n x safe = truth-all (structure P N x Nothing) no_values (all_after P n (formulas P.safety)) ∙ levels 0 (n + 1) (omega arith)
    where
      level : (k : ℕ) → k ≤ n → (vs : List Invariant) → ((y : State) → IsSafe P N y → AllTrue P N y Nothing vs) → AreSortedIn P no_rcv_this no_scope (formulas vs) → list_all (T x) (map (after_events P k) (formulas vs)) ≡ true
      level k few [] holds closed = refl
      level k few (v ∷ vs) holds closed =
          and_from _ _ (ends_true k v.formula closed.0 x (λ es y many run. holds y (safe es y (omega (arith, many, few)) run) 0 v (omega arith)))
          (level k few vs (λ y kept j d less. holds y kept (suc j) d (omega (arith, less))) closed.1)

      levels : (a m : ℕ) → a + m ≤ n + 1 → list_all (T x) (flat_map (λ k. map (after_events P k) (formulas P.safety)) (range_with_len a m)) ≡ true
      levels a zero few = refl
      levels a (suc m) few =
          list_all-append (T x) (map (after_events P a) (formulas P.safety)) (flat_map (λ k. map (after_events P k) (formulas P.safety)) (range_with_len (a + 1) m))
          ∙ and_from _ _ (level a (omega (arith, few)) P.safety (λ y kept. kept) (safety_sorted P well)) (levels (a + 1) m (omega (arith, few)))

  -- the three points of induction

  module _ (n : ℕ) (valid : (i : ℕ) (c : Condition) → slice_get (conditions P n) i ≡ Some c → 0 < i → IsValid P c) (all : AllTrue P N empty_state Nothing P.topology) where
    of_kind : (i : ℕ) (kind : CondKind) → slice_get (kinds P n) (suc i) ≡ Some kind → IsValid P (condition P n kind)
    of_kind i kind there =
        valid (suc i) (condition P n kind) (slice_get-map (condition P n) (kinds P n) (suc i) ∙ ap (option_map (condition P n)) there) (omega arith)

    at_start : (k v : ℕ) → k ≤ n → v < length P.safety → Sat (initial P N) (after_events P k (formula_at P.safety v))
    unfolding truth
    at_start k v few within =
        of_kind (k * length P.safety + v) (Init k v) (init_there (events P) (length (events P)) refl (some_where (is_some P.timeout)) n (length P.safety) (length P.trans) k v (omega (arith, few)) within) N (initial P N) network
        (and_from _ _ (topology_true all (initial P N)) (start_true P N (initial P N) Nothing well (λ r ss cells states declared there. refl)))

    when_safe : (x : State) → IsSafeFor P N n x → Sat x (conjunction (topology P) (safe_for P n))
    unfolding truth
    when_safe x safe = and_from _ _ (topology_true all x) (safe_true n x safe)

    inductive : IsInductiveIn P N n
    inductive = record {
      initially = λ es y few run k d within.
          subst (λ (p : Formula). Sat y p) (formula_there P.safety k d within)
          (runs_end (length es) (formula_at P.safety k) (safety_closed P well k) (initial P N) (at_start (length es) k few within) es y refl run);
      safety = λ x es y safe many run. after_run x es y safe many run;
      trans = λ x event y safe step k d within.
          let there = trans_there (events P) (length (events P)) refl (some_where (is_some P.timeout)) n (length P.safety) (length P.trans) k (kind_of event) (event_there P N event x y step) within in
          let before = of_kind there.0 (Trans k (kind_of event)) there.1 N x network (when_safe x safe) in
          subst (λ (p : Formula). IsTrue (truth (structure P N y (packet_of event)) p no_values)) (formula_there P.trans k d within)
          (event_true event (formula_at P.trans k) (trans_any P well k) x y before step);
    }
      where
        after_run : (x : State) (es : List Event) (y : State) → IsSafeFor P N n x → length es ≡ suc n → Run P N x es y → IsSafe P N y
        after_run x [] y safe many run = absurd (omega (arith, many))
        after_run x (event ∷ es) y safe many (z, step, run) = λ k d within.
            let q : Formula = formula_at P.safety k in
            let there = step_there (events P) (length (events P)) refl (some_where (is_some P.timeout)) n (length P.safety) (length P.trans) k (kind_of event) (event_there P N event x z step) within in
            let before = of_kind there.0 (StepKind k (kind_of event)) there.1 N x network (when_safe x safe) in
            subst (λ (p : Formula). Sat y p) (formula_there P.safety k d within)
            (runs_end n q (safety_closed P well k) z
            (event_kept event (after_events P n q) (events_closed P well n q (safety_closed P well k)) x z before step) es y (omega (arith, many)) run)

pub sound : (P : Parts) → IsWellSorted P → (n : ℕ) → ((i : ℕ) (c : Condition) → slice_get (conditions P n) i ≡ Some c → 0 < i → IsValid P c) → IsInductive n P
sound P well n valid = λ N is_topology. inductive P well N is_topology.network n valid is_topology.topology
