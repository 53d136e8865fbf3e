-- A run is what lies between the first and the last state of a history.
use Rattle.std.proofs.Common.{◌≡◌, ◌↔◌, ◌∙◌, ap, ℕ, zero, suc, ◌<◌, List, [], ◌∷◌, ◌++◌, length, take, Some, None, get_or, refl, sym, subst, arith}
use Rattle.std.specs.Prelude.{slice_get}
use Rattle.std.proofs.lemmas.Option.{slice_get_within, slice_get-get_or}
use Rattle.csdn_core.specs.declared.event.Event.{Event}
use Rattle.csdn_core.specs.declared.program.Parts.{Parts}
use Rattle.csdn_core.specs.Network.{Network, State}
use Rattle.csdn_core.specs.Run.{initial, Step, Run}
use Rattle.csdn_core.specs.Holds.{HoldsIn, Holds}
use Rattle.csdn_core.specs.History.{IsHistory, HoldsInHistories, HoldsInAllHistories}

none_is : {X : Type 0} (x : X) → None ≡ Some x → ⊥
none_is x h = cc

some_is : {X : Type 0} (x y : X) → Some x ≡ Some y → x ≡ y
some_is x y h = cc

module _ (P : Parts) (N : Network) where
  moved : (x start : State) (event other : Event) (y next : State) → Some start ≡ Some x → Some other ≡ Some event → Some next ≡ Some y → Step P N start other next → Step P N x event y
  moved x start event other y next is_x is_event is_y step =
      let A : State → Type 0 = λ (s : State). Step P N s other next in
      let B : Event → Type 0 = λ (e : Event). Step P N x e next in
      let C : State → Type 0 = λ (s : State). Step P N x event s in
      subst C (some_is next y is_y) (subst B (some_is other event is_event) (subst A (some_is start x is_x) step))

  -- what is left of a history after its first event
  rest : (start first next : State) (event : Event) (events : List Event) (states : List State) → IsHistory P N start (event ∷ events) (first ∷ next ∷ states) → IsHistory P N next events (next ∷ states)
  rest start first next event events states history = record {
    one_longer = let h : length (first ∷ next ∷ states) ≡ suc (length (event ∷ events)) = history.one_longer in omega arith;
    first = refl;
    step = λ k e x y is_e is_x is_y. history.step (suc k) e x y is_e is_x is_y;
  }

  -- the events before a state of a history lead to it
  run_to : (events : List Event) (states : List State) (start : State) → IsHistory P N start events states → (k : ℕ) (x : State) → slice_get states k ≡ Some x → Run P N start (take k events) x
  run_to events [] start history k x is = absurd (none_is x is)
  run_to events (first ∷ states) start history zero x is =
      let at_first : Some first ≡ Some x = is in
      let at_start : Some first ≡ Some start = history.first in
      sym (some_is first x at_first) ∙ some_is first start at_start
  run_to [] (first ∷ states) start history (suc k) x is =
      let within : k < length states = slice_get_within states k x is in
      let h : length (first ∷ states) ≡ suc zero = history.one_longer in
      absurd (omega arith)
  run_to (event ∷ events) (first ∷ []) start history (suc k) x is = absurd (none_is x is)
  run_to (event ∷ events) (first ∷ next ∷ states) start history (suc k) x is =
      (next, history.step 0 event start next refl history.first refl, run_to events (next ∷ states) next (rest start first next event events states history) k x is)

  -- the state before an event of a history
  before : (start : State) (events : List Event) (states : List State) → IsHistory P N start events states → (k : ℕ) (event : Event) (other : State) → slice_get events k ≡ Some event → (x : State) × (slice_get states k ≡ Some x)
  before start events states history k event other is =
      let within : k < length events = slice_get_within events k event is in
      let longer : length states ≡ suc (length events) = history.one_longer in
      (get_or states k other, slice_get-get_or states k other (omega arith))

  pub in_histories : HoldsIn P N → HoldsInHistories P N
  in_histories holds = record {
    safety = λ events states history k x is. holds.safety (take k events) x (run_to events states (initial P N) history k x is);
    trans = λ events states history k event y is_event is_y.
        let found : (x : State) × (slice_get states k ≡ Some x) = before (initial P N) events states history k event y is_event in
        holds.trans (take k events) found.0 event y (run_to events states (initial P N) history k found.0 found.1) (history.step k event found.0 y is_event found.1 is_y);
  }

  -- the states that a run goes through
  states_of : (start : State) (events : List Event) (y : State) → Run P N start events y → List State
  states_of start [] y run = start ∷ []
  states_of start (event ∷ events) y (z, step, run) = start ∷ states_of z events y run

  states_of-first : (start : State) (events : List Event) (y : State) (run : Run P N start events y) → slice_get (states_of start events y run) 0 ≡ Some start
  unfolding states_of
  states_of-first start [] y run = refl
  states_of-first start (event ∷ events) y (z, step, run) = refl

  states_of-last : (start : State) (events : List Event) (y : State) (run : Run P N start events y) → slice_get (states_of start events y run) (length events) ≡ Some y
  unfolding states_of
  states_of-last start [] y run = let S : State → Type 0 = λ s. Some start ≡ Some s in subst S (sym run) refl
  states_of-last start (event ∷ events) y (z, step, run) = states_of-last z events y run

  length-states_of : (start : State) (events : List Event) (y : State) (run : Run P N start events y) → length (states_of start events y run) ≡ suc (length events)
  unfolding states_of
  length-states_of start [] y run = refl
  length-states_of start (event ∷ events) y (z, step, run) =
      let h : length (states_of z events y run) ≡ suc (length events) = length-states_of z events y run in ap suc h

  step_of : (start : State) (events : List Event) (y : State) (run : Run P N start events y) (k : ℕ) (e : Event) (x next : State)
      → slice_get events k ≡ Some e → slice_get (states_of start events y run) k ≡ Some x → slice_get (states_of start events y run) (suc k) ≡ Some next → Step P N x e next
  unfolding states_of
  step_of start [] y run k e x next is_e is_x is_next = absurd (none_is e is_e)
  step_of start (event ∷ events) y (z, step, run) zero e x next is_e is_x is_next =
      moved x start e event next z is_x is_e (sym (states_of-first z events y run) ∙ is_next) step
  step_of start (event ∷ events) y (z, step, run) (suc k) e x next is_e is_x is_next = step_of z events y run k e x next is_e is_x is_next

  history_of : (start : State) (events : List Event) (y : State) (run : Run P N start events y) → IsHistory P N start events (states_of start events y run)
  history_of start events y run = record {
    one_longer = length-states_of start events y run;
    first = states_of-first start events y run;
    step = step_of start events y run;
  }

  one_more : (start : State) (events : List Event) (x : State) (event : Event) (y : State) → Run P N start events x → Step P N x event y → Run P N start (events ++ event ∷ []) y
  one_more start [] x event y run step = let S : State → Type 0 = λ s. Step P N s event y in (y, subst S run step, refl)
  one_more start (e ∷ events) x event y (z, first, run) step = (z, first, one_more z events x event y run step)

  at_end : (events : List Event) (event : Event) → slice_get (events ++ event ∷ []) (length events) ≡ Some event
  at_end [] event = refl
  at_end (e ∷ events) event = at_end events event

  length-one_more : (events : List Event) (event : Event) → length (events ++ event ∷ []) ≡ suc (length events)
  length-one_more [] event = refl
  length-one_more (e ∷ events) event = ap suc (length-one_more events event)

  pub in_runs : HoldsInHistories P N → HoldsIn P N
  in_runs holds = record {
    safety = λ events y run. holds.safety events (states_of (initial P N) events y run) (history_of (initial P N) events y run) (length events) y (states_of-last (initial P N) events y run);
    trans = λ events x event y run step.
        let longer : Run P N (initial P N) (events ++ event ∷ []) y = one_more (initial P N) events x event y run step in
        let S : ℕ → Type 0 = λ n. slice_get (states_of (initial P N) (events ++ event ∷ []) y longer) n ≡ Some y in
        holds.trans (events ++ event ∷ []) (states_of (initial P N) (events ++ event ∷ []) y longer) (history_of (initial P N) (events ++ event ∷ []) y longer) (length events) event y
        (at_end events event) (subst S (length-one_more events event) (states_of-last (initial P N) (events ++ event ∷ []) y longer));
  }

pub holds_as_histories : (P : Parts) → Holds P ↔ HoldsInAllHistories P
holds_as_histories P = (λ holds N topology. in_histories P N (holds N topology), λ holds N topology. in_runs P N (holds N topology))
