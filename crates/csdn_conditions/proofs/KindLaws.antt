-- The kinds of a level, by their numbers.
use Rattle.std.proofs.Common.{◌≡◌, ◌≢◌, ◌∙◌, sym, ap, Bool, ℕ, zero, suc, ◌+◌, ◌*◌, ◌-◌, ◌/◌, ◌%◌, ◌<◌, ◌≤◌, List, ◌++◌, length, Some, arith, length-append}
use Rattle.std.specs.Prelude.{slice_get, option_map}
use Rattle.std.specs.List.{flat_map}
use Rattle.std.proofs.Math.Nat.{mod-lt, div-lt_iff_lt-mul, mul-le-mul_right}
use Rattle.std.proofs.lemmas.Nat.{div-add-mod'}
use Rattle.std.proofs.lemmas.List.{length-map}
use Rattle.std.proofs.lemmas.List.FromFn.{length-map-range_with_len, get_or-map-range_with_len}
use Rattle.std.proofs.lemmas.Option.{slice_get-get_or, slice_get-map, slice_get_within}
use Rattle.csdn_conditions.specs.declared.kinds.EventKind.{EventKind}
use Rattle.csdn_conditions.specs.declared.kinds.CondKind.{CondKind}
use Rattle.csdn_conditions.specs.declared.kinds.CondKind.TheVariants.{Network, Init, Step, Trans}
use Rattle.csdn_conditions.specs.Kinds.{below, events_where, inits_after, steps_of, trans_of, kinds_of}
use Rattle.csdn_conditions.proofs.Places.{get-front, get-back, length-pieces, get-pieces}

length-inits : (s k : ℕ) → length (inits_after s k) ≡ s
length-inits s k = length-map-range_with_len (λ v. Init k v) 0 s

-- the r-th of s invariants
get-invariant : (s k r : ℕ) → r < s → slice_get (inits_after s k) r ≡ Some (Init k r)
get-invariant s k r small =
    slice_get-get_or (inits_after s k) r Network (omega (arith, small, length-inits s k))
    ∙ ap Some (get_or-map-range_with_len (λ v. Init k v) 0 s r r Network small (omega arith))

-- an event of the list
abbrev pub IsOneOf : List EventKind → EventKind → Type 0
IsOneOf es event = (r : ℕ) × (slice_get es r ≡ Some event)

-- the remainder and the quotient of a place among m pieces of s elements
quotient : (i m s : ℕ) → 0 < s → i < m * s → i / s < m
quotient i m s some within = (div-lt_iff_lt-mul some).1 within

some_of : (i m s : ℕ) → i < m * s → 0 < s
some_of i m zero within = absurd (omega arith)
some_of i m (suc s) within = omega arith

-- m events
module _ (es : List EventKind) (m : ℕ) (many : length es ≡ m) (some_events : 0 < m) (n s t : ℕ) where
  length-steps : (v : ℕ) → length (steps_of es v) ≡ m
  length-steps v = length-map es (λ event. Step v event) ∙ many

  length-trans : (v : ℕ) → length (trans_of es v) ≡ m
  length-trans v = length-map es (λ event. Trans v event) ∙ many

  abbrev inits : List CondKind
  inits = flat_map (inits_after s) (below (n + 1))

  abbrev steps : List CondKind
  steps = flat_map (steps_of es) (below s)

  abbrev trans : List CondKind
  trans = flat_map (trans_of es) (below t)

  many_inits : length inits ≡ (n + 1) * s
  many_inits = length-pieces (inits_after s) s (length-inits s) 0 (n + 1)

  many_steps : length steps ≡ s * m
  many_steps = length-pieces (steps_of es) m length-steps 0 s

  many_trans : length trans ≡ t * m
  many_trans = length-pieces (trans_of es) m length-trans 0 t

  pub length-kinds : length (kinds_of es n s t) ≡ 1 + (n + 1) * s + s * m + t * m
  length-kinds =
      let after = length-append steps trans in
      let all = length-append inits (steps ++ trans) in
      omega (arith, many_inits, many_steps, many_trans, after, all)

  inits_first : (p : ℕ) → p < (n + 1) * s → slice_get (kinds_of es n s t) (suc p) ≡ Some (Init (p / s) (p % s))
  inits_first p within =
      let some = some_of p (n + 1) s within in
      let small : p % s < s = mod-lt p some in
      let none : 0 + p / s ≡ p / s = omega arith in
      get-front inits (steps ++ trans) p (omega (arith, within, many_inits))
      ∙ ap (slice_get inits) (sym (div-add-mod' p s))
      ∙ get-pieces (inits_after s) s (length-inits s) 0 (n + 1) (p / s) (p % s) (quotient p (n + 1) s some within) small
      ∙ ap (λ k. slice_get (inits_after s k) (p % s)) none
      ∙ get-invariant s (p / s) (p % s) small

  steps_next : (p : ℕ) (event : EventKind) → p < s * m → slice_get es (p % m) ≡ Some event → slice_get (kinds_of es n s t) (suc ((n + 1) * s + p)) ≡ Some (Step (p / m) event)
  steps_next p event within is =
      let none : 0 + p / m ≡ p / m = omega arith in
      ap (λ k. slice_get (inits ++ (steps ++ trans)) (k + p)) (sym many_inits)
      ∙ get-back inits (steps ++ trans) p
      ∙ get-front steps trans p (omega (arith, within, many_steps))
      ∙ ap (slice_get steps) (sym (div-add-mod' p m))
      ∙ get-pieces (steps_of es) m length-steps 0 s (p / m) (p % m) (quotient p s m some_events within) (mod-lt p some_events)
      ∙ ap (λ k. slice_get (steps_of es k) (p % m)) none
      ∙ slice_get-map (λ e. Step (p / m) e) es (p % m)
      ∙ ap (option_map (λ e. Step (p / m) e)) is

  trans_last : (p : ℕ) (event : EventKind) → p < t * m → slice_get es (p % m) ≡ Some event → slice_get (kinds_of es n s t) (suc ((n + 1) * s + (s * m + p))) ≡ Some (Trans (p / m) event)
  trans_last p event within is =
      let none : 0 + p / m ≡ p / m = omega arith in
      let past_steps : s * m ≡ length steps = sym many_steps in
      ap (λ k. slice_get (inits ++ (steps ++ trans)) (k + (s * m + p))) (sym many_inits)
      ∙ get-back inits (steps ++ trans) (s * m + p)
      ∙ ap (λ k. slice_get (steps ++ trans) (k + p)) past_steps
      ∙ get-back steps trans p
      ∙ ap (slice_get trans) (sym (div-add-mod' p m))
      ∙ get-pieces (trans_of es) m length-trans 0 t (p / m) (p % m) (quotient p t m some_events within) (mod-lt p some_events)
      ∙ ap (λ k. slice_get (trans_of es k) (p % m)) none
      ∙ slice_get-map (λ e. Trans (p / m) e) es (p % m)
      ∙ ap (option_map (λ e. Trans (p / m) e)) is

  -- by what they say

  pub init_there : (k v : ℕ) → k < n + 1 → v < s → slice_get (kinds_of es n s t) (suc (k * s + v)) ≡ Some (Init k v)
  init_there k v few small =
      let none : 0 + k ≡ k = omega arith in
      let all : (k + 1) * s ≤ (n + 1) * s = mul-le-mul_right s (omega (arith, few)) in
      get-front inits (steps ++ trans) (k * s + v) (omega (arith, all, small, many_inits))
      ∙ get-pieces (inits_after s) s (length-inits s) 0 (n + 1) k v few small
      ∙ ap (λ j. slice_get (inits_after s j) v) none
      ∙ get-invariant s k v small

  step_of : (v r : ℕ) → v < s → r < m → slice_get (kinds_of es n s t) (suc ((n + 1) * s + (v * m + r))) ≡ slice_get (steps_of es v) r
  step_of v r few small =
      let none : 0 + v ≡ v = omega arith in
      let all : (v + 1) * m ≤ s * m = mul-le-mul_right m (omega (arith, few)) in
      ap (λ j. slice_get (inits ++ (steps ++ trans)) (j + (v * m + r))) (sym many_inits)
      ∙ get-back inits (steps ++ trans) (v * m + r)
      ∙ get-front steps trans (v * m + r) (omega (arith, all, small, many_steps))
      ∙ get-pieces (steps_of es) m length-steps 0 s v r few small
      ∙ ap (λ j. slice_get (steps_of es j) r) none

  -- a number below which no event is missing
  place_small : (r : ℕ) (event : EventKind) → slice_get es r ≡ Some event → r < m
  place_small r event is = let within : r < length es = slice_get_within es r event is in omega (arith, within, many)

  pub step_there : (v : ℕ) (event : EventKind) → IsOneOf es event → v < s → (i : ℕ) × (slice_get (kinds_of es n s t) (suc i) ≡ Some (Step v event))
  step_there v event (r, is) few =
      ((n + 1) * s + (v * m + r), step_of v r few (place_small r event is) ∙ slice_get-map (λ e. Step v e) es r ∙ ap (option_map (λ e. Step v e)) is)

  trans_of_event : (u r : ℕ) → u < t → r < m → slice_get (kinds_of es n s t) (suc ((n + 1) * s + (length steps + (u * m + r)))) ≡ slice_get (trans_of es u) r
  trans_of_event u r few small =
      let none : 0 + u ≡ u = omega arith in
      ap (λ j. slice_get (inits ++ (steps ++ trans)) (j + (length steps + (u * m + r)))) (sym many_inits)
      ∙ get-back inits (steps ++ trans) (length steps + (u * m + r))
      ∙ get-back steps trans (u * m + r)
      ∙ get-pieces (trans_of es) m length-trans 0 t u r few small
      ∙ ap (λ j. slice_get (trans_of es j) r) none

  pub trans_there : (u : ℕ) (event : EventKind) → IsOneOf es event → u < t → (i : ℕ) × (slice_get (kinds_of es n s t) (suc i) ≡ Some (Trans u event))
  trans_there u event (r, is) few =
      ((n + 1) * s + (length steps + (u * m + r)), trans_of_event u r few (place_small r event is) ∙ slice_get-map (λ e. Trans u e) es r ∙ ap (option_map (λ e. Trans u e)) is)

  -- by the number of the condition

  pub init_at : (i : ℕ) → i ≢ 0 → i - 1 < (n + 1) * s → slice_get (kinds_of es n s t) i ≡ Some (Init ((i - 1) / s) ((i - 1) % s))
  init_at i some within =
      let place : i ≡ suc (i - 1) = omega (arith, some) in
      ap (slice_get (kinds_of es n s t)) place ∙ inits_first (i - 1) within

  pub step_at : (i : ℕ) (event : EventKind) → i ≢ 0 → (n + 1) * s ≤ i - 1 → i - 1 - (n + 1) * s < s * m → slice_get es ((i - 1 - (n + 1) * s) % m) ≡ Some event
      → slice_get (kinds_of es n s t) i ≡ Some (Step ((i - 1 - (n + 1) * s) / m) event)
  step_at i event some past within is =
      let place : i ≡ suc ((n + 1) * s + (i - 1 - (n + 1) * s)) = omega (arith, some, past) in
      ap (slice_get (kinds_of es n s t)) place ∙ steps_next (i - 1 - (n + 1) * s) event within is

  pub step_within : (p : ℕ) → p < s * m → p / m < s
  step_within p within = quotient p s m some_events within

  module _ (i : ℕ) (there : i < length (kinds_of es n s t)) (some : i ≢ 0) (past : (n + 1) * s ≤ i - 1) (further : s * m ≤ i - 1 - (n + 1) * s) where
    last_small : i - 1 - (n + 1) * s - s * m < t * m
    last_small = omega (arith, there, length-kinds, some)

    pub trans_at : (event : EventKind) → slice_get es ((i - 1 - (n + 1) * s - s * m) % m) ≡ Some event → slice_get (kinds_of es n s t) i ≡ Some (Trans ((i - 1 - (n + 1) * s - s * m) / m) event)
    trans_at event is =
        let place : i ≡ suc ((n + 1) * s + (s * m + (i - 1 - (n + 1) * s - s * m))) = omega (arith, some, past, further) in
        ap (slice_get (kinds_of es n s t)) place ∙ trans_last (i - 1 - (n + 1) * s - s * m) event last_small is

    pub trans_within : (i - 1 - (n + 1) * s - s * m) / m < t
    trans_within = quotient (i - 1 - (n + 1) * s - s * m) t m some_events last_small

pub init_within : (n s p : ℕ) → p < (n + 1) * s → (p / s ≤ n) × (p % s < s)
init_within n s p within =
    let some = some_of p (n + 1) s within in
    let few : p / s < n + 1 = quotient p (n + 1) s some within in
    (omega (arith, few), mod-lt p some)

pub some_where : (timed : Bool) → 0 < length (events_where timed)
some_where timed = omega arith
