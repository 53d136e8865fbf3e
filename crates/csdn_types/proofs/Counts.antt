-- How many items of a list pass a test. What does not hang on the order of a list is said by counts.
use Rattle.std.proofs.Common.{◌≡◌, ◌≢◌, ℕ, ◌+◌, ◌<◌, ◌≤◌, zero, suc, Bool, true, false, cond, List, [], ◌∷◌, ◌++◌, length, get_or, filter, flat_map, All, AllPairs, Contains, Decides, is_some, position, inl, inr, refl, sym, ap, ◌∙◌, arith}
use Rattle.std.specs.List.{AllByRecursion, IsDistinct, list_any}
use Rattle.std.proofs.lemmas.Bool.{cases_Bool, cond-true, cond-false, false_from_ne_true, or_parts}
use Rattle.std.proofs.lemmas.List.Elements.{All-from_recursion, Contains-append_right}
use Rattle.std.proofs.lemmas.Map.Made.{AllPairs-from_IsDistinct}
use Rattle.csdn_types.proofs.Lists.{is_some-position}

-- 1 where the test passes
abbrev pub passes : Bool → ℕ
passes b = cond b 1 0

pub passes-true : (b : Bool) → b ≡ true → passes b ≡ 1
passes-true b is = cond-true b 1 0 is

pub passes-false : (b : Bool) → b ≡ false → passes b ≡ 0
passes-false b is = cond-false b 1 0 is

unfoldable pub times : {X : Type 0} → (X → Bool) → List X → ℕ
times p [] = 0
times p (x ∷ xs) = passes (p x) + times p xs

pub times-nil : {X : Type 0} (p : X → Bool) → times p [] ≡ 0
unfolding times
times-nil p = refl

pub times-append : {X : Type 0} (p : X → Bool) (xs ys : List X) → times p (xs ++ ys) ≡ times p xs + times p ys
unfolding times
times-append p [] ys = omega arith
times-append p (x ∷ xs) ys = omega (arith, times-append p xs ys)

pub times-one : {X : Type 0} (p : X → Bool) (x : X) → times p (x ∷ []) ≡ passes (p x)
unfolding times
times-one p x = omega arith

pub times-push : {X : Type 0} (p : X → Bool) (xs : List X) (x : X) → times p (xs ++ x ∷ []) ≡ times p xs + passes (p x)
times-push p xs x = times-append p xs (x ∷ []) ∙ ap (λ n. times p xs + n) (times-one p x)

pub times-filter : {X : Type 0} (p : X → Bool) (xs : List X) → length (filter p xs) ≡ times p xs
unfolding times
times-filter p [] = refl
times-filter p (x ∷ xs) = elim (cases_Bool (p x)) [
  | inl e ↦ rw e (omega (arith, times-filter p xs))
  | inr e ↦ rw e (omega (arith, times-filter p xs))
]

-- the lists of a list's items, one after another
pub times-flat_push : {X A : Type 0} (p : A → Bool) (f : X → List A) (xs : List X) (x : X) → times p (flat_map f (xs ++ x ∷ [])) ≡ times p (flat_map f xs) + times p (f x)
times-flat_push p f [] x = times-append p (f x) [] ∙ rw (times-nil p) (omega arith)
times-flat_push p f (y ∷ xs) x =
    rw (times-append p (f y) (flat_map f (xs ++ x ∷ [])), times-append p (f y) (flat_map f xs)) (omega (arith, times-flat_push p f xs x))

pub times-every : {X : Type 0} (xs : List X) → times (λ x. true) xs ≡ length xs
unfolding times
times-every [] = refl
times-every (x ∷ xs) = omega (arith, times-every xs)

none_of : {X : Type 0} (p : X → Bool) (xs : List X) → list_any p xs ≡ false → times p xs ≡ 0
unfolding times
none_of p [] none = refl
none_of p (x ∷ xs) none =
    let fails = or_parts (p x) (list_any p xs) none in
    omega (arith, passes-false (p x) fails.0, none_of p xs fails.1)

-- no place, no item
pub times-new : {X : Type 0} (p : X → Bool) (xs : List X) → is_some (position p xs) ≡ false → times p xs ≡ 0
times-new p xs new = none_of p xs (sym (is_some-position p xs) ∙ new)

all_fail : {X : Type 0} (p : X → Bool) (xs : List X) → times p xs ≡ 0 → AllByRecursion (λ x. p x ≡ false) xs
unfolding times
all_fail p [] none = tt
all_fail p (x ∷ xs) none = (false_from_ne_true (p x) (λ e. omega (arith, none, passes-true (p x) e)), all_fail p xs (omega (arith, none)))

module _ {X : Type 0} (eq : X → X → Bool) (same : (x y : X) → Decides (eq x y) (x ≡ y)) where
  one : (x : X) → passes (eq x x) ≡ 1
  one x = passes-true (eq x x) ((same x x).1 refl)

  distinct : (xs : List X) → ((x : X) → times (eq x) xs ≤ 1) → IsDistinct eq xs
  unfolding times IsDistinct
  distinct [] once = tt
  distinct (x ∷ xs) once = (all_fail (eq x) xs (omega (arith, once x, one x)), distinct xs (λ y. omega (arith, once y)))

  -- each once: they differ
  pub times-apart : (xs : List X) → ((x : X) → times (eq x) xs ≤ 1) → AllPairs (λ x y. x ≢ y) xs
  times-apart xs once = AllPairs-from_IsDistinct same xs (distinct xs once)

  each : (P : X → Type 0) (xs : List X) → ((x : X) → 0 < times (eq x) xs → P x) → AllByRecursion P xs
  unfolding times
  each P [] holds = tt
  each P (x ∷ xs) holds = (holds x (omega (arith, one x)), each P xs (λ y more. holds y (omega (arith, more))))

  -- what holds of each that is there holds of all
  pub times-All : (P : X → Type 0) (xs : List X) → ((x : X) → 0 < times (eq x) xs → P x) → All P xs
  times-All P xs holds = All-from_recursion P xs (each P xs holds)

  -- one that is new leaves each there once
  pub times-once_more : (xs : List X) (x : X) → times (eq x) xs ≡ 0 → ((y : X) → times (eq y) xs ≤ 1) → (y : X) → times (eq y) (xs ++ x ∷ []) ≤ 1
  times-once_more xs x new once y = elim (cases_Bool (eq y x)) [
    | inl e ↦ omega (arith, times-push (eq y) xs x, passes-true (eq y x) e, ap (λ z. times (eq z) xs) ((same y x).0 e), new)
    | inr e ↦ omega (arith, times-push (eq y) xs x, passes-false (eq y x) e, once y)
  ]

  at : (xs : List X) (x : X) (k : ℕ) → k < length xs → get_or xs k x ≡ x → 0 < times (eq x) xs
  unfolding times
  at [] x k within is = absurd (omega (arith, within))
  at (y ∷ ys) x zero within is = omega (arith, passes-true (eq x y) ((same x y).1 (sym is)))
  at (y ∷ ys) x (suc k) within is = omega (arith, at ys x k (omega (arith, within)) is)

  -- what is there is counted
  pub times-Contains : (xs : List X) (x : X) → Contains xs x → 0 < times (eq x) xs
  times-Contains xs x there = at xs x there.0 there.1 there.2

  pub Contains-times : (xs : List X) (x : X) → 0 < times (eq x) xs → Contains xs x
  unfolding times
  Contains-times [] x more = absurd (omega (arith, more))
  Contains-times (y ∷ ys) x more = elim (cases_Bool (eq x y)) [
    | inl e ↦ (0, omega arith, sym ((same x y).0 e))
    | inr e ↦ Contains-append_right (y ∷ []) ys x (Contains-times ys x (omega (arith, more, passes-false (eq x y) e)))
  ]
