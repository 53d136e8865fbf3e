-- Steps of loops over the numbers from 0 on.
use Rattle.std.proofs.Common.{◌≡◌, ◌∙◌, ap, sym, arith, ℕ, suc, ◌+◌, ◌-◌, ◌<◌, Bool, true, false, cond, List, [], ◌∷◌, ◌++◌, map, append_assoc}
use Rattle.std.specs.Prelude.{filter}
use Rattle.decision_laws.specs.Classes.{first_from}
use Rattle.decision_laws.specs.Vocabulary.{places_from}

-- the first number of a range, and the others
pub range_step : (i n : ℕ) → i < n → places_from i (n - i) ≡ i ∷ places_from (i + 1) (n - (i + 1))
range_step i n l =
    let more : n - i ≡ suc (n - (i + 1)) = omega (arith, l) in
    let next : suc i ≡ i + 1 = omega arith in
    ap (places_from i) more ∙ ap (λ k. i ∷ places_from k (n - (i + 1))) next

pub first_step : (test : ℕ → Bool) (i n : ℕ) → i < n → test i ≡ false → first_from test (i + 1) (n - (i + 1)) ≡ first_from test i (n - i)
first_step test i n l off =
    let more : n - i ≡ suc (n - (i + 1)) = omega (arith, l) in
    let next : suc i ≡ i + 1 = omega arith in
    sym (ap (first_from test i) more ∙ ap (λ b. cond b i (first_from test (suc i) (n - (i + 1)))) off ∙ ap (λ k. first_from test k (n - (i + 1))) next)

pub first_here : (test : ℕ → Bool) (i n : ℕ) → i < n → test i ≡ true → first_from test i (n - i) ≡ i
first_here test i n l on =
    let more : n - i ≡ suc (n - (i + 1)) = omega (arith, l) in
    ap (first_from test i) more ∙ ap (λ b. cond b i (first_from test (suc i) (n - (i + 1)))) on

kept_one : {X : Type 0} (b : Bool) (x : X) (done rest : List X) → (done ++ cond b (x ∷ []) []) ++ rest ≡ done ++ cond b (x ∷ rest) rest
kept_one true x done rest = append_assoc done (x ∷ []) rest
kept_one false x done rest = append_assoc done [] rest

pub kept_step : (test : ℕ → Bool) (done : List ℕ) (i n : ℕ) → i < n → (done ++ cond (test i) (i ∷ []) []) ++ filter test (places_from (i + 1) (n - (i + 1))) ≡ done ++ filter test (places_from i (n - i))
kept_step test done i n l =
    kept_one (test i) i done (filter test (places_from (i + 1) (n - (i + 1)))) ∙ ap (λ xs. done ++ filter test xs) (sym (range_step i n l))

pub mapped_step : {X : Type 0} (f : ℕ → X) (done : List X) (i n : ℕ) → i < n → (done ++ f i ∷ []) ++ map f (places_from (i + 1) (n - (i + 1))) ≡ done ++ map f (places_from i (n - i))
mapped_step f done i n l =
    append_assoc done (f i ∷ []) (map f (places_from (i + 1) (n - (i + 1)))) ∙ ap (λ xs. done ++ map f xs) (sym (range_step i n l))

-- the same, where each number is one more
pub next_step : (test : ℕ → Bool) (done : List ℕ) (i n : ℕ) → i < n → (done ++ cond (test (i + 1)) ((i + 1) ∷ []) []) ++ filter test (places_from (i + 1 + 1) (n - (i + 1))) ≡ done ++ filter test (places_from (i + 1) (n - i))
next_step test done i n l =
    let more : n - i ≡ suc (n - (i + 1)) = omega (arith, l) in
    let next : suc (i + 1) ≡ i + 1 + 1 = omega arith in
    kept_one (test (i + 1)) (i + 1) done (filter test (places_from (i + 1 + 1) (n - (i + 1))))
    ∙ ap (λ k. done ++ filter test ((i + 1) ∷ places_from k (n - (i + 1)))) (sym next) ∙ ap (λ k. done ++ filter test (places_from (i + 1) k)) (sym more)
