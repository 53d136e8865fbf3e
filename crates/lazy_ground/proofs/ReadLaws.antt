-- What is read: needs, ranges of atoms, literals of facts, and clauses put one after another.
use Rattle.std.proofs.Common.{◌≡◌, ◌∙◌, ℕ, suc, ◌+◌, ◌-◌, ◌<◌, ◌≤◌, Bool, false, ◌||◌, List, [], ◌∷◌, ◌++◌, length, get_or, take, drop, flat_map, map, refl, sym, ap, arith, inl, inr, eqb, eqb-true}
use Rattle.std.proofs.lemmas.Bool.{cases_Bool, cases_lt}
use Rattle.std.proofs.lemmas.List.{take_more}
use Rattle.std.specs.List.Sorted.{IsNonDecreasing}
use Rattle.general_facts.proofs.Lists.{rest_is}
use Rattle.clause_log.specs.Literals.{Literal, literal_true, signed, truths}
use Rattle.decision_laws.specs.Copies.{Fact}
use Rattle.ground_inst.specs.Facts.{num_of}
use Rattle.ground_inst.specs.Walk.{literal_of, ways_of}
use Rattle.copy_truth.specs.declared.reading.Reading.{Reading}
use Rattle.lazy_ground.specs.Found.{once, put_clause}
use Rattle.lazy_ground.specs.Readings.{IsFree, IsPast, true_by}
use Rattle.copy_truth.specs.Said.{said_by}

-- an atom that stands at no place of a list
not_there : (xs : List ℕ) (x : ℕ) → ((k : ℕ) → k < length xs → get_or xs k 0 ≡ x → ⊥) → truths xs x ≡ false
not_there [] x h = refl
not_there (y ∷ ys) x h =
    elim (cases_Bool (eqb y x)) [
      | inl t ↦ absurd (h 0 (omega arith) (eqb-true y x t))
      | inr f ↦ ap (λ b. b || truths ys x) f ∙ not_there ys x (λ k l e. h (suc k) (omega (arith, l)) e)
    ]

pub rising_at : (xs : List ℕ) → IsNonDecreasing xs → (i j : ℕ) → i ≤ j → j < length xs → get_or xs i 0 ≤ get_or xs j 0
rising_at xs h i j l m = h i j 0 l m

pub free_between : (xs : List ℕ) (first place count : ℕ) → ((i j : ℕ) → i ≤ j → j < length xs → get_or xs i 0 ≤ get_or xs j 0) → ((k : ℕ) → k < place → get_or xs k 0 < first) → IsPast xs place (first + count) → IsFree (truths xs) first count
free_between xs first place count rises before past x low high =
    not_there xs x (λ k l e.
    elim (cases_lt k place) [
      | inl s ↦ (let b = before k s in omega (arith, b, e, low))
      | inr s ↦ (let r = rises place k s l in let p = past (omega (arith, s, l)) in omega (arith, r, p, e, high))
    ])

pub leaf_value : (r : Reading) (sign : Bool) (fact : Fact) (l : Literal) (b : Bool) → b ≡ literal_true (true_by r) l → l ≡ literal_of (ways_of r.names) sign fact → (w : ℕ → Bool) → w (num_of r.names.facts.now fact) ≡ said_by r fact → b ≡ literal_true w (literal_of (ways_of r.names) sign fact)
unfolding said_by
leaf_value r sign fact l b e q w h = e ∙ ap (literal_true (true_by r)) q ∙ ap (signed sign) (sym h)

-- Clauses one after another.

once_last : (done cs : List (List Literal)) (c : List Literal) → once done (cs ++ c ∷ []) ≡ put_clause (once done cs) c
once_last done [] c = refl
once_last done (d ∷ cs) c = once_last (put_clause done d) cs c

pub once_next : (cs : List (List Literal)) (at : ℕ) → at < length cs → once [] (take (at + 1) cs) ≡ put_clause (once [] (take at cs)) (get_or cs at [])
once_next cs at l = ap (once []) (take_more cs at [] l) ∙ once_last [] (take at cs) (get_or cs at [])

-- the first of a list, and the rest as a loop takes it
pub flat_first : {X Y : Type 0} (f : X → List Y) (d : X) (xs : List X) → 1 ≤ length xs → flat_map f xs ≡ f (get_or xs 0 d) ++ flat_map f (take (length xs - 1) (drop 1 xs))
flat_first f d [] l = absurd (omega (arith, l))
flat_first f d (x ∷ xs) l = ap (λ z. f x ++ flat_map f z) (sym (rest_is x xs))

pub flat_last : {X Y : Type 0} (f : X → List Y) (xs : List X) → length xs < 1 → flat_map f xs ≡ []
flat_last f [] l = refl
flat_last f (x ∷ xs) l = absurd (omega (arith, l))

pub mapped_first : {X Y Z : Type 0} (f : Y → List Z) (g : X → Y) (d : X) (xs : List X) → 1 ≤ length xs → flat_map f (map g xs) ≡ f (g (get_or xs 0 d)) ++ flat_map f (map g (take (length xs - 1) (drop 1 xs)))
mapped_first f g d [] l = absurd (omega (arith, l))
mapped_first f g d (x ∷ xs) l = ap (λ z. f (g x) ++ flat_map f (map g z)) (sym (rest_is x xs))

pub mapped_last : {X Y Z : Type 0} (f : Y → List Z) (g : X → Y) (xs : List X) → length xs < 1 → flat_map f (map g xs) ≡ []
mapped_last f g [] l = refl
mapped_last f g (x ∷ xs) l = absurd (omega (arith, l))
