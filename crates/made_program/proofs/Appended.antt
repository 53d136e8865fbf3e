-- What is appended turn by turn.
use Rattle.std.proofs.Common.{ℕ, List, ◌+◌, ◌++◌, ◌≡◌, ◌∙◌, suc, zero, ap, sym, arith}
use Rattle.std.proofs.lemmas.List.{append-nil, append_assoc}
use Rattle.std.specs.Prelude.{flat_map}
use Rattle.std.specs.List.{range_with_len}

-- one number more at the end
pub flat-more : (f : ℕ → List ℕ) (a n : ℕ) → flat_map f (range_with_len a (suc n)) ≡ flat_map f (range_with_len a n) ++ f (a + n)
flat-more f a zero = let same : a + 0 ≡ a = omega arith in append-nil (f a) ∙ ap f (sym same)
flat-more f a (suc n) =
    let same : a + 1 + n ≡ a + suc n = omega arith in
    ap (λ z. f a ++ z) (flat-more f (a + 1) n ∙ ap (λ k. flat_map f (range_with_len (a + 1) n) ++ f k) same) ∙ sym (append_assoc (f a) (flat_map f (range_with_len (a + 1) n)) (f (a + suc n)))

pub one_more : (f : ℕ → List ℕ) (old now new : List ℕ) (a n m k : ℕ) → now ≡ old ++ flat_map f (range_with_len a n) → new ≡ now ++ f k → a + n ≡ k → n + 1 ≡ m
    → new ≡ old ++ flat_map f (range_with_len a m)
one_more f old now new a n m k so_far turn at more =
    let next : suc n ≡ m = omega (arith, more) in
    turn ∙ ap (λ z. z ++ f k) so_far ∙ append_assoc old (flat_map f (range_with_len a n)) (f k)
    ∙ ap (λ z. old ++ z) (ap (λ j. flat_map f (range_with_len a n) ++ f j) (sym at) ∙ sym (flat-more f a n) ∙ ap (λ j. flat_map f (range_with_len a j)) next)

-- the numbers that were left are none
pub all_numbers : (f : ℕ → List ℕ) (old now : List ℕ) (a n m : ℕ) → now ≡ old ++ flat_map f (range_with_len a n) → n ≡ m → now ≡ old ++ flat_map f (range_with_len a m)
all_numbers f old now a n m so_far e = so_far ∙ ap (λ j. old ++ flat_map f (range_with_len a j)) e

-- three texts, one after another
pub three : (old x y z now1 now2 now3 : List ℕ) → now1 ≡ old ++ x → now2 ≡ now1 ++ y → now3 ≡ now2 ++ z → now3 ≡ old ++ (x ++ (y ++ z))
three old x y z now1 now2 now3 e1 e2 e3 =
    e3 ∙ ap (λ w. w ++ z) e2 ∙ append_assoc now1 y z ∙ ap (λ w. w ++ (y ++ z)) e1 ∙ append_assoc old x (y ++ z)

-- five texts, one after another
pub five : (x y z v w now1 now2 now3 now4 now5 : List ℕ) → now1 ≡ x → now2 ≡ now1 ++ y → now3 ≡ now2 ++ z → now4 ≡ now3 ++ v → now5 ≡ now4 ++ w
    → now5 ≡ x ++ (y ++ (z ++ (v ++ w)))
five x y z v w now1 now2 now3 now4 now5 e1 e2 e3 e4 e5 =
    let rest : now5 ≡ now2 ++ (z ++ (v ++ w)) = three now2 z v w now3 now4 now5 e3 e4 e5 in
    rest ∙ ap (λ t. t ++ (z ++ (v ++ w))) (e2 ∙ ap (λ t. t ++ y) e1) ∙ append_assoc x y (z ++ (v ++ w))
