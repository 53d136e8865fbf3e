-- Where the elements of a list of pieces stand.
use Rattle.std.proofs.Common.{◌≡◌, ◌∙◌, ap, refl, ℕ, zero, suc, ◌+◌, ◌*◌, ◌<◌, List, [], ◌∷◌, ◌++◌, length, arith, length-append}
use Rattle.std.specs.Prelude.{slice_get}
use Rattle.std.specs.List.{flat_map, range_with_len}

pub get-front : {X : Type 0} (xs ys : List X) (i : ℕ) → i < length xs → slice_get (xs ++ ys) i ≡ slice_get xs i
get-front [] ys i within = absurd (omega arith)
get-front (x ∷ xs) ys zero within = refl
get-front (x ∷ xs) ys (suc i) within = get-front xs ys i (omega arith)

pub get-back : {X : Type 0} (xs ys : List X) (i : ℕ) → slice_get (xs ++ ys) (length xs + i) ≡ slice_get ys i
get-back [] ys i = let same : 0 + i ≡ i = omega arith in ap (slice_get ys) same
get-back (x ∷ xs) ys i =
    let same : length (x ∷ xs) + i ≡ suc (length xs + i) = omega arith in
    ap (slice_get (x ∷ xs ++ ys)) same ∙ get-back xs ys i

-- of pieces of n elements each
module _ {X : Type 0} (f : ℕ → List X) (n : ℕ) (each : (k : ℕ) → length (f k) ≡ n) where
  pub length-pieces : (a m : ℕ) → length (flat_map f (range_with_len a m)) ≡ m * n
  length-pieces a zero = omega arith
  length-pieces a (suc m) =
      let rest = length-pieces (a + 1) m in
      let first = each a in
      length-append (f a) (flat_map f (range_with_len (a + 1) m)) ∙ omega (arith, rest, first)

  -- the r-th element of the q-th piece
  pub get-pieces : (a m q r : ℕ) → q < m → r < n → slice_get (flat_map f (range_with_len a m)) (q * n + r) ≡ slice_get (f (a + q)) r
  get-pieces a zero q r within inside = absurd (omega arith)
  get-pieces a (suc m) zero r within inside =
      let place : zero * n + r ≡ r = omega arith in
      let here : a ≡ a + zero = omega arith in
      ap (slice_get (flat_map f (range_with_len a (suc m)))) place
      ∙ get-front (f a) (flat_map f (range_with_len (a + 1) m)) r (omega (arith, each a))
      ∙ ap (λ k. slice_get (f k) r) here
  get-pieces a (suc m) (suc q) r within inside =
      let first = each a in
      let place : suc q * n + r ≡ length (f a) + (q * n + r) = omega (arith, first) in
      let there : (a + 1) + q ≡ a + suc q = omega arith in
      ap (slice_get (flat_map f (range_with_len a (suc m)))) place
      ∙ get-back (f a) (flat_map f (range_with_len (a + 1) m)) (q * n + r)
      ∙ get-pieces (a + 1) m q r (omega arith) inside
      ∙ ap (λ k. slice_get (f k) r) there
