-- Lists that are put in order.
use Rattle.std.proofs.Common.{◌≡◌, ◌≢◌, ◌∙◌, ap, sym, refl, ℕ, ◌==◌, Bool, true, false, ◌||◌, List, [], ◌∷◌, ◌++◌, arith}
use Rattle.std.specs.List.{All, AllByRecursion, AllPairs}
use Rattle.std.specs.Ordering.{match_ordering, nat_cmp, is_eq, ordering_reverse}
use Rattle.std.specs.declared.cmp.Ordering.{Ordering}
use Rattle.std.specs.declared.cmp.Ordering.TheVariants.{Less, Equal, Greater}
use Rattle.std.specs.Cmp.{IsTotalOrder, nat_cmp_total}
use Rattle.std.specs.BTreeSet.{insert_key}
use Rattle.std.specs.List.Sorted.{IsStrictlySortedBy}
use Rattle.std.proofs.Math.Bool.{or-false}
use Rattle.std.proofs.lemmas.Bool.{eqb-true}
use Rattle.std.proofs.lemmas.Map.Views.{All-insert_key}
use Rattle.std.proofs.lemmas.Map.Keys.{below_from_sorted}
use Rattle.net_structs.specs.Networks.{has, put_in_order, in_order}
use Rattle.net_structs.proofs.Tied.{is_eq-nat_cmp}

module _ {X : Type 0} {R : X → X → Ordering} (o : IsTotalOrder R) where
  each-insert : (P : X → Type 0) (xs : List X) (x : X) → AllByRecursion P xs → P x → AllByRecursion P (insert_key R xs x)
  each-insert P [] x all one = (one, tt)
  each-insert P (y ∷ ys) x all one = elim (R x y) as (λ r. AllByRecursion P (match_ordering r (x ∷ y ∷ ys) (y ∷ ys) (y ∷ insert_key R ys x))) [
    | Less ↦ (one, all)
    | Equal ↦ all
    | Greater ↦ (all.0, each-insert P ys x all.1 one)
  ]

  below_all : (x y : X) (ys : List X) → R x y ≡ Less → AllByRecursion (λ z. R y z ≡ Less) ys → AllByRecursion (λ z. R x z ≡ Less) ys
  below_all x y [] less all = tt
  below_all x y (z ∷ zs) less all = (o.trans x y z less all.0, below_all x y zs less all.1)

  pub sorted-insert : (xs : List X) (x : X) → IsStrictlySortedBy R xs → IsStrictlySortedBy R (insert_key R xs x)
  unfolding IsStrictlySortedBy
  sorted-insert [] x sorted = (tt, tt)
  sorted-insert (y ∷ ys) x sorted = elim (R x y) as (λ r. R x y ≡ r → IsStrictlySortedBy R (match_ordering r (x ∷ y ∷ ys) (y ∷ ys) (y ∷ insert_key R ys x))) [
    | Less ↦ λ is. ((is, below_all x y ys is sorted.0), sorted)
    | Equal ↦ λ is. sorted
    | Greater ↦ λ is. (each-insert (λ z. R y z ≡ Less) ys x sorted.0 (o.antisymm y x ∙ ap ordering_reverse is), sorted-insert ys x sorted.1)
  ] refl

  sorted-put : (done xs : List X) → IsStrictlySortedBy R done → IsStrictlySortedBy R (put_in_order R done xs)
  sorted-put done [] sorted = sorted
  sorted-put done (x ∷ xs) sorted = sorted-put (insert_key R done x) xs (sorted-insert done x sorted)

  -- a list in order is strictly sorted
  pub sorted-in_order : (xs : List X) → IsStrictlySortedBy R (in_order R xs)
  unfolding IsStrictlySortedBy
  sorted-in_order xs = sorted-put [] xs tt

  pub insert_last : (xs : List X) (x : X) → AllByRecursion (λ y. R y x ≡ Less) xs → insert_key R xs x ≡ xs ++ x ∷ []
  insert_last [] x below = refl
  insert_last (y ∷ ys) x below =
      ap (λ r. match_ordering r (x ∷ y ∷ ys) (y ∷ ys) (y ∷ insert_key R ys x)) (o.antisymm x y ∙ ap ordering_reverse below.0)
      ∙ ap (λ zs. y ∷ zs) (insert_last ys x below.1)

-- all members of the put-in-order list are members of one of the two
pub all-put : {X : Type 0} (R : X → X → Ordering) (P : X → Type 0) (done xs : List X) → All P done → AllByRecursion P xs → All P (put_in_order R done xs)
all-put R P done [] all more = all
all-put R P done (x ∷ xs) all more = all-put R P (insert_key R done x) xs (All-insert_key R x P done all more.0) more.1

or_swap : (a b c : Bool) → (a || (b || c)) ≡ (b || (a || c))
or_swap true true c = refl
or_swap true false c = refl
or_swap false true c = refl
or_swap false false c = refl

or_again : (a b : Bool) → (a || b) ≡ (a || (a || b))
or_again true b = refl
or_again false b = refl

or_moved : (a b c : Bool) → ((a || b) || c) ≡ (b || (a || c))
or_moved true true c = refl
or_moved true false c = refl
or_moved false true c = refl
or_moved false false c = refl

same_number : (x y m : ℕ) → nat_cmp x y ≡ Equal → (m == x) ≡ (m == y)
same_number x y m is = ap (λ n. m == n) (eqb-true x y (sym (is_eq-nat_cmp x y) ∙ ap is_eq is))

has-insert : (xs : List ℕ) (x m : ℕ) → has (insert_key nat_cmp xs x) m ≡ ((m == x) || has xs m)
has-insert [] x m = refl
has-insert (y ∷ ys) x m = elim (nat_cmp x y) as (λ r. nat_cmp x y ≡ r → has (match_ordering r (x ∷ y ∷ ys) (y ∷ ys) (y ∷ insert_key nat_cmp ys x)) m ≡ ((m == x) || ((m == y) || has ys m))) [
  | Less ↦ λ is. refl
  | Equal ↦ λ is. or_again (m == y) (has ys m) ∙ ap (λ b. b || ((m == y) || has ys m)) (sym (same_number x y m is))
  | Greater ↦ λ is. ap (λ b. (m == y) || b) (has-insert ys x m) ∙ or_swap (m == y) (m == x) (has ys m)
] refl

has-put : (done xs : List ℕ) (m : ℕ) → has (put_in_order nat_cmp done xs) m ≡ (has done m || has xs m)
has-put done [] m = sym (or-false (has done m))
has-put done (x ∷ xs) m = has-put (insert_key nat_cmp done x) xs m ∙ ap (λ b. b || has xs m) (has-insert done x m) ∙ or_moved (m == x) (has done m) (has xs m)

-- a list in order has the same elements
pub has-in_order : (xs : List ℕ) (m : ℕ) → has (in_order nat_cmp xs) m ≡ has xs m
has-in_order xs m = has-put [] xs m

-- and each of them once
pub distinct-in_order : (xs : List ℕ) → AllPairs (λ m n. m ≢ n) (in_order nat_cmp xs)
distinct-in_order xs i j d before within is =
    let less = below_from_sorted (in_order nat_cmp xs) i j d (sorted-in_order nat_cmp_total xs) before within in
    omega (arith, less, is)
