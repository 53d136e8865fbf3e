-- Lists that rise, built up from their front.
use Rattle.std.proofs.Common.{◌≡◌, ◌∙◌, ap, sym, subst, refl, ℕ, ◌==◌, true, false, List, [], ◌∷◌, ◌++◌, append_assoc, append-nil, if◌then◌else◌}
use Rattle.std.specs.List.{AllByRecursion}
use Rattle.std.specs.Ordering.{nat_cmp, is_eq}
use Rattle.std.specs.declared.cmp.Ordering.{Ordering}
use Rattle.std.specs.declared.cmp.Ordering.TheVariants.{Less}
use Rattle.std.specs.Cmp.{IsTotalOrder}
use Rattle.std.specs.BTreeSet.{insert_key}
use Rattle.std.specs.List.Sorted.{IsStrictlySortedBy}
use Rattle.text_lines.specs.Distinct.{has, are_distinct}
use Rattle.net_structs.specs.Networks.{put_in_order, in_order}
use Rattle.net_structs.proofs.Ordered.{insert_last}
use Rattle.net_structs.proofs.Tied.{is_eq-nat_cmp}

at_middle : {X : Type 0} (P : X → Type 0) (xs : List X) (x : X) (ys : List X) → AllByRecursion P (xs ++ x ∷ ys) → P x
at_middle P [] x ys all = all.0
at_middle P (z ∷ xs) x ys all = at_middle P xs x ys all.1

-- a rising list whose front is one member longer
pub rises_on : {X : Type 0} (R : X → X → Ordering) (done : List X) (x : X) (rest : List X) → IsStrictlySortedBy R (done ++ x ∷ rest) → IsStrictlySortedBy R ((done ++ x ∷ []) ++ rest)
rises_on R done x rest rising = subst (IsStrictlySortedBy R) (sym (append_assoc done (x ∷ []) rest)) rising

module _ {X : Type 0} {R : X → X → Ordering} (o : IsTotalOrder R) where
  below_middle : (xs : List X) (x : X) (ys : List X) → IsStrictlySortedBy R (xs ++ x ∷ ys) → AllByRecursion (λ y. R y x ≡ Less) xs
  unfolding IsStrictlySortedBy
  below_middle [] x ys rising = tt
  below_middle (z ∷ xs) x ys rising = (at_middle (λ y. R z y ≡ Less) xs x ys rising.0, below_middle xs x ys rising.1)

  -- the next member of a rising list stands behind those before it
  pub insert_next : (done : List X) (x : X) (rest : List X) → IsStrictlySortedBy R (done ++ x ∷ rest) → insert_key R done x ≡ done ++ x ∷ []
  insert_next done x rest rising = insert_last o done x (below_middle done x rest rising)

  put_rising : (done rest : List X) → IsStrictlySortedBy R (done ++ rest) → put_in_order R done rest ≡ done ++ rest
  put_rising done [] rising = sym (append-nil done)
  put_rising done (x ∷ rest) rising =
      ap (λ d. put_in_order R d rest) (insert_next done x rest rising)
      ∙ put_rising (done ++ x ∷ []) rest (rises_on R done x rest rising)
      ∙ append_assoc done (x ∷ []) rest

  -- a rising list is in order
  pub in_order_rising : (xs : List X) → IsStrictlySortedBy R xs → in_order R xs ≡ xs
  in_order_rising xs rising = put_rising [] xs rising

apart : (x z : ℕ) → nat_cmp x z ≡ Less → (x == z) ≡ false
apart x z less = sym (is_eq-nat_cmp x z) ∙ ap is_eq less

not_among : (x : ℕ) (zs : List ℕ) → AllByRecursion (λ z. nat_cmp x z ≡ Less) zs → has zs x ≡ false
not_among x [] below = refl
not_among x (z ∷ zs) below = ap (λ b. if b then true else has zs x) (apart x z below.0) ∙ not_among x zs below.1

-- and has no member twice
pub distinct_rising : (xs : List ℕ) → IsStrictlySortedBy nat_cmp xs → are_distinct xs ≡ true
unfolding IsStrictlySortedBy
distinct_rising [] rising = refl
distinct_rising (x ∷ xs) rising = ap (λ b. if b then false else are_distinct xs) (not_among x xs rising.0) ∙ distinct_rising xs rising.1
