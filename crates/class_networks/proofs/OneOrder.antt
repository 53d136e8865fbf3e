-- Lists that are put in order: their members, and that lists with the same members are one.
use Rattle.std.proofs.Common.{◌≡◌, ◌∙◌, ap, refl, inl, inr, ℕ, true, List, [], ◌∷◌, ◌⊎◌}
use Rattle.std.specs.List.{list_any}
use Rattle.std.specs.Ordering.{match_ordering, nat_cmp}
use Rattle.std.specs.declared.cmp.Ordering.{Ordering}
use Rattle.std.specs.declared.cmp.Ordering.TheVariants.{Less, Equal, Greater}
use Rattle.std.specs.Cmp.{IsTotalOrder, both_ways, nat_cmp_total, on_total, then_total}
use Rattle.std.specs.Cmp.Lexicographic.{nat_list_cmp_total, slice_cmp}
use Rattle.std.specs.BTreeMap.{is_at}
use Rattle.std.specs.BTreeSet.{BTreeSet, insert_key}
use Rattle.std.proofs.lemmas.Map.Lookups.{CmpEqualImpliesEq, btree_set_from_contains, exact_bytes, exact_pairs, exact_unsigned}
use Rattle.csdn_core.specs.Members.{IsIn}
use Rattle.csdn_core.specs.Network.{StaticRow}
use Rattle.decision_laws.proofs.Basics.{any_from, any_gives}
use Rattle.net_structs.specs.Networks.{in_order, put_in_order, static_cmp}
use Rattle.net_structs.proofs.Ordered.{sorted-in_order}

module _ {X : Type 0} {R : X → X → Ordering} (o : IsTotalOrder R) (exact : CmpEqualImpliesEq R) where
  in_insert : (x y : X) (ys : List X) → IsIn y (insert_key R ys x) → (y ≡ x) ⊎ IsIn y ys
  in_insert x y [] i = i
  in_insert x y (z ∷ zs) i = elim (R x z) as (λ r. IsIn y (match_ordering r (x ∷ z ∷ zs) (z ∷ zs) (z ∷ insert_key R zs x)) → (y ≡ x) ⊎ IsIn y (z ∷ zs)) [
    | Less ↦ λ h. h
    | Equal ↦ λ h. inr h
    | Greater ↦ λ h. elim h [
      | inl e ↦ inr (inl e)
      | inr later ↦ elim (in_insert x y zs later) [ inl e ↦ inl e | inr r ↦ inr (inr r) ]
    ]
  ] i

  insert_in : (x y : X) (ys : List X) → (y ≡ x) ⊎ IsIn y ys → IsIn y (insert_key R ys x)
  insert_in x y [] i = i
  insert_in x y (z ∷ zs) i = elim (R x z) as (λ r. R x z ≡ r → IsIn y (match_ordering r (x ∷ z ∷ zs) (z ∷ zs) (z ∷ insert_key R zs x))) [
    | Less ↦ λ is. i
    | Equal ↦ λ is. elim i [ inl e ↦ inl (e ∙ exact x z is) | inr r ↦ r ]
    | Greater ↦ λ is. elim i [
      | inl e ↦ inr (insert_in x y zs (inl e))
      | inr r ↦ elim r [ inl e ↦ inl e | inr later ↦ inr (insert_in x y zs (inr later)) ]
    ]
  ] refl

  in_put : (y : X) (done xs : List X) → IsIn y (put_in_order R done xs) → IsIn y done ⊎ IsIn y xs
  in_put y done [] i = inl i
  in_put y done (x ∷ xs) i = elim (in_put y (insert_key R done x) xs i) [
    | inl here ↦ elim (in_insert x y done here) [ inl e ↦ inr (inl e) | inr there ↦ inl there ]
    | inr later ↦ inr (inr later)
  ]

  put_in : (y : X) (done xs : List X) → IsIn y done ⊎ IsIn y xs → IsIn y (put_in_order R done xs)
  put_in y done [] i = elim i [ inl here ↦ here | inr later ↦ elim later [ ] ]
  put_in y done (x ∷ xs) i = put_in y (insert_key R done x) xs (elim i [
    | inl here ↦ inl (insert_in x y done (inr here))
    | inr later ↦ elim later [ inl e ↦ inl (insert_in x y done (inl e)) | inr r ↦ inr r ]
  ])

  -- a list in order has the members of the list
  pub in_ordered : (y : X) (xs : List X) → IsIn y (in_order R xs) → IsIn y xs
  in_ordered y xs i = elim (in_put y [] xs i) [ inl none ↦ elim none [ ] | inr r ↦ r ]

  pub ordered_in : (y : X) (xs : List X) → IsIn y xs → IsIn y (in_order R xs)
  ordered_in y xs i = put_in y [] xs (inr i)

  has_one : (q : X) (xs ys : List X) → ((y : X) → IsIn y xs → IsIn y ys) → list_any (is_at (R q)) (in_order R xs) ≡ true → list_any (is_at (R q)) (in_order R ys) ≡ true
  has_one q xs ys h e =
      let w = any_gives (is_at (R q)) (in_order R xs) e in
      any_from (is_at (R q)) (in_order R ys) w.0 (ordered_in w.0 ys (h w.0 (in_ordered w.0 xs w.1))) w.2

  -- lists with the same members are one in order
  pub one_order : (xs ys : List X) → ((y : X) → IsIn y xs → IsIn y ys) → ((y : X) → IsIn y ys → IsIn y xs) → in_order R xs ≡ in_order R ys
  one_order xs ys f g =
      let left : BTreeSet X = record { keys = in_order R xs } in
      let right : BTreeSet X = record { keys = in_order R ys } in
      btree_set_from_contains o left right (sorted-in_order o xs) (sorted-in_order o ys)
      (λ q. both_ways (list_any (is_at (R q)) (in_order R xs)) (list_any (is_at (R q)) (in_order R ys)) (has_one q xs ys f) (has_one q ys xs g)) exact

pub static_total : IsTotalOrder static_cmp
static_total = then_total (on_total (λ (row : StaticRow). row.rel) nat_cmp_total) (on_total (λ (row : StaticRow). row.cells) nat_list_cmp_total)

pub exact_static : CmpEqualImpliesEq static_cmp
exact_static a b h =
    ap (λ (p : ℕ × List ℕ). record { rel = p.0; cells = p.1 }) (exact_pairs nat_cmp (slice_cmp nat_cmp) exact_unsigned exact_bytes (a.rel, a.cells) (b.rel, b.cells) h)
