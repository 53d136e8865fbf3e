-- A row taken out of rows that rise.
use Rattle.std.proofs.Common.{◌≡◌, ◌∙◌, sym, ap, refl, subst, ℕ, Bool, true, false, true≢false, not, cond, ◌&&◌, ◌||◌, List, [], ◌∷◌}
use Rattle.std.proofs.Math.Path.{fun_ext}
use Rattle.std.proofs.lemmas.Bool.{false_from_ne_true}
use Rattle.std.specs.List.{AllByRecursion, list_any}
use Rattle.std.specs.Ordering.{is_eq}
use Rattle.std.specs.declared.cmp.Ordering.{Ordering}
use Rattle.std.specs.declared.cmp.Ordering.TheVariants.{Less, Equal, Greater}
use Rattle.std.specs.List.Sorted.{IsStrictlySortedBy}
use Rattle.std.specs.BTreeMap.{is_at}
use Rattle.std.specs.Set.{remove_key}
use Rattle.csdn_core.specs.declared.terms.Pred.{Pred}
use Rattle.csdn_core.specs.Network.{same_pred, same_cells}
use Rattle.csdn_core.specs.Execution.{take_out}
use Rattle.net_structs.specs.declared.row.Row.{Row}
use Rattle.net_structs.specs.Rows.{row_cmp, held}
use Rattle.net_structs.proofs.Tied.{row_is, held_tied}
use Rattle.net_structs.proofs.OneList.{equal_rows}

each_left : {K : Type 0} (P : K → Type 0) (test : K → Bool) (ks : List K) → AllByRecursion P ks → AllByRecursion P (remove_key test ks)
each_left P test [] all = tt
each_left P test (k ∷ ks) all = by_test (test k) (each_left P test ks all.1)
  where
    by_test : (t : Bool) → AllByRecursion P (remove_key test ks) → AllByRecursion P (cond t ks (k ∷ remove_key test ks))
    by_test true rest = all.1
    by_test false rest = (all.0, rest)

pub sorted_left : {K : Type 0} (R : K → K → Ordering) (test : K → Bool) (ks : List K) → IsStrictlySortedBy R ks → IsStrictlySortedBy R (remove_key test ks)
unfolding IsStrictlySortedBy
sorted_left R test [] sorted = tt
sorted_left R test (k ∷ ks) sorted = by_test (test k) (each_left (λ l. R k l ≡ Less) test ks sorted.0) (sorted_left R test ks sorted.1)
  where
    by_test : (t : Bool) → AllByRecursion (λ l. R k l ≡ Less) (remove_key test ks) → IsStrictlySortedBy R (remove_key test ks) → IsStrictlySortedBy R (cond t ks (k ∷ remove_key test ks))
    by_test true above rest = sorted.1
    by_test false above rest = (above, rest)

module _ (row : Row) where
  tie : Row → Bool
  tie x = is_eq (row_cmp row x)

  none_tied : (rows : List Row) → AllByRecursion (λ x. row_cmp row x ≡ Less) rows → list_any (is_at (row_cmp row)) rows ≡ false
  none_tied [] above = refl
  none_tied (x ∷ xs) above = ap (λ r. is_eq r || list_any (is_at (row_cmp row)) xs) above.0 ∙ none_tied xs above.1

  -- a row is not among those behind it
  absent : (rows : List Row) → AllByRecursion (λ x. row_cmp row x ≡ Less) rows → held rows row.pred row.cells ≡ false
  absent rows above = sym (held_tied row rows) ∙ none_tied rows above

  is_equal : (o : Ordering) → is_eq o ≡ true → o ≡ Equal
  is_equal Less is = absurd (true≢false (sym is))
  is_equal Equal is = refl
  is_equal Greater is = absurd (true≢false (sym is))

  one_gone : (t h : Bool) → (t ≡ true → h ≡ false) → h ≡ ((t || h) && not t)
  one_gone true h none = none refl
  one_gone false true none = refl
  one_gone false false none = refl

  other_stays : (t h u : Bool) → (t ≡ true → u ≡ false) → (t || (h && not u)) ≡ ((t || h) && not u)
  other_stays true h u apart = ap not (sym (apart refl))
  other_stays false h u apart = refl

  -- whether a tuple is that of the row
  abbrev is_tuple : Row → Pred → List ℕ → Bool
  is_tuple x q ds = same_pred q x.pred && same_cells ds x.cells

  the_row : (x : Row) (q : Pred) (ds : List ℕ) → is_tuple x q ds ≡ true → record { pred = q; cells = ds } ≡ x
  the_row x q ds same = equal_rows (record { pred = q; cells = ds }) x (is_equal (row_cmp (record { pred = q; cells = ds }) x) (row_is (record { pred = q; cells = ds }) x ∙ same))

  same_gone : (x : Row) (xs : List Row) (q : Pred) (ds : List ℕ) → row ≡ x → AllByRecursion (λ y. row_cmp x y ≡ Less) xs → held xs q ds ≡ take_out (held (x ∷ xs)) row.pred row.cells q ds
  same_gone x xs q ds is above =
      one_gone (is_tuple x q ds) (held xs q ds) (λ same. ap (λ (y : Row). held xs y.pred y.cells) (the_row x q ds same ∙ sym is) ∙ absent xs (subst (λ (y : Row). AllByRecursion (λ z. row_cmp y z ≡ Less) xs) (sym is) above))
      ∙ ap (λ (y : Row). held (x ∷ xs) q ds && not (is_tuple y q ds)) (sym is)

  other_kept : (x : Row) (xs : List Row) (q : Pred) (ds : List ℕ) → tie x ≡ false → (is_tuple x q ds || (held xs q ds && not (is_tuple row q ds))) ≡ take_out (held (x ∷ xs)) row.pred row.cells q ds
  unfolding tie
  other_kept x xs q ds other = other_stays (is_tuple x q ds) (held xs q ds) (is_tuple row q ds) apart
    where
      tied : is_tuple x q ds ≡ true → is_tuple row q ds ≡ true → is_eq (row_cmp row x) ≡ true
      tied here there = ap (λ (y : Row). is_eq (row_cmp y x)) (sym (the_row row q ds there)) ∙ row_is (record { pred = q; cells = ds }) x ∙ here

      apart : is_tuple x q ds ≡ true → is_tuple row q ds ≡ false
      apart here = false_from_ne_true (is_tuple row q ds) (λ there. true≢false (sym (tied here there) ∙ other))

  taken_at : (rows : List Row) → IsStrictlySortedBy row_cmp rows → (q : Pred) (ds : List ℕ) → held (remove_key (is_at (row_cmp row)) rows) q ds ≡ take_out (held rows) row.pred row.cells q ds
  unfolding IsStrictlySortedBy tie
  taken_at [] sorted q ds = refl
  taken_at (x ∷ xs) sorted q ds = by_tie (taken_at xs sorted.1 q ds) (is_eq (row_cmp row x)) refl
    where
      by_tie : held (remove_key (is_at (row_cmp row)) xs) q ds ≡ take_out (held xs) row.pred row.cells q ds → (t : Bool) → is_eq (row_cmp row x) ≡ t → held (cond t xs (x ∷ remove_key (is_at (row_cmp row)) xs)) q ds ≡ take_out (held (x ∷ xs)) row.pred row.cells q ds
      by_tie rest true is = same_gone x xs q ds (equal_rows row x (is_equal (row_cmp row x) is)) sorted.0
      by_tie rest false is = ap (λ b. is_tuple x q ds || b) rest ∙ other_kept x xs q ds is

  pub taken : (rows : List Row) → IsStrictlySortedBy row_cmp rows → held (remove_key (is_at (row_cmp row)) rows) ≡ take_out (held rows) row.pred row.cells
  taken rows sorted = fun_ext (λ q. fun_ext (λ ds. taken_at rows sorted q ds))
