-- Parts of an ordered list of rows: those of a relation, and the flow rules of a match, which stand in one range.
use Rattle.std.proofs.Common.{◌≡◌, ◌∙◌, sym, ap, subst, refl, ℕ, Bool, true, false, true≢false, cond, ◌&&◌, if◌then◌else◌, List, [], ◌∷◌, ◌++◌, not}
use Rattle.std.specs.List.{filter}
use Rattle.std.specs.Ordering.{nat_cmp, is_le, ordering_reverse}
use Rattle.std.specs.Cmp.{nat_cmp_is}
use Rattle.std.specs.List.Sorted.{IsStrictlySortedBy}
use Rattle.std.proofs.lemmas.List.{append-nil}
use Rattle.std.proofs.lemmas.List.Kept.{IsStrictlySortedBy-filter}
use Rattle.std.specs.Cmp.Lexicographic.{slice_cmp}
use Rattle.std.specs.BTreeMap.Range.{range_contains}
use Rattle.std.specs.declared.ops.Bound.TheVariants.{Included, Excluded}
use Rattle.std.specs.declared.cmp.Ordering.TheVariants.{Less, Equal, Greater}
use Rattle.csdn_core.specs.declared.terms.Pred.{Pred}
use Rattle.csdn_core.specs.declared.terms.Pred.TheVariants.{Stored, Ft, Sent, RcvThis}
use Rattle.csdn_core.specs.declared.event.Match.{Match}
use Rattle.csdn_core.specs.Network.{same_cells, same_pred}
use Rattle.csdn_core.proofs.Same.{same_cells-is}
use Rattle.net_structs.specs.declared.row.Row.{Row}
use Rattle.net_structs.specs.Rows.{row_cmp, row_total, rows_of}
use Rattle.net_structs.specs.Flows.{match_cells, output_of, outputs_of, flow_row, first_row, IsPast}

itself : (n : ℕ) → nat_cmp n n ≡ Equal
itself n = sym (nat_cmp_is n n Equal refl)

module _ (m : Match) (p : Row) (past : IsPast m p) where
  abbrev in_range : Row → Bool
  in_range row = range_contains row_cmp (Included (first_row m)) (Excluded p) row

  longer : (s a b i o : ℕ) → slice_cmp nat_cmp (s ∷ a ∷ b ∷ i ∷ []) (s ∷ a ∷ b ∷ i ∷ o ∷ []) ≡ Less
  longer s a b i o = rw (itself s, itself a, itself b, itself i) refl

  not_past : (o : ℕ) → row_cmp p (flow_row m o) ≡ Greater
  not_past o = row_total.antisymm p (flow_row m o) ∙ ap ordering_reverse (past.flows o)

  inside : (o : ℕ) → in_range (flow_row m o) ≡ true
  inside o = ap (λ r. is_le r && not (is_le (row_cmp p (flow_row m o)))) (longer m.s m.a m.b m.i o) ∙ ap (λ r. not (is_le r)) (not_past o)

  outside_by : (cells : List ℕ) (o : ℕ) (t : Bool) → (t ≡ true → match_cells m ≡ cells) → in_range (record { pred = Ft; cells = cells ++ o ∷ [] }) ≡ false → (if t then o ∷ [] else []) ≡ []
  outside_by cells o true same out =
      absurd (true≢false (sym (inside o) ∙ ap (λ ds. in_range (record { pred = Ft; cells = ds ++ o ∷ [] })) (same refl) ∙ out))
  outside_by cells o false same out = refl

  -- a row out of the range is no flow rule of the match
  outside : (q : Pred) (cells : List ℕ) → in_range (record { pred = q; cells = cells }) ≡ false → output_of m (record { pred = q; cells = cells }) ≡ []
  outside (Stored r) cells out = refl
  outside Sent cells out = refl
  outside RcvThis cells out = refl
  outside Ft [] out = refl
  outside Ft (s ∷ []) out = refl
  outside Ft (s ∷ a ∷ []) out = refl
  outside Ft (s ∷ a ∷ b ∷ []) out = refl
  outside Ft (s ∷ a ∷ b ∷ i ∷ []) out = refl
  outside Ft (s ∷ a ∷ b ∷ i ∷ o ∷ []) out =
      outside_by (s ∷ a ∷ b ∷ i ∷ []) o (same_cells (match_cells m) (s ∷ a ∷ b ∷ i ∷ [])) (same_cells-is (match_cells m) (s ∷ a ∷ b ∷ i ∷ [])) out
  outside Ft (s ∷ a ∷ b ∷ i ∷ o ∷ n ∷ more) out = refl

  kept_by : (row : Row) (rows : List Row) (t : Bool) → in_range row ≡ t → outputs_of m (filter in_range rows) ≡ outputs_of m rows → outputs_of m (cond t (row ∷ filter in_range rows) (filter in_range rows)) ≡ outputs_of m (row ∷ rows)
  kept_by row rows true is rest = ap (λ ports. output_of m row ++ ports) rest
  kept_by row rows false is rest = rest ∙ ap (λ ports. ports ++ outputs_of m rows) (sym (outside row.pred row.cells is))

  -- nothing else is looked at
  pub in_range_all : (rows : List Row) → outputs_of m (filter in_range rows) ≡ outputs_of m rows
  in_range_all [] = refl
  in_range_all (row ∷ rows) = kept_by row rows (in_range row) refl (in_range_all rows)

-- what a range of the rows gives, that ends behind the flow rules of the match
pub ranged : (m : Match) (p : Row) → IsPast m p → (cells : List ℕ) (none : List ℕ) (left items keys whole : List Row) → none ≡ [] → left ≡ items
    → items ≡ filter (range_contains row_cmp (Included (record { pred = Ft; cells = cells })) (Excluded p)) keys → cells ≡ match_cells m → keys ≡ whole → none ++ outputs_of m left ≡ outputs_of m whole
ranged m p past cells none left items keys whole no_ports same is begins view =
    ap (λ ports. ports ++ outputs_of m left) no_ports
    ∙ ap (outputs_of m) (same ∙ is ∙ ap (λ ds. filter (range_contains row_cmp (Included (record { pred = Ft; cells = ds })) (Excluded p)) keys) begins)
    ∙ in_range_all m p past keys ∙ ap (outputs_of m) view

-- the rows of a relation rise where all do
pub relation_rises : (r : Pred) (done left keys whole : List Row) → done ++ rows_of r left ≡ rows_of r whole → left ≡ [] → keys ≡ whole → IsStrictlySortedBy row_cmp keys → IsStrictlySortedBy row_cmp done
relation_rises r done left keys whole goes none view sorted =
    let all : done ≡ rows_of r whole = sym (append-nil done) ∙ ap (λ rows. done ++ rows_of r rows) (sym none) ∙ goes in
    subst (IsStrictlySortedBy row_cmp) (sym all) (IsStrictlySortedBy-filter row_cmp (λ row. same_pred r row.pred) whole (subst (IsStrictlySortedBy row_cmp) view sorted))
