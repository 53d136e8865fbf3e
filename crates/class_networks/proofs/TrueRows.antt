-- What is put into the network and the state, where the rows are those of the tuples that are judged true.
use Rattle.std.proofs.Common.{◌≡◌, ◌∙◌, ap, ap₂, sym, refl, subst, arith, inl, inr, cond, map, ℕ, ◌<◌, Bool, true, false, not, ◌&&◌, List, [], ◌∷◌, Some, length, Contains}
use Rattle.std.proofs.Math.Path.{fun_ext}
use Rattle.std.proofs.lemmas.Bool.{and_from, and_parts, false≢true}
use Rattle.std.specs.Cmp.{both_ways}
use Rattle.std.specs.List.{list_any}
use Rattle.std.specs.Prelude.{option_map}
use Rattle.csdn_core.specs.Finite.{Tuple as AnyTuple}
use Rattle.csdn_core.specs.Members.{IsIn}
use Rattle.csdn_core.proofs.Members.{flat_in, in_both, in_flat, in_map, map_in, one_in}
use Rattle.csdn_core.specs.Network.{HaveElements, Network, StaticRow, elements, is_fixed, same_cells, same_pred}
use Rattle.csdn_core.specs.Sorted.{sorts_of}
use Rattle.csdn_core.specs.WellSorted.{signature}
use Rattle.csdn_core.proofs.Same.{same_cells-is, same_cells-refl, same_pred-is, same_pred-refl}
use Rattle.csdn_core.specs.declared.program.Parts.{Parts}
use Rattle.csdn_core.specs.declared.syntax.Formula.{Formula}
use Rattle.csdn_core.specs.declared.terms.Pred.{Pred}
use Rattle.csdn_core.specs.declared.terms.Pred.TheVariants.{Ft, RcvThis, Sent, Stored}
use Rattle.csdn_core.specs.declared.terms.RelId.{RelId}
use Rattle.csdn_core.specs.declared.terms.Sort.{Sort}
use Rattle.clause_log.specs.Literals.{truths}
use Rattle.fol_forms.specs.Constants.{counts}
use Rattle.fol_forms.specs.Forms.{form_of}
use Rattle.decision_laws.specs.Classes.{Meaning, all_tuples, is_static, network_of, number, state_of, static_rows, true_tuples, values_of}
use Rattle.decision_laws.specs.Copies.{AreBelow, Fact, Tuple}
use Rattle.decision_laws.specs.Laws.{judged, words}
use Rattle.decision_laws.specs.Vocabulary.{all_relations, places_from, sorts_or, uses}
use Rattle.decision_laws.proofs.Basics.{any_from, any_gives, in_place, relation_in}
use Rattle.decision_laws.proofs.Lists.{filter_in, in_filter, in_tuples, tuple_in}
use Rattle.decision_laws.proofs.Networks.{in_if}
use Rattle.net_structs.specs.declared.row.Row.{Row}
use Rattle.net_structs.specs.Networks.{in_order, static_cmp}
use Rattle.net_structs.specs.Rows.{held, row_cmp, row_total, tuple_of}
use Rattle.net_structs.specs.StateTuples.{IsKept, IsStateTuple}
use Rattle.net_structs.proofs.OneList.{equal_rows}
use Rattle.class_networks.specs.Made.{fixed_row, fixed_rows, fixed_tuple, is_stored, stored_rows}
use Rattle.class_networks.proofs.ClassNumbers.{some_at}
use Rattle.class_networks.proofs.JudgedRows.{IsTrueRow}
use Rattle.class_networks.proofs.OneOrder.{exact_static, in_ordered, one_order, ordered_in, static_total}

if_in : {X : Type 0} (b : Bool) (xs : List X) (x : X) → b ≡ true → IsIn x xs → IsIn x (cond b xs [])
if_in true xs x e i = i
if_in false xs x e i = absurd (false≢true e)

false_from : (b : Bool) → not b ≡ true → b ≡ false
false_from true e = sym e
false_from false e = refl

-- What rows hold.

held_gives : (rows : List Row) (r : Pred) (cells : List ℕ) → held rows r cells ≡ true → IsIn (record { pred = r; cells = cells }) rows
held_gives rows r cells e =
    let test : AnyTuple → Bool = λ t. same_pred r t.rel && same_cells cells t.cells in
    let w = any_gives test (map tuple_of rows) e in
    let m = map_in tuple_of rows w.0 w.1 in
    let p = and_parts (same_pred r w.0.rel) (same_cells cells w.0.cells) w.2 in
    let same : record { pred = r; cells = cells } ≡ m.0 = ap₂ (λ q cs. record { pred = q; cells = cs }) (same_pred-is r w.0.rel p.0 ∙ ap (λ t. t.rel) m.2) (same_cells-is cells w.0.cells p.1 ∙ ap (λ t. t.cells) m.2) in
    subst (λ row. IsIn row rows) (sym same) m.1

held_from : (rows : List Row) (r : Pred) (cells : List ℕ) → IsIn (record { pred = r; cells = cells }) rows → held rows r cells ≡ true
held_from rows r cells i =
    any_from (λ t. same_pred r t.rel && same_cells cells t.cells) (map tuple_of rows) (record { rel = r; cells = cells }) (in_map tuple_of rows (record { pred = r; cells = cells }) i)
    (and_from (same_pred r r) (same_cells cells cells) (same_pred-refl r) (same_cells-refl cells))

-- The relations of a program.

-- a relation that has tuples in a network or state: it has sorts, and is kept by the state where it isn't static
record IsListed (P : Parts) (r : Pred) : Type 0 where
  sorts : List Sort
  declared : sorts_of (signature P) r ≡ Some sorts
  kept : is_static P r ≡ false → IsKept P r

listed : (P : Parts) (r : Pred) → IsIn r (all_relations P) → IsListed P r
listed P r i =
    let stored : ℕ → Pred = λ k. Stored (record { 0 = k }) in
    elim (in_both (map stored (places_from 0 (length P.relations))) (Ft ∷ Sent ∷ []) r i) [
      | inl a ↦ (
          let w = map_in stored (places_from 0 (length P.relations)) r a in
          let d = some_at P.relations w.0 (omega (arith, (in_place 0 (length P.relations) w.0 w.1).1)) in
          let whole : IsListed P (stored w.0) = record { sorts = d.0.sorts; declared = ap (option_map (λ z. z.sorts)) d.1; kept = λ h. h } in
          subst (IsListed P) (sym w.2) whole)
      | inr a ↦ elim a [
        | inl e ↦ (let whole : IsListed P Ft = record { sorts = sorts_or (sorts_of (signature P) Ft); declared = refl; kept = λ h. tt } in subst (IsListed P) (sym e) whole)
        | inr b ↦ elim b [
          | inl e ↦ (let whole : IsListed P Sent = record { sorts = sorts_or (sorts_of (signature P) Sent); declared = refl; kept = λ h. tt } in subst (IsListed P) (sym e) whole)
          | inr none ↦ absurd none
        ]
      ]
    ]

have_elements : (N : Network) (n : Sort → ℕ) (ρ : Meaning) → ((s : Sort) (a : ℕ) → a < n s → Contains (elements N s) (ρ s a)) → (ss : List Sort) (xs : List ℕ) → AreBelow n ss xs → HaveElements N ss (values_of ρ ss xs)
unfolding HaveElements
have_elements N n ρ home [] [] l = tt
have_elements N n ρ home [] (x ∷ xs) l = elim l [ ]
have_elements N n ρ home (s ∷ ss) [] l = elim l [ ]
have_elements N n ρ home (s ∷ ss) (x ∷ xs) l = (home s x l.0, have_elements N n ρ home ss xs l.1)

module _ (P : Parts) (F : Formula) (trues : List ℕ) where
  abbrev j : Fact → Bool
  j = judged P F (truths trues)

  abbrev meaning : Meaning
  meaning = number P (form_of F) (judged P F (truths trues))

  true_in : (r : Pred) (xs : List ℕ) → AreBelow (counts P F) ((words P F).columns r) xs → j (Tuple r xs) ≡ true → IsIn xs (true_tuples P (form_of F) j r)
  true_in r xs l e = in_filter (λ ys. j (Tuple r ys)) (all_tuples (counts P F) ((words P F).columns r)) xs (tuple_in (counts P F) ((words P F).columns r) xs l) e

  in_true : (r : Pred) (xs : List ℕ) → IsIn xs (true_tuples P (form_of F) j r) → AreBelow (counts P F) ((words P F).columns r) xs × (j (Tuple r xs) ≡ true)
  in_true r xs i =
      let w = filter_in (λ ys. j (Tuple r ys)) (all_tuples (counts P F) ((words P F).columns r)) xs i in
      (in_tuples (counts P F) ((words P F).columns r) xs w.0, w.1)

  -- Static relations.

  abbrev static_row : RelId → List ℕ → StaticRow
  static_row r xs = record { rel = r.0; cells = values_of meaning ((words P F).columns (Stored r)) xs }

  fixed_one : (r : Pred) (xs : List ℕ) (y : StaticRow) → IsIn xs (true_tuples P (form_of F) j r) → IsIn y (fixed_tuple P r (values_of meaning ((words P F).columns r) xs)) → IsIn y (static_rows P (form_of F) j r)
  fixed_one (Stored r) xs y t i =
      let w = in_if (is_fixed P r.0) (static_row r xs ∷ []) y i in
      let all = map (static_row r) (true_tuples P (form_of F) j (Stored r)) in
      if_in (is_fixed P r.0) all y w.0 (subst (λ z. IsIn z all) (sym (one_in y (static_row r xs) w.1)) (in_map (static_row r) (true_tuples P (form_of F) j (Stored r)) xs t))
  fixed_one Ft xs y t i = elim i [ ]
  fixed_one Sent xs y t i = elim i [ ]
  fixed_one RcvThis xs y t i = elim i [ ]

  fixed_static : (row : Row) (y : StaticRow) → IsTrueRow P F trues row → IsIn y (fixed_row P row) → IsIn y (network_of P (form_of F) j).rows
  fixed_static row y t i =
      in_flat (static_rows P (form_of F) j) (words P F).relations t.relation y t.one
      (fixed_one t.relation t.places y (true_in t.relation t.places t.below t.holds) (subst (λ w. IsIn y (fixed_row P w)) t.is i))

  record IsFixedFrom (y : StaticRow) : Type 0 where
    row : Row
    is_true : IsTrueRow P F trues row
    one : IsIn y (fixed_row P row)

  static_one : (r : Pred) (y : StaticRow) → IsIn r (words P F).relations → IsIn y (static_rows P (form_of F) j r) → IsFixedFrom y
  static_one (Stored r) y used i =
      let all = true_tuples P (form_of F) j (Stored r) in
      let w = in_if (is_fixed P r.0) (map (static_row r) all) y i in
      let m = map_in (static_row r) all y w.1 in
      let t = in_true (Stored r) m.0 m.1 in
      record {
        row = record { pred = Stored r; cells = values_of meaning ((words P F).columns (Stored r)) m.0 };
        is_true = record { relation = Stored r; one = used; places = m.0; below = t.0; holds = t.1; is = refl };
        one = if_in (is_fixed P r.0) (static_row r m.0 ∷ []) y w.0 (inl m.2);
      }
  static_one Ft y used i = elim i [ ]
  static_one Sent y used i = elim i [ ]
  static_one RcvThis y used i = elim i [ ]

  -- The state.

  state_true : (row : Row) → IsTrueRow P F trues row → is_static P row.pred ≡ false → state_of P (form_of F) j row.pred row.cells ≡ true
  state_true row t kept =
      let voc = words P F in
      let r = t.relation in
      let cells = values_of meaning (voc.columns r) t.places in
      let test : List ℕ → Bool = λ ys. same_cells (values_of meaning (voc.columns r) ys) cells in
      let used = list_any (same_pred r) voc.relations in
      let there = list_any test (true_tuples P (form_of F) j r) in
      let not_static : not (is_static P r) ≡ true = ap (λ w. not (is_static P w.pred)) (sym t.is) ∙ ap not kept in
      let here : state_of P (form_of F) j r cells ≡ true =
      and_from (not (is_static P r)) (used && there) not_static
      (and_from used there (any_from (same_pred r) voc.relations r t.one (same_pred-refl r)) (any_from test (true_tuples P (form_of F) j r) t.places (true_in r t.places t.below t.holds) (same_cells-refl cells))) in
      ap (λ w. state_of P (form_of F) j w.pred w.cells) t.is ∙ here

  record IsStateRow (r : Pred) (cells : List ℕ) : Type 0 where
    is_true : IsTrueRow P F trues (record { pred = r; cells = cells })
    kept : not (is_static P r) ≡ true

  state_row : (r : Pred) (cells : List ℕ) → state_of P (form_of F) j r cells ≡ true → IsStateRow r cells
  state_row r cells e =
      let voc = words P F in
      let test : List ℕ → Bool = λ ys. same_cells (values_of meaning (voc.columns r) ys) cells in
      let used = list_any (same_pred r) voc.relations in
      let there = list_any test (true_tuples P (form_of F) j r) in
      let p = and_parts (not (is_static P r)) (used && there) e in
      let q = and_parts used there p.1 in
      let w = any_gives test (true_tuples P (form_of F) j r) q.1 in
      let t = in_true r w.0 w.1 in
      record {
        is_true = record {
          relation = r;
          one = relation_in r voc.relations q.0;
          places = w.0;
          below = t.0;
          holds = t.1;
          is = ap (λ cs. record { pred = r; cells = cs }) (sym (same_cells-is (values_of meaning (voc.columns r) w.0) cells w.2));
        };
        kept = p.0;
      }

  module _ (rows : List Row) (rows_true : (row : Row) → IsIn row rows → IsTrueRow P F trues row) (true_rows : (row : Row) → IsTrueRow P F trues row → IsIn row rows) where
    -- the static rows are those of the network
    pub fixed_are : in_order static_cmp (fixed_rows P rows) ≡ in_order static_cmp (network_of P (form_of F) (judged P F (truths trues))).rows
    fixed_are =
        one_order static_total exact_static (fixed_rows P rows) (network_of P (form_of F) j).rows
        (λ y i. (let w = flat_in (fixed_row P) rows y i in fixed_static w.0 y (rows_true w.0 w.1) w.2))
        (λ y i.
        let w = flat_in (static_rows P (form_of F) j) (words P F).relations y i in
        let s = static_one w.0 y w.1 w.2 in
        in_flat (fixed_row P) rows s.row y (true_rows s.row s.is_true) s.one)

    stored_is : (row : Row) → IsIn row (in_order row_cmp (stored_rows P rows)) → IsTrueRow P F trues row × (is_static P row.pred ≡ false)
    stored_is row i =
        let w = filter_in (is_stored P) rows row (in_ordered row_total equal_rows row (stored_rows P rows) i) in
        (rows_true row w.0, false_from (is_static P row.pred) w.1)

    is_stored_row : (row : Row) → IsTrueRow P F trues row → not (is_static P row.pred) ≡ true → IsIn row (in_order row_cmp (stored_rows P rows))
    is_stored_row row t kept = ordered_in row_total equal_rows row (stored_rows P rows) (in_filter (is_stored P) rows row (true_rows row t) kept)

    -- and the other rows hold what the state does
    pub held_is : held (in_order row_cmp (stored_rows P rows)) ≡ state_of P (form_of F) (judged P F (truths trues))
    held_is =
        fun_ext (λ r. fun_ext (λ cells.
        both_ways (held (in_order row_cmp (stored_rows P rows)) r cells) (state_of P (form_of F) j r cells)
        (λ e. (let w = stored_is (record { pred = r; cells = cells }) (held_gives (in_order row_cmp (stored_rows P rows)) r cells e) in state_true (record { pred = r; cells = cells }) w.0 w.1))
        (λ e. (let w = state_row r cells e in held_from (in_order row_cmp (stored_rows P rows)) r cells (is_stored_row (record { pred = r; cells = cells }) w.is_true w.kept)))))

    -- they are tuples of elements
    pub state_tuple : (N : Network) → ((s : Sort) (a : ℕ) → a < counts P F s → Contains (elements N s) (number P (form_of F) (judged P F (truths trues)) s a)) → (row : Row) → IsIn row (in_order row_cmp (stored_rows P rows)) → IsStateTuple P N row
    state_tuple N home row i =
        let w = stored_is row i in
        let t = w.0 in
        let l = listed P t.relation (filter_in (uses (form_of F)) (all_relations P) t.relation t.one).0 in
        let kept : is_static P t.relation ≡ false = ap (λ z. is_static P z.pred) (sym t.is) ∙ w.1 in
        let columns : (words P F).columns t.relation ≡ l.sorts = ap sorts_or l.declared in
        let cells = values_of meaning ((words P F).columns t.relation) t.places in
        let whole : IsStateTuple P N (record { pred = t.relation; cells = cells }) = record {
          kept = l.kept kept;
          sorts = l.sorts;
          declared = l.declared;
          cells = subst (λ ss. HaveElements N ss cells) columns (have_elements N (counts P F) meaning home ((words P F).columns t.relation) t.places t.below);
        } in
        subst (IsStateTuple P N) (sym t.is) whole
