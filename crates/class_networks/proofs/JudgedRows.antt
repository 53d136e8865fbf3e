-- The rows that are made of true atoms are those of the tuples of constants that are judged true.
use Rattle.std.proofs.Common.{◌≡◌, ◌∙◌, ap, ap₂, sym, refl, subst, arith, inl, inr, cond, map, ℕ, suc, ◌+◌, ◌-◌, ◌<◌, ◌==◌, Bool, true, false, List, [], ◌∷◌, ◌++◌, Some, None, nat_lt, lt-ltb, eqb-true, eq-eqb, length}
use Rattle.std.proofs.lemmas.Bool.{ltb-true}
use Rattle.std.specs.Prelude.{flat_map}
use Rattle.csdn_core.specs.Members.{AreDistinct, IsIn}
use Rattle.csdn_core.proofs.Members.{distinct_append, flat_in, in_flat, map_in}
use Rattle.csdn_core.specs.declared.program.Parts.{Parts}
use Rattle.csdn_core.specs.declared.syntax.Formula.{Formula}
use Rattle.csdn_core.specs.declared.terms.Pred.{Pred}
use Rattle.csdn_core.specs.declared.terms.Pred.TheVariants.{Stored, Ft, Sent}
use Rattle.csdn_core.specs.declared.terms.Sort.{Sort}
use Rattle.clause_log.specs.Literals.{truths}
use Rattle.fol_forms.specs.Constants.{counts}
use Rattle.fol_forms.specs.Forms.{form_of}
use Rattle.decision_laws.specs.Classes.{Meaning, number, values_of}
use Rattle.decision_laws.specs.Copies.{AreBelow, Tuple}
use Rattle.decision_laws.specs.Laws.{judged, naming, words}
use Rattle.decision_laws.specs.Numbers.{fact_count, tuple_number, tuple_of}
use Rattle.decision_laws.specs.Vocabulary.{all_relations, places_from, uses}
use Rattle.decision_laws.proofs.Basics.{any_from, any_gives}
use Rattle.decision_laws.proofs.Distinct.{filter_distinct, map_distinct, places_distinct}
use Rattle.decision_laws.proofs.Networks.{in_if}
use Rattle.ground_inst.specs.Facts.{equation_count, numbered}
use Rattle.ground_inst.specs.declared.facts.UsedRelation.{UsedRelation}
use Rattle.ground_inst.proofs.FactLaws.{tuple_number_of}
use Rattle.net_structs.specs.declared.row.Row.{Row}
use Rattle.net_structs.specs.Rows.{kind_of, number_of}
use Rattle.class_networks.specs.Made.{cells_by, left_over, row_at, rows_by, rows_in}
use Rattle.class_networks.proofs.TupleNumbers.{IsUsed, number_of_tuple, relation_used, tuple_of_number, used_is}

-- The relations of a program are different.

abbrev stored : ℕ → Pred
stored k = Stored (record { 0 = k })

not_stored : (m : ℕ) (r : Pred) → IsIn r (map stored (places_from 0 m)) → IsIn r (Ft ∷ Sent ∷ []) → ⊥
not_stored m r i k =
    let w = map_in stored (places_from 0 m) r i in
    elim k [
      | inl e ↦ (let z : 0 ≡ 1 = sym (ap kind_of w.2) ∙ ap kind_of e in omega (arith, z))
      | inr later ↦ elim later [ inl e ↦ (let z : 0 ≡ 2 = sym (ap kind_of w.2) ∙ ap kind_of e in omega (arith, z)) | inr none ↦ none ]
    ]

relations_distinct : (P : Parts) → AreDistinct (all_relations P)
relations_distinct P =
    distinct_append (map stored (places_from 0 (length P.relations))) (Ft ∷ Sent ∷ [])
    (map_distinct stored (places_from 0 (length P.relations)) (λ x y i k e. ap number_of e) (places_distinct 0 (length P.relations)))
    ((λ i. elim i [ inl e ↦ (let z : 1 ≡ 2 = ap kind_of e in omega (arith, z)) | inr none ↦ none ]), ((λ none. none), tt))
    (not_stored (length P.relations))

-- One atom.

rows_are : (r : Pred) (cells : List ℕ) (b : Bool) (row : Row) → IsIn row (rows_by r (cond b (Some cells) None)) → (b ≡ true) × (row ≡ record { pred = r; cells = cells })
rows_are r cells true row i = elim i [ inl e ↦ (refl, e) | inr none ↦ elim none [ ] ]
rows_are r cells false row i = elim i [ ]

module _ (n : Sort → ℕ) (ρ : Meaning) where
  -- a row of an atom is that of the tuple of its number
  record IsRowAt (u : UsedRelation) (x : ℕ) (row : Row) : Type 0 where
    k : ℕ
    atom : x ≡ suc (u.before + k)
    nothing_left : left_over n u.sorts k ≡ 0
    is : row ≡ record { pred = u.relation; cells = values_of ρ u.sorts (tuple_of n u.sorts k) }

  row_at_is : (u : UsedRelation) (x : ℕ) (row : Row) → IsIn row (row_at n ρ u x) → IsRowAt u x row
  row_at_is u x row i =
      let k = x - u.before - 1 in
      let w = in_if (nat_lt u.before x) (rows_by u.relation (cells_by n ρ u.sorts k)) row i in
      let z = rows_are u.relation (values_of ρ u.sorts (tuple_of n u.sorts k)) (left_over n u.sorts k == 0) row w.1 in
      let l : u.before < x = ltb-true u.before x w.0 in
      record { k = k; atom = omega (arith, l); nothing_left = eqb-true (left_over n u.sorts k) 0 z.0; is = z.1 }

  row_there : (u : UsedRelation) (k : ℕ) → left_over n u.sorts k ≡ 0 → IsIn (record { pred = u.relation; cells = values_of ρ u.sorts (tuple_of n u.sorts k) }) (row_at n ρ u (suc (u.before + k)))
  row_there u k e =
      let x = suc (u.before + k) in
      let row : Row = record { pred = u.relation; cells = values_of ρ u.sorts (tuple_of n u.sorts k) } in
      let back : k ≡ x - u.before - 1 = omega arith in
      let here : nat_lt u.before x ≡ true = lt-ltb u.before x (omega arith) in
      let one : IsIn row (rows_by u.relation (cells_by n ρ u.sorts k)) =
      subst (λ b. IsIn row (rows_by u.relation (cond b (Some row.cells) None))) (sym (eq-eqb (left_over n u.sorts k) 0 e)) (inl refl) in
      subst (λ b. IsIn row (cond b (rows_by u.relation (cells_by n ρ u.sorts (x - u.before - 1))) [])) (sym here) (subst (λ m. IsIn row (rows_by u.relation (cells_by n ρ u.sorts m))) back one)

module _ (P : Parts) (F : Formula) (trues : List ℕ) where
  abbrev meaning : Meaning
  meaning = number P (form_of F) (judged P F (truths trues))

  abbrev used : List UsedRelation
  used = numbered (counts P F) (words P F).columns (equation_count (counts P F)) (words P F).relations

  -- the row of a tuple of constants that is judged true
  pub record IsTrueRow (row : Row) : Type 0 where
    pub relation : Pred
    pub one : IsIn relation (words P F).relations
    pub places : List ℕ
    pub below : AreBelow (counts P F) ((words P F).columns relation) places
    pub holds : judged P F (truths trues) (Tuple relation places) ≡ true
    pub is : row ≡ record { pred = relation; cells = values_of (number P (form_of F) (judged P F (truths trues))) ((words P F).columns relation) places }

  relations_apart : AreDistinct (words P F).relations
  relations_apart = filter_distinct (uses (form_of F)) (all_relations P) (relations_distinct P)

  -- the atom of a tuple of a numbered relation
  atom_of : (u : UsedRelation) → IsUsed (counts P F) (words P F).columns (words P F).relations (equation_count (counts P F)) u → (xs : List ℕ)
      → (naming P F).num (Tuple u.relation xs) ≡ suc (u.before + tuple_number (counts P F) u.sorts xs)
  atom_of u is xs =
      let n = counts P F in
      ap suc (sym (tuple_number_of n (words P F) u.relation xs) ∙ is.place (fact_count n (words P F)) xs)

  true_there : (x : ℕ) → truths trues x ≡ true → IsIn x trues
  true_there x e =
      let w = any_gives (λ t. t == x) trues e in
      subst (λ z. IsIn z trues) (eqb-true w.0 x w.2) w.1

  there_true : (x : ℕ) → IsIn x trues → truths trues x ≡ true
  there_true x i = any_from (λ t. t == x) trues x i (eq-eqb x x refl)

  module _ (ρ : Meaning) (same : (s : Sort) (a : ℕ) → a < counts P F s → ρ s a ≡ number P (form_of F) (judged P F (truths trues)) s a) where
    values_same : (ss : List Sort) (xs : List ℕ) → AreBelow (counts P F) ss xs → values_of ρ ss xs ≡ values_of meaning ss xs
    values_same [] xs l = refl
    values_same (s ∷ ss) [] l = refl
    values_same (s ∷ ss) (x ∷ xs) l = ap₂ (λ y ys. y ∷ ys) (same s x l.0) (values_same ss xs l.1)

    -- the rows of true atoms are rows of tuples that are judged true
    pub rows_true : (row : Row) → IsIn row (rows_in (counts P F) ρ trues (numbered (counts P F) (words P F).columns (equation_count (counts P F)) (words P F).relations)) → IsTrueRow row
    rows_true row i =
        let n = counts P F in
        let voc = words P F in
        let by = flat_in (λ u. flat_map (row_at n ρ u) trues) used row i in
        let u = by.0 in
        let from = flat_in (row_at n ρ u) trues row by.2 in
        let at = row_at_is n ρ u from.0 row from.2 in
        let is = used_is n voc.columns voc.relations (equation_count n) u relations_apart by.1 in
        let some : (s : Sort) → 0 < n s = (λ s. omega arith) in
        let numbers = number_of_tuple n some u.sorts at.k at.nothing_left in
        let xs = tuple_of n u.sorts at.k in
        let atom : (naming P F).num (Tuple u.relation xs) ≡ from.0 = atom_of u is xs ∙ ap (λ m. suc (u.before + m)) numbers.number ∙ sym at.atom in
        record {
          relation = u.relation;
          one = is.one;
          places = xs;
          below = subst (λ ss. AreBelow n ss xs) is.sorts numbers.below;
          holds = ap (truths trues) atom ∙ there_true from.0 from.1;
          is = at.is ∙ ap (λ cells. record { pred = u.relation; cells = cells }) (values_same u.sorts xs numbers.below ∙ ap (λ ss. values_of meaning ss xs) is.sorts);
        }

    row_of_tuple : (u : UsedRelation) → IsIn u used → IsUsed (counts P F) (words P F).columns (words P F).relations (equation_count (counts P F)) u
        → (xs : List ℕ) → AreBelow (counts P F) u.sorts xs → judged P F (truths trues) (Tuple u.relation xs) ≡ true
        → IsIn (record { pred = u.relation; cells = values_of meaning u.sorts xs }) (rows_in (counts P F) ρ trues used)
    row_of_tuple u i is xs below holds =
        let n = counts P F in
        let k = tuple_number n u.sorts xs in
        let tuple = tuple_of_number n u.sorts xs below in
        let row : Row = record { pred = u.relation; cells = values_of meaning u.sorts xs } in
        let atom : truths trues (suc (u.before + k)) ≡ true = sym (ap (truths trues) (atom_of u is xs)) ∙ holds in
        let cells : values_of ρ u.sorts (tuple_of n u.sorts k) ≡ values_of meaning u.sorts xs = ap (values_of ρ u.sorts) tuple.tuple ∙ values_same u.sorts xs below in
        let here : IsIn row (row_at n ρ u (suc (u.before + k))) = subst (λ ms. IsIn (record { pred = u.relation; cells = ms }) (row_at n ρ u (suc (u.before + k)))) cells (row_there n ρ u k tuple.nothing_left) in
        in_flat (λ w. flat_map (row_at n ρ w) trues) used u row i (in_flat (row_at n ρ u) trues (suc (u.before + k)) row (true_there (suc (u.before + k)) atom) here)

    -- and each of these is one
    pub true_rows : (row : Row) → IsTrueRow row → IsIn row (rows_in (counts P F) ρ trues (numbered (counts P F) (words P F).columns (equation_count (counts P F)) (words P F).relations))
    true_rows row t =
        let n = counts P F in
        let voc = words P F in
        let by = relation_used n voc.columns voc.relations (equation_count n) t.relation t.one in
        let u = by.0 in
        let is = used_is n voc.columns voc.relations (equation_count n) u relations_apart by.1 in
        let sorts : voc.columns t.relation ≡ u.sorts = sym (is.sorts ∙ ap voc.columns by.2) in
        let below : AreBelow n u.sorts t.places = subst (λ ss. AreBelow n ss t.places) sorts t.below in
        let holds : judged P F (truths trues) (Tuple u.relation t.places) ≡ true = ap (λ r. judged P F (truths trues) (Tuple r t.places)) by.2 ∙ t.holds in
        let whole : record { pred = u.relation; cells = values_of meaning u.sorts t.places } ≡ row =
        ap₂ (λ r ss. record { pred = r; cells = values_of meaning ss t.places }) by.2 (sym sorts) ∙ sym t.is in
        subst (λ w. IsIn w (rows_in n ρ trues used)) whole (row_of_tuple u by.1 is t.places below holds)
