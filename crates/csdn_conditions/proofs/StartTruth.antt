-- `start` is true exactly where a state holds the initial tuples.
use Rattle.std.proofs.Common.{◌≡◌, ◌∙◌, sym, ap, subst, refl, ℕ, zero, suc, ◌+◌, ◌<◌, ◌==◌, Bool, true, false, not, ◌&&◌, ◌||◌, List, [], ◌∷◌, ◌++◌, length, map, filter, Option, Some, None, Contains, IsTrue, if◌then◌else◌, eqb-true, arith}
use Rattle.std.specs.Prelude.{option_map, slice_get}
use Rattle.std.specs.List.{list_all, list_any}
use Rattle.std.proofs.lemmas.List.Elements.{All-contains}
use Rattle.std.proofs.lemmas.Bool.{and_from, and_parts, ne_eqb, not-true, not_from_false}
use Rattle.std.proofs.Math.Bool.{and-true, or-false}
use Rattle.general_facts.proofs.Numbers.{self_equal}
use Rattle.general_facts.proofs.Lists.{list_any-map}
use Rattle.std.proofs.lemmas.Option.{none-some, same_Some}
use Rattle.std.proofs.lemmas.List.Folds.{list_all-append}
use Rattle.fol_forms.proofs.NormalTruth.{same_truth-is}
use Rattle.csdn_core.proofs.Same.{same_cells-turned}
use Rattle.csdn_core.specs.declared.terms.RelId.{RelId}
use Rattle.csdn_core.specs.declared.terms.Sort.{Sort}
use Rattle.csdn_core.specs.declared.terms.Term.{Term}
use Rattle.csdn_core.specs.declared.terms.Term.TheVariants.{Var, Const, Port}
use Rattle.csdn_core.specs.declared.terms.Pred.{Pred}
use Rattle.csdn_core.specs.declared.terms.Pred.TheVariants.{Stored, Ft, Sent, RcvThis}
use Rattle.csdn_core.specs.declared.event.Packet.{Packet}
use Rattle.csdn_core.specs.declared.event.Packet.TheVariants.{Nothing}
use Rattle.csdn_core.specs.declared.program.Parts.{Parts}
use Rattle.csdn_core.specs.declared.program.Relation.{Relation}
use Rattle.csdn_core.specs.declared.program.StartRow.{StartRow}
use Rattle.csdn_core.specs.declared.syntax.Formula.{Formula}
use Rattle.csdn_core.specs.declared.syntax.Formula.TheVariants.{Atom}
use Rattle.csdn_core.specs.Tree.{equivalence}
use Rattle.csdn_core.specs.Truth.{Structure, Assignment, with_var, truth, value, values, same_truth}
use Rattle.csdn_core.specs.Network.{Network, State, elements, structure, same_cells, is_fixed, is_fixed_in, HaveElements}
use Rattle.csdn_core.specs.Run.{empty_state, no_values, initial}
use Rattle.csdn_core.specs.Sorted.{flow_sorts, sorts_of}
use Rattle.csdn_core.specs.SortedIn.{no_scope, HasSortIn, HaveSortsIn}
use Rattle.csdn_wp.proofs.Sorting.{HaveSortsIn-length}
use Rattle.csdn_core.specs.WellSorted.{signature, IsStartRow, IsWellSorted}
use Rattle.fol_forms.specs.Closed.{GivesBinds, IsTrueForAll}
use Rattle.fol_forms.specs.Replace.{same}
use Rattle.fol_forms.proofs.ClosedTruth.{truth-closed}
use Rattle.fol_forms.proofs.Replaced.{truth-same}
use Rattle.csdn_conditions.specs.Lists.{conjunction_of, disjunction_of}
use Rattle.csdn_conditions.specs.Start.{binds_from, terms_of, rows_among, is_one_of, holds_rows, stored_at, stored_from, start}
use Rattle.csdn_conditions.specs.Initial.{is_of_states, IsInitial}

-- truth values

same_itself : (a b : Bool) → a ≡ b → same_truth a b ≡ true
same_itself true b h = sym h
same_itself false b h = subst (λ c. not c ≡ true) h refl

-- conjunctions and disjunctions of lists

module _ (M : Structure) (e : Assignment) where
  pub truth-all : (ps : List Formula) → truth M (conjunction_of ps) e ≡ list_all (λ p. truth M p e) ps
  unfolding truth
  truth-all [] = refl
  truth-all (p ∷ []) = sym (and-true (truth M p e))
  truth-all (p ∷ q ∷ ps) = ap (λ b. truth M p e && b) (truth-all (q ∷ ps))

  truth-any : (ps : List Formula) → truth M (disjunction_of ps) e ≡ list_any (λ p. truth M p e) ps
  unfolding truth
  truth-any [] = refl
  truth-any (p ∷ []) = sym (or-false (truth M p e))
  truth-any (p ∷ q ∷ ps) = ap (λ b. truth M p e || b) (truth-any (q ∷ ps))

-- the assignments of a row of binds

abbrev given : ℕ → List ℕ → Assignment → Assignment
given k [] e = e
given k (m ∷ ms) e = given (k + 1) ms (with_var e (record { 0 = k }) m)

given-below : (k : ℕ) (ms : List ℕ) (e : Assignment) (j : ℕ) → j < k → given k ms e j ≡ e j
given-below k [] e j less = refl
given-below k (m ∷ ms) e j less =
    given-below (k + 1) ms (with_var e (record { 0 = k }) m) j (omega (arith, less)) ∙ ap (λ b. if b then m else e j) (ne_eqb j k (λ same. omega (arith, less, same)))

module _ (N : Network) (M : Structure) (its : (s : Sort) → M.elements s ≡ elements N s) where
  values-given : (k : ℕ) (ss : List Sort) (ms : List ℕ) (e : Assignment) → HaveElements N ss ms → values M (given k ms e) (terms_of (binds_from k ss)) ≡ ms
  unfolding HaveElements
  values-given k [] [] e there = refl
  values-given k [] (m ∷ ms) e there = absurd there
  values-given k (s ∷ ss) [] e there = absurd there
  values-given k (s ∷ ss) (m ∷ ms) e there =
      let first : given k (m ∷ ms) e k ≡ m =
      given-below (k + 1) ms (with_var e (record { 0 = k }) m) k (omega arith) ∙ ap (λ b. if b then m else e k) (self_equal k) in
      ap (λ n. n ∷ values M (given k (m ∷ ms) e) (terms_of (binds_from (k + 1) ss))) first
      ∙ ap (λ ns. m ∷ ns) (values-given (k + 1) ss ms (with_var e (record { 0 = k }) m) there.1)

  gives_given : (k : ℕ) (ss : List Sort) (ms : List ℕ) (e : Assignment) → HaveElements N ss ms → GivesBinds M (binds_from k ss) e (given k ms e)
  unfolding HaveElements
  gives_given k [] [] e there = refl
  gives_given k [] (m ∷ ms) e there = absurd there
  gives_given k (s ∷ ss) [] e there = absurd there
  gives_given k (s ∷ ss) (m ∷ ms) e there =
      (m, subst (λ xs. Contains xs m) (sym (its s)) there.0, gives_given (k + 1) ss ms (with_var e (record { 0 = k }) m) there.1)

  -- elements of these sorts that d gives to the binds
  record Gives (k : ℕ) (ss : List Sort) (e d : Assignment) : Type 0 where
    cells : List ℕ
    there : HaveElements N ss cells
    is : d ≡ given k cells e

  gives_more : (k : ℕ) (s : Sort) (ss : List Sort) (e d : Assignment) (m : ℕ) → Contains (M.elements s) m → Gives (k + 1) ss (with_var e (record { 0 = k }) m) d → Gives k (s ∷ ss) e d
  unfolding HaveElements
  gives_more k s ss e d m there rest =
      record { cells = m ∷ rest.cells; there = (subst (λ xs. Contains xs m) (its s) there, rest.there); is = rest.is }

  gives_none : (k : ℕ) (e d : Assignment) → d ≡ e → Gives k [] e d
  unfolding HaveElements
  gives_none k e d is = record { cells = []; there = tt; is = is }

  given_back : (k : ℕ) (ss : List Sort) (e d : Assignment) → GivesBinds M (binds_from k ss) e d → Gives k ss e d
  given_back k [] e d is = gives_none k e d is
  given_back k (s ∷ ss) e d (m, there, rest) = gives_more k s ss e d m there (given_back (k + 1) ss (with_var e (record { 0 = k }) m) d rest)

-- the equations of a tuple with a row

length-terms : (k : ℕ) (ss : List Sort) → length (terms_of (binds_from k ss)) ≡ length ss
length-terms k [] = refl
length-terms k (s ∷ ss) = ap suc (length-terms (k + 1) ss)

-- a row of constants and numerals has the same values in all states and under all assignments
module _ (P : Parts) (N : Network) (x : State) (packet : Packet) (e : Assignment) where
  value-fixed : (s : Sort) (t : Term) → HasSortIn (signature P) no_scope s t → value (structure P N x packet) e t ≡ value (structure P N empty_state Nothing) no_values t
  value-fixed s (Var v) is = absurd (none-some s is)
  value-fixed s (Const k) sorted = refl
  value-fixed s (Port k) sorted = refl

  values-fixed : (ss : List Sort) (ts : List Term) → HaveSortsIn (signature P) no_scope ss ts → values (structure P N x packet) e ts ≡ values (structure P N empty_state Nothing) no_values ts
  unfolding HaveSortsIn
  values-fixed [] [] sorted = refl
  values-fixed [] (t ∷ ts) sorted = absurd sorted
  values-fixed (s ∷ ss) [] sorted = absurd sorted
  values-fixed (s ∷ ss) (t ∷ ts) sorted = rw (value-fixed s t sorted.0, values-fixed ss ts sorted.1) refl

-- the rows of a relation, in the formula and in the initial state

module _ (F : List Term → Bool) where
  any_kept : (b : Bool) (row : StartRow) (rows : List StartRow) → list_any F (map (λ z. z.terms) (if b then row ∷ rows else rows)) ≡ ((b && F row.terms) || list_any F (map (λ z. z.terms) rows))
  any_kept true row rows = refl
  any_kept false row rows = refl

  both_same : (b u v : Bool) → (b ≡ true → u ≡ v) → (b && u) ≡ (b && v)
  both_same true u v same = same refl
  both_same false u v same = refl

  any_among : (G test : StartRow → Bool) (rows : List StartRow) → ((row : StartRow) → Contains rows row → test row ≡ true → F row.terms ≡ G row)
      → list_any F (map (λ z. z.terms) (filter test rows)) ≡ list_any (λ row. test row && G row) rows
  any_among G test [] each = refl
  any_among G test (row ∷ rows) each =
      any_kept (test row) row (filter test rows)
      ∙ ap (λ b. b || list_any F (map (λ z. z.terms) (filter test rows))) (both_same (test row) (F row.terms) (G row) (each row (0, omega arith, refl)))
      ∙ ap (λ b. (test row && G row) || b) (any_among G test rows (λ other there. each other (suc there.0, omega (arith, there.1), there.2)))

  none_among : (rows : List StartRow) → list_any F (map (λ z. z.terms) (filter (λ row. false) rows)) ≡ false
  none_among [] = refl
  none_among (row ∷ rows) = none_among rows

-- the declared relation of this number
record Declared (P : Parts) (q : ℕ) (ss : List Sort) : Type 0 where
  relation : Relation
  there : slice_get P.relations q ≡ Some relation
  sorts : relation.sorts ≡ ss

declared_of : (P : Parts) (q : ℕ) (ss : List Sort) → option_map (λ (d : Relation). d.sorts) (slice_get P.relations q) ≡ Some ss → Declared P q ss
declared_of P q ss is = at (slice_get P.relations q) refl is
  where
    at : (o : Option Relation) → slice_get P.relations q ≡ o → option_map (λ (d : Relation). d.sorts) o ≡ Some ss → Declared P q ss
    at None here is = absurd (cc)
    at (Some d) here is = record { relation = d; there = here; sorts = cc }

unless_fixed : (b u x : Bool) → b ≡ false → (if b then u else x) ≡ x
unless_fixed true u x is = absurd (cc)
unless_fixed false u x is = refl

module _ (P : Parts) (N : Network) (x : State) (packet : Packet) where
  abbrev M : Structure
  M = structure P N x packet

  -- the rows of a relation among the initial ones
  abbrev IsRows : Pred → List Sort → Type 0
  IsRows r ss =
      (cells : List ℕ) → HaveElements N ss cells
      → truth M (is_one_of (terms_of (binds_from 0 ss)) (rows_among P.start r)) (given 0 cells no_values) ≡ initial P N r cells

  abbrev HasInitial : Pred → List Sort → Type 0
  HasInitial r ss = (cells : List ℕ) → HaveElements N ss cells → M.holds r cells ≡ initial P N r cells

  its_elements : (s : Sort) → M.elements s ≡ elements N s
  its_elements s = refl

  has_initial : (r : Pred) (ss : List Sort) → IsRows r ss → IsTrue (truth M (holds_rows P.start r ss) no_values) → HasInitial r ss
  unfolding truth
  has_initial r ss rows h = λ cells there.
      let d : Assignment = given 0 cells no_values in
      let xs : List Term = terms_of (binds_from 0 ss) in
      let one : Formula = is_one_of xs (rows_among P.start r) in
      let each : IsTrueForAll M (binds_from 0 ss) (equivalence (Atom r xs) one) no_values =
      (truth-closed M (binds_from 0 ss) (equivalence (Atom r xs) one) no_values).0 h in
      let here : same_truth (M.holds r (values M d xs)) (truth M one d) ≡ true = each d (gives_given N M its_elements 0 ss cells no_values there) in
      ap (M.holds r) (sym (values-given N M its_elements 0 ss cells no_values there)) ∙ same_truth-is (M.holds r (values M d xs)) (truth M one d) here ∙ rows cells there

  holds_true : (r : Pred) (ss : List Sort) → IsRows r ss → HasInitial r ss → IsTrue (truth M (holds_rows P.start r ss) no_values)
  unfolding truth
  holds_true r ss rows has =
      let xs : List Term = terms_of (binds_from 0 ss) in
      let one : Formula = is_one_of xs (rows_among P.start r) in
      (truth-closed M (binds_from 0 ss) (equivalence (Atom r xs) one) no_values).1
      (λ d gives.
      let g = given_back N M its_elements 0 ss no_values d gives in
      let e : Assignment = given 0 g.cells no_values in
      let same : M.holds r (values M e xs) ≡ truth M one e =
      ap (M.holds r) (values-given N M its_elements 0 ss g.cells no_values g.there) ∙ has g.cells g.there ∙ sym (rows g.cells g.there) in
      subst (λ (z : Assignment). same_truth (M.holds r (values M z xs)) (truth M one z) ≡ true) (sym g.is) (same_itself (M.holds r (values M e xs)) (truth M one e) same))

  -- `ft` and `sent` have no rows

  no_rows : (r : Pred) (ss : List Sort) → ((rows : List StartRow) (F : List Term → Bool) → list_any F (rows_among rows r) ≡ false) → ((cells : List ℕ) → initial P N r cells ≡ false) → IsRows r ss
  no_rows r ss none empty = λ cells there.
      let d : Assignment = given 0 cells no_values in
      let xs : List Term = terms_of (binds_from 0 ss) in
      truth-any M d (map (same xs) (rows_among P.start r)) ∙ list_any-map (λ p. truth M p d) (same xs) (rows_among P.start r)
      ∙ none P.start (λ t. truth M (same xs t) d) ∙ sym (empty cells)

  rows_of_ft : IsRows Ft flow_sorts
  rows_of_ft = no_rows Ft flow_sorts (λ rows F. none_among F rows) (λ cells. refl)

  rows_of_sent : IsRows Sent flow_sorts
  rows_of_sent = no_rows Sent flow_sorts (λ rows F. none_among F rows) (λ cells. refl)

  module _ (sorted : IsWellSorted P) where
    row_true : (q : RelId) (relation : Relation) → slice_get P.relations q.0 ≡ Some relation → (cells : List ℕ) → HaveElements N relation.sorts cells → (row : StartRow) → Contains P.start row → (row.rel.0 == q.0) ≡ true
        → truth M (same (terms_of (binds_from 0 relation.sorts)) row.terms) (given 0 cells no_values) ≡ same_cells (values (structure P N empty_state Nothing) no_values row.terms) cells
    row_true q relation declared cells there row listed own =
        let is_row : IsStartRow P row = All-contains (IsStartRow P) P.start row sorted.start listed in
        let number : row.rel.0 ≡ q.0 = eqb-true row.rel.0 q.0 own in
        let its : is_row.relation ≡ relation = same_Some is_row.relation relation (sym is_row.declared ∙ ap (slice_get P.relations) number ∙ declared) in
        let d : Assignment = given 0 cells no_values in
        let xs : List Term = terms_of (binds_from 0 relation.sorts) in
        let many : length row.terms ≡ length relation.sorts = HaveSortsIn-length (signature P) no_scope is_row.relation.sorts row.terms is_row.terms ∙ ap (λ (z : Relation). length z.sorts) its in
        let cells_are : values M d xs ≡ cells = values-given N M its_elements 0 relation.sorts cells no_values there in
        let xs_many : length xs ≡ length relation.sorts = length-terms 0 relation.sorts in
        truth-same M d xs row.terms (xs_many ∙ sym many)
        ∙ ap (λ (z : List ℕ). same_cells z (values M d row.terms)) cells_are
        ∙ ap (same_cells cells) (values-fixed P N x packet d is_row.relation.sorts row.terms is_row.terms)
        ∙ same_cells-turned cells (values (structure P N empty_state Nothing) no_values row.terms)

    rows_of_stored : (q : RelId) (relation : Relation) → slice_get P.relations q.0 ≡ Some relation → IsRows (Stored q) relation.sorts
    rows_of_stored q relation declared = λ cells there.
        let d : Assignment = given 0 cells no_values in
        let xs : List Term = terms_of (binds_from 0 relation.sorts) in
        truth-any M d (map (same xs) (rows_among P.start (Stored q))) ∙ list_any-map (λ p. truth M p d) (same xs) (rows_among P.start (Stored q))
        ∙ any_among (λ t. truth M (same xs t) d) (λ row. same_cells (values (structure P N empty_state Nothing) no_values row.terms) cells) (λ row. row.rel.0 == q.0) P.start
        (λ row listed own. row_true q relation declared cells there row listed own)

    -- what is said of each `rel`

    abbrev T : Formula → Bool
    T p = truth M p no_values

    at_true : (b : Bool) (p : Formula) → list_all T (if b then [] else (p ∷ [])) ≡ true → b ≡ false → T p ≡ true
    at_true true p h is = absurd (cc)
    at_true false p h is = sym (and-true (T p)) ∙ h

    true_at : (b : Bool) (p : Formula) → (b ≡ false → T p ≡ true) → list_all T (if b then [] else (p ∷ [])) ≡ true
    true_at true p h = refl
    true_at false p h = and-true (T p) ∙ h refl

    abbrev says : ℕ → Relation → Formula
    says k r = holds_rows P.start (Stored (record { 0 = k })) r.sorts

    said : (k : ℕ) (rs : List Relation) → list_all T (stored_from P.start k rs) ≡ true → (j : ℕ) (r : Relation) → slice_get rs j ≡ Some r → r.fixed ≡ false → T (says (k + j) r) ≡ true
    said k [] h j r there stored = absurd (cc)
    said k (s ∷ rs) h zero r there stored =
        let own : s ≡ r = same_Some s r there in
        let first = (and_parts _ _ (sym (list_all-append T (stored_at P.start k s) (stored_from P.start (k + 1) rs)) ∙ h)).0 in
        let here : T (says k s) ≡ true = at_true s.fixed (says k s) first (ap (λ (z : Relation). z.fixed) own ∙ stored) in
        let same : k ≡ k + zero = omega arith in
        subst (λ (n : ℕ). T (says n r) ≡ true) same (subst (λ (z : Relation). T (says k z) ≡ true) own here)
    said k (s ∷ rs) h (suc j) r there stored =
        let rest = (and_parts _ _ (sym (list_all-append T (stored_at P.start k s) (stored_from P.start (k + 1) rs)) ∙ h)).1 in
        let same : (k + 1) + j ≡ k + suc j = omega arith in
        subst (λ (n : ℕ). T (says n r) ≡ true) same (said (k + 1) rs rest j r there stored)

    say : (k : ℕ) (rs : List Relation) → ((j : ℕ) (r : Relation) → slice_get rs j ≡ Some r → r.fixed ≡ false → T (says (k + j) r) ≡ true) → list_all T (stored_from P.start k rs) ≡ true
    say k [] each = refl
    say k (s ∷ rs) each =
        let same : k + zero ≡ k = omega arith in
        list_all-append T (stored_at P.start k s) (stored_from P.start (k + 1) rs)
        ∙ and_from _ _ (true_at s.fixed (says k s) (λ stored. subst (λ (n : ℕ). T (says n s) ≡ true) same (each zero s refl stored)))
        (say (k + 1) rs
        (λ j r there stored.
        let next : k + suc j ≡ (k + 1) + j = omega arith in
        subst (λ (n : ℕ). T (says n r) ≡ true) next (each (suc j) r there stored)))

    fixed_is : (q : ℕ) (relation : Relation) → slice_get P.relations q ≡ Some relation → is_fixed P q ≡ relation.fixed
    fixed_is q relation there = ap is_fixed_in there

    holds_own : (q : RelId) (cells : List ℕ) → is_fixed P q.0 ≡ false → M.holds (Stored q) cells ≡ x (Stored q) cells
    holds_own q cells is = unless_fixed (is_fixed P q.0) _ _ is

    pub is_initial : IsTrue (truth M (start P) no_values) → IsInitial P N x
    is_initial h =
        let all : (list_all T (stored_from P.start 0 P.relations) && list_all T (holds_rows P.start Ft flow_sorts ∷ holds_rows P.start Sent flow_sorts ∷ [])) ≡ true =
        sym (list_all-append T (stored_from P.start 0 P.relations) (holds_rows P.start Ft flow_sorts ∷ holds_rows P.start Sent flow_sorts ∷ []))
        ∙ sym (truth-all M no_values (stored_from P.start 0 P.relations ++ (holds_rows P.start Ft flow_sorts ∷ holds_rows P.start Sent flow_sorts ∷ []))) ∙ h in
        let stored = (and_parts _ _ all).0 in
        let flows = (and_parts _ _ all).1 in
        let ft : T (holds_rows P.start Ft flow_sorts) ≡ true = (and_parts _ _ flows).0 in
        let sent : T (holds_rows P.start Sent flow_sorts) ≡ true = (and_parts _ _ (and_parts _ _ flows).1).0 in
        λ r ss cells states declared there. by_relation stored ft sent r ss cells states declared there
      where
        by_relation : list_all T (stored_from P.start 0 P.relations) ≡ true → T (holds_rows P.start Ft flow_sorts) ≡ true → T (holds_rows P.start Sent flow_sorts) ≡ true
            → (r : Pred) (ss : List Sort) (cells : List ℕ) → IsTrue (is_of_states P r) → sorts_of (signature P) r ≡ Some ss → HaveElements N ss cells → x r cells ≡ initial P N r cells
        by_relation stored ft sent (Stored q) ss cells states declared there =
            let d = declared_of P q.0 ss declared in
            let own : is_fixed P q.0 ≡ false = not-true (is_fixed P q.0) states in
            let free : d.relation.fixed ≡ false = sym (fixed_is q.0 d.relation d.there) ∙ own in
            let number : 0 + q.0 ≡ q.0 = omega arith in
            let here : T (says q.0 d.relation) ≡ true = subst (λ (n : ℕ). T (says n d.relation) ≡ true) number (said 0 P.relations stored q.0 d.relation d.there free) in
            sym (holds_own q cells own)
            ∙ has_initial (Stored q) d.relation.sorts (rows_of_stored q d.relation d.there) here cells (subst (λ (z : List Sort). HaveElements N z cells) (sym d.sorts) there)
        by_relation stored ft sent Ft ss cells states declared there =
            has_initial Ft flow_sorts rows_of_ft ft cells (subst (λ (z : List Sort). HaveElements N z cells) (sym (same_Some flow_sorts ss declared)) there)
        by_relation stored ft sent Sent ss cells states declared there =
            has_initial Sent flow_sorts rows_of_sent sent cells (subst (λ (z : List Sort). HaveElements N z cells) (sym (same_Some flow_sorts ss declared)) there)
        by_relation stored ft sent RcvThis ss cells states declared there = absurd (cc)

    pub start_true : IsInitial P N x → IsTrue (truth M (start P) no_values)
    start_true is =
        let flow_part : List Formula = holds_rows P.start Ft flow_sorts ∷ holds_rows P.start Sent flow_sorts ∷ [] in
        let ft : T (holds_rows P.start Ft flow_sorts) ≡ true = holds_true Ft flow_sorts rows_of_ft (λ cells there. is Ft flow_sorts cells refl refl there) in
        let sent : T (holds_rows P.start Sent flow_sorts) ≡ true = holds_true Sent flow_sorts rows_of_sent (λ cells there. is Sent flow_sorts cells refl refl there) in
        let flows : list_all T flow_part ≡ true = and_from _ _ ft (and_from _ _ sent refl) in
        let stored : list_all T (stored_from P.start 0 P.relations) ≡ true =
        say 0 P.relations
        (λ j r there free.
        let number : j ≡ 0 + j = omega arith in
        subst (λ (n : ℕ). T (says n r) ≡ true) number
        (holds_true (Stored (record { 0 = j })) r.sorts (rows_of_stored (record { 0 = j }) r there)
        (λ cells has.
        let own : is_fixed P j ≡ false = fixed_is j r there ∙ free in
        holds_own (record { 0 = j }) cells own ∙ is (Stored (record { 0 = j })) r.sorts cells (not_from_false (is_fixed P j) own) (ap (option_map (λ (z : Relation). z.sorts)) there) has))) in
        truth-all M no_values (stored_from P.start 0 P.relations ++ flow_part) ∙ list_all-append T (stored_from P.start 0 P.relations) flow_part ∙ and_from _ _ stored flows
