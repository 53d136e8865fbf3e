-- The hypotheses of conditions are sentences.
use Rattle.std.proofs.Common.{◌≡◌, ◌∙◌, sym, ap, subst, refl, ℕ, suc, ◌+◌, ◌<◌, ◌==◌, Bool, true, false, List, [], ◌∷◌, ◌++◌, map, filter, Some, All, Contains, if◌then◌else◌, eqb-true, arith}
use Rattle.std.specs.Prelude.{slice_get, option_map}
use Rattle.std.proofs.lemmas.List.Elements.{All-tail, All-contains}
use Rattle.std.proofs.lemmas.Bool.{ne_eqb}
use Rattle.general_facts.proofs.Numbers.{self_equal}
use Rattle.std.proofs.lemmas.Option.{same_Some}
use Rattle.csdn_core.specs.declared.terms.Sort.{Sort}
use Rattle.csdn_core.specs.declared.terms.Term.{Term}
use Rattle.csdn_core.specs.declared.terms.Pred.{Pred}
use Rattle.csdn_core.specs.declared.terms.Pred.TheVariants.{Stored, Ft, Sent}
use Rattle.csdn_core.specs.declared.terms.FormulaPlace.{FormulaPlace}
use Rattle.csdn_core.specs.declared.terms.FormulaPlace.TheVariants.{Topology, Safety, Trans}
use Rattle.csdn_core.specs.declared.program.Parts.{Parts}
use Rattle.csdn_core.specs.declared.program.Invariant.{Invariant}
use Rattle.csdn_core.specs.declared.program.Relation.{Relation}
use Rattle.csdn_core.specs.declared.program.StartRow.{StartRow}
use Rattle.csdn_core.specs.declared.syntax.Formula.{Formula}
use Rattle.csdn_core.specs.declared.syntax.Formula.TheVariants.{Atom}
use Rattle.csdn_core.specs.Tree.{equivalence}
use Rattle.csdn_core.specs.Sorted.{IsAllowed, flow_sorts, sorts_of}
use Rattle.csdn_core.specs.WellSorted.{IsSorted, IsStartRow, IsWellSorted, signature}
use Rattle.fol_forms.specs.Closed.{closed}
use Rattle.fol_forms.specs.Replace.{same}
use Rattle.csdn_wp.proofs.Sorted.{IsSortedIn-same}
use Rattle.csdn_wp.proofs.Sorting.{Extends-none, HaveSortsIn-more, IsSortedIn-more}
use Rattle.csdn_wp.proofs.Scopes.{names_no_packet}
use Rattle.csdn_conditions.specs.declared.lists.Join.{Join}
use Rattle.csdn_conditions.specs.declared.lists.Join.TheVariants.{And, Or}
use Rattle.csdn_conditions.specs.Lists.{joined}
use Rattle.csdn_conditions.specs.Conditions.{formulas}
use Rattle.csdn_conditions.specs.Start.{binds_from, terms_of, rows_among, is_one_of, holds_rows, stored_at, stored_from, start}
use Rattle.csdn_conditions.specs.Closed.{IsClosed}
use Rattle.csdn_core.specs.SortedIn.{Scope, no_scope, with_sort, Relations, any_relation, no_rcv_this, HaveSortsIn, IsSortedIn}

module _ (P : Parts) (R : Relations) where
  abbrev pub AreSortedIn : Scope → List Formula → Type 0
  AreSortedIn Γ [] = Unit {0}
  AreSortedIn Γ (p ∷ ps) = IsSortedIn (signature P) R Γ p × AreSortedIn Γ ps

  pub joined_sorted : (Γ : Scope) (j : Join) (ps : List Formula) → AreSortedIn Γ ps → IsSortedIn (signature P) R Γ (joined j ps)
  unfolding IsSortedIn
  joined_sorted Γ And [] all = tt
  joined_sorted Γ Or [] all = tt
  joined_sorted Γ j (p ∷ []) all = all.0
  joined_sorted Γ And (p ∷ q ∷ ps) all = (all.0, joined_sorted Γ And (q ∷ ps) all.1)
  joined_sorted Γ Or (p ∷ q ∷ ps) all = (all.0, joined_sorted Γ Or (q ∷ ps) all.1)

  pub both_sorted : (Γ : Scope) (ps qs : List Formula) → AreSortedIn Γ ps → AreSortedIn Γ qs → AreSortedIn Γ (ps ++ qs)
  both_sorted Γ [] qs all more = more
  both_sorted Γ (p ∷ ps) qs all more = (all.0, both_sorted Γ ps qs all.1 more)

  -- invariants

  pub invariants_sorted : (place : FormulaPlace) → ((r : Pred) → IsAllowed (signature P) place r → R r) → (vs : List Invariant) → All (λ v. IsSorted (signature P) place v.formula) vs → AreSortedIn no_scope (formulas vs)
  invariants_sorted place names [] all = tt
  invariants_sorted place names (v ∷ vs) all =
      let Q : Invariant → Type 0 = λ z. IsSorted (signature P) place z.formula in (
        IsSortedIn-more (signature P) (IsAllowed (signature P) place) R names no_scope no_scope (λ w s is. is) v.formula (All-contains Q (v ∷ vs) v all (0, omega arith, refl)).sorts,
        invariants_sorted place names vs (All-tail Q v vs all),
      )

module _ (P : Parts) (sorted : IsWellSorted P) where
  pub topology_sorted : AreSortedIn P no_rcv_this no_scope (formulas P.topology)
  topology_sorted = invariants_sorted P no_rcv_this Topology (names_no_packet (signature P) Topology (λ is. cc)) P.topology sorted.topology

  pub safety_sorted : AreSortedIn P no_rcv_this no_scope (formulas P.safety)
  safety_sorted = invariants_sorted P no_rcv_this Safety (names_no_packet (signature P) Safety (λ is. cc)) P.safety sorted.safety

  pub trans_sorted : AreSortedIn P any_relation no_scope (formulas P.trans)
  trans_sorted = invariants_sorted P any_relation Trans (λ r allowed. tt) P.trans sorted.trans

-- the start

abbrev scope_from : ℕ → List Sort → Scope → Scope
scope_from k [] Γ = Γ
scope_from k (s ∷ ss) Γ = scope_from (k + 1) ss (with_sort Γ (record { 0 = k }) s)

scope-below : (k : ℕ) (ss : List Sort) (Γ : Scope) (j : ℕ) → j < k → scope_from k ss Γ j ≡ Γ j
scope-below k [] Γ j less = refl
scope-below k (s ∷ ss) Γ j less =
    scope-below (k + 1) ss (with_sort Γ (record { 0 = k }) s) j (omega (arith, less)) ∙ ap (λ b. if b then Some s else Γ j) (ne_eqb j k (λ same. omega (arith, less, same)))

module _ (P : Parts) where
  closed_sorted : (k : ℕ) (ss : List Sort) (Γ : Scope) (p : Formula) → IsSortedIn (signature P) no_rcv_this (scope_from k ss Γ) p → IsSortedIn (signature P) no_rcv_this Γ (closed (binds_from k ss) p)
  unfolding IsSortedIn
  closed_sorted k [] Γ p has = has
  closed_sorted k (s ∷ ss) Γ p has = closed_sorted (k + 1) ss (with_sort Γ (record { 0 = k }) s) p has

  vars_sorted : (k : ℕ) (ss : List Sort) (Γ : Scope) → HaveSortsIn (signature P) (scope_from k ss Γ) ss (terms_of (binds_from k ss))
  unfolding HaveSortsIn
  vars_sorted k [] Γ = tt
  vars_sorted k (s ∷ ss) Γ =
      let Δ : Scope = with_sort Γ (record { 0 = k }) s in (
        scope-below (k + 1) ss Δ k (omega arith) ∙ ap (λ b. if b then Some s else Γ k) (self_equal k),
        vars_sorted (k + 1) ss Δ,
      )

  -- the terms are one of these rows
  module _ (Γ : Scope) (ss : List Sort) (xs : List Term) (have : HaveSortsIn (signature P) Γ ss xs) where
    rows_sorted : (rows : List StartRow) (test : StartRow → Bool) → ((row : StartRow) → Contains rows row → test row ≡ true → HaveSortsIn (signature P) no_scope ss row.terms)
        → AreSortedIn P no_rcv_this Γ (map (same xs) (map (λ row. row.terms) (filter test rows)))
    rows_sorted [] test each = tt
    rows_sorted (row ∷ rows) test each = by_test (test row) (each row (0, omega arith, refl)) (rows_sorted rows test (λ other there. each other (suc there.0, omega (arith, there.1), there.2)))
      where
        by_test : (b : Bool) → (b ≡ true → HaveSortsIn (signature P) no_scope ss row.terms) → AreSortedIn P no_rcv_this Γ (map (same xs) (map (λ z. z.terms) (filter test rows)))
            → AreSortedIn P no_rcv_this Γ (map (same xs) (map (λ z. z.terms) (if b then row ∷ filter test rows else filter test rows)))
        by_test true own rest = (IsSortedIn-same (signature P) no_rcv_this Γ ss xs row.terms have (HaveSortsIn-more (signature P) no_scope Γ (Extends-none Γ) ss row.terms (own refl)), rest)
        by_test false own rest = rest

  holds_sorted : (r : Pred) (ss : List Sort) (rows : List StartRow) → no_rcv_this r → sorts_of (signature P) r ≡ Some ss
      → ((Γ : Scope) (xs : List Term) → HaveSortsIn (signature P) Γ ss xs → AreSortedIn P no_rcv_this Γ (map (same xs) (rows_among rows r))) → IsClosed P (holds_rows rows r ss)
  unfolding IsSortedIn
  holds_sorted r ss rows named declared each =
      let xs : List Term = terms_of (binds_from 0 ss) in
      let Γ : Scope = scope_from 0 ss no_scope in
      let have : HaveSortsIn (signature P) Γ ss xs = vars_sorted 0 ss no_scope in
      closed_sorted 0 ss no_scope (equivalence (Atom r xs) (is_one_of xs (rows_among rows r))) (
        (record { sorts = ss; declared = declared; terms = have }, named),
        joined_sorted P no_rcv_this Γ Or (map (same xs) (rows_among rows r)) (each Γ xs have),
      )

  module _ (sorted : IsWellSorted P) where
    stored_closed : (k : ℕ) (relation : Relation) → slice_get P.relations k ≡ Some relation → IsClosed P (holds_rows P.start (Stored (record { 0 = k })) relation.sorts)
    stored_closed k relation declared =
        holds_sorted (Stored (record { 0 = k })) relation.sorts P.start refl (ap (option_map (λ (d : Relation). d.sorts)) declared)
        (λ Γ xs have. rows_sorted Γ relation.sorts xs have P.start (λ row. row.rel.0 == k)
        (λ row listed own.
        let is_row : IsStartRow P row = All-contains (IsStartRow P) P.start row sorted.start listed in
        let number : row.rel.0 ≡ k = eqb-true row.rel.0 k own in
        let its : is_row.relation ≡ relation = same_Some is_row.relation relation (sym is_row.declared ∙ ap (slice_get P.relations) number ∙ declared) in
        subst (λ (z : Relation). HaveSortsIn (signature P) no_scope z.sorts row.terms) its is_row.terms))

    none_sorted : (Γ : Scope) (xs : List Term) (rows : List StartRow) → AreSortedIn P no_rcv_this Γ (map (same xs) (map (λ row. row.terms) (filter (λ row. false) rows)))
    none_sorted Γ xs [] = tt
    none_sorted Γ xs (row ∷ rows) = none_sorted Γ xs rows

    at_sorted : (b : Bool) (p : Formula) → IsClosed P p → AreSortedIn P no_rcv_this no_scope (if b then [] else (p ∷ []))
    at_sorted true p has = tt
    at_sorted false p has = (has, tt)

    each_stored : (k : ℕ) (rs : List Relation) → ((j : ℕ) (r : Relation) → slice_get rs j ≡ Some r → slice_get P.relations (k + j) ≡ Some r) → AreSortedIn P no_rcv_this no_scope (stored_from P.start k rs)
    each_stored k [] there = tt
    each_stored k (r ∷ rs) there =
        let here : k + 0 ≡ k = omega arith in
        both_sorted P no_rcv_this no_scope (stored_at P.start k r) (stored_from P.start (k + 1) rs)
        (at_sorted r.fixed (holds_rows P.start (Stored (record { 0 = k })) r.sorts) (stored_closed k r (ap (slice_get P.relations) (sym here) ∙ there 0 r refl)))
        (each_stored (k + 1) rs
        (λ j q is.
        let next : (k + 1) + j ≡ k + suc j = omega arith in
        ap (slice_get P.relations) next ∙ there (suc j) q is))

    pub start_closed : IsClosed P (start P)
    start_closed =
        let ft : IsClosed P (holds_rows P.start Ft flow_sorts) = holds_sorted Ft flow_sorts P.start refl refl (λ Γ xs have. none_sorted Γ xs P.start) in
        let sent : IsClosed P (holds_rows P.start Sent flow_sorts) = holds_sorted Sent flow_sorts P.start refl refl (λ Γ xs have. none_sorted Γ xs P.start) in
        joined_sorted P no_rcv_this no_scope And (stored_from P.start 0 P.relations ++ (holds_rows P.start Ft flow_sorts ∷ holds_rows P.start Sent flow_sorts ∷ []))
        (both_sorted P no_rcv_this no_scope (stored_from P.start 0 P.relations) (holds_rows P.start Ft flow_sorts ∷ holds_rows P.start Sent flow_sorts ∷ [])
        (each_stored 0 P.relations (λ j r is. let same : 0 + j ≡ j = omega arith in ap (slice_get P.relations) same ∙ is)) (ft, (sent, tt)))
