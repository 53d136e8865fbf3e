-- A sentence fits the vocabulary in which it is decided.
use Rattle.csdn_core.proofs.Members.{contains_in, in_left, in_map, in_right}
use Rattle.csdn_core.proofs.Same.{same_pred-refl, same_sort-refl}
use Rattle.csdn_core.specs.Members.{IsIn}
use Rattle.csdn_core.specs.Network.{same_pred}
use Rattle.csdn_core.specs.Same.{same_sort}
use Rattle.csdn_core.specs.Sorted.{sorts_of}
use Rattle.csdn_core.specs.SortedIn.{HasSortIn, HaveSortsIn, IsAtomIn, IsSortedIn, Scope, no_rcv_this, no_scope, with_sort}
use Rattle.csdn_core.specs.Tree.{conjunction, disjunction, equivalence, existential, implication, negation, universal}
use Rattle.csdn_core.specs.WellSorted.{signature}
use Rattle.csdn_core.specs.declared.program.Constant.{Constant}
use Rattle.csdn_core.specs.declared.program.Parts.{Parts}
use Rattle.csdn_core.specs.declared.program.Relation.{Relation}
use Rattle.csdn_core.specs.declared.syntax.Formula.{Formula}
use Rattle.csdn_core.specs.declared.terms.ConstId.{ConstId}
use Rattle.csdn_core.specs.declared.terms.Pred.{Pred}
use Rattle.csdn_core.specs.declared.terms.Pred.TheVariants.{Ft, RcvThis, Sent, Stored}
use Rattle.csdn_core.specs.declared.terms.Sort.{Sort}
use Rattle.csdn_core.specs.declared.terms.Sort.TheVariants.{Pr, Sw}
use Rattle.csdn_core.specs.declared.terms.Term.{Term}
use Rattle.csdn_core.specs.declared.terms.Term.TheVariants.{Const, Port, Var}
use Rattle.csdn_core.specs.declared.terms.VarId.{VarId}
use Rattle.decision_laws.proofs.Basics.{any_from, place_in, IsClosed}
use Rattle.decision_laws.proofs.Lists.{in_filter, in_term}
use Rattle.decision_laws.proofs.Words.{is_vocabulary, constant_has}
use Rattle.decision_laws.specs.Laws.{words, IsSentence}
use Rattle.decision_laws.specs.Vocabulary.{all_relations, find_or, has_term, places_from, sort_of_constant, sort_or, sorts_or, uses, vocabulary}
use Rattle.decision_laws.proofs.Fits.{fits, is_bound, term_fits, term_sort, terms_fit}
use Rattle.fol_forms.specs.Constants.{constants_from, names_of, numerals_of}
use Rattle.fol_forms.specs.Forms.{And, Atom, Form, Same, form_of, normal_form}
use Rattle.std.proofs.Common.{Bool, IsTrue, List, None, Option, Some, [], ap, arith, cond, false, inl, inr, length, map, refl, slice_get, subst, sym, true, ℕ, ◌+◌, ◌==◌, ◌∙◌, ◌∷◌, ◌≡◌}
use Rattle.std.proofs.lemmas.Bool.{and_from, false≢true, or_left, or_right}
use Rattle.std.proofs.lemmas.Option.{none-some, same_Some, slice_get_within}
use Rattle.std.specs.List.{list_any}
use Rattle.std.specs.Prelude.{is_some, option_map}
use Rattle.csdn_core.specs.declared.syntax.Formula.TheVariants as f

stored_below_step : (o : Option Relation) (ss : List Sort) → option_map (λ d. d.sorts) o ≡ Some ss → (d : Relation) × (o ≡ Some d)
stored_below_step None ss e = absurd (false≢true (ap is_some e))
stored_below_step (Some d) ss e = (d, refl)

-- a relation other than `rcv_this` that is declared is one of the program's
is_listed : (P : Parts) (r : Pred) (ss : List Sort) → sorts_of (signature P) r ≡ Some ss → same_pred r RcvThis ≡ false → IsIn r (all_relations P)
is_listed P (Stored r) ss e other =
    let stored : ℕ → Pred = λ k. Stored (record { 0 = k }) in
    in_left (map stored (places_from 0 (length P.relations))) (Ft ∷ Sent ∷ []) (Stored r)
    (in_map stored (places_from 0 (length P.relations)) r.0 (place_in 0 (length P.relations) r.0 (omega arith) (omega (arith, (let w = stored_below_step (slice_get P.relations r.0) ss e in slice_get_within P.relations r.0 w.0 w.1)))))
is_listed P Ft ss e other = in_right (map (λ k. Stored (record { 0 = k })) (places_from 0 (length P.relations))) (Ft ∷ Sent ∷ []) Ft (inl refl)
is_listed P Sent ss e other = in_right (map (λ k. Stored (record { 0 = k })) (places_from 0 (length P.relations))) (Ft ∷ Sent ∷ []) Sent (inr (inl refl))
is_listed P RcvThis ss e other = absurd (false≢true (sym other))

-- a declared constant has its sort, and is among its names
constant_named : (P : Parts) (s : Sort) (k : ConstId) (o : Option Constant) → slice_get P.constants k.0 ≡ o → option_map (λ d. d.sort) o ≡ Some s → (sort_of_constant P k.0 ≡ s) × (has_term (Const k) (names_of P s) ≡ true)
constant_named P s k None e h = absurd (false≢true (ap is_some h))
constant_named P s k (Some c) e h =
    let q : c.sort ≡ s = same_Some c.sort s h in
    let z : 0 + k.0 ≡ k.0 = omega arith in
    let i = constant_has s 0 P.constants k.0 c e q in (
      ap sort_or e ∙ q,
      in_term (Const k) (names_of P s) (in_left (constants_from s 0 P.constants) (numerals_of s P.numerals) (Const k) (subst (λ y. IsIn (Const (record { 0 = y })) (constants_from s 0 P.constants)) z i)),
    )

-- each variable in scope is bound with its sort
record IsBound (Γ : Scope) (bound : List (ℕ × Sort)) : Type 0 where
  there : (v : ℕ) (s : Sort) → Γ v ≡ Some s → is_bound bound v s ≡ true
  sort : (v : ℕ) (s : Sort) → Γ v ≡ Some s → find_or Sw bound v ≡ s

IsBound-pushed : (Γ : Scope) (bound : List (ℕ × Sort)) (v : VarId) (s : Sort) → IsBound Γ bound → IsBound (with_sort Γ v s) ((v.0, s) ∷ bound)
IsBound-pushed Γ bound v s all = record { there = λ w t. there w t (w == v.0); sort = λ w t. sort w t (w == v.0) }
  where
    there : (w : ℕ) (t : Sort) (b : Bool) → cond b (Some s) (Γ w) ≡ Some t → cond b (same_sort s t) (is_bound bound w t) ≡ true
    there w t true is = ap (same_sort s) (sym (same_Some s t is)) ∙ same_sort-refl s
    there w t false is = all.there w t is

    sort : (w : ℕ) (t : Sort) (b : Bool) → cond b (Some s) (Γ w) ≡ Some t → cond b s (find_or Sw bound w) ≡ t
    sort w t true is = same_Some s t is
    sort w t false is = all.sort w t is

module _ (P : Parts) (g : Form) where
  -- what is used here is used in the whole
  abbrev IsWithin : Form → Type 0
  IsWithin p = (r : Pred) → uses p r ≡ true → uses g r ≡ true

  -- two forms, each within the whole where both are
  both_fit : (bound : List (ℕ × Sort)) (p q : Form) → IsWithin (And p q) → (IsWithin p → fits (vocabulary P g) bound p ≡ true) → (IsWithin q → fits (vocabulary P g) bound q ≡ true) → fits (vocabulary P g) bound (And p q) ≡ true
  both_fit bound p q within first second =
      and_from (fits (vocabulary P g) bound p) (fits (vocabulary P g) bound q) (first (λ r u. within r (or_left (uses p r) (uses q r) u))) (second (λ r u. within r (or_right (uses p r) (uses q r) u)))

  -- a term fits its sort, which is found
  term_fitting : (Γ : Scope) (bound : List (ℕ × Sort)) → IsBound Γ bound → (s : Sort) (t : Term) → HasSortIn (signature P) Γ s t → (term_fits (vocabulary P g) bound s t ≡ true) × (term_sort (vocabulary P g) bound t ≡ s)
  term_fitting Γ bound all s (Var v) has = (all.there v.0 s has, all.sort v.0 s has)
  term_fitting Γ bound all s (Const k) has =
      let named = constant_named P s k (slice_get P.constants k.0) refl has in
      (and_from (same_sort (sort_of_constant P k.0) s) (has_term (Const k) (names_of P s)) (ap (λ t. same_sort t s) named.0 ∙ same_sort-refl s) named.1, named.0)
  term_fitting Γ bound all s (Port k) has =
      let named = (is_vocabulary P g).numbered k (contains_in P.numerals k has.1) in
      (and_from (same_sort Pr s) (has_term (Port k) (names_of P s)) (ap (same_sort Pr) has.0) (subst (λ t. has_term (Port k) (names_of P t) ≡ true) (sym has.0) named), sym has.0)

  terms_fitting : (Γ : Scope) (bound : List (ℕ × Sort)) → IsBound Γ bound → (ss : List Sort) (ts : List Term) → HaveSortsIn (signature P) Γ ss ts → terms_fit (vocabulary P g) bound ss ts ≡ true
  unfolding HaveSortsIn
  terms_fitting Γ bound all [] [] have = refl
  terms_fitting Γ bound all [] (t ∷ ts) have = absurd have
  terms_fitting Γ bound all (s ∷ ss) [] have = absurd have
  terms_fitting Γ bound all (s ∷ ss) (t ∷ ts) have = and_from (term_fits (vocabulary P g) bound s t) (terms_fit (vocabulary P g) bound ss ts) (term_fitting Γ bound all s t have.0).0 (terms_fitting Γ bound all ss ts have.1)

  atom_fits : (Γ : Scope) (bound : List (ℕ × Sort)) → IsBound Γ bound → (sign : Bool) (r : Pred) (ts : List Term) → IsAtomIn (signature P) Γ r ts → no_rcv_this r → IsWithin (Atom sign r ts) → fits (vocabulary P g) bound (Atom sign r ts) ≡ true
  atom_fits Γ bound all sign r ts atom other within =
      let voc = vocabulary P g in
      let listed = in_filter (uses g) (all_relations P) r (is_listed P r atom.sorts atom.declared other) (within r (same_pred-refl r)) in
      and_from (list_any (same_pred r) voc.relations) (terms_fit voc bound (voc.columns r) ts) (any_from (same_pred r) voc.relations r listed (same_pred-refl r))
      (subst (λ ss. terms_fit voc bound ss ts ≡ true) (sym (ap sorts_or atom.declared)) (terms_fitting Γ bound all atom.sorts ts atom.terms))

  equation_fits : (Γ : Scope) (bound : List (ℕ × Sort)) → IsBound Γ bound → (sign : Bool) (s : Sort) (t u : Term) → HasSortIn (signature P) Γ s t → HasSortIn (signature P) Γ s u → fits (vocabulary P g) bound (Same sign t u) ≡ true
  equation_fits Γ bound all sign s t u has_t has_u =
      let voc = vocabulary P g in
      let first = term_fitting Γ bound all s t has_t in
      let second = term_fitting Γ bound all s u has_u in
      and_from (term_fits voc bound (term_sort voc bound t) t) (term_fits voc bound (term_sort voc bound t) u)
      (subst (λ k. term_fits voc bound k t ≡ true) (sym first.1) first.0) (subst (λ k. term_fits voc bound k u ≡ true) (sym first.1) second.0)

  fitting : (sign : Bool) (F : Formula) (Γ : Scope) (bound : List (ℕ × Sort)) → IsBound Γ bound → IsSortedIn (signature P) no_rcv_this Γ F → IsWithin (normal_form sign F) → fits (vocabulary P g) bound (normal_form sign F) ≡ true
  unfolding normal_form IsSortedIn
  fitting true f.True Γ bound all sorted within = refl
  fitting false f.True Γ bound all sorted within = refl
  fitting true f.False Γ bound all sorted within = refl
  fitting false f.False Γ bound all sorted within = refl
  fitting sign (f.Atom r ts) Γ bound all sorted within = atom_fits Γ bound all sign r ts sorted.0 sorted.1 within
  fitting sign (f.Same t u) Γ bound all sorted within = equation_fits Γ bound all sign sorted.0 t u sorted.1 sorted.2
  fitting true (negation p) Γ bound all sorted within = fitting false p Γ bound all sorted within
  fitting false (negation p) Γ bound all sorted within = fitting true p Γ bound all sorted within
  fitting true (conjunction p q) Γ bound all sorted within = both_fit bound (normal_form true p) (normal_form true q) within (fitting true p Γ bound all sorted.0) (fitting true q Γ bound all sorted.1)
  fitting false (conjunction p q) Γ bound all sorted within = both_fit bound (normal_form false p) (normal_form false q) within (fitting false p Γ bound all sorted.0) (fitting false q Γ bound all sorted.1)
  fitting true (disjunction p q) Γ bound all sorted within = both_fit bound (normal_form true p) (normal_form true q) within (fitting true p Γ bound all sorted.0) (fitting true q Γ bound all sorted.1)
  fitting false (disjunction p q) Γ bound all sorted within = both_fit bound (normal_form false p) (normal_form false q) within (fitting false p Γ bound all sorted.0) (fitting false q Γ bound all sorted.1)
  fitting true (implication p q) Γ bound all sorted within = both_fit bound (normal_form false p) (normal_form true q) within (fitting false p Γ bound all sorted.0) (fitting true q Γ bound all sorted.1)
  fitting false (implication p q) Γ bound all sorted within = both_fit bound (normal_form true p) (normal_form false q) within (fitting true p Γ bound all sorted.0) (fitting false q Γ bound all sorted.1)
  fitting true (equivalence p q) Γ bound all sorted within =
      both_fit bound (And (normal_form true p) (normal_form true q)) (And (normal_form false p) (normal_form false q)) within
      (λ inside. both_fit bound (normal_form true p) (normal_form true q) inside (fitting true p Γ bound all sorted.0) (fitting true q Γ bound all sorted.1))
      (λ inside. both_fit bound (normal_form false p) (normal_form false q) inside (fitting false p Γ bound all sorted.0) (fitting false q Γ bound all sorted.1))
  fitting false (equivalence p q) Γ bound all sorted within =
      both_fit bound (And (normal_form true p) (normal_form false q)) (And (normal_form false p) (normal_form true q)) within
      (λ inside. both_fit bound (normal_form true p) (normal_form false q) inside (fitting true p Γ bound all sorted.0) (fitting false q Γ bound all sorted.1))
      (λ inside. both_fit bound (normal_form false p) (normal_form true q) inside (fitting false p Γ bound all sorted.0) (fitting true q Γ bound all sorted.1))
  fitting true (universal v s p) Γ bound all sorted within = fitting true p (with_sort Γ v s) ((v.0, s) ∷ bound) (IsBound-pushed Γ bound v s all) sorted within
  fitting false (universal v s p) Γ bound all sorted within = fitting false p (with_sort Γ v s) ((v.0, s) ∷ bound) (IsBound-pushed Γ bound v s all) sorted within
  fitting true (existential v s p) Γ bound all sorted within = fitting true p (with_sort Γ v s) ((v.0, s) ∷ bound) (IsBound-pushed Γ bound v s all) sorted within
  fitting false (existential v s p) Γ bound all sorted within = fitting false p (with_sort Γ v s) ((v.0, s) ∷ bound) (IsBound-pushed Γ bound v s all) sorted within

pub sentence_fits : (P : Parts) (F : Formula) → IsSortedIn (signature P) no_rcv_this no_scope F → IsTrue (fits (words P F) [] (form_of F))
sentence_fits P F sorted = fitting P (form_of F) true F no_scope [] nothing sorted (λ r used. used)
  where
    nothing : IsBound no_scope []
    nothing = record { there = λ v s is. absurd (none-some s is); sort = λ v s is. absurd (none-some s is) }

-- a sentence of the program, in its vocabulary
pub is_closed : (P : Parts) (F : Formula) → IsSentence P F → IsClosed (words P F) (form_of F)
is_closed P F is = record { vocabulary = is_vocabulary P (form_of F); closed = sentence_fits P F is.closed; inside = is.inside }
