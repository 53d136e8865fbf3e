-- A form that is numbered anew has the same copies, and each of its variables is bound once.
use Rattle.std.proofs.Common.{◌≡◌, ◌∙◌, ℕ, suc, ◌+◌, ◌≤◌, ◌<◌, ◌==◌, max, Bool, true, false, List, [], ◌∷◌, map, refl, ap, ap₂, cond, subst, arith, inl, inr}
use Rattle.std.proofs.Math.Path.{fun_ext}
use Rattle.std.specs.List.{list_any}
use Rattle.std.proofs.lemmas.Bool.{and_parts, both_ways, eqb-true, false_from_ne_true, false≢true, ne_eqb, or_cases}
use Rattle.general_facts.proofs.Numbers.{self_equal}
use Rattle.csdn_core.specs.Same.{same_sort}
use Rattle.csdn_core.specs.Truth.{with_var}
use Rattle.csdn_core.specs.Network.{same_pred}
use Rattle.csdn_core.specs.declared.terms.Sort.{Sort}
use Rattle.csdn_core.specs.declared.terms.VarId.{VarId}
use Rattle.csdn_core.specs.declared.terms.Term.{Term}
use Rattle.csdn_core.specs.declared.terms.Term.TheVariants.{Const, Port, Var}
use Rattle.fol_forms.specs.Constants.{need, one_if}
use Rattle.fol_forms.specs.Forms.{And, Atom, Fixed, ForAll, ForSome, Form, Or, Same}
use Rattle.fol_forms.specs.Renumber.{renamed}
use Rattle.decision_laws.specs.Copies.{Both, Either, Equation, Leaf, Scope, Tuple, copies, each, nothing, place, place_sort}
use Rattle.decision_laws.specs.Vocabulary.{Vocabulary, find_or}
use Rattle.decision_laws.specs.Weights.{each_weight, weight}
use Rattle.decision_laws.proofs.Fits.{fits, is_bound, term_fits, term_sort, terms_fit}
use Rattle.form_trees.specs.Numbered.{numbered, numbered_from, quantifiers}
use Rattle.form_trees.specs.Plain.{IsApartFrom, IsRectified, binds_variable, is_variable, names_variable}

-- Its constants and nodes are as many.

pub need_numbered : (new : ℕ → ℕ) (k : ℕ) (f : Form) (t : Sort) → need (numbered_from new k f) t ≡ need f t
need_numbered new k (Fixed b) t = refl
need_numbered new k (Atom sign r ts) t = refl
need_numbered new k (Same sign x y) t = refl
need_numbered new k (And p q) t = ap₂ (λ a b. a + b) (need_numbered new k p t) (need_numbered new (k + quantifiers p) q t)
need_numbered new k (Or p q) t = ap₂ max (need_numbered new k p t) (need_numbered new (k + quantifiers p) q t)
need_numbered new k (ForAll v s p) t = refl
need_numbered new k (ForSome v s p) t = ap (λ a. a + one_if s t) (need_numbered (with_var new v k) (suc k) p t)

pub weight_numbered : (n : Sort → ℕ) (new : ℕ → ℕ) (k : ℕ) (f : Form) → weight n (numbered_from new k f) ≡ weight n f
weight_numbered n new k (Fixed b) = refl
weight_numbered n new k (Atom sign r ts) = refl
weight_numbered n new k (Same sign x y) = refl
weight_numbered n new k (And p q) = ap₂ (λ a b. suc (a + b)) (weight_numbered n new k p) (weight_numbered n new (k + quantifiers p) q)
weight_numbered n new k (Or p q) = ap₂ (λ a b. suc (a + b)) (weight_numbered n new k p) (weight_numbered n new (k + quantifiers p) q)
weight_numbered n new k (ForAll v s p) = ap (each_weight (n s)) (weight_numbered n (with_var new v k) (suc k) p)
weight_numbered n new k (ForSome v s p) = weight_numbered n (with_var new v k) (suc k) p

-- What holds of the new number of each variable in scope.

abbrev pub AreNew : (ℕ → Type 0) → List (ℕ × Sort) → (ℕ → ℕ) → Type 0
AreNew P bound new = (v : ℕ) (s : Sort) → is_bound bound v s ≡ true → P (new v)

-- it holds under a quantifier too, where it holds of the number that the quantifier's variable gets
pub new_inner : (P : ℕ → Type 0) (bound : List (ℕ × Sort)) (new : ℕ → ℕ) (k : ℕ) (v : VarId) (s : Sort) → P k → AreNew P bound new → AreNew P ((v.0, s) ∷ bound) (with_var new v k)
new_inner P bound new k v s here all = λ w t h. at w t (w == v.0) h where
  at : (w : ℕ) (t : Sort) (b : Bool) → cond b (same_sort s t) (is_bound bound w t) ≡ true → P (cond b k (new w))
  at w t true h = here
  at w t false h = all w t h

-- numbers below k are below a greater one
below_inner : (bound : List (ℕ × Sort)) (new : ℕ → ℕ) (k : ℕ) (v : VarId) (s : Sort) → AreNew (λ u. u < k) bound new → AreNew (λ u. u < suc k) ((v.0, s) ∷ bound) (with_var new v k)
below_inner bound new k v s below =
    new_inner (λ u. u < suc k) bound new k v s (omega arith) (λ w t h. let less : new w < k = below w t h in omega (arith, less))

below_more : (bound : List (ℕ × Sort)) (new : ℕ → ℕ) (k more : ℕ) → AreNew (λ u. u < k) bound new → AreNew (λ u. u < k + more) bound new
below_more bound new k more below = λ w t h. let less : new w < k = below w t h in omega (arith, less)

-- Its copies are those of the form itself.

-- the new number of each variable in scope stands for what the variable stood for
abbrev pub StandAlike : List (ℕ × Sort) → (ℕ → ℕ) → Scope → Scope → Type 0
StandAlike bound new env after = (v : ℕ) (s : Sort) → is_bound bound v s ≡ true → find_or nothing after (new v) ≡ find_or nothing env v

alike_inner : (bound : List (ℕ × Sort)) (new : ℕ → ℕ) (k : ℕ) (v : VarId) (s : Sort) (c : Sort × ℕ) (env after : Scope)
    → AreNew (λ u. u < k) bound new → StandAlike bound new env after → StandAlike ((v.0, s) ∷ bound) (with_var new v k) ((v.0, c) ∷ env) ((k, c) ∷ after)
alike_inner bound new k v s c env after below all = λ w t h. at w t (w == v.0) h where
  at : (w : ℕ) (t : Sort) (b : Bool) → cond b (same_sort s t) (is_bound bound w t) ≡ true → cond (cond b k (new w) == k) c (find_or nothing after (cond b k (new w))) ≡ cond b c (find_or nothing env w)
  at w t true h = ap (λ b. cond b c (find_or nothing after k)) (self_equal k)
  at w t false h =
      let less : new w < k = below w t h in
      ap (λ b. cond b c (find_or nothing after (new w))) (ne_eqb (new w) k (λ e. omega (arith, less, e))) ∙ all w t h

module _ (voc : Vocabulary) where
  place-renamed : (bound : List (ℕ × Sort)) (new : ℕ → ℕ) (env after : Scope) (s : Sort) (t : Term) → StandAlike bound new env after → term_fits voc bound s t ≡ true → place voc after (renamed new t) ≡ place voc env t
  place-renamed bound new env after s (Var v) all h = ap (λ p. p.1) (all v.0 s h)
  place-renamed bound new env after s (Const c) all h = refl
  place-renamed bound new env after s (Port k) all h = refl

  sort-renamed : (bound : List (ℕ × Sort)) (new : ℕ → ℕ) (env after : Scope) (s : Sort) (t : Term) → StandAlike bound new env after → term_fits voc bound s t ≡ true → place_sort voc after (renamed new t) ≡ place_sort voc env t
  sort-renamed bound new env after s (Var v) all h = ap (λ p. p.0) (all v.0 s h)
  sort-renamed bound new env after s (Const c) all h = refl
  sort-renamed bound new env after s (Port k) all h = refl

  places-renamed : (bound : List (ℕ × Sort)) (new : ℕ → ℕ) (env after : Scope) (ss : List Sort) (ts : List Term) → StandAlike bound new env after → terms_fit voc bound ss ts ≡ true → map (place voc after) (map (renamed new) ts) ≡ map (place voc env) ts
  places-renamed bound new env after [] [] all h = refl
  places-renamed bound new env after [] (t ∷ ts) all h = absurd (false≢true h)
  places-renamed bound new env after (s ∷ ss) [] all h = refl
  places-renamed bound new env after (s ∷ ss) (t ∷ ts) all h =
      let parts = and_parts (term_fits voc bound s t) (terms_fit voc bound ss ts) h in
      ap₂ (λ x xs. x ∷ xs) (place-renamed bound new env after s t all parts.0) (places-renamed bound new env after ss ts all parts.1)

  pub copies_numbered_from : (n : Sort → ℕ) (f : Form) (new : ℕ → ℕ) (k : ℕ) (bound : List (ℕ × Sort)) (env after : Scope) (base : Sort → ℕ)
      → fits voc bound f ≡ true → AreNew (λ u. u < k) bound new → StandAlike bound new env after → copies voc n (numbered_from new k f) after base ≡ copies voc n f env base
  copies_numbered_from n (Fixed b) new k bound env after base fit below all = refl
  copies_numbered_from n (Atom sign r ts) new k bound env after base fit below all =
      let parts = and_parts (list_any (same_pred r) voc.relations) (terms_fit voc bound (voc.columns r) ts) fit in
      ap (λ xs. Leaf sign (Tuple r xs)) (places-renamed bound new env after (voc.columns r) ts all parts.1)
  copies_numbered_from n (Same sign t u) new k bound env after base fit below all =
      let s = term_sort voc bound t in
      let parts = and_parts (term_fits voc bound s t) (term_fits voc bound s u) fit in
      ap (λ x. Leaf sign (Equation x (place voc after (renamed new t)) (place voc after (renamed new u)))) (sort-renamed bound new env after s t all parts.0)
      ∙ ap₂ (λ a b. Leaf sign (Equation (place_sort voc env t) a b)) (place-renamed bound new env after s t all parts.0) (place-renamed bound new env after s u all parts.1)
  copies_numbered_from n (And p q) new k bound env after base fit below all =
      let parts = and_parts (fits voc bound p) (fits voc bound q) fit in
      let more = quantifiers p in
      ap₂ (λ a b. Both a b) (copies_numbered_from n p new k bound env after base parts.0 below all)
      (ap (copies voc n (numbered_from new (k + more) q) after) (fun_ext (λ t. ap (λ m. base t + m) (need_numbered new k p t)))
      ∙ copies_numbered_from n q new (k + more) bound env after (λ t. base t + need p t) parts.1 (below_more bound new k more below) all)
  copies_numbered_from n (Or p q) new k bound env after base fit below all =
      let parts = and_parts (fits voc bound p) (fits voc bound q) fit in
      let more = quantifiers p in
      ap₂ (λ a b. Either a b) (copies_numbered_from n p new k bound env after base parts.0 below all)
      (copies_numbered_from n q new (k + more) bound env after base parts.1 (below_more bound new k more below) all)
  copies_numbered_from n (ForAll v s p) new k bound env after base fit below all =
      ap (each (n s))
      (fun_ext
      (λ a. copies_numbered_from n p (with_var new v k) (suc k) ((v.0, s) ∷ bound) ((v.0, (s, a)) ∷ env) ((k, (s, a)) ∷ after) base fit (below_inner bound new k v s below)
      (alike_inner bound new k v s (s, a) env after below all)))
  copies_numbered_from n (ForSome v s p) new k bound env after base fit below all =
      copies_numbered_from n p (with_var new v k) (suc k) ((v.0, s) ∷ bound) ((v.0, (s, base s)) ∷ env) ((k, (s, base s)) ∷ after) (λ t. base t + one_if s t) fit
      (below_inner bound new k v s below) (alike_inner bound new k v s (s, base s) env after below all)

-- the copies of a sentence are those of the sentence numbered anew
pub copies_numbered : (voc : Vocabulary) (n : Sort → ℕ) (f : Form) (base : Sort → ℕ) → fits voc [] f ≡ true → copies voc n (numbered f) [] base ≡ copies voc n f [] base
copies_numbered voc n f base fit = copies_numbered_from voc n f (λ v. v) 0 [] [] [] base fit (λ v s h. absurd (false≢true h)) (λ v s h. absurd (false≢true h))

-- Each of its variables is bound once.

-- its quantifiers bind numbers from k on, as many as there are
pub binds_between : (f : Form) (new : ℕ → ℕ) (k u : ℕ) → binds_variable (numbered_from new k f) u ≡ true → (k ≤ u) × (u < k + quantifiers f)
binds_between (Fixed b) new k u e = absurd (false≢true e)
binds_between (Atom sign r ts) new k u e = absurd (false≢true e)
binds_between (Same sign x y) new k u e = absurd (false≢true e)
binds_between (And p q) new k u e = elim (or_cases (binds_variable (numbered_from new k p) u) (binds_variable (numbered_from new (k + quantifiers p) q) u) e) [
  | inl l ↦ (let i = binds_between p new k u l in (i.0, omega (arith, i.1)))
  | inr r ↦ (let i = binds_between q new (k + quantifiers p) u r in (omega (arith, i.0), omega (arith, i.1)))
]
binds_between (Or p q) new k u e = elim (or_cases (binds_variable (numbered_from new k p) u) (binds_variable (numbered_from new (k + quantifiers p) q) u) e) [
  | inl l ↦ (let i = binds_between p new k u l in (i.0, omega (arith, i.1)))
  | inr r ↦ (let i = binds_between q new (k + quantifiers p) u r in (omega (arith, i.0), omega (arith, i.1)))
]
binds_between (ForAll v s p) new k u e = elim (or_cases (k == u) (binds_variable (numbered_from (with_var new v k) (suc k) p) u) e) [
  | inl l ↦ (let is = eqb-true k u l in (omega (arith, is), omega (arith, is)))
  | inr r ↦ (let i = binds_between p (with_var new v k) (suc k) u r in (omega (arith, i.0), omega (arith, i.1)))
]
binds_between (ForSome v s p) new k u e = elim (or_cases (k == u) (binds_variable (numbered_from (with_var new v k) (suc k) p) u) e) [
  | inl l ↦ (let is = eqb-true k u l in (omega (arith, is), omega (arith, is)))
  | inr r ↦ (let i = binds_between p (with_var new v k) (suc k) u r in (omega (arith, i.0), omega (arith, i.1)))
]

-- no number below those, and none behind them
unbound_below : (f : Form) (new : ℕ → ℕ) (k u : ℕ) → u < k → binds_variable (numbered_from new k f) u ≡ false
unbound_below f new k u less = false_from_ne_true (binds_variable (numbered_from new k f) u) (λ e. let i = binds_between f new k u e in omega (arith, i.0, less))

unbound_behind : (f : Form) (new : ℕ → ℕ) (k u : ℕ) → k + quantifiers f ≤ u → binds_variable (numbered_from new k f) u ≡ false
unbound_behind f new k u more = false_from_ne_true (binds_variable (numbered_from new k f) u) (λ e. let i = binds_between f new k u e in omega (arith, i.1, more))

module _ (voc : Vocabulary) (P : ℕ → Type 0) where
  named_term : (bound : List (ℕ × Sort)) (new : ℕ → ℕ) (s : Sort) (t : Term) (u : ℕ) → AreNew P bound new → term_fits voc bound s t ≡ true → is_variable u (renamed new t) ≡ true → P u
  named_term bound new s (Var v) u all fit e = subst P (eqb-true (new v.0) u e) (all v.0 s fit)
  named_term bound new s (Const c) u all fit e = absurd (false≢true e)
  named_term bound new s (Port k) u all fit e = absurd (false≢true e)

  named_terms : (bound : List (ℕ × Sort)) (new : ℕ → ℕ) (ss : List Sort) (ts : List Term) (u : ℕ) → AreNew P bound new → terms_fit voc bound ss ts ≡ true → list_any (is_variable u) (map (renamed new) ts) ≡ true → P u
  named_terms bound new ss [] u all fit e = absurd (false≢true e)
  named_terms bound new [] (t ∷ ts) u all fit e = absurd (false≢true fit)
  named_terms bound new (s ∷ ss) (t ∷ ts) u all fit e =
      let parts = and_parts (term_fits voc bound s t) (terms_fit voc bound ss ts) fit in
      elim (or_cases (is_variable u (renamed new t)) (list_any (is_variable u) (map (renamed new) ts)) e) [
        | inl l ↦ named_term bound new s t u all parts.0 l
        | inr r ↦ named_terms bound new ss ts u all parts.1 r
      ]

  -- what holds of the new numbers of the variables in scope, and of those that its quantifiers bind, holds of each that it names
  pub named_numbers : (f : Form) (new : ℕ → ℕ) (k : ℕ) (bound : List (ℕ × Sort)) → fits voc bound f ≡ true → AreNew P bound new → ((u : ℕ) → k ≤ u → u < k + quantifiers f → P u)
      → (u : ℕ) → names_variable (numbered_from new k f) u ≡ true → P u
  named_numbers (Fixed b) new k bound fit all own u e = absurd (false≢true e)
  named_numbers (Atom sign r ts) new k bound fit all own u e =
      let parts = and_parts (list_any (same_pred r) voc.relations) (terms_fit voc bound (voc.columns r) ts) fit in
      named_terms bound new (voc.columns r) ts u all parts.1 e
  named_numbers (Same sign x y) new k bound fit all own u e =
      let s = term_sort voc bound x in
      let parts = and_parts (term_fits voc bound s x) (term_fits voc bound s y) fit in
      elim (or_cases (is_variable u (renamed new x)) (is_variable u (renamed new y)) e) [
        | inl l ↦ named_term bound new s x u all parts.0 l
        | inr r ↦ named_term bound new s y u all parts.1 r
      ]
  named_numbers (And p q) new k bound fit all own u e =
      let parts = and_parts (fits voc bound p) (fits voc bound q) fit in
      elim (or_cases (names_variable (numbered_from new k p) u) (names_variable (numbered_from new (k + quantifiers p) q) u) e) [
        | inl l ↦ named_numbers p new k bound parts.0 all (λ w low high. own w low (omega (arith, high))) u l
        | inr r ↦ named_numbers q new (k + quantifiers p) bound parts.1 all (λ w low high. own w (omega (arith, low)) (omega (arith, high))) u r
      ]
  named_numbers (Or p q) new k bound fit all own u e =
      let parts = and_parts (fits voc bound p) (fits voc bound q) fit in
      elim (or_cases (names_variable (numbered_from new k p) u) (names_variable (numbered_from new (k + quantifiers p) q) u) e) [
        | inl l ↦ named_numbers p new k bound parts.0 all (λ w low high. own w low (omega (arith, high))) u l
        | inr r ↦ named_numbers q new (k + quantifiers p) bound parts.1 all (λ w low high. own w (omega (arith, low)) (omega (arith, high))) u r
      ]
  named_numbers (ForAll v s p) new k bound fit all own u e =
      let here : P k = own k (omega arith) (omega arith) in
      named_numbers p (with_var new v k) (suc k) ((v.0, s) ∷ bound) fit (new_inner P bound new k v s here all) (λ w low high. own w (omega (arith, low)) (omega (arith, high))) u e
  named_numbers (ForSome v s p) new k bound fit all own u e =
      let here : P k = own k (omega arith) (omega arith) in
      named_numbers p (with_var new v k) (suc k) ((v.0, s) ∷ bound) fit (new_inner P bound new k v s here all) (λ w low high. own w (omega (arith, low)) (omega (arith, high))) u e

-- two parts are apart where no variable that the second names or binds is bound in the first
apart_from : (p q : Form) → ((v : ℕ) → names_variable q v ≡ true → binds_variable p v ≡ false) → ((v : ℕ) → binds_variable q v ≡ true → binds_variable p v ≡ false) → IsApartFrom p q
apart_from p q named bound = record {
  unnamed = λ v e. false_from_ne_true (names_variable q v) (λ t. both_ways (binds_variable p v) (named v t) e);
  unbound = λ v e. false_from_ne_true (binds_variable q v) (λ t. both_ways (binds_variable p v) (bound v t) e);
}

module _ (voc : Vocabulary) where
  -- two parts, the second numbered behind the first
  apart_behind : (p q : Form) (new : ℕ → ℕ) (k : ℕ) (bound : List (ℕ × Sort)) → fits voc bound q ≡ true → AreNew (λ u. u < k) bound new
      → IsApartFrom (numbered_from new k p) (numbered_from new (k + quantifiers p) q)
  apart_behind p q new k bound fit below =
      let later = k + quantifiers p in
      apart_from (numbered_from new k p) (numbered_from new later q)
      (named_numbers voc (λ u. binds_variable (numbered_from new k p) u ≡ false) q new later bound fit (λ v s h. unbound_below p new k (new v) (below v s h)) (λ u low high. unbound_behind p new k u low))
      (λ u e. unbound_behind p new k u (binds_between q new later u e).0)

  apart_before : (p q : Form) (new : ℕ → ℕ) (k : ℕ) (bound : List (ℕ × Sort)) → fits voc bound p ≡ true → AreNew (λ u. u < k) bound new
      → IsApartFrom (numbered_from new (k + quantifiers p) q) (numbered_from new k p)
  apart_before p q new k bound fit below =
      let later = k + quantifiers p in
      apart_from (numbered_from new later q) (numbered_from new k p)
      (named_numbers voc (λ u. binds_variable (numbered_from new later q) u ≡ false) p new k bound fit
      (λ v s h. unbound_below q new later (new v) (below_more bound new k (quantifiers p) below v s h)) (λ u low high. unbound_below q new later u high))
      (λ u e. unbound_below q new later u (binds_between p new k u e).1)

  pub rectified_numbered_from : (f : Form) (new : ℕ → ℕ) (k : ℕ) (bound : List (ℕ × Sort)) → fits voc bound f ≡ true → AreNew (λ u. u < k) bound new → IsRectified (numbered_from new k f)
  rectified_numbered_from (Fixed b) new k bound fit below = tt
  rectified_numbered_from (Atom sign r ts) new k bound fit below = tt
  rectified_numbered_from (Same sign x y) new k bound fit below = tt
  rectified_numbered_from (And p q) new k bound fit below =
      let parts = and_parts (fits voc bound p) (fits voc bound q) fit in (
        rectified_numbered_from p new k bound parts.0 below,
        rectified_numbered_from q new (k + quantifiers p) bound parts.1 (below_more bound new k (quantifiers p) below),
        apart_behind p q new k bound parts.1 below,
        apart_before p q new k bound parts.0 below,
      )
  rectified_numbered_from (Or p q) new k bound fit below =
      let parts = and_parts (fits voc bound p) (fits voc bound q) fit in (
        rectified_numbered_from p new k bound parts.0 below,
        rectified_numbered_from q new (k + quantifiers p) bound parts.1 (below_more bound new k (quantifiers p) below),
        apart_behind p q new k bound parts.1 below,
        apart_before p q new k bound parts.0 below,
      )
  rectified_numbered_from (ForAll v s p) new k bound fit below =
      (rectified_numbered_from p (with_var new v k) (suc k) ((v.0, s) ∷ bound) fit (below_inner bound new k v s below), unbound_below p (with_var new v k) (suc k) k (omega arith))
  rectified_numbered_from (ForSome v s p) new k bound fit below =
      (rectified_numbered_from p (with_var new v k) (suc k) ((v.0, s) ∷ bound) fit (below_inner bound new k v s below), unbound_below p (with_var new v k) (suc k) k (omega arith))

-- a sentence numbered anew is rectified
pub rectified_numbered : (voc : Vocabulary) (f : Form) → fits voc [] f ≡ true → IsRectified (numbered f)
rectified_numbered voc f fit = rectified_numbered_from voc f (λ v. v) 0 [] fit (λ v s h. absurd (false≢true h))
