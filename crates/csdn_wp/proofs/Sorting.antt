-- Formulas that are well-sorted in a scope.
use Rattle.std.proofs.Common.{◌≡◌, ℕ, suc, ◌+◌, ◌<◌, ◌==◌, Bool, true, false, not, ◌&&◌, cond, List, [], ◌∷◌, length, map, Some, None, refl, ap, sym, ◌∙◌, IsFalse, arith}
use Rattle.general_facts.proofs.Numbers.{self_equal}
use Rattle.std.proofs.lemmas.Bool.{or_from}
use Rattle.std.proofs.lemmas.Option.{none-some}
use Rattle.csdn_core.specs.declared.terms.VarId.{VarId}
use Rattle.csdn_core.specs.declared.terms.Sort.{Sort}
use Rattle.csdn_core.specs.declared.terms.Term.{Term}
use Rattle.csdn_core.specs.declared.terms.Term.TheVariants.{Var, Const, Port}
use Rattle.csdn_core.specs.declared.terms.Pred.{Pred}
use Rattle.csdn_core.specs.declared.syntax.Formula.{Formula}
use Rattle.csdn_core.specs.declared.syntax.Formula.TheVariants as f
use Rattle.csdn_core.specs.Tree.{negation, conjunction, disjunction, implication, equivalence, universal, existential}
use Rattle.csdn_core.specs.Truth.{with_var}
use Rattle.csdn_core.specs.Variables.{is_var, vars_of, free_in}
use Rattle.csdn_core.specs.Sorted.{Signature}
use Rattle.fol_forms.specs.Replace.{same}
use Rattle.fol_forms.specs.Renumber.{binders, renamed, renumbered, renumber}
use Rattle.csdn_core.specs.SortedIn.{Scope, no_scope, with_sort, Relations, HasSortIn, HaveSortsIn, IsSortedIn}

-- what is in the first scope is in the second, with its sort
abbrev pub Extends : Scope → Scope → Type 0
Extends Γ Δ = (v : ℕ) (s : Sort) → Γ v ≡ Some s → Δ v ≡ Some s

pub Extends-under : (Γ Δ : Scope) (v : VarId) (s : Sort) → Extends Γ Δ → Extends (with_sort Γ v s) (with_sort Δ v s)
Extends-under Γ Δ v s more w t = go (w == v.0)
  where
    go : (b : Bool) → cond b (Some s) (Γ w) ≡ Some t → cond b (Some s) (Δ w) ≡ Some t
    go true is = is
    go false is = more w t is

-- a new variable extends the scope
pub Extends-new : (Γ : Scope) (v : VarId) (s : Sort) → Γ v.0 ≡ None → Extends Γ (with_sort Γ v s)
Extends-new Γ v s new w t is = go (w == v.0) refl
  where
    go : (b : Bool) → (w == v.0) ≡ b → cond b (Some s) (Γ w) ≡ Some t
    go true same = absurd (none-some t (sym new ∙ ap Γ (sym (let e : w ≡ v.0 = grind arith in e)) ∙ is))
    go false other = is

-- where nothing is in scope, everything extends it
pub Extends-none : (Δ : Scope) → Extends no_scope Δ
Extends-none Δ v s is = absurd (none-some s is)

module _ (S : Signature) where
  pub HasSortIn-more : (Γ Δ : Scope) → Extends Γ Δ → (s : Sort) (t : Term) → HasSortIn S Γ s t → HasSortIn S Δ s t
  HasSortIn-more Γ Δ more s (Var v) has = more v.0 s has
  HasSortIn-more Γ Δ more s (Const k) has = has
  HasSortIn-more Γ Δ more s (Port k) has = has

  pub HaveSortsIn-more : (Γ Δ : Scope) → Extends Γ Δ → (ss : List Sort) (ts : List Term) → HaveSortsIn S Γ ss ts → HaveSortsIn S Δ ss ts
  unfolding HaveSortsIn
  HaveSortsIn-more Γ Δ more [] [] have = tt
  HaveSortsIn-more Γ Δ more [] (t ∷ ts) have = have
  HaveSortsIn-more Γ Δ more (s ∷ ss) [] have = have
  HaveSortsIn-more Γ Δ more (s ∷ ss) (t ∷ ts) have = (HasSortIn-more Γ Δ more s t have.0, HaveSortsIn-more Γ Δ more ss ts have.1)

  pub HaveSortsIn-length : (Γ : Scope) (ss : List Sort) (ts : List Term) → HaveSortsIn S Γ ss ts → length ts ≡ length ss
  unfolding HaveSortsIn
  HaveSortsIn-length Γ [] [] have = refl
  HaveSortsIn-length Γ [] (t ∷ ts) have = absurd have
  HaveSortsIn-length Γ (s ∷ ss) [] have = absurd have
  HaveSortsIn-length Γ (s ∷ ss) (t ∷ ts) have = ap suc (HaveSortsIn-length Γ ss ts have.1)

  -- in a larger scope, and where more relations may be named
  pub IsSortedIn-more : (R Q : Relations) → ((r : Pred) → R r → Q r) → (Γ Δ : Scope) → Extends Γ Δ → (p : Formula) → IsSortedIn S R Γ p → IsSortedIn S Q Δ p
  unfolding IsSortedIn
  IsSortedIn-more R Q to Γ Δ more f.True sorted = tt
  IsSortedIn-more R Q to Γ Δ more f.False sorted = tt
  IsSortedIn-more R Q to Γ Δ more (f.Atom r us) sorted =
      (record { sorts = sorted.0.sorts; declared = sorted.0.declared; terms = HaveSortsIn-more Γ Δ more sorted.0.sorts us sorted.0.terms }, to r sorted.1)
  IsSortedIn-more R Q to Γ Δ more (f.Same t u) sorted = (sorted.0, HasSortIn-more Γ Δ more sorted.0 t sorted.1, HasSortIn-more Γ Δ more sorted.0 u sorted.2)
  IsSortedIn-more R Q to Γ Δ more (negation p) sorted = IsSortedIn-more R Q to Γ Δ more p sorted
  IsSortedIn-more R Q to Γ Δ more (conjunction p q) sorted = (IsSortedIn-more R Q to Γ Δ more p sorted.0, IsSortedIn-more R Q to Γ Δ more q sorted.1)
  IsSortedIn-more R Q to Γ Δ more (disjunction p q) sorted = (IsSortedIn-more R Q to Γ Δ more p sorted.0, IsSortedIn-more R Q to Γ Δ more q sorted.1)
  IsSortedIn-more R Q to Γ Δ more (implication p q) sorted = (IsSortedIn-more R Q to Γ Δ more p sorted.0, IsSortedIn-more R Q to Γ Δ more q sorted.1)
  IsSortedIn-more R Q to Γ Δ more (equivalence p q) sorted = (IsSortedIn-more R Q to Γ Δ more p sorted.0, IsSortedIn-more R Q to Γ Δ more q sorted.1)
  IsSortedIn-more R Q to Γ Δ more (universal v s p) sorted = IsSortedIn-more R Q to (with_sort Γ v s) (with_sort Δ v s) (Extends-under Γ Δ v s more) p sorted
  IsSortedIn-more R Q to Γ Δ more (existential v s p) sorted = IsSortedIn-more R Q to (with_sort Γ v s) (with_sort Δ v s) (Extends-under Γ Δ v s more) p sorted

  -- what is not in scope does not stand free

  term_not : (Γ : Scope) (v : ℕ) → Γ v ≡ None → (s : Sort) (t : Term) → HasSortIn S Γ s t → IsFalse (is_var t v)
  term_not Γ v none s (Var w) has = go (v == w.0) refl
    where
      go : (b : Bool) → (v == w.0) ≡ b → b ≡ false
      go false other = refl
      go true same = absurd (none-some s (sym none ∙ ap Γ (let e : v ≡ w.0 = grind arith in e) ∙ has))
  term_not Γ v none s (Const k) has = refl
  term_not Γ v none s (Port k) has = refl

  pub terms_not : (Γ : Scope) (v : ℕ) → Γ v ≡ None → (ss : List Sort) (ts : List Term) → HaveSortsIn S Γ ss ts → IsFalse (vars_of ts v)
  unfolding HaveSortsIn
  terms_not Γ v none [] [] have = refl
  terms_not Γ v none [] (t ∷ ts) have = absurd have
  terms_not Γ v none (s ∷ ss) [] have = absurd have
  terms_not Γ v none (s ∷ ss) (t ∷ ts) have = or_from (is_var t v) (vars_of ts v) (term_not Γ v none s t have.0) (terms_not Γ v none ss ts have.1)

  masked : (Γ : Scope) (v : ℕ) (w : VarId) (s : Sort) (inside : Bool) → Γ v ≡ None → (with_sort Γ w s v ≡ None → inside ≡ false) → (not (v == w.0) && inside) ≡ false
  masked Γ v w s inside none to = go (v == w.0) refl
    where
      go : (b : Bool) → (v == w.0) ≡ b → (not b && inside) ≡ false
      go true same = refl
      go false other = to (rw (other, none))

  pub not_free : (R : Relations) (Γ : Scope) (v : ℕ) → Γ v ≡ None → (p : Formula) → IsSortedIn S R Γ p → IsFalse (free_in p v)
  unfolding IsSortedIn free_in
  not_free R Γ v none f.True sorted = refl
  not_free R Γ v none f.False sorted = refl
  not_free R Γ v none (f.Atom r ts) sorted = terms_not Γ v none sorted.0.sorts ts sorted.0.terms
  not_free R Γ v none (f.Same t u) sorted = or_from (is_var t v) (is_var u v) (term_not Γ v none sorted.0 t sorted.1) (term_not Γ v none sorted.0 u sorted.2)
  not_free R Γ v none (negation p) sorted = not_free R Γ v none p sorted
  not_free R Γ v none (conjunction p q) sorted = or_from (free_in p v) (free_in q v) (not_free R Γ v none p sorted.0) (not_free R Γ v none q sorted.1)
  not_free R Γ v none (disjunction p q) sorted = or_from (free_in p v) (free_in q v) (not_free R Γ v none p sorted.0) (not_free R Γ v none q sorted.1)
  not_free R Γ v none (implication p q) sorted = or_from (free_in p v) (free_in q v) (not_free R Γ v none p sorted.0) (not_free R Γ v none q sorted.1)
  not_free R Γ v none (equivalence p q) sorted = or_from (free_in p v) (free_in q v) (not_free R Γ v none p sorted.0) (not_free R Γ v none q sorted.1)
  not_free R Γ v none (universal w s p) sorted = masked Γ v w s (free_in p v) none (λ still. not_free R (with_sort Γ w s) v still p sorted)
  not_free R Γ v none (existential w s p) sorted = masked Γ v w s (free_in p v) none (λ still. not_free R (with_sort Γ w s) v still p sorted)

  -- new numbers keep the sorts

  -- each variable in scope has a new number below k, which has its sort
  pub record Renames (Γ : Scope) (new : ℕ → ℕ) (k : ℕ) (Δ : Scope) : Type 0 where
    pub below : (v : ℕ) (s : Sort) → Γ v ≡ Some s → new v < k
    pub same : (v : ℕ) (s : Sort) → Γ v ≡ Some s → Δ (new v) ≡ Some s

  Renames-later : (Γ : Scope) (new : ℕ → ℕ) (k more : ℕ) (Δ : Scope) → Renames Γ new k Δ → Renames Γ new (k + more) Δ
  Renames-later Γ new k more Δ r = record { below = λ v s is. (let b = r.below v s is in omega (arith, b)); same = r.same }

  Renames-under : (Γ : Scope) (new : ℕ → ℕ) (k : ℕ) (Δ : Scope) (v : VarId) (s : Sort) → Renames Γ new k Δ → Renames (with_sort Γ v s) (with_var new v k) (k + 1) (with_sort Δ (record { 0 = k }) s)
  Renames-under Γ new k Δ v s r = record { below = λ w t. below w t (w == v.0); same = λ w t. same w t (w == v.0) }
    where
      below : (w : ℕ) (t : Sort) (b : Bool) → cond b (Some s) (Γ w) ≡ Some t → cond b k (new w) < k + 1
      below w t true is = omega arith
      below w t false is = let b : new w < k = r.below w t is in omega arith

      same : (w : ℕ) (t : Sort) (b : Bool) → cond b (Some s) (Γ w) ≡ Some t → cond (cond b k (new w) == k) (Some s) (Δ (cond b k (new w))) ≡ Some t
      same w t true is = rw (self_equal k) is
      same w t false is = let b : new w < k = r.below w t is in let other : (new w == k) ≡ false = grind arith in rw other (r.same w t is)

  renamed_sort : (Γ : Scope) (new : ℕ → ℕ) (k : ℕ) (Δ : Scope) → Renames Γ new k Δ → (s : Sort) (t : Term) → HasSortIn S Γ s t → HasSortIn S Δ s (renamed new t)
  renamed_sort Γ new k Δ r s (Var v) has = r.same v.0 s has
  renamed_sort Γ new k Δ r s (Const c) has = has
  renamed_sort Γ new k Δ r s (Port p) has = has

  renamed_sorts : (Γ : Scope) (new : ℕ → ℕ) (k : ℕ) (Δ : Scope) → Renames Γ new k Δ → (ss : List Sort) (ts : List Term) → HaveSortsIn S Γ ss ts → HaveSortsIn S Δ ss (map (renamed new) ts)
  unfolding HaveSortsIn
  renamed_sorts Γ new k Δ r [] [] have = tt
  renamed_sorts Γ new k Δ r [] (t ∷ ts) have = have
  renamed_sorts Γ new k Δ r (s ∷ ss) [] have = have
  renamed_sorts Γ new k Δ r (s ∷ ss) (t ∷ ts) have = (renamed_sort Γ new k Δ r s t have.0, renamed_sorts Γ new k Δ r ss ts have.1)

  pub IsSortedIn-renumbered : (R : Relations) (p : Formula) (Γ : Scope) (new : ℕ → ℕ) (k : ℕ) (Δ : Scope) → Renames Γ new k Δ → IsSortedIn S R Γ p → IsSortedIn S R Δ (renumbered new k p)
  unfolding IsSortedIn renumbered
  IsSortedIn-renumbered R f.True Γ new k Δ r sorted = tt
  IsSortedIn-renumbered R f.False Γ new k Δ r sorted = tt
  IsSortedIn-renumbered R (f.Atom q us) Γ new k Δ r sorted =
      (record { sorts = sorted.0.sorts; declared = sorted.0.declared; terms = renamed_sorts Γ new k Δ r sorted.0.sorts us sorted.0.terms }, sorted.1)
  IsSortedIn-renumbered R (f.Same t u) Γ new k Δ r sorted = (sorted.0, renamed_sort Γ new k Δ r sorted.0 t sorted.1, renamed_sort Γ new k Δ r sorted.0 u sorted.2)
  IsSortedIn-renumbered R (negation p) Γ new k Δ r sorted = IsSortedIn-renumbered R p Γ new k Δ r sorted
  IsSortedIn-renumbered R (conjunction p q) Γ new k Δ r sorted = (IsSortedIn-renumbered R p Γ new k Δ r sorted.0, IsSortedIn-renumbered R q Γ new (k + binders p) Δ (Renames-later Γ new k (binders p) Δ r) sorted.1)
  IsSortedIn-renumbered R (disjunction p q) Γ new k Δ r sorted = (IsSortedIn-renumbered R p Γ new k Δ r sorted.0, IsSortedIn-renumbered R q Γ new (k + binders p) Δ (Renames-later Γ new k (binders p) Δ r) sorted.1)
  IsSortedIn-renumbered R (implication p q) Γ new k Δ r sorted = (IsSortedIn-renumbered R p Γ new k Δ r sorted.0, IsSortedIn-renumbered R q Γ new (k + binders p) Δ (Renames-later Γ new k (binders p) Δ r) sorted.1)
  IsSortedIn-renumbered R (equivalence p q) Γ new k Δ r sorted = (IsSortedIn-renumbered R p Γ new k Δ r sorted.0, IsSortedIn-renumbered R q Γ new (k + binders p) Δ (Renames-later Γ new k (binders p) Δ r) sorted.1)
  IsSortedIn-renumbered R (universal v s p) Γ new k Δ r sorted = IsSortedIn-renumbered R p (with_sort Γ v s) (with_var new v k) (k + 1) (with_sort Δ (record { 0 = k }) s) (Renames-under Γ new k Δ v s r) sorted
  IsSortedIn-renumbered R (existential v s p) Γ new k Δ r sorted = IsSortedIn-renumbered R p (with_sort Γ v s) (with_var new v k) (k + 1) (with_sort Δ (record { 0 = k }) s) (Renames-under Γ new k Δ v s r) sorted

  -- a sentence stays one
  pub IsSortedIn-renumber : (R : Relations) (p : Formula) (k : ℕ) → IsSortedIn S R no_scope p → IsSortedIn S R no_scope (renumber p k)
  IsSortedIn-renumber R p k sorted = IsSortedIn-renumbered R p no_scope (λ v. v) k no_scope (record { below = λ v s is. absurd (none-some s is); same = λ v s is. is }) sorted
