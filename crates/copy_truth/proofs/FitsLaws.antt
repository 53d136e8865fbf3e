-- Scopes with open variables, and what they stand for.
use Rattle.std.proofs.Common.{◌≡◌, ◌∙◌, ℕ, ◌<◌, ◌==◌, Bool, true, false, not, ◌&&◌, List, [], ◌∷◌, ◌++◌, map, reverse, refl, sym, ap, ap₂, cond, subst, nat_lt, ltb-true}
use Rattle.std.proofs.lemmas.List.{reverse-append, map-append}
use Rattle.std.proofs.lemmas.List.Folds.{list_all-append}
use Rattle.std.proofs.lemmas.Bool.{and_from, and_parts, eqb-true, false≢true, or_parts}
use Rattle.std.specs.Int.{bit_at}
use Rattle.std.specs.List.{list_all}
use Rattle.csdn_core.specs.declared.terms.Sort.{Sort}
use Rattle.csdn_core.specs.declared.terms.Term.{Term}
use Rattle.csdn_core.specs.declared.terms.Term.TheVariants.{Const, Port, Var}
use Rattle.decision_laws.specs.Vocabulary.{Vocabulary, find_or}
use Rattle.decision_laws.specs.Copies.{Scope, nothing, place, place_sort}
use Rattle.ground_inst.specs.Walk.{entry, scope}
use Rattle.ground_inst.specs.declared.places.Binding.{Binding}
use Rattle.copy_truth.specs.declared.opened.TheConstants.{OPEN}
use Rattle.copy_truth.specs.declared.candidates.Candidates.{Candidates}
use Rattle.copy_truth.specs.Candidates.{has_place}
use Rattle.copy_truth.specs.Early.{Fits, Stands, is_known}

-- where no variable is open, constants stay as they are

pub all_known : (ps : Scope) → list_all (λ p. not (p.1.1 == OPEN)) ps ≡ true → (v : ℕ) → not ((find_or nothing ps v).1 == OPEN) ≡ true
all_known [] h v = refl
all_known (p ∷ ps) h v =
    let parts = and_parts (not (p.1.1 == OPEN)) (list_all (λ q. not (q.1.1 == OPEN)) ps) h in
    known_by (v == p.0) p.1 (find_or nothing ps v) parts.0 (all_known ps parts.1 v) where
      known_by : (b : Bool) (p q : Sort × ℕ) → not (p.1 == OPEN) ≡ true → not (q.1 == OPEN) ≡ true → not ((cond b p q).1 == OPEN) ≡ true
      known_by true p q e f = e
      known_by false p q e f = f

pub scope_known : (bs : List Binding) → list_all (λ b. not (b.place == OPEN)) bs ≡ true → list_all (λ p. not (p.1.1 == OPEN)) (scope bs) ≡ true
scope_known [] h = refl
scope_known (b ∷ bs) h =
    let parts = and_parts (not (b.place == OPEN)) (list_all (λ c. not (c.place == OPEN)) bs) h in
    let turned : scope (b ∷ bs) ≡ scope bs ++ entry b ∷ [] = ap (map entry) (reverse-append (b ∷ []) bs) ∙ map-append entry (reverse bs) (b ∷ []) in
    ap (list_all (λ p. not (p.1.1 == OPEN))) turned ∙ list_all-append (λ p. not (p.1.1 == OPEN)) (scope bs) (entry b ∷ [])
    ∙ and_from (list_all (λ p. not (p.1.1 == OPEN)) (scope bs)) (not (b.place == OPEN) && true) (scope_known bs parts.1) (and_from (not (b.place == OPEN)) true parts.0 refl)

pub fits_itself : (n : Sort → ℕ) (bs : List Binding) → list_all (λ b. not (b.place == OPEN)) bs ≡ true → Fits n (scope bs) (scope bs)
fits_itself n bs h v = record { sort = refl; place = λ e. refl; below = λ e. absurd (false≢true (sym e ∙ all_known (scope bs) (scope_known bs h) v)) }

pub stands_by : (n : Sort → ℕ) (b : Bool) (p q r s : Sort × ℕ) → Stands n p q → Stands n r s → Stands n (cond b p r) (cond b q s)
stands_by n true p q r s h k = h
stands_by n false p q r s h k = k

-- one more variable is open
pub fits_open : (n : Sort → ℕ) (env full : Scope) (v : ℕ) (s : Sort) (k : ℕ) → k < n s → Fits n env full → Fits n ((v, (s, OPEN)) ∷ env) ((v, (s, k)) ∷ full)
fits_open n env full v s k l h u =
    stands_by n (u == v) (s, OPEN) (s, k) (find_or nothing env u) (find_or nothing full u) (record { sort = refl; place = λ e. absurd (false≢true e); below = λ e. l }) (h u)

module _ (n : Sort → ℕ) (voc : Vocabulary) (env full : Scope) (fits : Fits n env full) where
  pub same_place : (t : Term) → is_known voc env t ≡ true → place voc env t ≡ place voc full t
  same_place (Var v) e = (fits v.0).place e
  same_place (Const c) e = refl
  same_place (Port k) e = refl

  pub same_place_sort : (t : Term) → place_sort voc env t ≡ place_sort voc full t
  same_place_sort (Var v) = (fits v.0).sort
  same_place_sort (Const c) = refl
  same_place_sort (Port k) = refl

  pub same_places : (ts : List Term) → list_all (is_known voc env) ts ≡ true → map (place voc env) ts ≡ map (place voc full) ts
  same_places [] e = refl
  same_places (t ∷ ts) e =
      let p = and_parts (is_known voc env t) (list_all (is_known voc env) ts) e in
      ap₂ (λ x y. x ∷ y) (same_place t p.0) (same_places ts p.1)

-- a variable that is bound to what it stands for

pub stands_first : (n : Sort → ℕ) (b : Bool) (p q r : Sort × ℕ) → (b ≡ true → Stands n p r) → Stands n q r → Stands n (cond b p q) r
stands_first n true p q r f h = f refl
stands_first n false p q r f h = h

-- the variable stands for this constant in the scope, and it is one of its sort
pub fits_at : (n : Sort → ℕ) (env full : Scope) (v : ℕ) (s : Sort) → Fits n env full → (find_or nothing full v).0 ≡ s → (find_or nothing full v).1 < n s → Fits n ((v, (s, (find_or nothing full v).1)) ∷ env) full
fits_at n env full v s fits e l u =
    let p = find_or nothing full v in
    let here : Stands n (s, p.1) p = record { sort = sym e; place = λ i. refl; below = λ i. subst (λ t. p.1 < n t) (sym e) l } in
    stands_first n (u == v) (s, p.1) (find_or nothing env u) (find_or nothing full u) (λ t. subst (λ w. Stands n (s, p.1) (find_or nothing full w)) (sym (eqb-true u v t)) here) (fits u)

pub is_open : (b : Bool) → not b ≡ false → b ≡ true
is_open true e = refl
is_open false e = absurd (false≢true (sym e))

-- a place that some set lacks
pub lacking_small : (c : Candidates) (k : ℕ) → has_place c k ≡ false → k < 128
lacking_small c k h = ltb-true k 128 (is_open (nat_lt k 128) (or_parts (not (nat_lt k 128)) (bit_at c.bits k == 1) h).0)
