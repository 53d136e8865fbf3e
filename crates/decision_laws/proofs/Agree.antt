-- Terms and literals say the same of constants as of the elements that they stand for.
use Rattle.std.proofs.Common.{Bool, List, [], ap, ap₂, arith, cond, false, map, nat_eq, refl, subst, sym, true, ℕ, ◌&&◌, ◌<◌, ◌∙◌, ◌∷◌, ◌≡◌, ◌≤◌}
use Rattle.std.proofs.lemmas.Bool.{and_parts, false≢true}
use Rattle.std.specs.List.{list_any}
use Rattle.csdn_core.specs.Same.{same_sort}
use Rattle.csdn_core.proofs.Same.{same_sort-is}
use Rattle.csdn_core.specs.declared.terms.Sort.{Sort}
use Rattle.csdn_core.specs.declared.terms.Sort.TheVariants.{Pr}
use Rattle.csdn_core.specs.declared.terms.Term.{Term}
use Rattle.csdn_core.specs.declared.terms.Term.TheVariants.{Const, Port, Var}
use Rattle.csdn_core.specs.declared.terms.Pred.{Pred}
use Rattle.csdn_core.specs.Truth.{Assignment, Structure, value, values, with_var}
use Rattle.csdn_core.specs.Network.{same_pred}
use Rattle.csdn_core.specs.Run.{no_values}
use Rattle.decision_laws.proofs.Basics.{index_of-below, relation_in}
use Rattle.decision_laws.specs.Classes.{Meaning, values_of}
use Rattle.decision_laws.specs.Copies.{AreBelow, Equation, Fact, Scope, Tuple, index_of, known, nothing, place, place_sort}
use Rattle.decision_laws.specs.Vocabulary.{Vocabulary, find_or, has_term}
use Rattle.decision_laws.proofs.Fits.{is_bound, term_fits, term_sort, terms_fit}
use Rattle.csdn_core.specs.Members.{IsIn}

-- the assignment that gives each variable in scope the element of its constant
abbrev pub assigned : Meaning → Scope → Assignment
assigned ρ [] = no_values
assigned ρ (p ∷ ps) = with_var (assigned ρ ps) (record { 0 = p.0 }) (ρ p.1.0 p.1.1)

abbrev pub scope_sorts : Scope → List (ℕ × Sort)
scope_sorts env = map (λ p. (p.0, p.1.0)) env

-- each variable stands for a constant below these bounds
abbrev pub IsRanged : (Sort → ℕ) → Scope → Type 0
IsRanged n [] = Unit {0}
IsRanged n (p ∷ ps) = (p.1.1 < n p.1.0) × IsRanged n ps

pub record Interprets (voc : Vocabulary) (m : Structure) (ρ : Meaning) : Type 0 where
  pub named : (s : Sort) (t : Term) → has_term t (voc.names s) ≡ true → value m no_values t ≡ ρ s (index_of t (voc.names s))

-- the judgement says of constants what the structure says of the elements that they stand for
pub record Models (voc : Vocabulary) (n : Sort → ℕ) (m : Structure) (ρ : Meaning) (j : Fact → Bool) : Type 0 where
  pub interprets : Interprets voc m ρ
  pub room : (s : Sort) → known voc s ≤ n s
  pub equal : (s : Sort) (a b : ℕ) → a < n s → b < n s → j (Equation s a b) ≡ nat_eq (ρ s a) (ρ s b)
  pub tuples : (r : Pred) (xs : List ℕ) → IsIn r voc.relations → AreBelow n (voc.columns r) xs → j (Tuple r xs) ≡ m.holds r (values_of ρ (voc.columns r) xs)

value_step : (b rest : Bool) (ρ : Meaning) (s : Sort) (q r : Sort × ℕ) (x : ℕ) → cond b (same_sort q.0 s) rest ≡ true → (rest ≡ true → x ≡ ρ s r.1) → cond b (ρ q.0 q.1) x ≡ ρ s (cond b q r).1
value_step true rest ρ s q r x h k = ap (λ t. ρ t q.1) (same_sort-is q.0 s h)
value_step false rest ρ s q r x h k = k h

variable_value : (ρ : Meaning) (env : Scope) (v : ℕ) (s : Sort) → is_bound (scope_sorts env) v s ≡ true → assigned ρ env v ≡ ρ s (find_or nothing env v).1
variable_value ρ [] v s h = absurd (false≢true h)
variable_value ρ (p ∷ ps) v s h = value_step (nat_eq v p.0) (is_bound (scope_sorts ps) v s) ρ s p.1 (find_or nothing ps v) (assigned ρ ps v) h (variable_value ρ ps v s)

sort_step : (b rest : Bool) (s : Sort) (q r : Sort × ℕ) → cond b (same_sort q.0 s) rest ≡ true → (rest ≡ true → r.0 ≡ s) → (cond b q r).0 ≡ s
sort_step true rest s q r h k = same_sort-is q.0 s h
sort_step false rest s q r h k = k h

variable_sort : (env : Scope) (v : ℕ) (s : Sort) → is_bound (scope_sorts env) v s ≡ true → (find_or nothing env v).0 ≡ s
variable_sort [] v s h = absurd (false≢true h)
variable_sort (p ∷ ps) v s h = sort_step (nat_eq v p.0) (is_bound (scope_sorts ps) v s) s p.1 (find_or nothing ps v) h (variable_sort ps v s)

below_step : (b rest : Bool) (n : Sort → ℕ) (s : Sort) (q r : Sort × ℕ) → cond b (same_sort q.0 s) rest ≡ true → q.1 < n q.0 → (rest ≡ true → r.1 < n s) → (cond b q r).1 < n s
below_step true rest n s q r h l k = subst (λ t. q.1 < n t) (same_sort-is q.0 s h) l
below_step false rest n s q r h l k = k h

variable_below : (n : Sort → ℕ) (env : Scope) (v : ℕ) (s : Sort) → IsRanged n env → is_bound (scope_sorts env) v s ≡ true → (find_or nothing env v).1 < n s
variable_below n [] v s l h = absurd (false≢true h)
variable_below n (p ∷ ps) v s l h = below_step (nat_eq v p.0) (is_bound (scope_sorts ps) v s) n s p.1 (find_or nothing ps v) h l.0 (variable_below n ps v s l.1)

pub term_agrees : (voc : Vocabulary) (m : Structure) (ρ : Meaning) → Interprets voc m ρ → (env : Scope) (s : Sort) (t : Term) → term_fits voc (scope_sorts env) s t ≡ true → value m (assigned ρ env) t ≡ ρ s (place voc env t)
term_agrees voc m ρ i env s (Var v) h = variable_value ρ env v.0 s h
term_agrees voc m ρ i env s (Const id) h =
    let p = and_parts (same_sort (voc.constant_sort id.0) s) (has_term (Const id) (voc.names s)) h in
    subst (λ t. m.constant id.0 ≡ ρ s (index_of (Const id) (voc.names t))) (sym (same_sort-is (voc.constant_sort id.0) s p.0)) (i.named s (Const id) p.1)
term_agrees voc m ρ i env s (Port k) h =
    let p = and_parts (same_sort Pr s) (has_term (Port k) (voc.names s)) h in
    subst (λ t. k ≡ ρ s (index_of (Port k) (voc.names t))) (sym (same_sort-is Pr s p.0)) (i.named s (Port k) p.1)

pub term_place_sort : (voc : Vocabulary) (env : Scope) (s : Sort) (t : Term) → term_fits voc (scope_sorts env) s t ≡ true → place_sort voc env t ≡ s
term_place_sort voc env s (Var v) h = variable_sort env v.0 s h
term_place_sort voc env s (Const id) h = same_sort-is (voc.constant_sort id.0) s (and_parts (same_sort (voc.constant_sort id.0) s) (has_term (Const id) (voc.names s)) h).0
term_place_sort voc env s (Port k) h = same_sort-is Pr s (and_parts (same_sort Pr s) (has_term (Port k) (voc.names s)) h).0

pub term_below : (voc : Vocabulary) (n : Sort → ℕ) → ((s : Sort) → known voc s ≤ n s) → (env : Scope) (s : Sort) (t : Term) → IsRanged n env → term_fits voc (scope_sorts env) s t ≡ true → place voc env t < n s
term_below voc n room env s (Var v) l h = variable_below n env v.0 s l h
term_below voc n room env s (Const id) l h =
    let p = and_parts (same_sort (voc.constant_sort id.0) s) (has_term (Const id) (voc.names s)) h in
    let b : index_of (Const id) (voc.names s) < n s = omega (arith, index_of-below (Const id) (voc.names s) p.1, room s) in
    subst (λ t. index_of (Const id) (voc.names t) < n s) (sym (same_sort-is (voc.constant_sort id.0) s p.0)) b
term_below voc n room env s (Port k) l h =
    let p = and_parts (same_sort Pr s) (has_term (Port k) (voc.names s)) h in
    let b : index_of (Port k) (voc.names s) < n s = omega (arith, index_of-below (Port k) (voc.names s) p.1, room s) in
    subst (λ t. index_of (Port k) (voc.names t) < n s) (sym (same_sort-is Pr s p.0)) b

pub terms_agree : (voc : Vocabulary) (m : Structure) (ρ : Meaning) → Interprets voc m ρ → (env : Scope) (ss : List Sort) (ts : List Term) → terms_fit voc (scope_sorts env) ss ts ≡ true → values m (assigned ρ env) ts ≡ values_of ρ ss (map (place voc env) ts)
terms_agree voc m ρ i env [] [] h = refl
terms_agree voc m ρ i env [] (t ∷ ts) h = absurd (false≢true h)
terms_agree voc m ρ i env (s ∷ ss) [] h = absurd (false≢true h)
terms_agree voc m ρ i env (s ∷ ss) (t ∷ ts) h =
    let p = and_parts (term_fits voc (scope_sorts env) s t) (terms_fit voc (scope_sorts env) ss ts) h in
    ap₂ (λ x xs. x ∷ xs) (term_agrees voc m ρ i env s t p.0) (terms_agree voc m ρ i env ss ts p.1)

pub terms_below : (voc : Vocabulary) (n : Sort → ℕ) → ((s : Sort) → known voc s ≤ n s) → (env : Scope) (ss : List Sort) (ts : List Term) → IsRanged n env → terms_fit voc (scope_sorts env) ss ts ≡ true → AreBelow n ss (map (place voc env) ts)
terms_below voc n room env [] [] l h = tt
terms_below voc n room env [] (t ∷ ts) l h = absurd (false≢true h)
terms_below voc n room env (s ∷ ss) [] l h = absurd (false≢true h)
terms_below voc n room env (s ∷ ss) (t ∷ ts) l h =
    let p = and_parts (term_fits voc (scope_sorts env) s t) (terms_fit voc (scope_sorts env) ss ts) h in
    (term_below voc n room env s t l p.0, terms_below voc n room env ss ts l p.1)

pub atom_agrees : (voc : Vocabulary) (n : Sort → ℕ) (m : Structure) (ρ : Meaning) (j : Fact → Bool) → Models voc n m ρ j → (env : Scope) → IsRanged n env → (r : Pred) (ts : List Term) → (list_any (same_pred r) voc.relations && terms_fit voc (scope_sorts env) (voc.columns r) ts) ≡ true → m.holds r (values m (assigned ρ env) ts) ≡ j (Tuple r (map (place voc env) ts))
atom_agrees voc n m ρ j o env l r ts h =
    let p = and_parts (list_any (same_pred r) voc.relations) (terms_fit voc (scope_sorts env) (voc.columns r) ts) h in
    ap (m.holds r) (terms_agree voc m ρ o.interprets env (voc.columns r) ts p.1) ∙ sym (o.tuples r (map (place voc env) ts) (relation_in r voc.relations p.0) (terms_below voc n o.room env (voc.columns r) ts l p.1))

pub equation_agrees : (voc : Vocabulary) (n : Sort → ℕ) (m : Structure) (ρ : Meaning) (j : Fact → Bool) → Models voc n m ρ j → (env : Scope) → IsRanged n env → (t u : Term) → (term_fits voc (scope_sorts env) (term_sort voc (scope_sorts env) t) t && term_fits voc (scope_sorts env) (term_sort voc (scope_sorts env) t) u) ≡ true → nat_eq (value m (assigned ρ env) t) (value m (assigned ρ env) u) ≡ j (Equation (place_sort voc env t) (place voc env t) (place voc env u))
equation_agrees voc n m ρ j o env l t u h =
    let s = term_sort voc (scope_sorts env) t in
    let p = and_parts (term_fits voc (scope_sorts env) s t) (term_fits voc (scope_sorts env) s u) h in
    ap₂ nat_eq (term_agrees voc m ρ o.interprets env s t p.0) (term_agrees voc m ρ o.interprets env s u p.1)
    ∙ sym (o.equal s (place voc env t) (place voc env u) (term_below voc n o.room env s t l p.0) (term_below voc n o.room env s u l p.1))
    ∙ ap (λ z. j (Equation z (place voc env t) (place voc env u))) (sym (term_place_sort voc env s t p.0))
