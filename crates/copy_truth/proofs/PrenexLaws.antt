-- A plain form is true exactly where its matrix is, whatever constants its variables stand for.
use Rattle.std.proofs.Common.{◌≡◌, ◌∙◌, ◌⊎◌, ℕ, ◌+◌, ◌<◌, ◌==◌, Bool, true, false, ◌&&◌, ◌||◌, List, [], ◌∷◌, map, refl, sym, ap, ap₂, cond, subst, arith, inl, inr, eqb-true, eq-eqb}
use Rattle.std.proofs.lemmas.Bool.{and_cases, and_from, and_left, and_parts, and_right, cases_Bool, false_from_ne_true, false≢true, or_cases, or_from, or_left, or_parts, or_right}
use Rattle.std.specs.List.{list_all, list_any}
use Rattle.csdn_core.specs.Members.{IsIn}
use Rattle.csdn_core.specs.declared.terms.Sort.{Sort}
use Rattle.csdn_core.specs.declared.terms.VarId.{VarId}
use Rattle.csdn_core.specs.declared.terms.Term.{Term}
use Rattle.csdn_core.specs.declared.terms.Term.TheVariants.{Const, Port, Var}
use Rattle.fol_forms.specs.Constants.{need}
use Rattle.fol_forms.specs.Forms.{And, Atom, Fixed, ForAll, ForSome, Form, Or, Same, is_universal}
use Rattle.form_trees.specs.Plain.{IsApartFrom, IsPlain, IsRectified, binds_variable, is_variable, names_variable}
use Rattle.decision_laws.specs.Copies.{Copy, Fact, Scope, copies, each, judge, nothing, place, place_sort}
use Rattle.decision_laws.specs.Vocabulary.{Vocabulary, find_or, places_from}
use Rattle.decision_laws.proofs.Basics.{in_place, judge-each, judge_each_at}
use Rattle.ground_inst.specs.Walk.{ways_of}
use Rattle.copy_truth.specs.declared.reading.Reading.{Reading}
use Rattle.copy_truth.specs.Judged.{judged_copies, said_signed}
use Rattle.copy_truth.specs.Matrix.{matrix}
use Rattle.copy_truth.specs.Said.{said_by}

-- what a variable stands for
abbrev pub constant_of : Scope → ℕ → Sort × ℕ
constant_of env v = find_or nothing env v

-- a constant of a sort
pub record IsOf (n : Sort → ℕ) (s : Sort) (p : Sort × ℕ) : Type 0 where
  pub sort : p.0 ≡ s
  pub below : p.1 < n s

-- a quantifier of a form binds a variable of a sort
abbrev pub IsBinder : Form → ℕ → Sort → Type 0
IsBinder (Fixed b) v s = ⊥
IsBinder (Atom sign r ts) v s = ⊥
IsBinder (Same sign t u) v s = ⊥
IsBinder (And p q) v s = IsBinder p v s ⊎ IsBinder q v s
IsBinder (Or p q) v s = IsBinder p v s ⊎ IsBinder q v s
IsBinder (ForAll u t p) v s = ((v ≡ u.0) × (s ≡ t)) ⊎ IsBinder p v s
IsBinder (ForSome u t p) v s = ((v ≡ u.0) × (s ≡ t)) ⊎ IsBinder p v s

pub binder_binds : (f : Form) (v : ℕ) (s : Sort) → IsBinder f v s → binds_variable f v ≡ true
binder_binds (Fixed b) v s i = absurd i
binder_binds (Atom sign r ts) v s i = absurd i
binder_binds (Same sign t u) v s i = absurd i
binder_binds (And p q) v s i = elim i [
  | inl l ↦ or_left (binds_variable p v) (binds_variable q v) (binder_binds p v s l)
  | inr r ↦ or_right (binds_variable p v) (binds_variable q v) (binder_binds q v s r)
]
binder_binds (Or p q) v s i = elim i [
  | inl l ↦ or_left (binds_variable p v) (binds_variable q v) (binder_binds p v s l)
  | inr r ↦ or_right (binds_variable p v) (binds_variable q v) (binder_binds q v s r)
]
binder_binds (ForAll u t p) v s i = elim i [
  | inl l ↦ or_left (u.0 == v) (binds_variable p v) (eq-eqb u.0 v (sym l.0))
  | inr r ↦ or_right (u.0 == v) (binds_variable p v) (binder_binds p v s r)
]
binder_binds (ForSome u t p) v s i = elim i [
  | inl l ↦ or_left (u.0 == v) (binds_variable p v) (eq-eqb u.0 v (sym l.0))
  | inr r ↦ or_right (u.0 == v) (binds_variable p v) (binder_binds p v s r)
]

pub binder_of : (f : Form) (v : ℕ) → binds_variable f v ≡ true → (s : Sort) × IsBinder f v s
binder_of (Fixed b) v e = absurd (false≢true e)
binder_of (Atom sign r ts) v e = absurd (false≢true e)
binder_of (Same sign t u) v e = absurd (false≢true e)
binder_of (And p q) v e = elim (or_cases (binds_variable p v) (binds_variable q v) e) [
  | inl l ↦ (let w = binder_of p v l in (w.0, inl w.1))
  | inr r ↦ (let w = binder_of q v r in (w.0, inr w.1))
]
binder_of (Or p q) v e = elim (or_cases (binds_variable p v) (binds_variable q v) e) [
  | inl l ↦ (let w = binder_of p v l in (w.0, inl w.1))
  | inr r ↦ (let w = binder_of q v r in (w.0, inr w.1))
]
binder_of (ForAll u t p) v e = elim (or_cases (u.0 == v) (binds_variable p v) e) [
  | inl l ↦ (t, inl (sym (eqb-true u.0 v l), refl))
  | inr r ↦ (let w = binder_of p v r in (w.0, inr w.1))
]
binder_of (ForSome u t p) v e = elim (or_cases (u.0 == v) (binds_variable p v) e) [
  | inl l ↦ (t, inl (sym (eqb-true u.0 v l), refl))
  | inr r ↦ (let w = binder_of p v r in (w.0, inr w.1))
]

-- another number is another one the other way round too
pub turned_other : (a b : ℕ) → (a == b) ≡ false → (b == a) ≡ false
turned_other a b e = false_from_ne_true (b == a) (λ t. false≢true (sym e ∙ eq-eqb a b (sym (eqb-true b a t))))

-- A matrix looks at the variables alone that it names.

module _ (voc : Vocabulary) (env full : Scope) where
  same_term_place : (t : Term) → ((v : ℕ) → is_variable v t ≡ true → constant_of env v ≡ constant_of full v) → place voc env t ≡ place voc full t
  same_term_place (Var u) h = ap (λ p. p.1) (h u.0 (eq-eqb u.0 u.0 refl))
  same_term_place (Const c) h = refl
  same_term_place (Port k) h = refl

  same_term_sort : (t : Term) → ((v : ℕ) → is_variable v t ≡ true → constant_of env v ≡ constant_of full v) → place_sort voc env t ≡ place_sort voc full t
  same_term_sort (Var u) h = ap (λ p. p.0) (h u.0 (eq-eqb u.0 u.0 refl))
  same_term_sort (Const c) h = refl
  same_term_sort (Port k) h = refl

  same_term_places : (ts : List Term) → ((v : ℕ) → list_any (is_variable v) ts ≡ true → constant_of env v ≡ constant_of full v) → map (place voc env) ts ≡ map (place voc full) ts
  same_term_places [] h = refl
  same_term_places (t ∷ ts) h =
      ap₂ (λ x y. x ∷ y) (same_term_place t (λ v e. h v (or_left (is_variable v t) (list_any (is_variable v) ts) e)))
      (same_term_places ts (λ v e. h v (or_right (is_variable v t) (list_any (is_variable v) ts) e)))

pub same_matrix : (r : Reading) (f : Form) (env full : Scope) → ((v : ℕ) → names_variable f v ≡ true → constant_of env v ≡ constant_of full v) → matrix r f env ≡ matrix r f full
same_matrix r (Fixed b) env full h = refl
same_matrix r (Atom sign p ts) env full h = ap (λ xs. said_signed r sign (Fact.Tuple p xs)) (same_term_places (ways_of r.names).voc env full ts h)
same_matrix r (Same sign t u) env full h =
    let left : (v : ℕ) → is_variable v t ≡ true → constant_of env v ≡ constant_of full v = λ v e. h v (or_left (is_variable v t) (is_variable v u) e) in
    let right : (v : ℕ) → is_variable v u ≡ true → constant_of env v ≡ constant_of full v = λ v e. h v (or_right (is_variable v t) (is_variable v u) e) in
    let voc = (ways_of r.names).voc in
    ap (λ s. said_signed r sign (Fact.Equation s (place voc env t) (place voc env u))) (same_term_sort voc env full t left)
    ∙ ap₂ (λ a b. said_signed r sign (Fact.Equation (place_sort voc full t) a b)) (same_term_place voc env full t left) (same_term_place voc env full u right)
same_matrix r (And p q) env full h =
    ap₂ (λ a b. a && b) (same_matrix r p env full (λ v e. h v (or_left (names_variable p v) (names_variable q v) e)))
    (same_matrix r q env full (λ v e. h v (or_right (names_variable p v) (names_variable q v) e)))
same_matrix r (Or p q) env full h =
    ap₂ (λ a b. a || b) (same_matrix r p env full (λ v e. h v (or_left (names_variable p v) (names_variable q v) e)))
    (same_matrix r q env full (λ v e. h v (or_right (names_variable p v) (names_variable q v) e)))
same_matrix r (ForAll v s p) env full h = same_matrix r p env full h
same_matrix r (ForSome v s p) env full h = same_matrix r p env full h

-- Where a plain form is true, so is its matrix.

-- the variables stand for the same constants where they are free, and for some of their sorts where they are bound
pub record Agrees (n : Sort → ℕ) (f : Form) (env full : Scope) : Type 0 where
  pub named : (v : ℕ) → names_variable f v ≡ true → binds_variable f v ≡ false → constant_of env v ≡ constant_of full v
  pub bound : (v : ℕ) (s : Sort) → IsBinder f v s → IsOf n s (constant_of full v)

-- what is named in one is not bound in another
pub not_bound : (p q : Form) → IsApartFrom q p → (v : ℕ) → names_variable p v ≡ true → binds_variable q v ≡ false
not_bound p q apart v e = false_from_ne_true (binds_variable q v) (λ t. false≢true (sym (apart.unnamed v t) ∙ e))

module _ (n : Sort → ℕ) (p q : Form) (env full : Scope) (a : Agrees n (And p q) env full) where
  agrees_left : IsApartFrom q p → Agrees n p env full
  agrees_left apart = record {
    named = λ v e b. a.named v (or_left (names_variable p v) (names_variable q v) e) (or_from (binds_variable p v) (binds_variable q v) b (not_bound p q apart v e));
    bound = λ v s i. a.bound v s (inl i);
  }

  agrees_right : IsApartFrom p q → Agrees n q env full
  agrees_right apart = record {
    named = λ v e b. a.named v (or_right (names_variable p v) (names_variable q v) e) (or_from (binds_variable p v) (binds_variable q v) (not_bound q p apart v e) b);
    bound = λ v s i. a.bound v s (inr i);
  }

-- the variable of a `forall` stands for its constant
agrees_inner : (n : Sort → ℕ) (u : VarId) (s : Sort) (p : Form) (env full : Scope) → Agrees n (ForAll u s p) env full → Agrees n p ((u.0, (s, (constant_of full u.0).1)) ∷ env) full
agrees_inner n u s p env full a = record { named = λ v e b. named v e b (cases_Bool (v == u.0)); bound = λ v t i. a.bound v t (inr i) } where
  this : (s, (constant_of full u.0).1) ≡ constant_of full u.0
  this = ap (λ t. (t, (constant_of full u.0).1)) (sym (a.bound u.0 s (inl (refl, refl))).sort)

  named : (v : ℕ) → names_variable p v ≡ true → binds_variable p v ≡ false → ((v == u.0) ≡ true) ⊎ ((v == u.0) ≡ false) → constant_of ((u.0, (s, (constant_of full u.0).1)) ∷ env) v ≡ constant_of full v
  named v e b (inl t) = ap (λ c. cond c (s, (constant_of full u.0).1) (constant_of env v)) t ∙ this ∙ ap (constant_of full) (sym (eqb-true v u.0 t))
  named v e b (inr f) =
      ap (λ c. cond c (s, (constant_of full u.0).1) (constant_of env v)) f ∙ a.named v e (or_from (u.0 == v) (binds_variable p v) (turned_other v u.0 f) b)

-- two sides are plain where both are one plain form, be it a conjunction or a disjunction
plain_sides : (p q : Form) → IsRectified (And p q) → is_universal (And p q) ≡ true → IsPlain p × IsPlain q
plain_sides p q h e = let parts = and_parts (is_universal p) (is_universal q) e in (record { rectified = h.0; universal = parts.0 }, record { rectified = h.1; universal = parts.1 })

-- so is what stands under a `forall`
pub plain_inner : (u : VarId) (s : Sort) (p : Form) → IsPlain (ForAll u s p) → IsPlain p
plain_inner u s p h = record { rectified = h.rectified.0; universal = h.universal }

pub true_matrix : (r : Reading) (f : Form) (env full : Scope) (base : Sort → ℕ) → IsPlain f → Agrees (ways_of r.names).count f env full → judged_copies r f env base ≡ true → matrix r f full ≡ true
true_matrix r (Fixed b) env full base h a t = t
true_matrix r (Atom sign p ts) env full base h a t = sym (same_matrix r (Atom sign p ts) env full (λ v e. a.named v e refl)) ∙ t
true_matrix r (Same sign x y) env full base h a t = sym (same_matrix r (Same sign x y) env full (λ v e. a.named v e refl)) ∙ t
true_matrix r (And p q) env full base h a t =
    let sides = plain_sides p q h.rectified h.universal in
    let parts = and_parts (judged_copies r p env base) (judged_copies r q env (λ s. base s + need p s)) t in
    and_from (matrix r p full) (matrix r q full) (true_matrix r p env full base sides.0 (agrees_left (ways_of r.names).count p q env full a h.rectified.3) parts.0)
    (true_matrix r q env full (λ s. base s + need p s) sides.1 (agrees_right (ways_of r.names).count p q env full a h.rectified.2) parts.1)
true_matrix r (Or p q) env full base h a t =
    let both : Agrees (ways_of r.names).count (And p q) env full = record { named = a.named; bound = a.bound } in
    let sides = plain_sides p q h.rectified h.universal in
    elim (or_cases (judged_copies r p env base) (judged_copies r q env base) t) [
      | inl e ↦ or_left (matrix r p full) (matrix r q full) (true_matrix r p env full base sides.0 (agrees_left (ways_of r.names).count p q env full both h.rectified.3) e)
      | inr e ↦ or_right (matrix r p full) (matrix r q full) (true_matrix r q env full base sides.1 (agrees_right (ways_of r.names).count p q env full both h.rectified.2) e)
    ]
true_matrix r (ForAll u s p) env full base h a t =
    let k = (constant_of full u.0).1 in
    true_matrix r p ((u.0, (s, k)) ∷ env) full base (plain_inner u s p h) (agrees_inner (ways_of r.names).count u s p env full a)
    (judge_each_at (said_by r) ((ways_of r.names).count s) (λ i. copies (ways_of r.names).voc (ways_of r.names).count p ((u.0, (s, i)) ∷ env) base) k (a.bound u.0 s (inl (refl, refl))).below t)
true_matrix r (ForSome u s p) env full base h a t = absurd (false≢true h.universal)

-- Where a plain form is false, its matrix is false for some constants.

-- a scope, with some constants in place of those of the variables that a form binds
abbrev pub patched : Form → Scope → Scope → Scope
patched (Fixed b) from env = env
patched (Atom sign r ts) from env = env
patched (Same sign t u) from env = env
patched (And p q) from env = patched p from (patched q from env)
patched (Or p q) from env = patched p from (patched q from env)
patched (ForAll u s p) from env = (u.0, constant_of from u.0) ∷ patched p from env
patched (ForSome u s p) from env = (u.0, constant_of from u.0) ∷ patched p from env

both_conds : {X : Type 0} (b c : Bool) (x y : X) → cond b x (cond c x y) ≡ cond (b || c) x y
both_conds true c x y = refl
both_conds false c x y = refl

first_cond : (from : Scope) (u v : ℕ) (c : Bool) (y : Sort × ℕ) → cond (v == u) (constant_of from u) (cond c (constant_of from v) y) ≡ cond (u == v || c) (constant_of from v) y
first_cond from u v c y = elim (cases_Bool (v == u)) [
  | inl t ↦ ap (λ b. cond b (constant_of from u) (cond c (constant_of from v) y)) t ∙ ap (constant_of from) (sym (eqb-true v u t)) ∙ sym (ap (λ b. cond (b || c) (constant_of from v) y) (eq-eqb u v (sym (eqb-true v u t))))
  | inr e ↦ ap (λ b. cond b (constant_of from u) (cond c (constant_of from v) y)) e ∙ sym (ap (λ b. cond (b || c) (constant_of from v) y) (turned_other v u e))
]

pub patched_at : (f : Form) (from env : Scope) (v : ℕ) → constant_of (patched f from env) v ≡ cond (binds_variable f v) (constant_of from v) (constant_of env v)
patched_at (Fixed b) from env v = refl
patched_at (Atom sign r ts) from env v = refl
patched_at (Same sign t u) from env v = refl
patched_at (And p q) from env v =
    patched_at p from (patched q from env) v ∙ ap (cond (binds_variable p v) (constant_of from v)) (patched_at q from env v)
    ∙ both_conds (binds_variable p v) (binds_variable q v) (constant_of from v) (constant_of env v)
patched_at (Or p q) from env v =
    patched_at p from (patched q from env) v ∙ ap (cond (binds_variable p v) (constant_of from v)) (patched_at q from env v)
    ∙ both_conds (binds_variable p v) (binds_variable q v) (constant_of from v) (constant_of env v)
patched_at (ForAll u s p) from env v =
    ap (cond (v == u.0) (constant_of from u.0)) (patched_at p from env v) ∙ first_cond from u.0 v (binds_variable p v) (constant_of env v)
patched_at (ForSome u s p) from env v =
    ap (cond (v == u.0) (constant_of from u.0)) (patched_at p from env v) ∙ first_cond from u.0 v (binds_variable p v) (constant_of env v)

-- a scope, with all variables that a form binds at one place
abbrev pub bound_at : ℕ → Form → Scope → Scope
bound_at k (Fixed b) env = env
bound_at k (Atom sign r ts) env = env
bound_at k (Same sign t u) env = env
bound_at k (And p q) env = bound_at k q (bound_at k p env)
bound_at k (Or p q) env = bound_at k q (bound_at k p env)
bound_at k (ForAll u s p) env = bound_at k p ((u.0, (s, k)) ∷ env)
bound_at k (ForSome u s p) env = bound_at k p ((u.0, (s, k)) ∷ env)

pub free_there : (k : ℕ) (f : Form) (env : Scope) (v : ℕ) → binds_variable f v ≡ false → constant_of (bound_at k f env) v ≡ constant_of env v
free_there k (Fixed b) env v e = refl
free_there k (Atom sign r ts) env v e = refl
free_there k (Same sign t u) env v e = refl
free_there k (And p q) env v e =
    let parts = or_parts (binds_variable p v) (binds_variable q v) e in free_there k q (bound_at k p env) v parts.1 ∙ free_there k p env v parts.0
free_there k (Or p q) env v e =
    let parts = or_parts (binds_variable p v) (binds_variable q v) e in free_there k q (bound_at k p env) v parts.1 ∙ free_there k p env v parts.0
free_there k (ForAll u s p) env v e =
    let parts = or_parts (u.0 == v) (binds_variable p v) e in
    free_there k p ((u.0, (s, k)) ∷ env) v parts.1 ∙ ap (λ b. cond b (s, k) (constant_of env v)) (turned_other u.0 v parts.0)
free_there k (ForSome u s p) env v e =
    let parts = or_parts (u.0 == v) (binds_variable p v) e in
    free_there k p ((u.0, (s, k)) ∷ env) v parts.1 ∙ ap (λ b. cond b (s, k) (constant_of env v)) (turned_other u.0 v parts.0)

pub bound_there : (k : ℕ) (f : Form) (env : Scope) → IsRectified f → (v : ℕ) (s : Sort) → IsBinder f v s → constant_of (bound_at k f env) v ≡ (s, k)
bound_there k (Fixed b) env h v s i = absurd i
bound_there k (Atom sign r ts) env h v s i = absurd i
bound_there k (Same sign t u) env h v s i = absurd i
bound_there k (And p q) env h v s i = elim i [
  | inl l ↦ free_there k q (bound_at k p env) v (h.2.unbound v (binder_binds p v s l)) ∙ bound_there k p env h.0 v s l
  | inr r ↦ bound_there k q (bound_at k p env) h.1 v s r
]
bound_there k (Or p q) env h v s i = elim i [
  | inl l ↦ free_there k q (bound_at k p env) v (h.2.unbound v (binder_binds p v s l)) ∙ bound_there k p env h.0 v s l
  | inr r ↦ bound_there k q (bound_at k p env) h.1 v s r
]
bound_there k (ForAll u t p) env h v s i = elim i [
  | inl l ↦ free_there k p ((u.0, (t, k)) ∷ env) v (ap (binds_variable p) l.0 ∙ h.1) ∙ ap (λ b. cond b (t, k) (constant_of env v)) (eq-eqb v u.0 l.0) ∙ ap (λ z. (z, k)) (sym l.1)
  | inr r ↦ bound_there k p ((u.0, (t, k)) ∷ env) h.0 v s r
]
bound_there k (ForSome u t p) env h v s i = elim i [
  | inl l ↦ free_there k p ((u.0, (t, k)) ∷ env) v (ap (binds_variable p) l.0 ∙ h.1) ∙ ap (λ b. cond b (t, k) (constant_of env v)) (eq-eqb v u.0 l.0) ∙ ap (λ z. (z, k)) (sym l.1)
  | inr r ↦ bound_there k p ((u.0, (t, k)) ∷ env) h.0 v s r
]

-- a scope that gives each bound variable a constant of its sort, and leaves the others as they are
pub record Reaches (n : Sort → ℕ) (f : Form) (env full : Scope) : Type 0 where
  pub free : (v : ℕ) → binds_variable f v ≡ false → constant_of full v ≡ constant_of env v
  pub bound : (v : ℕ) (s : Sort) → IsBinder f v s → IsOf n s (constant_of full v)

pub reaches_first : (n : Sort → ℕ) (f : Form) (env : Scope) → ((s : Sort) → 0 < n s) → IsRectified f → Reaches n f env (bound_at 0 f env)
reaches_first n f env filled h = record {
  free = free_there 0 f env;
  bound = λ v s i. subst (IsOf n s) (sym (bound_there 0 f env h v s i)) (record { sort = refl; below = filled s });
}

module _ (n : Sort → ℕ) (p q : Form) (apart : IsApartFrom p q) (back : IsApartFrom q p) (env a b : Scope) (ra : Reaches n p env a) (rb : Reaches n q env b) where
  abbrev joint : Scope
  joint = patched q b a

  at_second : (v : ℕ) → binds_variable q v ≡ true → constant_of joint v ≡ constant_of b v
  at_second v e = patched_at q b a v ∙ ap (λ c. cond c (constant_of b v) (constant_of a v)) e

  at_first : (v : ℕ) → binds_variable q v ≡ false → constant_of joint v ≡ constant_of a v
  at_first v e = patched_at q b a v ∙ ap (λ c. cond c (constant_of b v) (constant_of a v)) e

  first_matrix : (r : Reading) → matrix r p joint ≡ matrix r p a
  first_matrix r = same_matrix r p joint a (λ v e. at_first v (not_bound p q back v e))

  second_matrix : (r : Reading) → matrix r q joint ≡ matrix r q b
  second_matrix r = same_matrix r q joint b (λ v e. elim (cases_Bool (binds_variable q v)) [
    | inl t ↦ at_second v t
    | inr f ↦ at_first v f ∙ ra.free v (not_bound q p apart v e) ∙ sym (rb.free v f)
  ])

  reaches_both : Reaches n (And p q) env joint
  reaches_both = record {
    free = λ v e. let parts = or_parts (binds_variable p v) (binds_variable q v) e in at_first v parts.1 ∙ ra.free v parts.0;
    bound = λ v s i. elim i [
      | inl l ↦ subst (IsOf n s) (sym (at_first v (apart.unbound v (binder_binds p v s l)))) (ra.bound v s l)
      | inr r ↦ subst (IsOf n s) (sym (at_second v (binder_binds q v s r))) (rb.bound v s r)
    ];
  }

-- the variable of a `forall` stands for a constant
reaches_outer : (n : Sort → ℕ) (u : VarId) (s : Sort) (p : Form) (k : ℕ) (env full : Scope) → k < n s → binds_variable p u.0 ≡ false → Reaches n p ((u.0, (s, k)) ∷ env) full → Reaches n (ForAll u s p) env full
reaches_outer n u s p k env full l once h = record {
  free = λ v e. let parts = or_parts (u.0 == v) (binds_variable p v) e in h.free v parts.1 ∙ ap (λ c. cond c (s, k) (constant_of env v)) (turned_other u.0 v parts.0);
  bound = λ v t i. elim i [
    | inl e ↦ subst (IsOf n t) (sym (h.free v (ap (binds_variable p) e.0 ∙ once) ∙ ap (λ c. cond c (s, k) (constant_of env v)) (eq-eqb v u.0 e.0))) (record { sort = sym e.1; below = subst (λ z. k < n z) (sym e.1) l })
    | inr j ↦ h.bound v t j
  ];
}

fails_one : {X : Type 0} (p : X → Bool) (xs : List X) → list_all p xs ≡ false → (x : X) × IsIn x xs × (p x ≡ false)
fails_one p [] e = absurd (false≢true (sym e))
fails_one p (x ∷ xs) e = elim (and_cases (p x) (list_all p xs) e) [
  | inl f ↦ (x, inl refl, f)
  | inr g ↦ (let w = fails_one p xs g in (w.0, inr w.1, w.2))
]

-- a conjunction of copies is false only where one is
judge_each_fails : (j : Fact → Bool) (n : ℕ) (c : ℕ → Copy) → judge j (each n c) ≡ false → (k : ℕ) × (k < n) × (judge j (c k) ≡ false)
judge_each_fails j n c e =
    let w = fails_one (λ i. judge j (c i)) (places_from 0 n) (sym (judge-each j n c) ∙ e) in (w.0, (let under : w.0 < n = omega (arith, (in_place 0 n w.0 w.1).1) in under), w.2)

pub record Fails (r : Reading) (f : Form) (env : Scope) : Type 0 where
  pub full : Scope
  pub reaches : Reaches (ways_of r.names).count f env full
  pub fails : matrix r f full ≡ false

fails_here : (r : Reading) (f : Form) (env : Scope) → ((v : ℕ) (s : Sort) → IsBinder f v s → ⊥) → matrix r f env ≡ false → Fails r f env
fails_here r f env none e = record { full = env; reaches = record { free = λ v i. refl; bound = λ v s i. absurd (none v s i) }; fails = e }

pub fails_matrix : (r : Reading) → ((s : Sort) → 0 < (ways_of r.names).count s) → (f : Form) (env : Scope) (base : Sort → ℕ) → IsPlain f → judged_copies r f env base ≡ false → Fails r f env
fails_matrix r filled (Fixed b) env base h e = fails_here r (Fixed b) env (λ v s i. i) e
fails_matrix r filled (Atom sign p ts) env base h e = fails_here r (Atom sign p ts) env (λ v s i. i) e
fails_matrix r filled (Same sign t u) env base h e = fails_here r (Same sign t u) env (λ v s i. i) e
fails_matrix r filled (And p q) env base h e = let sides = plain_sides p q h.rectified h.universal in elim (and_cases (judged_copies r p env base) (judged_copies r q env (λ s. base s + need p s)) e) [
  | inl f ↦ (let w = fails_matrix r filled p env base sides.0 f in
      let n = (ways_of r.names).count in
      let second = reaches_first n q env filled h.rectified.1 in
      record {
        full = patched q (bound_at 0 q env) w.full;
        reaches = reaches_both n p q h.rectified.2 h.rectified.3 env w.full (bound_at 0 q env) w.reaches second;
        fails = and_left (matrix r p (patched q (bound_at 0 q env) w.full)) (matrix r q (patched q (bound_at 0 q env) w.full)) (first_matrix n p q h.rectified.2 h.rectified.3 env w.full (bound_at 0 q env) w.reaches second r ∙ w.fails);
      })
  | inr f ↦ (let w = fails_matrix r filled q env (λ s. base s + need p s) sides.1 f in
      let n = (ways_of r.names).count in
      let first = reaches_first n p env filled h.rectified.0 in
      record {
        full = patched q w.full (bound_at 0 p env);
        reaches = reaches_both n p q h.rectified.2 h.rectified.3 env (bound_at 0 p env) w.full first w.reaches;
        fails = and_right (matrix r p (patched q w.full (bound_at 0 p env))) (matrix r q (patched q w.full (bound_at 0 p env))) (second_matrix n p q h.rectified.2 h.rectified.3 env (bound_at 0 p env) w.full first w.reaches r ∙ w.fails);
      })
]
fails_matrix r filled (Or p q) env base h e =
    let n = (ways_of r.names).count in
    let parts = or_parts (judged_copies r p env base) (judged_copies r q env base) e in
    let sides = plain_sides p q h.rectified h.universal in
    let a = fails_matrix r filled p env base sides.0 parts.0 in
    let b = fails_matrix r filled q env base sides.1 parts.1 in
    let both = reaches_both n p q h.rectified.2 h.rectified.3 env a.full b.full a.reaches b.reaches in
    record {
      full = patched q b.full a.full;
      reaches = record { free = both.free; bound = both.bound };
      fails = or_from (matrix r p (patched q b.full a.full)) (matrix r q (patched q b.full a.full)) (first_matrix n p q h.rectified.2 h.rectified.3 env a.full b.full a.reaches b.reaches r ∙ a.fails)
          (second_matrix n p q h.rectified.2 h.rectified.3 env a.full b.full a.reaches b.reaches r ∙ b.fails);
    }
fails_matrix r filled (ForAll u s p) env base h e =
    let n = (ways_of r.names).count in
    let w = judge_each_fails (said_by r) (n s) (λ i. copies (ways_of r.names).voc n p ((u.0, (s, i)) ∷ env) base) e in
    let inner = fails_matrix r filled p ((u.0, (s, w.0)) ∷ env) base (plain_inner u s p h) w.2 in
    record { full = inner.full; reaches = reaches_outer n u s p w.0 env inner.full w.1 h.rectified.1 inner.reaches; fails = inner.fails }
fails_matrix r filled (ForSome u s p) env base h e = absurd (false≢true h.universal)
