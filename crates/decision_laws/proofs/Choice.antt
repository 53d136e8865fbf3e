-- Where a sentence is true, constants can be chosen for its existential quantifiers.
use Rattle.std.proofs.Common.{Bool, [], ap, ap₂, arith, cond, eq-eqb, false, inl, inr, nat_eq, ne_eqb, refl, subst, sym, true, ℕ, ◌&&◌, ◌+◌, ◌<◌, ◌∙◌, ◌∷◌, ◌≡◌, ◌≤◌, ◌⊎◌}
use Rattle.std.proofs.lemmas.Bool.{and_from, and_parts, or_cases, or_left, or_right}
use Rattle.csdn_core.specs.Same.{same_sort}
use Rattle.csdn_core.proofs.Same.{same_sort-refl, same_sort-is}
use Rattle.csdn_core.specs.declared.terms.Sort.{Sort}
use Rattle.csdn_core.specs.Truth.{Structure, with_var}
use Rattle.decision_laws.proofs.Agree.{IsRanged, Models, assigned, scope_sorts}
use Rattle.decision_laws.proofs.Basics.{any_gives, one_if-same, inside_step}
use Rattle.decision_laws.proofs.Walks.{IsHome, universal_true}
use Rattle.decision_laws.specs.Classes.{Meaning}
use Rattle.decision_laws.specs.Copies.{Fact, Scope, copies, judge}
use Rattle.decision_laws.specs.Vocabulary.{Vocabulary}
use Rattle.decision_laws.proofs.Fits.{fits}
use Rattle.fol_forms.specs.Forms.{And, Atom, Fixed, ForAll, ForSome, Form, Or, Same, form_truth, in_fragment}
use Rattle.fol_forms.specs.Constants.{need, one_if}
use Rattle.csdn_core.specs.Members.{IsIn}

-- the sentence is true with its existential quantifiers given to the constants from base on
abbrev pub IsMet : Structure → Meaning → Scope → (Sort → ℕ) → Form → Type 0
IsMet m ρ env base (Fixed b) = b ≡ true
IsMet m ρ env base (Atom sign r terms) = form_truth m (Atom sign r terms) (assigned ρ env) ≡ true
IsMet m ρ env base (Same sign t u) = form_truth m (Same sign t u) (assigned ρ env) ≡ true
IsMet m ρ env base (And f g) = IsMet m ρ env base f × IsMet m ρ env (λ t. base t + need f t) g
IsMet m ρ env base (Or f g) = IsMet m ρ env base f ⊎ IsMet m ρ env base g
IsMet m ρ env base (ForAll v s body) = form_truth m (ForAll v s body) (assigned ρ env) ≡ true
IsMet m ρ env base (ForSome v s body) = IsMet m ρ ((v.0, (s, base s)) ∷ env) (λ t. base t + one_if s t) body

-- the meanings agree on the constants below these
abbrev pub AgreeBelow : (Sort → ℕ) → Meaning → Meaning → Type 0
AgreeBelow base ρ σ = (s : Sort) (a : ℕ) → a < base s → ρ s a ≡ σ s a

assigned_agree : (base : Sort → ℕ) (ρ σ : Meaning) → AgreeBelow base ρ σ → (env : Scope) → IsRanged base env → assigned ρ env ≡ assigned σ env
assigned_agree base ρ σ k [] l = refl
assigned_agree base ρ σ k (p ∷ ps) l = ap₂ (λ x e. with_var e (record { 0 = p.0 }) x) (k p.1.0 p.1.1 l.0) (assigned_agree base ρ σ k ps l.1)

ranged_more : (low high : Sort → ℕ) → ((s : Sort) → low s ≤ high s) → (env : Scope) → IsRanged low env → IsRanged high env
ranged_more low high k [] l = tt
ranged_more low high k (p ∷ ps) l = (omega (arith, k p.1.0, l.0), ranged_more low high k ps l.1)

met_agrees : (m : Structure) (ρ σ : Meaning) (f : Form) (env : Scope) (base : Sort → ℕ) → IsRanged base env → AgreeBelow (λ s. base s + need f s) ρ σ → IsMet m ρ env base f → IsMet m σ env base f
met_agrees m ρ σ (Fixed b) env base l k h = h
met_agrees m ρ σ (Atom sign r terms) env base l k h =
    subst (λ e. form_truth m (Atom sign r terms) e ≡ true) (assigned_agree base ρ σ (λ s a b. k s a (omega arith)) env l) h
met_agrees m ρ σ (Same sign t u) env base l k h =
    subst (λ e. form_truth m (Same sign t u) e ≡ true) (assigned_agree base ρ σ (λ s a b. k s a (omega arith)) env l) h
met_agrees m ρ σ (And f g) env base l k h =
    let next : Sort → ℕ = λ t. base t + need f t in (
      met_agrees m ρ σ f env base l (λ s a b. k s a (omega arith)) h.0,
      met_agrees m ρ σ g env next (ranged_more base next (λ s. omega arith) env l) (λ s a b. k s a (omega arith)) h.1,
    )
met_agrees m ρ σ (Or f g) env base l k h =
    elim h [
      | inl a ↦ inl (met_agrees m ρ σ f env base l (λ s x b. k s x (omega arith)) a)
      | inr a ↦ inr (met_agrees m ρ σ g env base l (λ s x b. k s x (omega arith)) a)
    ]
met_agrees m ρ σ (ForAll v s body) env base l k h =
    subst (λ e. form_truth m (ForAll v s body) e ≡ true) (assigned_agree base ρ σ (λ t a b. k t a (omega arith)) env l) h
met_agrees m ρ σ (ForSome v s body) env base l k h =
    let next : Sort → ℕ = λ t. base t + one_if s t in
    let here : base s < next s = omega (arith, one_if-same s) in
    met_agrees m ρ σ body ((v.0, (s, base s)) ∷ env) next (here, ranged_more base next (λ t. omega arith) env l) (λ t a b. k t a (omega arith)) h

-- each constant means an element of its sort
abbrev pub IsInside : Structure → Meaning → Type 0
IsInside m ρ = (s : Sort) (a : ℕ) → IsIn (ρ s a) (m.elements s)

-- the meaning with one constant changed
abbrev pub put : Meaning → Sort → ℕ → ℕ → Meaning
put ρ s a x t b = cond (same_sort s t && nat_eq a b) x (ρ t b)

put_step : (c d : Bool) (x y : ℕ) → d ≡ false → cond (c && d) x y ≡ y
put_step true d x y e = ap (λ z. cond z x y) e
put_step false d x y e = refl

eqb-refl : (a : ℕ) → nat_eq a a ≡ true
eqb-refl a = eq-eqb a a refl

put-same : (ρ : Meaning) (s : Sort) (a x : ℕ) → put ρ s a x s a ≡ x
put-same ρ s a x = ap (λ z. cond z x (ρ s a)) (and_from (same_sort s s) (nat_eq a a) (same_sort-refl s) (eqb-refl a))

sort_other : (s t : Sort) (a b : ℕ) (x y : ℕ) (c : Bool) → same_sort s t ≡ c → (c ≡ true → nat_eq a b ≡ false) → cond (same_sort s t && nat_eq a b) x y ≡ y
sort_other s t a b x y true e k = put_step (same_sort s t) (nat_eq a b) x y (k refl)
sort_other s t a b x y false e k = ap (λ z. cond (z && nat_eq a b) x y) e

put-other : (ρ : Meaning) (base : Sort → ℕ) (s : Sort) (x : ℕ) → AgreeBelow base ρ (put ρ s (base s) x)
put-other ρ base s x t b l =
    sym (sort_other s t (base s) b x (ρ t b) (same_sort s t) refl (λ e. ne_eqb (base s) b (λ q. (let r = ap base (same_sort-is s t e) in omega arith))))

put_inside : (m : Structure) (ρ : Meaning) (s : Sort) (a x : ℕ) → IsInside m ρ → IsIn x (m.elements s) → IsInside m (put ρ s a x)
put_inside m ρ s a x k i t b =
    inside_step m t (same_sort s t && nat_eq a b) x (ρ t b)
    (λ e. subst (λ z. IsIn x (m.elements z)) (same_sort-is s t (and_parts (same_sort s t) (nat_eq a b) e).0) i)
    (k t b)

pub choose : (m : Structure) (f : Form) (env : Scope) (base : Sort → ℕ) (ρ : Meaning) → IsRanged base env → IsInside m ρ → form_truth m f (assigned ρ env) ≡ true → (σ : Meaning) × AgreeBelow base ρ σ × IsInside m σ × IsMet m σ env base f
choose m (Fixed b) env base ρ l k h = (ρ, (λ s a i. refl), k, h)
choose m (Atom sign r terms) env base ρ l k h = (ρ, (λ s a i. refl), k, h)
choose m (Same sign t u) env base ρ l k h = (ρ, (λ s a i. refl), k, h)
choose m (And f g) env base ρ l k h =
    let parts = and_parts (form_truth m f (assigned ρ env)) (form_truth m g (assigned ρ env)) h in
    let one = choose m f env base ρ l k parts.0 in
    let next : Sort → ℕ = λ t. base t + need f t in
    let still = subst (λ e. form_truth m g e ≡ true) (assigned_agree base ρ one.0 one.1 env l) parts.1 in
    let two = choose m g env next one.0 (ranged_more base next (λ s. omega arith) env l) one.2 still in
    (two.0, (λ s a i. one.1 s a i ∙ two.1 s a (omega arith)), two.2, (met_agrees m one.0 two.0 f env base l two.1 one.3, two.3))
choose m (Or f g) env base ρ l k h =
    elim (or_cases (form_truth m f (assigned ρ env)) (form_truth m g (assigned ρ env)) h) [
      | inl a ↦ (let one = choose m f env base ρ l k a in (one.0, one.1, one.2, inl one.3))
      | inr a ↦ (let one = choose m g env base ρ l k a in (one.0, one.1, one.2, inr one.3))
    ]
choose m (ForAll v s body) env base ρ l k h = (ρ, (λ t a i. refl), k, h)
choose m (ForSome v s body) env base ρ l k h =
    let w = any_gives (λ x. form_truth m body (with_var (assigned ρ env) v x)) (m.elements s) h in
    let next : Sort → ℕ = λ t. base t + one_if s t in
    let here : base s < next s = omega (arith, one_if-same s) in
    let σ = put ρ s (base s) w.0 in
    let agree = put-other ρ base s w.0 in
    let e : with_var (assigned ρ env) v w.0 ≡ assigned σ ((v.0, (s, base s)) ∷ env) = ap₂ (λ x z. with_var z v x) (sym (put-same ρ s (base s) w.0)) (assigned_agree base ρ σ agree env l) in
    let one = choose m body ((v.0, (s, base s)) ∷ env) next σ (here, ranged_more base next (λ t. omega arith) env l) (put_inside m ρ s (base s) w.0 k w.1) (subst (λ z. form_truth m body z ≡ true) e w.2) in
    (one.0, (λ t a i. agree t a i ∙ one.1 t a (omega arith)), one.2, one.3)

-- where the constants are chosen, the copies are true
pub met_true : (voc : Vocabulary) (n : Sort → ℕ) (m : Structure) (ρ : Meaning) (j : Fact → Bool) → Models voc n m ρ j → IsHome n m ρ → (f : Form) (env : Scope) (base : Sort → ℕ) → IsRanged n env → fits voc (scope_sorts env) f ≡ true → in_fragment f ≡ true → ((s : Sort) → base s + need f s ≤ n s) → IsMet m ρ env base f → judge j (copies voc n f env base) ≡ true
met_true voc n m ρ j o home (Fixed b) env base l h u room e = e
met_true voc n m ρ j o home (Atom sign r terms) env base l h u room e = universal_true voc n m ρ j o home (Atom sign r terms) env base l h refl e
met_true voc n m ρ j o home (Same sign t w) env base l h u room e = universal_true voc n m ρ j o home (Same sign t w) env base l h refl e
met_true voc n m ρ j o home (And f g) env base l h u room e =
    let p = and_parts (fits voc (scope_sorts env) f) (fits voc (scope_sorts env) g) h in
    let q = and_parts (in_fragment f) (in_fragment g) u in
    let next : Sort → ℕ = λ t. base t + need f t in
    and_from (judge j (copies voc n f env base)) (judge j (copies voc n g env next))
    (met_true voc n m ρ j o home f env base l p.0 q.0 (λ s. omega (arith, room s)) e.0)
    (met_true voc n m ρ j o home g env next l p.1 q.1 (λ s. omega (arith, room s)) e.1)
met_true voc n m ρ j o home (Or f g) env base l h u room e =
    let p = and_parts (fits voc (scope_sorts env) f) (fits voc (scope_sorts env) g) h in
    let q = and_parts (in_fragment f) (in_fragment g) u in
    let one = judge j (copies voc n f env base) in
    let two = judge j (copies voc n g env base) in
    elim e [
      | inl a ↦ or_left one two (met_true voc n m ρ j o home f env base l p.0 q.0 (λ s. omega (arith, room s)) a)
      | inr b ↦ or_right one two (met_true voc n m ρ j o home g env base l p.1 q.1 (λ s. omega (arith, room s)) b)
    ]
met_true voc n m ρ j o home (ForAll v s body) env base l h u room e = universal_true voc n m ρ j o home (ForAll v s body) env base l h u e
met_true voc n m ρ j o home (ForSome v s body) env base l h u room e =
    let next : Sort → ℕ = λ t. base t + one_if s t in
    let here : base s < n s = omega (arith, room s, one_if-same s) in
    met_true voc n m ρ j o home body ((v.0, (s, base s)) ∷ env) next (here, l) h u (λ t. omega (arith, room t)) e
