-- From copies to the sentence, and for formulas without existential quantifiers back.
use Rattle.std.proofs.Common.{Bool, ap, arith, inl, inr, subst, sym, true, ℕ, ◌+◌, ◌<◌, ◌∙◌, ◌∷◌, ◌≡◌, ◌≤◌}
use Rattle.std.proofs.lemmas.Bool.{and_from, and_parts, false≢true, or_cases, or_left, or_right}
use Rattle.csdn_core.specs.declared.terms.Sort.{Sort}
use Rattle.csdn_core.specs.Truth.{Structure, with_var}
use Rattle.decision_laws.proofs.Agree.{IsRanged, Models, assigned, atom_agrees, equation_agrees, scope_sorts}
use Rattle.decision_laws.proofs.Basics.{all_at, all_from, any_from, judge_each_at, judge_each_from, one_if-same, universal-need, universal_inside}
use Rattle.decision_laws.specs.Classes.{Meaning}
use Rattle.decision_laws.specs.Copies.{Fact, Scope, copies, judge}
use Rattle.decision_laws.specs.Vocabulary.{Vocabulary}
use Rattle.decision_laws.proofs.Fits.{fits}
use Rattle.fol_forms.specs.Forms.{And, Atom, Fixed, ForAll, ForSome, Form, Or, Same, form_truth, in_fragment, is_universal, signed}
use Rattle.fol_forms.specs.Constants.{need, one_if}
use Rattle.csdn_core.specs.Members.{IsIn}

-- each element is that of a constant
abbrev pub IsCovered : (Sort → ℕ) → Structure → Meaning → Type 0
IsCovered n m ρ = (s : Sort) (x : ℕ) → IsIn x (m.elements s) → (a : ℕ) × (a < n s) × (x ≡ ρ s a)

-- each constant's element is one of its sort
abbrev pub IsHome : (Sort → ℕ) → Structure → Meaning → Type 0
IsHome n m ρ = (s : Sort) (a : ℕ) → a < n s → IsIn (ρ s a) (m.elements s)

-- where the copies are true, so is the formula
pub copies_true : (voc : Vocabulary) (n : Sort → ℕ) (m : Structure) (ρ : Meaning) (j : Fact → Bool) → Models voc n m ρ j → IsCovered n m ρ → IsHome n m ρ → (f : Form) (env : Scope) (base : Sort → ℕ) → IsRanged n env → fits voc (scope_sorts env) f ≡ true → in_fragment f ≡ true → ((s : Sort) → base s + need f s ≤ n s) → judge j (copies voc n f env base) ≡ true → form_truth m f (assigned ρ env) ≡ true
copies_true voc n m ρ j o cover home (Fixed b) env base l h inside room e = e
copies_true voc n m ρ j o cover home (Atom sign r terms) env base l h inside room e =
    ap (signed sign) (atom_agrees voc n m ρ j o env l r terms h) ∙ e
copies_true voc n m ρ j o cover home (Same sign t u) env base l h inside room e =
    ap (signed sign) (equation_agrees voc n m ρ j o env l t u h) ∙ e
copies_true voc n m ρ j o cover home (And f g) env base l h inside room e =
    let p = and_parts (fits voc (scope_sorts env) f) (fits voc (scope_sorts env) g) h in
    let q = and_parts (in_fragment f) (in_fragment g) inside in
    let next : Sort → ℕ = λ t. base t + need f t in
    let parts = and_parts (judge j (copies voc n f env base)) (judge j (copies voc n g env next)) e in
    and_from (form_truth m f (assigned ρ env)) (form_truth m g (assigned ρ env))
    (copies_true voc n m ρ j o cover home f env base l p.0 q.0 (λ s. omega (arith, room s)) parts.0)
    (copies_true voc n m ρ j o cover home g env next l p.1 q.1 (λ s. omega (arith, room s)) parts.1)
copies_true voc n m ρ j o cover home (Or f g) env base l h inside room e =
    let p = and_parts (fits voc (scope_sorts env) f) (fits voc (scope_sorts env) g) h in
    let q = and_parts (in_fragment f) (in_fragment g) inside in
    elim (or_cases (judge j (copies voc n f env base)) (judge j (copies voc n g env base)) e) [
      | inl a ↦ or_left (form_truth m f (assigned ρ env)) (form_truth m g (assigned ρ env)) (copies_true voc n m ρ j o cover home f env base l p.0 q.0 (λ s. omega (arith, room s)) a)
      | inr b ↦ or_right (form_truth m f (assigned ρ env)) (form_truth m g (assigned ρ env)) (copies_true voc n m ρ j o cover home g env base l p.1 q.1 (λ s. omega (arith, room s)) b)
    ]
copies_true voc n m ρ j o cover home (ForAll v s body) env base l h inside room e =
    all_from (λ x. form_truth m body (with_var (assigned ρ env) v x)) (m.elements s) (λ x i.
    let c = cover s x i in
    let here = judge_each_at j (n s) (λ a. copies voc n body ((v.0, (s, a)) ∷ env) base) c.0 c.1 e in
    subst (λ z. form_truth m body (with_var (assigned ρ env) v z) ≡ true) (sym c.2)
    (copies_true voc n m ρ j o cover home body ((v.0, (s, c.0)) ∷ env) base (c.1, l) h (universal_inside body inside) (λ t. omega (arith, room t, universal-need body t inside)) here))
copies_true voc n m ρ j o cover home (ForSome v s body) env base l h inside room e =
    let next : Sort → ℕ = λ t. base t + one_if s t in
    let here : base s < n s = omega (arith, room s, one_if-same s) in
    any_from (λ x. form_truth m body (with_var (assigned ρ env) v x)) (m.elements s) (ρ s (base s)) (home s (base s) here)
    (copies_true voc n m ρ j o cover home body ((v.0, (s, base s)) ∷ env) next (here, l) h inside (λ t. omega (arith, room t)) e)

-- where a formula without existential quantifiers is true, so are its copies
pub universal_true : (voc : Vocabulary) (n : Sort → ℕ) (m : Structure) (ρ : Meaning) (j : Fact → Bool) → Models voc n m ρ j → IsHome n m ρ → (f : Form) (env : Scope) (base : Sort → ℕ) → IsRanged n env → fits voc (scope_sorts env) f ≡ true → is_universal f ≡ true → form_truth m f (assigned ρ env) ≡ true → judge j (copies voc n f env base) ≡ true
universal_true voc n m ρ j o home (Fixed b) env base l h u e = e
universal_true voc n m ρ j o home (Atom sign r terms) env base l h u e =
    ap (signed sign) (sym (atom_agrees voc n m ρ j o env l r terms h)) ∙ e
universal_true voc n m ρ j o home (Same sign t w) env base l h u e =
    ap (signed sign) (sym (equation_agrees voc n m ρ j o env l t w h)) ∙ e
universal_true voc n m ρ j o home (And f g) env base l h u e =
    let p = and_parts (fits voc (scope_sorts env) f) (fits voc (scope_sorts env) g) h in
    let q = and_parts (is_universal f) (is_universal g) u in
    let next : Sort → ℕ = λ t. base t + need f t in
    let parts = and_parts (form_truth m f (assigned ρ env)) (form_truth m g (assigned ρ env)) e in
    and_from (judge j (copies voc n f env base)) (judge j (copies voc n g env next))
    (universal_true voc n m ρ j o home f env base l p.0 q.0 parts.0)
    (universal_true voc n m ρ j o home g env next l p.1 q.1 parts.1)
universal_true voc n m ρ j o home (Or f g) env base l h u e =
    let p = and_parts (fits voc (scope_sorts env) f) (fits voc (scope_sorts env) g) h in
    let q = and_parts (is_universal f) (is_universal g) u in
    let one = judge j (copies voc n f env base) in
    let two = judge j (copies voc n g env base) in
    elim (or_cases (form_truth m f (assigned ρ env)) (form_truth m g (assigned ρ env)) e) [
      | inl a ↦ or_left one two (universal_true voc n m ρ j o home f env base l p.0 q.0 a)
      | inr b ↦ or_right one two (universal_true voc n m ρ j o home g env base l p.1 q.1 b)
    ]
universal_true voc n m ρ j o home (ForAll v s body) env base l h u e =
    judge_each_from j (n s) (λ a. copies voc n body ((v.0, (s, a)) ∷ env) base) (λ a here.
    universal_true voc n m ρ j o home body ((v.0, (s, a)) ∷ env) base (here, l) h u
    (all_at (λ x. form_truth m body (with_var (assigned ρ env) v x)) (m.elements s) (ρ s a) (home s a here) e))
universal_true voc n m ρ j o home (ForSome v s body) env base l h u e = absurd (false≢true u)
