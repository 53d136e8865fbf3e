-- The copies of a form have as many nodes wherever they are made.
use Rattle.std.proofs.Common.{◌≡◌, ◌<◌, ◌≤◌, Bool, true, false, Option, Some, None, max, ℕ, zero, suc, ◌+◌, ◌*◌, ◌∷◌, refl, ap, ap₂, sym, suc-mul, zero-mul, arith}
use Rattle.std.proofs.Math.Nat.{mul-le-mul_left, mul-suc, one-mul}
use Rattle.std.proofs.lemmas.Bool.{and_parts, false≢true}
use Rattle.csdn_core.specs.declared.terms.Sort.{Sort}
use Rattle.csdn_core.specs.declared.terms.VarId.{VarId}
use Rattle.csdn_core.specs.declared.program.Parts.{Parts}
use Rattle.csdn_core.specs.declared.syntax.Formula.{Formula}
use Rattle.decision_laws.proofs.Simplify.{bare-simplified, fixed_is, is_bare}
use Rattle.decision_laws.specs.Simplified.{all_by, and_by, fixed_of, or_by, simplified, some_by}
use Rattle.decision_laws.specs.Vocabulary.{Vocabulary}
use Rattle.decision_laws.specs.Copies.{Copy, Scope, copies, each}
use Rattle.decision_laws.specs.Clauses.{size, sum_from}
use Rattle.decision_laws.specs.Weights.{weight, each_weight}
use Rattle.fol_forms.specs.Forms.{Form, Fixed, Atom, Same, And, Or, ForAll, ForSome, form_of}
use Rattle.fol_forms.specs.Constants.{counts, instances, need, one_if}

sum_same : (g : ℕ → ℕ) (w : ℕ) → ((i : ℕ) → g i ≡ w) → (i m : ℕ) → sum_from g i m ≡ m * w
sum_same g w h i zero = sym (zero-mul w)
sum_same g w h i (suc m) =
    let head = h i in
    let tail = sum_same g w h (suc i) m in
    omega (arith, head, tail, suc-mul m w)

each_size : (m : ℕ) (c : ℕ → Copy) (w : ℕ) → ((i : ℕ) → size (c i) ≡ w) → size (each m c) ≡ each_weight m w
each_size zero c w h = refl
each_size (suc zero) c w h = h 0
each_size (suc (suc m)) c w h = ap suc (sum_same (λ i. size (c i)) w h 0 (suc (suc m)))

pub size-copies : (voc : Vocabulary) (n : Sort → ℕ) (f : Form) (env : Scope) (base : Sort → ℕ) → size (copies voc n f env base) ≡ weight n f
size-copies voc n (Fixed b) env base = refl
size-copies voc n (Atom sign r ts) env base = refl
size-copies voc n (Same sign t u) env base = refl
size-copies voc n (And p q) env base = ap₂ (λ a b. suc (a + b)) (size-copies voc n p env base) (size-copies voc n q env (λ t. base t + need p t))
size-copies voc n (Or p q) env base = ap₂ (λ a b. suc (a + b)) (size-copies voc n p env base) (size-copies voc n q env base)
size-copies voc n (ForAll v s p) env base = each_size (n s) (λ a. copies voc n p ((v.0, (s, a)) ∷ env) base) (weight n p) (λ a. size-copies voc n p ((v.0, (s, a)) ∷ env) base)
size-copies voc n (ForSome v s p) env base = size-copies voc n p ((v.0, (s, base s)) ∷ env) (λ t. base t + one_if s t)

-- Where truth values are simplified away, there are fewer nodes than atoms and equations.

each_few : (m w i : ℕ) → 0 < m → suc w ≤ i → suc (each_weight m w) ≤ m * i
each_few zero w i l h = absurd (omega arith)
each_few (suc zero) w i l h = omega (arith, h, one-mul i)
each_few (suc (suc m)) w i l h =
    let scaled : suc (suc m) * suc w ≤ suc (suc m) * i = mul-le-mul_left (suc (suc m)) h in
    omega (arith, scaled, mul-suc (suc (suc m)) w)

module _ (n : Sort → ℕ) (some : (s : Sort) → 0 < n s) where
  bare_few : (f : Form) → is_bare f ≡ true → suc (weight n f) ≤ instances n f
  bare_few (Fixed b) h = absurd (false≢true h)
  bare_few (Atom sign r ts) h = omega arith
  bare_few (Same sign t u) h = omega arith
  bare_few (And p q) h =
      let b = and_parts (is_bare p) (is_bare q) h in
      omega (arith, bare_few p b.0, bare_few q b.1)
  bare_few (Or p q) h =
      let b = and_parts (is_bare p) (is_bare q) h in
      omega (arith, bare_few p b.0, bare_few q b.1)
  bare_few (ForAll v s p) h = each_few (n s) (weight n p) (instances n p) (some s) (bare_few p h)
  bare_few (ForSome v s p) h = bare_few p h

  few_and_by : (o u : Option Bool) (f g : Form) → instances n (and_by o u f g) ≤ instances n f + instances n g
  few_and_by (Some true) u f g = omega arith
  few_and_by (Some false) u f g = omega arith
  few_and_by None (Some true) f g = omega arith
  few_and_by None (Some false) f g = omega arith
  few_and_by None None f g = omega arith

  few_or_by : (o u : Option Bool) (f g : Form) → instances n (or_by o u f g) ≤ instances n f + instances n g
  few_or_by (Some true) u f g = omega arith
  few_or_by (Some false) u f g = omega arith
  few_or_by None (Some true) f g = omega arith
  few_or_by None (Some false) f g = omega arith
  few_or_by None None f g = omega arith

  few_all_by : (o : Option Bool) (v : VarId) (s : Sort) (f : Form) → instances n (all_by o v s f) ≤ n s * instances n f
  few_all_by (Some b) v s f = omega arith
  few_all_by None v s f = omega arith

  few_some_by : (o : Option Bool) (v : VarId) (s : Sort) (f : Form) → instances n (some_by o v s f) ≤ instances n f
  few_some_by (Some b) v s f = omega arith
  few_some_by None v s f = omega arith

  few-simplified : (f : Form) → instances n (simplified f) ≤ instances n f
  few-simplified (Fixed b) = omega arith
  few-simplified (Atom sign r ts) = omega arith
  few-simplified (Same sign t u) = omega arith
  few-simplified (And p q) = omega (arith, few_and_by (fixed_of (simplified p)) (fixed_of (simplified q)) (simplified p) (simplified q), few-simplified p, few-simplified q)
  few-simplified (Or p q) = omega (arith, few_or_by (fixed_of (simplified p)) (fixed_of (simplified q)) (simplified p) (simplified q), few-simplified p, few-simplified q)
  few-simplified (ForAll v s p) =
      let scaled : n s * instances n (simplified p) ≤ n s * instances n p = mul-le-mul_left (n s) (few-simplified p) in
      omega (arith, scaled, few_all_by (fixed_of (simplified p)) v s (simplified p))
  few-simplified (ForSome v s p) = omega (arith, few_some_by (fixed_of (simplified p)) v s (simplified p), few-simplified p)

  fewer_nodes : (f : Form) (o : Option Bool) → fixed_of (simplified f) ≡ o → weight n (simplified f) < max 1 (instances n f)
  fewer_nodes f (Some b) e = (let none = ap (weight n) (fixed_is (simplified f) b e) in omega (arith, none))
  fewer_nodes f None e = omega (arith, bare_few (simplified f) (bare-simplified f e), few-simplified f)

pub few_nodes : (P : Parts) (F : Formula) → weight (counts P F) (simplified (form_of F)) < max 1 (instances (counts P F) (form_of F))
few_nodes P F = fewer_nodes (counts P F) (λ s. omega arith) (form_of F) (fixed_of (simplified (form_of F))) refl
