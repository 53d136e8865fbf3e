-- Instances over counts that are cut off.
use Rattle.std.proofs.Common.{◌≡◌, ℕ, ◌+◌, ◌*◌, refl, sym, ap, ap₂, ◌∙◌}
use Rattle.csdn_core.specs.declared.terms.Sort.{Sort}
use Rattle.csdn_core.specs.declared.terms.Sort.TheVariants.{Sw, Ho, Pr}
use Rattle.csdn_core.specs.declared.program.Parts.{Parts}
use Rattle.csdn_core.specs.declared.syntax.Formula.{Formula}
use Rattle.fol_forms.specs.Constants.{counts, instances}
use Rattle.fol_forms.specs.Forms.{form_of}
use Rattle.fol_forms.specs.Forms.{Form, Fixed, Atom, Same, And, Or, ForAll, ForSome}
use Rattle.fol_forms.specs.declared.instances.Counts.{Counts}
use Rattle.fol_forms.specs.Counts.{count_of}
use Rattle.fol_forms.specs.Limits.{capped}
use Rattle.fol_forms.proofs.Capped.{capped-sum, capped-product_left, capped-product_right}

sum_alike : (a b x y : ℕ) → capped a ≡ capped x → capped b ≡ capped y → capped (a + b) ≡ capped (x + y)
sum_alike a b x y h k = sym (capped-sum a b) ∙ ap₂ (λ u v. capped (u + v)) h k ∙ capped-sum x y

product_alike : (m n a x : ℕ) → m ≡ capped n → capped a ≡ capped x → capped (m * a) ≡ capped (n * x)
product_alike m n a x h k =
    sym (capped-product_right m a) ∙ ap₂ (λ u v. capped (u * v)) h k ∙ capped-product_left n (capped x) ∙ capped-product_right n x

-- counts that are cut off give the same
pub instances-capped : (m n : Sort → ℕ) → ((s : Sort) → m s ≡ capped (n s)) → (p : Form) → capped (instances m p) ≡ capped (instances n p)
instances-capped m n same (Fixed b) = refl
instances-capped m n same (Atom sign r ts) = refl
instances-capped m n same (Same sign t u) = refl
instances-capped m n same (And p q) = sum_alike (instances m p) (instances m q) (instances n p) (instances n q) (instances-capped m n same p) (instances-capped m n same q)
instances-capped m n same (Or p q) = sum_alike (instances m p) (instances m q) (instances n p) (instances n q) (instances-capped m n same p) (instances-capped m n same q)
instances-capped m n same (ForAll v s p) = product_alike (m s) (n s) (instances m p) (instances n p) (same s) (instances-capped m n same p)
instances-capped m n same (ForSome v s p) = instances-capped m n same p

-- the counts of the three sorts, each cut off
pub counts_at : (P : Parts) (F : Formula) (k : Counts) → k.sw ≡ capped (counts P F Sw) → k.ho ≡ capped (counts P F Ho) → k.pr ≡ capped (counts P F Pr) → (s : Sort) → count_of k s ≡ capped (counts P F s)
unfolding count_of
counts_at P F k sw ho pr Sw = sw
counts_at P F k sw ho pr Ho = ho
counts_at P F k sw ho pr Pr = pr

pub instances-of_counts : (P Q : Parts) (F : Formula) (k : Counts) → Q ≡ P → ((s : Sort) → count_of k s ≡ capped (counts Q F s)) →
    capped (instances (count_of k) (form_of F)) ≡ capped (instances (counts P F) (form_of F))
instances-of_counts P Q F k is same =
    instances-capped (count_of k) (counts P F) (λ s. same s ∙ ap (λ parts. capped (counts parts F s)) is) (form_of F)
