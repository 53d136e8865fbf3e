-- A normal form as a formula has the truth of the normal form, and is its own normal form.
use Rattle.std.proofs.Common.{◌≡◌, Bool, true, false, ◌&&◌, ◌||◌, refl, ap, ap₂, ◌∙◌}
use Rattle.std.proofs.Math.Path.{fun_ext}
use Rattle.std.specs.List.{list_all, list_any}
use Rattle.csdn_core.specs.declared.syntax.Formula.{Formula}
use Rattle.csdn_core.specs.Truth.{Structure, Assignment, truth, with_var}
use Rattle.fol_forms.specs.Forms.{Form, Fixed, Atom, Same, And, Or, ForAll, ForSome, normal_form, form_truth, signed}
use Rattle.fol_forms.proofs.NormalTruth.{truth-normal}
use Rattle.fol_forms.specs.Written.{written}

pub truth-written : (M : Structure) (p : Form) (e : Assignment) → truth M (written p) e ≡ form_truth M p e
unfolding truth
truth-written M (Fixed true) e = refl
truth-written M (Fixed false) e = refl
truth-written M (Atom true r ts) e = refl
truth-written M (Atom false r ts) e = refl
truth-written M (Same true t u) e = refl
truth-written M (Same false t u) e = refl
truth-written M (And p q) e = ap₂ (λ a b. a && b) (truth-written M p e) (truth-written M q e)
truth-written M (Or p q) e = ap₂ (λ a b. a || b) (truth-written M p e) (truth-written M q e)
truth-written M (ForAll v s p) e = ap (λ test. list_all test (M.elements s)) (fun_ext (λ m. truth-written M p (with_var e v m)))
truth-written M (ForSome v s p) e = ap (λ test. list_any test (M.elements s)) (fun_ext (λ m. truth-written M p (with_var e v m)))

pub truth-normal_form : (M : Structure) (sign : Bool) (p : Formula) (e : Assignment) → truth M (written (normal_form sign p)) e ≡ signed sign (truth M p e)
truth-normal_form M sign p e = truth-written M (normal_form sign p) e ∙ truth-normal M sign p e

pub normal_form-written : (p : Form) → normal_form true (written p) ≡ p
unfolding normal_form
normal_form-written (Fixed true) = refl
normal_form-written (Fixed false) = refl
normal_form-written (Atom true r ts) = refl
normal_form-written (Atom false r ts) = refl
normal_form-written (Same true t u) = refl
normal_form-written (Same false t u) = refl
normal_form-written (And p q) = ap₂ And (normal_form-written p) (normal_form-written q)
normal_form-written (Or p q) = ap₂ Or (normal_form-written p) (normal_form-written q)
normal_form-written (ForAll v s p) = ap (ForAll v s) (normal_form-written p)
normal_form-written (ForSome v s p) = ap (ForSome v s) (normal_form-written p)
