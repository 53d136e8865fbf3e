-- Normal forms, at what the code reads.
use Rattle.std.specs.Prelude.{◌≡◌, Bool, true, false, not, List, refl}
use Rattle.csdn_core.specs.declared.terms.VarId.{VarId}
use Rattle.csdn_core.specs.declared.terms.Sort.{Sort}
use Rattle.csdn_core.specs.declared.terms.Term.{Term}
use Rattle.csdn_core.specs.declared.terms.Pred.{Pred}
use Rattle.csdn_core.specs.declared.syntax.Formula.{Formula}
use Rattle.csdn_core.specs.declared.syntax.Formula.TheVariants as f
use Rattle.csdn_core.proofs.Shapes.{Not-is, And-is, Or-is, Implies-is, Iff-is, Forall-is, Exists-is}
use Rattle.fol_forms.specs.Forms.{Fixed, Atom, Same, And, Or, normal_form}
use Rattle.fol_forms.specs.Signed.{joined_form, quantified_form}

pub normal-True : (sign : Bool) → normal_form sign f.True ≡ Fixed sign
unfolding normal_form
normal-True true = refl
normal-True false = refl

pub normal-False : (sign : Bool) → normal_form sign f.False ≡ Fixed (not sign)
unfolding normal_form
normal-False true = refl
normal-False false = refl

pub normal-Atom : (sign : Bool) (r : Pred) (ts : List Term) → normal_form sign (f.Atom r ts) ≡ Atom sign r ts
unfolding normal_form
normal-Atom sign r ts = refl

pub normal-Same : (sign : Bool) (t u : Term) → normal_form sign (f.Same t u) ≡ Same sign t u
unfolding normal_form
normal-Same sign t u = refl

pub normal-Not : (sign : Bool) (p : Formula) → normal_form sign (f.Not p) ≡ normal_form (not sign) p
unfolding normal_form
normal-Not true p = rw Not-is
normal-Not false p = rw Not-is

pub normal-And : (sign : Bool) (p q : Formula) → normal_form sign (f.And p q) ≡ joined_form sign (normal_form sign p) (normal_form sign q)
unfolding normal_form
normal-And true p q = rw And-is
normal-And false p q = rw And-is

pub normal-Or : (sign : Bool) (p q : Formula) → normal_form sign (f.Or p q) ≡ joined_form (not sign) (normal_form sign p) (normal_form sign q)
unfolding normal_form
normal-Or true p q = rw Or-is
normal-Or false p q = rw Or-is

pub normal-Implies : (sign : Bool) (p q : Formula) → normal_form sign (f.Implies p q) ≡ joined_form (not sign) (normal_form (not sign) p) (normal_form sign q)
unfolding normal_form
normal-Implies true p q = rw Implies-is
normal-Implies false p q = rw Implies-is

pub normal-Iff : (sign : Bool) (p q : Formula) → normal_form sign (f.Iff p q) ≡ Or (And (normal_form true p) (normal_form sign q)) (And (normal_form false p) (normal_form (not sign) q))
unfolding normal_form
normal-Iff true p q = rw Iff-is
normal-Iff false p q = rw Iff-is

pub normal-Forall : (sign : Bool) (v : VarId) (k : Sort) (p : Formula) → normal_form sign (f.Forall v k p) ≡ quantified_form sign v k (normal_form sign p)
unfolding normal_form
normal-Forall true v k p = rw Forall-is
normal-Forall false v k p = rw Forall-is

pub normal-Exists : (sign : Bool) (v : VarId) (k : Sort) (p : Formula) → normal_form sign (f.Exists v k p) ≡ quantified_form (not sign) v k (normal_form sign p)
unfolding normal_form
normal-Exists true v k p = rw Exists-is
normal-Exists false v k p = rw Exists-is

pub not_twice : (b : Bool) → not (not b) ≡ b
not_twice true = refl
not_twice false = refl

pub ruleset normal_steps = (normal-True, normal-False, normal-Atom, normal-Same, normal-Not, normal-And, normal-Or, normal-Implies, normal-Iff, normal-Forall, normal-Exists, not_twice)
