-- Normal forms: formulas whose negations stand on atoms and equations alone, as a tree of their own.
use Rattle.std.specs.Prelude.{◌==◌, Bool, true, false, not, ◌&&◌, ◌||◌, List}
use Rattle.std.specs.List.{list_all, list_any}
use Rattle.csdn_core.specs.declared.terms.VarId.{VarId}
use Rattle.csdn_core.specs.declared.terms.Sort.{Sort}
use Rattle.csdn_core.specs.declared.terms.Term.{Term}
use Rattle.csdn_core.specs.declared.terms.Pred.{Pred}
use Rattle.csdn_core.specs.declared.syntax.Formula.{Formula}
use Rattle.csdn_core.specs.declared.syntax.Formula.TheVariants as f
use Rattle.csdn_core.specs.Tree.{negation, conjunction, disjunction, implication, equivalence, universal, existential}
use Rattle.csdn_core.specs.Truth.{Structure, Assignment, value, values, with_var}

-- a formula in normal form: a sign, `false` for a negation, stands on each atom and equation
pub data Form : Type 0 where
  Fixed : (b : Bool) → Form
  Atom : (sign : Bool) (r : Pred) (ts : List Term) → Form
  Same : (sign : Bool) (t u : Term) → Form
  And : (p q : Form) → Form
  Or : (p q : Form) → Form
  ForAll : (v : VarId) (s : Sort) (p : Form) → Form
  ForSome : (v : VarId) (s : Sort) (p : Form) → Form

-- the normal form of a formula for the sign `true`, of its negation for `false`: negations move inwards by De Morgan's
-- rules and swap quantifiers and truth values; arrows become `or`, and equivalences two cases
unfoldable pub normal_form : Bool → Formula → Form
normal_form true f.True = Fixed true
normal_form false f.True = Fixed false
normal_form true f.False = Fixed false
normal_form false f.False = Fixed true
normal_form sign (f.Atom r ts) = Atom sign r ts
normal_form sign (f.Same t u) = Same sign t u
normal_form true (negation p) = normal_form false p
normal_form false (negation p) = normal_form true p
normal_form true (conjunction p q) = And (normal_form true p) (normal_form true q)
normal_form false (conjunction p q) = Or (normal_form false p) (normal_form false q)
normal_form true (disjunction p q) = Or (normal_form true p) (normal_form true q)
normal_form false (disjunction p q) = And (normal_form false p) (normal_form false q)
normal_form true (implication p q) = Or (normal_form false p) (normal_form true q)
normal_form false (implication p q) = And (normal_form true p) (normal_form false q)
normal_form true (equivalence p q) = Or (And (normal_form true p) (normal_form true q)) (And (normal_form false p) (normal_form false q))
normal_form false (equivalence p q) = Or (And (normal_form true p) (normal_form false q)) (And (normal_form false p) (normal_form true q))
normal_form true (universal v s p) = ForAll v s (normal_form true p)
normal_form false (universal v s p) = ForSome v s (normal_form false p)
normal_form true (existential v s p) = ForSome v s (normal_form true p)
normal_form false (existential v s p) = ForAll v s (normal_form false p)

-- the normal form of a formula
abbrev pub form_of : Formula → Form
form_of p = normal_form true p

-- a truth value, or with the sign `false` the other one
abbrev pub signed : Bool → Bool → Bool
signed true b = b
signed false b = not b

-- truth of a normal form, which is that of its formula
abbrev pub form_truth : Structure → Form → Assignment → Bool
form_truth M (Fixed b) e = b
form_truth M (Atom sign r ts) e = signed sign (M.holds r (values M e ts))
form_truth M (Same sign t u) e = signed sign (value M e t == value M e u)
form_truth M (And p q) e = form_truth M p e && form_truth M q e
form_truth M (Or p q) e = form_truth M p e || form_truth M q e
form_truth M (ForAll v s p) e = list_all (λ m. form_truth M p (with_var e v m)) (M.elements s)
form_truth M (ForSome v s p) e = list_any (λ m. form_truth M p (with_var e v m)) (M.elements s)

-- no `exists` in it
abbrev pub is_universal : Form → Bool
is_universal (Fixed b) = true
is_universal (Atom sign r ts) = true
is_universal (Same sign t u) = true
is_universal (And p q) = is_universal p && is_universal q
is_universal (Or p q) = is_universal p && is_universal q
is_universal (ForAll v s p) = is_universal p
is_universal (ForSome v s p) = false

-- no `exists` under a `forall`
abbrev pub in_fragment : Form → Bool
in_fragment (Fixed b) = true
in_fragment (Atom sign r ts) = true
in_fragment (Same sign t u) = true
in_fragment (And p q) = in_fragment p && in_fragment q
in_fragment (Or p q) = in_fragment p && in_fragment q
in_fragment (ForAll v s p) = is_universal p
in_fragment (ForSome v s p) = in_fragment p
