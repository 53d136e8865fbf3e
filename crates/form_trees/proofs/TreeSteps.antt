-- Trees at what the code reads.
use Rattle.std.proofs.Common.{◌≡◌, ◌∙◌, ℕ, suc, ◌+◌, Bool, List, refl, ap, subst, sym}
use Rattle.csdn_core.specs.declared.terms.VarId.{VarId}
use Rattle.csdn_core.specs.declared.terms.Sort.{Sort}
use Rattle.csdn_core.specs.declared.terms.Sort.TheVariants.{Sw, Ho, Pr}
use Rattle.csdn_core.specs.declared.terms.Term.{Term}
use Rattle.csdn_core.specs.declared.terms.Pred.{Pred}
use Rattle.fol_forms.specs.Counts.{count_of}
use Rattle.fol_forms.specs.Forms.{Form, Fixed, Atom, Same, And, Or, ForAll, ForSome}
use Rattle.form_trees.specs.declared.trees.Extent.{Extent}
use Rattle.form_trees.specs.declared.trees.FormTree.{FormTree}
use Rattle.form_trees.specs.declared.trees.FormTree.TheVariants as t
use Rattle.form_trees.specs.Shapes.{both, either, universal, existential}
use Rattle.form_trees.specs.Trees.{IsExtent, IsMeasured, no_extent, tree_form, tree_size}
use Rattle.form_trees.proofs.Shapes.{Both-is, Either-is, Forall-is, Exists-is}

pub form-Truth : (b : Bool) → tree_form (t.Truth b) ≡ Fixed b
unfolding tree_form
form-Truth b = refl

pub form-Tuple : (sign : Bool) (r : Pred) (ts : List Term) → tree_form (t.Tuple sign r ts) ≡ Atom sign r ts
unfolding tree_form
form-Tuple sign r ts = refl

pub form-Equation : (sign : Bool) (x y : Term) → tree_form (t.Equation sign x y) ≡ Same sign x y
unfolding tree_form
form-Equation sign x y = refl

pub form-Both : (e : Extent) (p q : FormTree) → tree_form (t.Both e p q) ≡ And (tree_form p) (tree_form q)
unfolding tree_form
form-Both e p q = rw Both-is

pub form-Either : (e : Extent) (p q : FormTree) → tree_form (t.Either e p q) ≡ Or (tree_form p) (tree_form q)
unfolding tree_form
form-Either e p q = rw Either-is

pub form-Forall : (e : Extent) (v : VarId) (s : Sort) (p : FormTree) → tree_form (t.Forall e v s p) ≡ ForAll v s (tree_form p)
unfolding tree_form
form-Forall e v s p = rw Forall-is

pub form-Exists : (e : Extent) (v : VarId) (s : Sort) (p : FormTree) → tree_form (t.Exists e v s p) ≡ ForSome v s (tree_form p)
unfolding tree_form
form-Exists e v s p = rw Exists-is

pub size-Truth : (b : Bool) → tree_size (t.Truth b) ≡ 1
unfolding tree_size
size-Truth b = refl

pub size-Tuple : (sign : Bool) (r : Pred) (ts : List Term) → tree_size (t.Tuple sign r ts) ≡ 1
unfolding tree_size
size-Tuple sign r ts = refl

pub size-Equation : (sign : Bool) (x y : Term) → tree_size (t.Equation sign x y) ≡ 1
unfolding tree_size
size-Equation sign x y = refl

pub size-Both : (e : Extent) (p q : FormTree) → tree_size (t.Both e p q) ≡ suc (tree_size p + tree_size q)
unfolding tree_size
size-Both e p q = rw Both-is

pub size-Either : (e : Extent) (p q : FormTree) → tree_size (t.Either e p q) ≡ suc (tree_size p + tree_size q)
unfolding tree_size
size-Either e p q = rw Either-is

pub size-Forall : (e : Extent) (v : VarId) (s : Sort) (p : FormTree) → tree_size (t.Forall e v s p) ≡ suc (tree_size p)
unfolding tree_size
size-Forall e v s p = rw Forall-is

pub size-Exists : (e : Extent) (v : VarId) (s : Sort) (p : FormTree) → tree_size (t.Exists e v s p) ≡ suc (tree_size p)
unfolding tree_size
size-Exists e v s p = rw Exists-is

pub ruleset tree_steps = (form-Truth, form-Tuple, form-Equation, form-Both, form-Either, form-Forall, form-Exists, size-Truth, size-Tuple, size-Equation, size-Both, size-Either, size-Forall, size-Exists)

-- What is measured, in its parts.

module _ (n : Sort → ℕ) where
  measured-Both : (e : Extent) (p q : FormTree) → IsMeasured n (both e p q) → IsExtent n (And (tree_form p) (tree_form q)) e × IsMeasured n p × IsMeasured n q
  unfolding IsMeasured
  measured-Both e p q h = h

  pub parts-Both : (e : Extent) (p q : FormTree) → IsMeasured n (t.Both e p q) → IsExtent n (And (tree_form p) (tree_form q)) e × IsMeasured n p × IsMeasured n q
  parts-Both e p q h = measured-Both e p q (subst (IsMeasured n) (Both-is e p q) h)

  measured-Either : (e : Extent) (p q : FormTree) → IsMeasured n (either e p q) → IsExtent n (Or (tree_form p) (tree_form q)) e × IsMeasured n p × IsMeasured n q
  unfolding IsMeasured
  measured-Either e p q h = h

  pub parts-Either : (e : Extent) (p q : FormTree) → IsMeasured n (t.Either e p q) → IsExtent n (Or (tree_form p) (tree_form q)) e × IsMeasured n p × IsMeasured n q
  parts-Either e p q h = measured-Either e p q (subst (IsMeasured n) (Either-is e p q) h)

  measured-Forall : (e : Extent) (v : VarId) (s : Sort) (p : FormTree) → IsMeasured n (universal e v s p) → IsExtent n (ForAll v s (tree_form p)) e × IsMeasured n p
  unfolding IsMeasured
  measured-Forall e v s p h = h

  pub parts-Forall : (e : Extent) (v : VarId) (s : Sort) (p : FormTree) → IsMeasured n (t.Forall e v s p) → IsExtent n (ForAll v s (tree_form p)) e × IsMeasured n p
  parts-Forall e v s p h = measured-Forall e v s p (subst (IsMeasured n) (Forall-is e v s p) h)

  measured-Exists : (e : Extent) (v : VarId) (s : Sort) (p : FormTree) → IsMeasured n (existential e v s p) → IsExtent n (ForSome v s (tree_form p)) e × IsMeasured n p
  unfolding IsMeasured
  measured-Exists e v s p h = h

  pub parts-Exists : (e : Extent) (v : VarId) (s : Sort) (p : FormTree) → IsMeasured n (t.Exists e v s p) → IsExtent n (ForSome v s (tree_form p)) e × IsMeasured n p
  parts-Exists e v s p h = measured-Exists e v s p (subst (IsMeasured n) (Exists-is e v s p) h)

  -- .. and made of them

  pub from-Truth : (b : Bool) → IsMeasured n (t.Truth b)
  unfolding IsMeasured
  from-Truth b = tt

  pub from-Tuple : (sign : Bool) (r : Pred) (ts : List Term) → IsMeasured n (t.Tuple sign r ts)
  unfolding IsMeasured
  from-Tuple sign r ts = tt

  pub from-Equation : (sign : Bool) (x y : Term) → IsMeasured n (t.Equation sign x y)
  unfolding IsMeasured
  from-Equation sign x y = tt

  both-measured : (e : Extent) (p q : FormTree) → IsExtent n (And (tree_form p) (tree_form q)) e → IsMeasured n p → IsMeasured n q → IsMeasured n (both e p q)
  unfolding IsMeasured
  both-measured e p q h i j = (h, i, j)

  pub from-Both : (e : Extent) (p q : FormTree) → IsExtent n (And (tree_form p) (tree_form q)) e → IsMeasured n p → IsMeasured n q → IsMeasured n (t.Both e p q)
  from-Both e p q h i j = subst (IsMeasured n) (sym (Both-is e p q)) (both-measured e p q h i j)

  either-measured : (e : Extent) (p q : FormTree) → IsExtent n (Or (tree_form p) (tree_form q)) e → IsMeasured n p → IsMeasured n q → IsMeasured n (either e p q)
  unfolding IsMeasured
  either-measured e p q h i j = (h, i, j)

  pub from-Either : (e : Extent) (p q : FormTree) → IsExtent n (Or (tree_form p) (tree_form q)) e → IsMeasured n p → IsMeasured n q → IsMeasured n (t.Either e p q)
  from-Either e p q h i j = subst (IsMeasured n) (sym (Either-is e p q)) (either-measured e p q h i j)

  universal-measured : (e : Extent) (v : VarId) (s : Sort) (p : FormTree) → IsExtent n (ForAll v s (tree_form p)) e → IsMeasured n p → IsMeasured n (universal e v s p)
  unfolding IsMeasured
  universal-measured e v s p h i = (h, i)

  pub from-Forall : (e : Extent) (v : VarId) (s : Sort) (p : FormTree) → IsExtent n (ForAll v s (tree_form p)) e → IsMeasured n p → IsMeasured n (t.Forall e v s p)
  from-Forall e v s p h i = subst (IsMeasured n) (sym (Forall-is e v s p)) (universal-measured e v s p h i)

  existential-measured : (e : Extent) (v : VarId) (s : Sort) (p : FormTree) → IsExtent n (ForSome v s (tree_form p)) e → IsMeasured n p → IsMeasured n (existential e v s p)
  unfolding IsMeasured
  existential-measured e v s p h i = (h, i)

  pub from-Exists : (e : Extent) (v : VarId) (s : Sort) (p : FormTree) → IsExtent n (ForSome v s (tree_form p)) e → IsMeasured n p → IsMeasured n (t.Exists e v s p)
  from-Exists e v s p h i = subst (IsMeasured n) (sym (Exists-is e v s p)) (existential-measured e v s p h i)

pub ruleset leaf_steps = (from-Truth, from-Tuple, from-Equation)

-- The extents of leaves.

pub no_need : (s : Sort) → count_of no_extent.need s ≡ 0
unfolding count_of
no_need Sw = refl
no_need Ho = refl
no_need Pr = refl

module _ (n : Sort → ℕ) where
  pub extent-Truth : (b : Bool) → IsExtent n (Fixed b) no_extent
  extent-Truth b = record { nodes = refl; need = no_need; plain = λ e. record { rectified = tt; universal = refl } }

  pub extent-Tuple : (sign : Bool) (r : Pred) (ts : List Term) → IsExtent n (Atom sign r ts) no_extent
  extent-Tuple sign r ts = record { nodes = refl; need = no_need; plain = λ e. record { rectified = tt; universal = refl } }

  pub extent-Equation : (sign : Bool) (x y : Term) → IsExtent n (Same sign x y) no_extent
  extent-Equation sign x y = record { nodes = refl; need = no_need; plain = λ e. record { rectified = tt; universal = refl } }

  -- the extent of a tree that is read
  pub extent_there : (seen tree : FormTree) (e : Extent) → seen ≡ tree → (IsMeasured n seen → IsExtent n (tree_form seen) e) → IsMeasured n tree → IsExtent n (tree_form tree) e
  extent_there seen tree e is = subst (λ x. IsMeasured n x → IsExtent n (tree_form x) e) is

  -- an extent, at what a tree is
  pub extent_at : (tree seen : FormTree) (f : Form) (e d : Extent) → tree ≡ seen → tree_form seen ≡ f → e ≡ d → IsExtent n f d → IsExtent n (tree_form tree) e
  extent_at tree seen f e d is form same h = subst (IsExtent n (tree_form tree)) (sym same) (subst (λ g. IsExtent n g d) (sym (ap tree_form is ∙ form)) h)
