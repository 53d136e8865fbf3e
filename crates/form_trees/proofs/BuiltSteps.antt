-- Trees that are built of others.
use Rattle.std.proofs.Common.{ℕ, subst}
use Rattle.csdn_core.specs.declared.terms.VarId.{VarId}
use Rattle.csdn_core.specs.declared.terms.Sort.{Sort}
use Rattle.fol_forms.specs.Forms.{And, Or, ForAll, ForSome}
use Rattle.form_trees.specs.declared.trees.Extent.{Extent}
use Rattle.form_trees.specs.declared.trees.FormTree.{FormTree}
use Rattle.form_trees.specs.declared.trees.FormTree.TheVariants as t
use Rattle.form_trees.specs.Plain.{IsRectified}
use Rattle.form_trees.specs.Trees.{IsExtent, IsMeasured, tree_form}
use Rattle.form_trees.proofs.TreeSteps.{form-Both, form-Either, form-Forall, form-Exists, from-Both, from-Either, from-Forall, from-Exists}

module _ (n : Sort → ℕ) where
  -- measured, where each quantifier has a variable of its own
  abbrev IsMeasuredIf : FormTree → Type 0
  IsMeasuredIf tree = IsRectified (tree_form tree) → IsMeasured n tree

  pub both_built : (e : Extent) (p q : FormTree) → IsMeasuredIf p → IsMeasuredIf q → (IsRectified (And (tree_form p) (tree_form q)) → IsMeasured n p → IsMeasured n q → IsExtent n (And (tree_form p) (tree_form q)) e) → IsMeasuredIf (t.Both e p q)
  both_built e p q i j extent h =
      let rectified = subst IsRectified (form-Both e p q) h in
      let first = i rectified.0 in
      let second = j rectified.1 in
      from-Both n e p q (extent rectified first second) first second

  pub either_built : (e : Extent) (p q : FormTree) → IsMeasuredIf p → IsMeasuredIf q → (IsRectified (Or (tree_form p) (tree_form q)) → IsMeasured n p → IsMeasured n q → IsExtent n (Or (tree_form p) (tree_form q)) e) → IsMeasuredIf (t.Either e p q)
  either_built e p q i j extent h =
      let rectified = subst IsRectified (form-Either e p q) h in
      let first = i rectified.0 in
      let second = j rectified.1 in
      from-Either n e p q (extent rectified first second) first second

  pub forall_built : (e : Extent) (v : VarId) (s : Sort) (p : FormTree) → IsMeasuredIf p → (IsRectified (ForAll v s (tree_form p)) → IsMeasured n p → IsExtent n (ForAll v s (tree_form p)) e) → IsMeasuredIf (t.Forall e v s p)
  forall_built e v s p i extent h =
      let rectified = subst IsRectified (form-Forall e v s p) h in
      let body = i rectified.0 in
      from-Forall n e v s p (extent rectified body) body

  pub exists_built : (e : Extent) (v : VarId) (s : Sort) (p : FormTree) → IsMeasuredIf p → (IsMeasured n p → IsExtent n (ForSome v s (tree_form p)) e) → IsMeasuredIf (t.Exists e v s p)
  exists_built e v s p i extent h =
      let rectified = subst IsRectified (form-Exists e v s p) h in
      let body = i rectified.0 in
      from-Exists n e v s p (extent body) body
