use Rattle.std.proofs.Common.{refl, subst}
use Rattle.form_trees.specs.Trees.{IsMeasured, tree_form}
use Rattle.form_trees.proofs.TreeSteps.{extent_at, extent-Truth, extent-Tuple, extent-Equation, form-Truth, form-Tuple, form-Equation, form-Both, form-Either, form-Forall, form-Exists, parts-Both, parts-Either, parts-Forall, parts-Exists}
use Rattle.fol_forms.specs.Forms.{Fixed, Atom, Same, And, Or, ForAll, ForSome}
use Rattle.form_trees.specs.Trees.{no_extent}
use Rattle.form_trees.specs.declared.trees.FormTree.TheVariants as t
use Rattle.form_trees.proofs.trees.extent_of.Goals as goal

-- src/trees.rt:68:1
pub returns-in-Truth : goal.returns-in-Truth
returns-in-Truth c =
    let b = c.in-Truth.field-0 in
    λ n h. extent_at n c.args.tree.now (t.Truth b) (Fixed b) c.nothing.result no_extent c.in-Truth.is (form-Truth b) c.nothing.ensures (extent-Truth n b)

-- src/trees.rt:68:1
pub returns-in-Tuple : goal.returns-in-Tuple
returns-in-Tuple c =
    let s = c.in-Tuple.field-0 in
    let r = c.in-Tuple.field-1 in
    let ts = c.in-Tuple.field-2 in
    λ n h. extent_at n c.args.tree.now (t.Tuple s r ts) (Atom s r ts) c.nothing-in-Tuple.result no_extent c.in-Tuple.is (form-Tuple s r ts) c.nothing-in-Tuple.ensures (extent-Tuple n s r ts)

-- src/trees.rt:68:1
pub returns-in-Equation : goal.returns-in-Equation
returns-in-Equation c =
    let s = c.in-Equation.field-0 in
    let x = c.in-Equation.field-1 in
    let y = c.in-Equation.field-2 in
    λ n h. extent_at n c.args.tree.now (t.Equation s x y) (Same s x y) c.nothing-in-Equation.result no_extent c.in-Equation.is (form-Equation s x y) c.nothing-in-Equation.ensures (extent-Equation n s x y)

-- src/trees.rt:68:1
pub returns-in-Both : goal.returns-in-Both
returns-in-Both c =
    let e = c.in-Both.extent in
    let p = c.in-Both.field-1 in
    let q = c.in-Both.field-2 in
    λ n h. extent_at n c.args.tree.now (t.Both e p q) (And (tree_form p) (tree_form q)) e e c.in-Both.is (form-Both e p q) refl (parts-Both n e p q (subst (IsMeasured n) c.in-Both.is h)).0

-- src/trees.rt:68:1
pub returns-in-Either : goal.returns-in-Either
returns-in-Either c =
    let e = c.in-Either.extent in
    let p = c.in-Either.field-1 in
    let q = c.in-Either.field-2 in
    λ n h. extent_at n c.args.tree.now (t.Either e p q) (Or (tree_form p) (tree_form q)) e e c.in-Either.is (form-Either e p q) refl (parts-Either n e p q (subst (IsMeasured n) c.in-Either.is h)).0

-- src/trees.rt:68:1
pub returns-in-Forall : goal.returns-in-Forall
returns-in-Forall c =
    let e = c.in-Forall.extent in
    let v = c.in-Forall.field-1 in
    let s = c.in-Forall.field-2 in
    let p = c.in-Forall.field-3 in
    λ n h. extent_at n c.args.tree.now (t.Forall e v s p) (ForAll v s (tree_form p)) e e c.in-Forall.is (form-Forall e v s p) refl (parts-Forall n e v s p (subst (IsMeasured n) c.in-Forall.is h)).0

-- src/trees.rt:68:1
pub returns-in-Exists : goal.returns-in-Exists
returns-in-Exists c =
    let e = c.in-Exists.extent in
    let v = c.in-Exists.field-1 in
    let s = c.in-Exists.field-2 in
    let p = c.in-Exists.field-3 in
    λ n h. extent_at n c.args.tree.now (t.Exists e v s p) (ForSome v s (tree_form p)) e e c.in-Exists.is (form-Exists e v s p) refl (parts-Exists n e v s p (subst (IsMeasured n) c.in-Exists.is h)).0
