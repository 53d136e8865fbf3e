-- What the code writes has the shapes of trees.
use Rattle.std.proofs.Common.{◌≡◌, refl}
use Rattle.csdn_core.specs.declared.terms.VarId.{VarId}
use Rattle.csdn_core.specs.declared.terms.Sort.{Sort}
use Rattle.form_trees.specs.declared.trees.Extent.{Extent}
use Rattle.form_trees.specs.declared.trees.FormTree.{FormTree}
use Rattle.form_trees.specs.declared.trees.FormTree.TheVariants as t
use Rattle.form_trees.specs.Shapes.{both, either, universal, existential}

pub Both-is : (e : Extent) (p q : FormTree) → t.Both e p q ≡ both e p q
unfolding Rattle.form_trees.specs.declared.trees.FormTree.TheBlock.hidden-the_row-FormTree-0 denote.Hole.Carrier.hidden
Both-is e p q = refl

pub Either-is : (e : Extent) (p q : FormTree) → t.Either e p q ≡ either e p q
unfolding Rattle.form_trees.specs.declared.trees.FormTree.TheBlock.hidden-the_row-FormTree-0 denote.Hole.Carrier.hidden
Either-is e p q = refl

pub Forall-is : (e : Extent) (v : VarId) (s : Sort) (p : FormTree) → t.Forall e v s p ≡ universal e v s p
unfolding Rattle.form_trees.specs.declared.trees.FormTree.TheBlock.hidden-the_row-FormTree-0 denote.Hole.Carrier.hidden
Forall-is e v s p = refl

pub Exists-is : (e : Extent) (v : VarId) (s : Sort) (p : FormTree) → t.Exists e v s p ≡ existential e v s p
unfolding Rattle.form_trees.specs.declared.trees.FormTree.TheBlock.hidden-the_row-FormTree-0 denote.Hole.Carrier.hidden
Exists-is e v s p = refl
