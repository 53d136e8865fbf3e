-- Names for the shapes of trees.
use Rattle.csdn_core.specs.declared.terms.VarId.{VarId}
use Rattle.csdn_core.specs.declared.terms.Sort.{Sort}
use Rattle.form_trees.specs.declared.trees.Extent.{Extent}
use Rattle.form_trees.specs.declared.trees.FormTree.{FormTree, end_of-FormTree, more_of-FormTree}
use Rattle.form_trees.specs.declared.trees.FormTree.TheVariants as t

pattern abbrev pub both : Extent → FormTree → FormTree → FormTree
both e p q = t.Both' e tt (more_of-FormTree p end_of-FormTree) tt (more_of-FormTree q end_of-FormTree)

pattern abbrev pub either : Extent → FormTree → FormTree → FormTree
either e p q = t.Either' e tt (more_of-FormTree p end_of-FormTree) tt (more_of-FormTree q end_of-FormTree)

pattern abbrev pub universal : Extent → VarId → Sort → FormTree → FormTree
universal e v s p = t.Forall' e v s tt (more_of-FormTree p end_of-FormTree)

pattern abbrev pub existential : Extent → VarId → Sort → FormTree → FormTree
existential e v s p = t.Exists' e v s tt (more_of-FormTree p end_of-FormTree)
