use Rattle.form_trees.specs.Trees.{tree_size}
use Rattle.lazy_ground.proofs.values.+tree_value.Given as goal

abbrev pub decreases-tree_value : goal.decreases-tree_value
decreases-tree_value l = tree_size l.tree.now
