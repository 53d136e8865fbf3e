use Rattle.std.proofs.Common.{◌+◌, ◌*◌, max}
use Rattle.form_trees.specs.Trees.{tree_size}
use Rattle.copy_truth.proofs.binders.+open_binders.Given as goal

abbrev pub decreases-open_binders : goal.decreases-open_binders
decreases-open_binders l = 2 * tree_size l.tree.now

abbrev pub decreases-open_sides : goal.decreases-open_sides
decreases-open_sides l = 2 * max (tree_size l.p.now) (tree_size l.q.now) + 1

abbrev pub decreases-open_bound : goal.decreases-open_bound
decreases-open_bound l = 2 * tree_size l.body.now + 1
