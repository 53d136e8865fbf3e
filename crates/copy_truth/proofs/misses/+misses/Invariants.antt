use Rattle.std.proofs.Common.{◌+◌, ◌*◌, max}
use Rattle.form_trees.specs.Trees.{tree_size}
use Rattle.copy_truth.proofs.misses.+misses.Given as goal

abbrev pub decreases-misses : goal.decreases-misses
decreases-misses l = 2 * tree_size l.tree.now

abbrev pub decreases-both_misses : goal.decreases-both_misses
decreases-both_misses l = 2 * max (tree_size l.p.now) (tree_size l.q.now) + 1

abbrev pub decreases-either_misses : goal.decreases-either_misses
decreases-either_misses l = 2 * max (tree_size l.p.now) (tree_size l.q.now) + 1
