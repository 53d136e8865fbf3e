use Rattle.std.proofs.Common.{◌+◌, ◌*◌, max}
use Rattle.form_trees.specs.Trees.{tree_size}
use Rattle.copy_truth.proofs.searching.+keep.Given as goal

abbrev pub decreases-keep : goal.decreases-keep
decreases-keep l = 2 * tree_size l.tree.now

abbrev pub decreases-keep_either : goal.decreases-keep_either
decreases-keep_either l = 2 * max (tree_size l.p.now) (tree_size l.q.now) + 1
