use Rattle.std.proofs.Common.{◌+◌, ◌*◌, max}
use Rattle.form_trees.specs.Trees.{tree_size}
use Rattle.lazy_ground.proofs.opening.+write.Given as goal

abbrev pub decreases-write : goal.decreases-write
decreases-write l = 4 * tree_size l.tree.now

abbrev pub decreases-open_member : goal.decreases-open_member
decreases-open_member l = 4 * tree_size l.tree.now + 1

abbrev pub decreases-open_at : goal.decreases-open_at
decreases-open_at l = 4 * tree_size l.tree.now + 1

abbrev pub decreases-open_all : goal.decreases-open_all
decreases-open_all l = 4 * tree_size l.tree.now + 2

abbrev pub decreases-open_free : goal.decreases-open_free
decreases-open_free l = 4 * tree_size l.tree.now + 2

abbrev pub decreases-open_both : goal.decreases-open_both
decreases-open_both l = 4 * max (tree_size l.p.now) (tree_size l.q.now) + 2

abbrev pub decreases-open_either : goal.decreases-open_either
decreases-open_either l = 4 * max (tree_size l.p.now) (tree_size l.q.now) + 1
