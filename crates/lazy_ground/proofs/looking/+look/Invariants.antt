use Rattle.std.proofs.Common.{◌+◌, ◌*◌, max}
use Rattle.form_trees.specs.Trees.{tree_form, tree_size}
use Rattle.ground_inst.specs.Walk.{state_of}
use Rattle.lazy_ground.proofs.LookSteps.{LooksRow}
use Rattle.lazy_ground.proofs.looking.+look.Given as goal

abbrev pub decreases-look : goal.decreases-look
decreases-look l = 8 * tree_size l.tree.now + 3

abbrev pub decreases-look_node : goal.decreases-look_node
decreases-look_node l = 8 * tree_size l.tree.now + 2

abbrev pub decreases-look_inside : goal.decreases-look_inside
decreases-look_inside l = 8 * tree_size l.tree.now + 1

abbrev pub decreases-look_into : goal.decreases-look_into
decreases-look_into l = 8 * tree_size l.tree.now

abbrev pub decreases-look_member : goal.decreases-look_member
decreases-look_member l = 8 * tree_size l.tree.now + 4

abbrev pub decreases-look_into_both : goal.decreases-look_into_both
decreases-look_into_both l = 8 * max (tree_size l.p.now) (tree_size l.q.now) + 5

abbrev pub decreases-look_into_either : goal.decreases-look_into_either
decreases-look_into_either l = 8 * max (tree_size l.p.now) (tree_size l.q.now) + 5

abbrev pub decreases-look_at : goal.decreases-look_at
decreases-look_at l = 8 * tree_size l.tree.now + 4

abbrev pub decreases-look_only : goal.decreases-look_only
decreases-look_only l = 8 * tree_size l.tree.now + 5

abbrev pub decreases-look_free : goal.decreases-look_free
decreases-look_free l = 8 * tree_size l.tree.now + 5

abbrev pub decreases-look_bound : goal.decreases-look_bound
decreases-look_bound l = 8 * tree_size l.tree.now + 5

abbrev pub decreases-look_place : goal.decreases-look_place
decreases-look_place l = 8 * tree_size l.tree.now + 6

abbrev pub decreases-look_into_all : goal.decreases-look_into_all
decreases-look_into_all l = 8 * tree_size l.tree.now + 7

abbrev pub invariant-look_into_all-places : goal.invariant-look_into_all-places
invariant-look_into_all-places l = LooksRow l.r (tree_form l.tree) l.fn.var l.fn.sort (state_of l.fn.work) l.value l.place (state_of l.work) l.asked
