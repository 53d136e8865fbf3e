use Rattle.std.proofs.Common.{◌≡◌, ◌+◌, ◌*◌, max, true}
use Rattle.std.specs.List.{list_all}
use Rattle.fol_forms.specs.Counts.{count_of}
use Rattle.form_trees.specs.Trees.{tree_form, tree_size}
use Rattle.decision_laws.specs.Vocabulary.{places_from}
use Rattle.ground_inst.specs.Walk.{scope}
use Rattle.copy_truth.specs.Judged.{judged_bound}
use Rattle.copy_truth.proofs.judging.+judge.Given as goal

abbrev pub decreases-judge : goal.decreases-judge
decreases-judge l = 5 * tree_size l.tree.now + 1

abbrev pub decreases-judge_parts : goal.decreases-judge_parts
decreases-judge_parts l = 5 * tree_size l.tree.now

abbrev pub decreases-judge_both : goal.decreases-judge_both
decreases-judge_both l = 5 * max (tree_size l.p.now) (tree_size l.q.now) + 2

abbrev pub decreases-judge_either : goal.decreases-judge_either
decreases-judge_either l = 5 * max (tree_size l.p.now) (tree_size l.q.now) + 2

abbrev pub decreases-judge_at : goal.decreases-judge_at
decreases-judge_at l = 5 * tree_size l.body.now + 2

abbrev pub decreases-judge_all : goal.decreases-judge_all
decreases-judge_all l = 5 * tree_size l.body.now + 3

abbrev pub decreases-judge_free : goal.decreases-judge_free
decreases-judge_free l = 5 * tree_size l.body.now + 3

abbrev pub invariant-judge_all-places : goal.invariant-judge_all-places
invariant-judge_all-places l =
    (l.env.items ≡ l.fn.env.items)
    × (list_all (λ a. judged_bound l.r (tree_form l.body) (record { var = l.x.var; sort = l.x.sort; place = a }) (scope l.fn.env.items) (count_of l.base)) (places_from 0 l.place) ≡ true)
