use Rattle.std.proofs.Common.{ap, refl}
use Rattle.std.proofs.lemmas.Result.{IfOk-weaker}
use Rattle.form_trees.specs.Trees.{tree_form}
use Rattle.ground_inst.specs.Walk.{scope, state_of, ways_of}
use Rattle.ground_inst.proofs.Steps.{told}
use Rattle.lazy_ground.proofs.OpenSteps.{leaf_added, both_from, either_from, exists_added, passed_added}
use Rattle.lazy_ground.proofs.opening.+write.Goals as goal

pub write-returns-in-Tuple : goal.write-returns-in-Tuple
write-returns-in-Tuple t c =
    told c.tuple_literal.result _ _ c.tuple_literal.ensures
    (leaf_added (ways_of c.args.names.now) c.in-Tuple.sign c.in-Tuple.pred c.in-Tuple.terms.now (state_of c.args.work.now) (scope c.deref.result.now) (tree_form c.args.tree.now) c.in-Tuple.ensures.form (ap scope c.deref.ensures.value))

pub open_both-returns : goal.open_both-returns
open_both-returns t c =
    told c.literal.result _ _ c.literal.ensures
    (both_from (ways_of c.args.names.now) (tree_form c.args.p.now) (tree_form c.args.q.now) (state_of c.args.work.now) (state_of c.number.new.work) (state_of c.open_member.new.work) (state_of c.open_member-2.new.work) c.in_ok-x.x
    c.in_ok-x.ensures.taken c.in_ok-x.ensures.number c.in_ok-open_member.ensures c.in_ok-open_member-2.ensures)

pub open_either-returns : goal.open_either-returns
open_either-returns t c =
    told c.literal.result _ _ c.literal.ensures
    (either_from (ways_of c.args.names.now) (tree_form c.args.p.now) (tree_form c.args.q.now) (state_of c.args.work.now) (state_of c.number.new.work) (state_of c.write.new.work)
    (state_of (record { env = c.write.new.work.env; base = c.number.new.work.base; next = c.write.new.work.next; rows = c.write.new.work.rows }))
    (state_of c.write-2.new.work) (state_of (record { env = c.write-2.new.work.env; base = c.larger-work.result; next = c.write-2.new.work.next; rows = c.push_either.new.rows }))
    c.in_ok-x.x c.in_ok-a.a c.in_ok-b.b c.in_ok-x.ensures.taken c.in_ok-x.ensures.number c.in_ok-a.ensures refl refl refl refl c.in_ok-b.ensures refl c.larger-work.ensures refl c.in_ok-push_either.ensures)

pub open_free-returns : goal.open_free-returns
open_free-returns t c =
    IfOk-weaker c.open_at.result _ _ (λ l h. exists_added (ways_of c.args.names.now) (tree_form c.args.tree.now) c.args.var c.args.sort c.of-place.result (state_of c.args.work.now)
    (state_of (record { env = c.args.work.now.env; base = c.in_ok-work.field-0; next = c.args.work.now.next; rows = c.args.work.now.rows })) (state_of c.open_at.new.work) l c.of-place.ensures refl c.in_ok-work.ensures refl refl h) c.open_at.ensures

pub open_all-returns : goal.open_all-returns
open_all-returns t c =
    passed_added (ways_of c.args.names.now) (tree_form c.args.tree.now) c.args.var c.args.sort (state_of c.args.work.now)
    (state_of (record { env = c.args.work.now.env; base = c.args.work.now.base; next = c.in_ok-work.field-0; rows = c.args.work.now.rows })) c.in_ok-top.top c.of-count.result c.nodes_of-nodes.result
    c.of-count.ensures c.if-count-eq1.false c.if-count-eq0.false c.nodes_of-nodes.ensures c.in_ok-top.ensures refl c.in_ok-work.ensures refl refl
