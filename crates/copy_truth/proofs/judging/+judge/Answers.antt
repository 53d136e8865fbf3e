use Rattle.std.proofs.Common.{◌≡◌, ◌<◌, ◌∙◌, arith}
use Rattle.fol_forms.specs.Counts.{count_of}
use Rattle.form_trees.specs.Trees.{tree_form}
use Rattle.ground_inst.specs.Walk.{scope}
use Rattle.copy_truth.proofs.JudgeSteps.{all_judged, member_judged, more_judged, one_judged}
use Rattle.copy_truth.proofs.judging.+judge.Goals as goal

pub judge_all-returns-then-not-value-clause-value : goal.judge_all-returns-then-not-value-clause-value
judge_all-returns-then-not-value-clause-value t c =
    let inside : c.places.place < count_of c.args.r.now.names.facts.now.counts c.args.x.sort = omega (arith, c.places-test.true, c.of-count.ensures) in
    one_judged c.args.r.now (tree_form c.args.body.now) c.args.x.var c.args.x.sort (scope c.args.env.now.items) (count_of c.args.base) c.places.place c.in_ok-value.value inside
    (member_judged c.args.r.now (tree_form c.args.body.now) (count_of c.args.base) c.at.result (record { var = c.args.x.var; sort = c.args.x.sort; place = c.places.place }) c.places.env.items c.args.env.now.items c.in_ok-value.value c.at.ensures c.places.invariant.0 c.in_ok-value.ensures.value) c.if-not-value.true

pub judge_all-places-preserved : goal.judge_all-places-preserved
judge_all-places-preserved t c = (
  c.in_ok-value.ensures.env ∙ c.places.invariant.0,
  more_judged c.args.r.now (tree_form c.args.body.now) c.args.x.var c.args.x.sort (scope c.args.env.now.items) (count_of c.args.base) c.places.place c.in_ok-value.value c.places.invariant.1
      (member_judged c.args.r.now (tree_form c.args.body.now) (count_of c.args.base) c.at.result (record { var = c.args.x.var; sort = c.args.x.sort; place = c.places.place }) c.places.env.items c.args.env.now.items c.in_ok-value.value c.at.ensures c.places.invariant.0 c.in_ok-value.ensures.value) c.if-not-value.false,
)

pub judge_all-returns-clause-value : goal.judge_all-returns-clause-value
judge_all-returns-clause-value t c =
    let last : c.places.place ≡ count_of c.args.r.now.names.facts.now.counts c.args.x.sort = omega (arith, c.places-test.false, c.places.auto.place-end, c.of-count.ensures) in
    all_judged c.args.r.now (tree_form c.args.body.now) c.args.x.var c.args.x.sort (scope c.args.env.now.items) (count_of c.args.base) c.places.place last c.places.invariant.1
