use Rattle.std.proofs.Common.{◌+◌, ◌∙◌, ap, arith, refl}
use Rattle.ground_inst.specs.Walk.{scope}
use Rattle.copy_truth.proofs.SearchLaws.{goes_begin, goes_end, goes_next, goes_settled}
use Rattle.copy_truth.proofs.searching.keep_all.Goals as goal

pub goals-init : goal.goals-init
goals-init c = (goes_begin c.args.r.now c.args.goals.now.items c.args.from (scope c.args.env.now.items) c.first-sight.result c.first-sight.ensures, refl)

pub returns-then-sight-clause-sight : goal.returns-then-sight-clause-sight
returns-then-sight-clause-sight c =
    let env = scope c.args.env.now.items in
    goes_settled c.args.r.now c.args.goals.now.items c.args.from env (c.goals.place + 1) c.in_ok-sight.sight c.keep_at.new.goals.items
    (goes_next c.args.r.now c.args.goals.now.items c.args.from env c.goals.place (c.goals.place + 1) (scope c.goals.env.items) c.goals.sight c.in_ok-sight.sight c.goals.goals.items c.keep_at.new.goals.items c.goals.invariant.0
    (omega (arith, c.goals-test.true, c.len-end.ensures, c.args.goals.now.ok.0)) (omega arith) (ap scope c.goals.invariant.1) c.in_ok-sight.ensures.sight)
    c.if-sight.true

pub goals-preserved : goal.goals-preserved
goals-preserved c = (
  goes_next c.args.r.now c.args.goals.now.items c.args.from (scope c.args.env.now.items) c.goals.place (c.goals.place + 1) (scope c.goals.env.items) c.goals.sight c.in_ok-sight.sight c.goals.goals.items c.keep_at.new.goals.items c.goals.invariant.0
      (omega (arith, c.goals-test.true, c.len-end.ensures, c.args.goals.now.ok.0)) (omega arith) (ap scope c.goals.invariant.1) c.in_ok-sight.ensures.sight,
  c.in_ok-sight.ensures.env ∙ c.goals.invariant.1,
)

pub returns-clause-sight : goal.returns-clause-sight
returns-clause-sight c =
    goes_end c.args.r.now c.args.goals.now.items c.args.from (scope c.args.env.now.items) c.goals.place c.goals.sight c.goals.goals.items c.goals.invariant.0 (omega (arith, c.goals-test.false, c.len-end.ensures, c.args.goals.now.ok.0))
