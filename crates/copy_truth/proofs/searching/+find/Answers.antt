use Rattle.std.proofs.Common.{◌∙◌, ap, arith, drop, set, true}
use Rattle.std.proofs.lemmas.Result.{IfOk-weaker}
use Rattle.ground_inst.specs.Walk.{scope, ways_of}
use Rattle.copy_truth.specs.Goals.{IsFound, any_true}
use Rattle.copy_truth.proofs.SearchLaws.{found_empty, found_kept, split_left, split_right, tried_all, tried_here, tried_next, tried_yes}
use Rattle.copy_truth.proofs.searching.+find.Goals as goal

pub look-returns-then-len-start-clause-found : goal.look-returns-then-len-start-clause-found
look-returns-then-len-start-clause-found t c =
    λ test seen. found_kept (ways_of c.args.r.now.names).count test (scope c.args.env.now.items) (any_true c.args.r.now (drop c.args.start c.args.goals.now.items)) c.args.sight true seen c.if-sight.false
    (found_empty c.args.r.now (scope c.args.env.now.items) c.args.goals.now.items c.args.start (omega (arith, c.if-len-start.true, c.len.ensures, c.args.goals.now.ok.0)))

pub split-returns-then-branch-clause-found : goal.split-returns-then-branch-clause-found
split-returns-then-branch-clause-found t c =
    split_left c.args.r.now c.index.result.now c.in-Both.p c.in-Both.q c.args.goals.now.items c.args.start c.in_ok-place.place (scope c.args.env.now.items) c.in_ok-place.ensures.0
    (omega (arith, c.in_ok-place.ensures.1, c.len.ensures, c.args.goals.now.ok.0)) c.index.ensures c.in-Both.ensures.form c.in_ok-find_with-in-Both.field-0 c.in_ok-find_with-in-Both.ensures.found c.if-branch.true

pub split-returns-else-branch-clause-found : goal.split-returns-else-branch-clause-found
split-returns-else-branch-clause-found t c =
    let r = c.args.r.now in
    let start = c.args.start in
    let place = c.in_ok-place.place in
    let goals = c.args.goals.now.items in
    let env = scope c.args.env.now.items in
    let n = (ways_of c.args.r.now.names).count in
    IfOk-weaker c.find_with-in-Both.result (IsFound n (any_true r (drop start (set c.find_with.new.goals.items place c.in-Both.q))) (scope c.find_with.new.env.items)) (IsFound n (any_true r (drop start goals)) env)
    (λ b found. split_right r c.index.result.now c.in-Both.p c.in-Both.q goals start place env c.in_ok-place.ensures.0 (omega (arith, c.in_ok-place.ensures.1, c.len.ensures, c.args.goals.now.ok.0)) c.index.ensures c.in-Both.ensures.form
    c.in_ok-find_with-in-Both.field-0 b c.find_with.new.goals.items (scope c.find_with.new.env.items) c.in_ok-find_with-in-Both.ensures.found c.if-branch.false c.in_ok-find_with-in-Both.ensures.goals (ap scope c.in_ok-find_with-in-Both.ensures.env) found)
    c.find_with-in-Both.ensures.found

pub try_each-returns-then-branch-clause-found : goal.try_each-returns-then-branch-clause-found
try_each-returns-then-branch-clause-found t c =
    let env = scope c.args.env.now.items in
    let r = c.args.r.now in
    λ choice. tried_yes (ways_of r.names).count (any_true r (drop c.args.start c.args.goals.now.items)) env c.args.choice.x c.args.choice.candidates c.places.place c.in_ok-try_at.field-0
    (tried_here r c.args.goals.now.items c.places.goals.items c.args.start env (scope c.places.env.items) c.args.choice.x c.args.choice.candidates c.places.place c.in_ok-try_at.field-0 c.places.invariant.1 (ap scope c.places.invariant.2) c.in_ok-try_at.ensures.found)
    c.if-branch.true (omega (arith, c.places-test.true, c.of-count.ensures)) choice

pub try_each-places-preserved : goal.try_each-places-preserved
try_each-places-preserved t c =
    let env = scope c.args.env.now.items in
    let r = c.args.r.now in (
      tried_next (ways_of r.names).count (any_true r (drop c.args.start c.args.goals.now.items)) env c.args.choice.x c.args.choice.candidates c.places.place c.in_ok-try_at.field-0 c.places.invariant.0
          (tried_here r c.args.goals.now.items c.places.goals.items c.args.start env (scope c.places.env.items) c.args.choice.x c.args.choice.candidates c.places.place c.in_ok-try_at.field-0 c.places.invariant.1 (ap scope c.places.invariant.2) c.in_ok-try_at.ensures.found)
          c.if-branch.false,
      c.in_ok-try_at.ensures.goals ∙ c.places.invariant.1,
      c.in_ok-try_at.ensures.env ∙ c.places.invariant.2,
    )

pub try_each-returns-clause-found : goal.try_each-returns-clause-found
try_each-returns-clause-found t c =
    λ choice. tried_all (ways_of c.args.r.now.names).count (any_true c.args.r.now (drop c.args.start c.args.goals.now.items)) (scope c.args.env.now.items) c.args.choice.x c.args.choice.candidates c.places.place
    (omega (arith, c.places-test.false, c.places.auto.place-end, c.of-count.ensures)) c.places.invariant.0 choice
