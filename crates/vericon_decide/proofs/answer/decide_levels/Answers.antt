use Rattle.std.proofs.Common.{◌+◌, ◌≤◌, subst, arith}
use Rattle.vericon_decide.specs.Levels.{IsLevelEnd, IsLevelProven, shared}
use Rattle.vericon_decide.proofs.LevelLaws.{broken_on, undecided_on, kept_next, within_kinds}
use Rattle.vericon_decide.proofs.AnswerLaws.{yes_by, counter_by, undecided_by}
use Rattle.vericon_decide.proofs.answer.decide_levels.Goals as goal

pub loop-level-preserved : goal.loop-level-preserved
loop-level-preserved c =
    let P = c.args.program.now in
    let n = c.loop-level.level in
    let left = subst (λ b. IsLevelProven P c.args.size n b c.prove_steps.new.proofs.items) c.if-branch.false c.in_ok-prove_steps.ensures in
    kept_next P c.args.size n c.loop-level.proofs.items c.prove_steps.new.proofs.items c.loop-level.invariant left.0 left.1

pub returns-in-Broken : goal.returns-in-Broken
returns-in-Broken c =
    let P = c.args.program.now in
    let n = c.loop-level.level in
    let ps = c.prove_starts.new.proofs.items in
    let found = subst (IsLevelEnd P c.args.size n (shared P n) (shared P (n + 1)) ps) c.in-Broken.is c.in_ok-prove_starts.ensures in
    let on = broken_on P c.args.size c.args.most n (shared P n) c.in-Broken.index ps (omega arith) c.loop-level.invariant.fails c.in-Broken.case found in
    counter_by P c.args.size c.args.most c.in-Broken.index c.in-Broken.case c.requires.met on.0 on.1

pub decide_rest-requires-clause-index : goal.decide_rest-requires-clause-index
decide_rest-requires-clause-index c =
    let P = c.args.program.now in
    let n = c.loop-level.level in
    let ps = c.prove_starts.new.proofs.items in
    let found = subst (IsLevelEnd P c.args.size n (shared P n) (shared P (n + 1)) ps) c.in-Undecided.is c.in_ok-prove_starts.ensures in
    let on = undecided_on P c.args.size c.args.most n (shared P n) c.in-Undecided.index ps (omega arith) c.loop-level.invariant.fails c.in-Undecided.why found in
    within_kinds P c.args.most c.in-Undecided.index on.1.fact.condition on.1.fact.there

pub decide_rest-requires-clause-undecided : goal.decide_rest-requires-clause-undecided
decide_rest-requires-clause-undecided c =
    let P = c.args.program.now in
    let n = c.loop-level.level in
    let ps = c.prove_starts.new.proofs.items in
    let found = subst (IsLevelEnd P c.args.size n (shared P n) (shared P (n + 1)) ps) c.in-Undecided.is c.in_ok-prove_starts.ensures in
    let on = undecided_on P c.args.size c.args.most n (shared P n) c.in-Undecided.index ps (omega arith) c.loop-level.invariant.fails c.in-Undecided.why found in
    undecided_by P c.args.size c.args.most c.in-Undecided.index c.in-Undecided.why c.requires.met on.0 on.1

pub returns-then-branch : goal.returns-then-branch
returns-then-branch c =
    let P = c.args.program.now in
    let n = c.loop-level.level in
    let proven = subst (λ b. IsLevelProven P c.args.size n b c.prove_steps.new.proofs.items) c.if-branch.true c.in_ok-prove_steps.ensures in
    let within : n ≤ c.args.most = omega arith in
    yes_by P c.args.size c.args.most n c.prove_steps.new.proofs.items c.parts.ensures.well_sorted within c.requires.met c.loop-level.invariant.fails proven
