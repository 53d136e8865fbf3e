use Rattle.std.proofs.Common.{ℕ, ◌++◌, List, map, arith}
use Rattle.csdn_core.specs.declared.syntax.Formula.{Formula}
use Rattle.csdn_conditions.specs.Conditions.{formulas, after_events, all_after}
use Rattle.csdn_conditions.specs.Answers.{nodes_of_all}
use Rattle.csdn_conditions.proofs.Rooms.{members_next, room_next, all_refused, refused_room}
use Rattle.csdn_conditions.proofs.after.push_all.Goals as goal

pub returns-in_err-left-clause-left : goal.returns-in_err-left-clause-left
returns-in_err-left-clause-left c =
    let after : ℕ → List Formula = λ k. map (after_events c.args.program.now k) (formulas c.args.invariants.now) in
    let all : List Formula = all_after c.args.program.now c.args.level (formulas c.args.invariants.now) in
    refused_room c.args.room all _ c.from_residual.result
    (all_refused after c.levels.count c.args.level c.args.room c.levels.left all _ c.levels-test.true c.levels.invariant.1 c.in_err-left.ensures.left) c.from_residual.ensures.1

pub levels-preserved : goal.levels-preserved
levels-preserved c =
    let after : ℕ → List Formula = λ k. map (after_events c.args.program.now k) (formulas c.args.invariants.now) in
    let all : List Formula = all_after c.args.program.now c.args.level (formulas c.args.invariants.now) in (
      members_next after c.levels.count c.args.level c.levels.members c.push_each.new.members (c.args.members.now ++ all) c.levels-test.true c.in_ok-left.ensures.added c.levels.invariant.0,
      room_next after c.levels.count c.args.level c.args.room c.levels.left c.in_ok-left.left (nodes_of_all all) c.levels-test.true c.in_ok-left.ensures.left c.levels.invariant.1,
      omega (arith, c.in_ok-left.ensures.left, c.levels.invariant.2),
      omega (arith, c.levels-test.true),
    )
