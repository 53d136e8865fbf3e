use Rattle.std.proofs.Common.{◌≡◌, ◌∙◌, ◌+◌, ◌*◌, ◌-◌, ◌≤◌, suc, length, take, ap, subst, sym, arith}
use Rattle.csdn_conditions.specs.Kinds.{kinds}
use Rattle.csdn_conditions.proofs.Shared.{starts_within}
use Rattle.vericon_decide.specs.Levels.{AreProvenByTo}
use Rattle.vericon_decide.proofs.LevelLaws.{left_proven, whole_proven}
use Rattle.vericon_decide.proofs.levels.prove_steps.Goals as goal

pub prove-requires-clause-first : goal.prove-requires-clause-first
prove-requires-clause-first c =
    let within = starts_within c.args.program.now c.args.level in
    omega (arith, within, c.shared_count-first.ensures, c.condition_count-end.ensures.count)

pub returns-then-is_proven : goal.returns-then-is_proven
returns-then-is_proven c =
    let P = c.args.program.now in
    let past : length (kinds P c.args.level) ≤ c.condition_count-end.result = omega (arith, c.condition_count-end.ensures.count) in
    whole_proven P c.args.size c.args.level c.shared_count-first.result c.condition_count-end.result c.prove.new.proofs.items c.in_ok-reached.reached past c.in_ok-reached.ensures
    (sym c.is_proven.ensures ∙ c.if-is_proven.true)

pub returns : goal.returns
returns c =
    let P = c.args.program.now in
    let m = (c.args.level + 1) * length P.safety in
    let kept : c.shared_count-first.result - 1 ≡ m = omega (arith, c.shared_count-first.ensures) in
    let left = left_proven P c.args.size c.args.level m c.shared_count-first.result c.condition_count-end.result c.prove.new.proofs.items c.in_ok-reached.reached c.shared_count-first.ensures c.in_ok-reached.ensures
    (sym c.is_proven.ensures ∙ c.if-is_proven.false) in (
      left.0,
      subst (AreProvenByTo P c.args.size c.args.level (suc m)) (sym (c.truncate.ensures.items ∙ ap (λ k. take k c.prove.new.proofs.items) kept)) left.1,
    )
