use Rattle.std.proofs.Common.{◌≡◌, ◌+◌, suc, subst, sym, arith}
use Rattle.csdn_conditions.specs.Answers.{OfCondition}
use Rattle.vericon_decide.specs.Verdicts.{IsBrokenBy}
use Rattle.vericon_decide.specs.Levels.{AreProvenByTo, IsFinding, IsWhy}
use Rattle.vericon_decide.proofs.LevelLaws.{one_more, stops_at}
use Rattle.vericon_decide.proofs.levels.prove.Goals as goal

pub returns-in-Broken : goal.returns-in-Broken
returns-in-Broken c =
    let found = subst (λ z. OfCondition c.args.program.now c.args.level c.loop-index.index (λ d. IsFinding c.args.program.now c.args.size d z)) c.in-Broken.is c.in_ok-proof.ensures in
    stops_at c.args.program.now c.args.size c.args.level c.args.first c.args.end c.loop-index.index c.loop-index.proofs.items (λ d. IsBrokenBy c.args.program.now c.args.size d c.in-Broken.case) c.loop-index.invariant.0 (omega arith) c.loop-index.invariant.2 found

pub returns-in-Undecided : goal.returns-in-Undecided
returns-in-Undecided c =
    let found = subst (λ z. OfCondition c.args.program.now c.args.level c.loop-index.index (λ d. IsFinding c.args.program.now c.args.size d z)) c.in-Undecided.is c.in_ok-proof.ensures in
    stops_at c.args.program.now c.args.size c.args.level c.args.first c.args.end c.loop-index.index c.loop-index.proofs.items (λ d. IsWhy c.args.program.now c.args.size d c.in-Undecided.why) c.loop-index.invariant.0 (omega arith) c.loop-index.invariant.2 found

pub loop-index-preserved : goal.loop-index-preserved
loop-index-preserved c =
    let found = subst (λ z. OfCondition c.args.program.now c.args.level c.loop-index.index (λ d. IsFinding c.args.program.now c.args.size d z)) c.in-Valid.is c.in_ok-proof.ensures in
    let next : suc c.loop-index.index ≡ c.loop-index.index + 1 = omega arith in (
      omega (arith, c.loop-index.invariant.0),
      omega arith,
      subst (λ k. AreProvenByTo c.args.program.now c.args.size c.args.level k c.push.new.self.items) next
          (subst (AreProvenByTo c.args.program.now c.args.size c.args.level (suc c.loop-index.index)) (sym c.in_ok-push-in-Valid.ensures.items)
          (one_more c.args.program.now c.args.size c.args.level c.loop-index.index c.loop-index.proofs.items c.in-Valid.proof c.loop-index.invariant.2 found)),
    )

pub returns : goal.returns
returns c =
    let whole : c.loop-index.index ≡ c.args.end = omega (arith, c.loop-index.invariant.1) in
    subst (λ k. AreProvenByTo c.args.program.now c.args.size c.args.level k c.loop-index.proofs.items) whole c.loop-index.invariant.2
