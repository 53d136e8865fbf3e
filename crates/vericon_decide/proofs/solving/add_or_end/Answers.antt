use Rattle.std.proofs.Common.{◌≡◌, arith, subst, sym}
use Rattle.clause_log.specs.Literals.{truths}
use Rattle.decision_laws.specs.Laws.{IsJudgement, judged}
use Rattle.vericon_decide.proofs.RoundLaws.{end_judged}
use Rattle.vericon_decide.proofs.solving.add_or_end.Goals as goal

pub network_of-requires-clause-judgement : goal.network_of-requires-clause-judgement
network_of-requires-clause-judgement c =
    let zero : c.in_ok-added.added ≡ 0 = omega (arith, c.if-added-gt0.false) in
    subst (λ F. IsJudgement c.args.program.now F (judged c.args.program.now F (truths c.in_ok-said.said))) (sym c.in_ok-added.ensures.ok.is_lazy.sentence)
    (end_judged c.args.program.now c.args.lazy.now.made.sentence c.requires.sentence (truths c.args.valuation.now) c.args.lazy.now c.add_broken.new.lazy c.in_ok-added.added c.in_ok-added.ensures.ok zero c.in_ok-said.said c.in_ok-said.ensures)
