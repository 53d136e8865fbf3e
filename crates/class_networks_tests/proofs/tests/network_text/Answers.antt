use Rattle.std.proofs.Common.{sym, subst}
use Rattle.clause_log.specs.Literals.{IsModel, truths}
use Rattle.clause_search.specs.Outcomes.{Answers}
use Rattle.decision_laws.specs.Laws.{IsJudgement, IsSentence, judged}
use Rattle.decision_laws.proofs.Bridge.{model_judged}
use Rattle.ground_inst.specs.Facts.{AreFactsOf}
use Rattle.class_networks_tests.proofs.tests.network_text.Goals as goal

pub network_of-requires-clause-sentence : goal.network_of-requires-clause-sentence
network_of-requires-clause-sentence c = subst (IsSentence c.args.program.now) (sym c.in_ok-made.ensures.exact.sentence) c.requires

pub network_of-requires-clause-facts : goal.network_of-requires-clause-facts
network_of-requires-clause-facts c = subst (λ F. AreFactsOf c.args.program.now F c.in_ok-made.made.facts) (sym c.in_ok-made.ensures.exact.sentence) c.in_ok-made.ensures.exact.facts

pub network_of-requires-clause-judgement : goal.network_of-requires-clause-judgement
network_of-requires-clause-judgement c =
    subst (λ F. IsJudgement c.args.program.now F (judged c.args.program.now F (truths c.in-Model.valuation))) (sym c.in_ok-made.ensures.exact.sentence)
    (model_judged c.args.program.now c.args.sentence.now c.requires (truths c.in-Model.valuation)
    (subst (IsModel (truths c.in-Model.valuation)) c.in_ok-made.ensures.exact.clauses (subst (Answers c.in_ok-made.made.clauses) c.in-Model.is c.in_ok-valuation.ensures)))
