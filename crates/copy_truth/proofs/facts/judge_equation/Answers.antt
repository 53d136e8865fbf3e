use Rattle.std.proofs.Common.{ap, ◌∙◌}
use Rattle.clause_log.specs.Literals.{literal_true, truths}
use Rattle.ground_inst.specs.Walk.{equation_fact, scope, ways_of}
use Rattle.copy_truth.proofs.ReadLaws.{said_literal}
use Rattle.copy_truth.proofs.facts.judge_equation.Goals as goal

pub returns : goal.returns
returns c =
    c.is_true.ensures ∙ ap (literal_true (truths c.args.r.now.trues.now)) c.in_ok-l.ensures
    ∙ said_literal c.args.r.now c.args.sign (equation_fact (ways_of c.args.r.now.names) (scope c.args.env.now) c.args.t c.args.u)
