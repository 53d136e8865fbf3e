use Rattle.clause_log.specs.Literals.{truths}
use Rattle.lazy_ground.proofs.JoinLaws.{all_joined, joined_from}
use Rattle.lazy_ground.proofs.joining.joined_by.Goals as goal

pub returns : goal.returns
returns c = joined_from c.args.facts.now (truths c.args.trues.now) _ (all_joined c.args.facts.now (truths c.args.trues.now) _ c.in_ok-sw.ensures c.in_ok-ho.ensures c.in_ok-pr.ensures)
