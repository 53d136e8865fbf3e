use Rattle.clause_search.proofs.Turned.{decided_search}
use Rattle.clause_search.proofs.turn.decide.Goals as goal

pub returns-in_ok-push-in-Decide : goal.returns-in_ok-push-in-Decide
returns-in_ok-push-in-Decide c =
    decided_search c.args.clauses.now c.args.log.now c.args.trail.now c.push.new.self c.in-Decide.l c.requires.search c.in-Decide.ensures.0 c.in-Decide.ensures.1 c.in_ok-push-in-Decide.ensures.ok
