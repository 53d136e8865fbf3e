use Rattle.clause_log.specs.Refutations.{with_steps}
use Rattle.clause_search.proofs.Turned.{all_clauses, extended_search, turns_from}
use Rattle.clause_search.proofs.turn.advance.Goals as goal

pub turn_back-requires-clause-search : goal.turn_back-requires-clause-search
turn_back-requires-clause-search c = extended_search c.args.clauses.now c.args.log.now c.args.trail.now c.propagate.new.trail c.requires.search c.in_ok-number.ensures.extends

pub decide-requires-clause-search : goal.decide-requires-clause-search
decide-requires-clause-search c = extended_search c.args.clauses.now c.args.log.now c.args.trail.now c.propagate.new.trail c.requires.search c.in_ok-number.ensures.extends

pub returns-in-Some : goal.returns-in-Some
returns-in-Some c = turns_from c.turn_back.result c.args.clauses.now (with_steps c.args.clauses.now.clauses c.args.log.now) c.args.trail.now c.propagate.new.trail _ _ c.in_ok-number.ensures.extends c.turn_back.ensures

pub returns-in-None : goal.returns-in-None
returns-in-None c = turns_from c.decide.result c.args.clauses.now (with_steps c.args.clauses.now.clauses c.args.log.now) c.args.trail.now c.propagate.new.trail _ _ c.in_ok-number.ensures.extends c.decide.ensures

pub propagate-requires : goal.propagate-requires
propagate-requires c = all_clauses c.args.clauses.now c.args.log.now c.args.trail.now c.requires.all c.requires.search
