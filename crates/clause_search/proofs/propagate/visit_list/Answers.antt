use Rattle.clause_log.specs.Refutations.{with_steps}
use Rattle.clause_search.proofs.Entries.{extends_on}
use Rattle.clause_search.proofs.propagate.visit_list.Goals as goal

pub returns-then-is_some-clause-extends : goal.returns-then-is_some-clause-extends
returns-then-is_some-clause-extends c =
    extends_on c.args.clauses.now.atoms (with_steps c.args.clauses.now.clauses c.args.log.now) c.args.trail.now c.watches.trail c.visit.new.trail c.watches.invariant c.in_ok-found-in-Visit.ensures.extends

pub watches-preserved : goal.watches-preserved
watches-preserved c =
    extends_on c.args.clauses.now.atoms (with_steps c.args.clauses.now.clauses c.args.log.now) c.args.trail.now c.watches.trail c.visit.new.trail c.watches.invariant c.in_ok-found-in-Visit.ensures.extends
