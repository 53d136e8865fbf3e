use Rattle.clause_log.specs.Refutations.{with_steps}
use Rattle.clause_search.proofs.Entries.{extends_on}
use Rattle.clause_search.proofs.propagate.visit_each.Goals as goal

pub returns-then-is_some-clause-extends : goal.returns-then-is_some-clause-extends
returns-then-is_some-clause-extends c =
    extends_on c.args.clauses.now.atoms (with_steps c.args.clauses.now.clauses c.args.log.now) c.args.trail.now c.clauses.trail c.visit.new.trail c.clauses.invariant c.in_ok-found.ensures.extends

pub clauses-preserved : goal.clauses-preserved
clauses-preserved c =
    extends_on c.args.clauses.now.atoms (with_steps c.args.clauses.now.clauses c.args.log.now) c.args.trail.now c.clauses.trail c.visit.new.trail c.clauses.invariant c.in_ok-found.ensures.extends
