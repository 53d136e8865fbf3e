use Rattle.clause_log.specs.Refutations.{with_steps}
use Rattle.clause_search.proofs.Entries.{extends_on}
use Rattle.std.proofs.Common.{arith}
use Rattle.clause_search.proofs.Growth.{extends_short}
use Rattle.clause_search.proofs.propagate.spread.Goals as goal

pub returns-then-is_some-clause-extends : goal.returns-then-is_some-clause-extends
returns-then-is_some-clause-extends c =
    extends_on c.args.clauses.now.atoms (with_steps c.args.clauses.now.clauses c.args.log.now) c.args.trail.now c.literals.trail c.visit_watches.new.trail c.literals.invariant c.in_ok-found.ensures.extends

pub literals-preserved : goal.literals-preserved
literals-preserved c =
    extends_on c.args.clauses.now.atoms (with_steps c.args.clauses.now.clauses c.args.log.now) c.args.trail.now c.literals.trail c.visit_watches.new.trail c.literals.invariant c.in_ok-found.ensures.extends

pub literals-smaller : goal.literals-smaller
literals-smaller c =
    (let short = extends_short c.args.clauses.now.atoms (with_steps c.args.clauses.now.clauses c.args.log.now) c.args.trail.now c.literals.trail c.literals.invariant in omega (arith, short, c.in-Some.ensures.within))
