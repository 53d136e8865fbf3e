use Rattle.std.proofs.Common.{arith, subst}
use Rattle.clause_log.specs.Literals.{truths}
use Rattle.clause_search.specs.Trails.{values_of}
use Rattle.clause_search.specs.Searches.{Turns}
use Rattle.clause_search.proofs.Growth.{bounded}
use Rattle.clause_search.proofs.Models.{model_by}
use Rattle.clause_search.proofs.search.solve_dense.Goals as goal

pub turns-smaller : goal.turns-smaller
turns-smaller c =
    let turned = subst (Turns c.args.clauses.now c.turns.trail c.advance.new.log c.advance.new.trail) c.in-GoesOn.is c.in_ok-advance.ensures in
    let most = bounded c.args.clauses.now.atoms c.advance.new.trail in
    omega (arith, turned.1, most)

pub returns-in-AllTrue : goal.returns-in-AllTrue
returns-in-AllTrue c =
    let turned = subst (Turns c.args.clauses.now c.turns.trail c.advance.new.log c.advance.new.trail) c.in-AllTrue.is c.in_ok-advance.ensures in
    model_by (truths c.in_ok-valuation-in-AllTrue.valuation) (values_of c.advance.new.trail) c.in_ok-valuation-in-AllTrue.ensures c.args.clauses.now.clauses turned
