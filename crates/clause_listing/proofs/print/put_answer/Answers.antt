use Rattle.std.proofs.Common.{subst}
use Rattle.clause_log.specs.Literals.{truths}
use Rattle.clause_search.specs.Outcomes.{Answers}
use Rattle.clause_listing.proofs.Said.{model_added, refutation_added}
use Rattle.clause_listing.proofs.print.put_answer.Goals as goal

pub returns-in_ok-atoms-in-Model : goal.returns-in_ok-atoms-in-Model
returns-in_ok-atoms-in-Model c =
    let model = subst (Answers c.args.clauses.now) c.in-Model.is c.in_ok-valuation.ensures in
    model_added c.put_model.result c.args.clauses.now (truths c.in-Model.valuation) c.deref.result.now c.in_ok-atoms-in-Model.atoms.items _ _ model c.in_ok-atoms-in-Model.ensures c.deref.ensures.value c.put_model.ensures

pub returns-in-Refuted : goal.returns-in-Refuted
returns-in-Refuted c =
    let refuted = subst (Answers c.args.clauses.now) c.in-Refuted.is c.in_ok-valuation.ensures in
    refutation_added c.put_refutation.result c.args.clauses.now c.in-Refuted.log _ _ refuted c.put_refutation.ensures
