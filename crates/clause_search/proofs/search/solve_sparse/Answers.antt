use Rattle.std.proofs.Common.{◌∙◌, ap, map, refl, subst, sym}
use Rattle.clause_log.specs.Literals.{truths}
use Rattle.clause_search.specs.Names.{named_step, AreNames, IsNamedValuation}
use Rattle.clause_search.specs.Outcomes.{Answers}
use Rattle.clause_search.proofs.NameLaws.{model_named, refutation_named}
use Rattle.clause_search.proofs.search.solve_sparse.Goals as goal

pub returns-in-Model : goal.returns-in-Model
returns-in-Model c =
    model_named c.deref.result.now c.args.clauses.now c.in_ok-small.small (truths c.in-Model.valuation) (truths c.in_ok-named-in-Model.named) c.in_ok-small.ensures.atoms c.atoms.ensures.clauses c.in_ok-small.ensures.named
    (subst (λ ns. IsNamedValuation ns (truths c.in-Model.valuation) (truths c.in_ok-named-in-Model.named)) (c.deref-in-Model.ensures.value ∙ sym c.deref.ensures.value) c.in_ok-named-in-Model.ensures)
    (subst (Answers c.in_ok-small.small) c.in-Model.is c.in_ok-valuation.ensures)

pub returns : goal.returns
returns c =
    refutation_named c.args.clauses.now.atoms c.deref.result.now c.args.clauses.now c.in_ok-small.small c.in-Refuted.log c.in_ok-named-in-Refuted.named (subst (λ ns. AreNames c.args.clauses.now.atoms ns) (sym c.deref.ensures.value) c.in_ok-names.ensures) refl
    c.in_ok-small.ensures.atoms c.atoms.ensures.clauses c.in_ok-small.ensures.named (subst (Answers c.in_ok-small.small) c.in-Refuted.is c.in_ok-valuation.ensures)
    (c.in_ok-named-in-Refuted.ensures ∙ ap (λ ns. map (named_step ns) c.in-Refuted.log) (c.deref-in-Refuted.ensures.value ∙ sym c.deref.ensures.value))
