use Rattle.std.proofs.Common.{◌≡◌, ◌∙◌, ◌↔◌, sym, ap, subst}
use Rattle.csdn_core.specs.Members.{IsIn}
use Rattle.csdn_core.specs.Satisfied.{HasNetwork}
use Rattle.decision_laws.specs.Laws.{HasModel, clauses, name}
use Rattle.decision_laws.proofs.Bridge.{clauses_tied, models_networks}
use Rattle.ground_inst.proofs.making.ground.Goals as goal

pub returns-clause-tied : goal.returns-clause-tied
returns-clause-tied c =
    let P = c.args.program.now in
    let F = c.args.sentence.now in
    let same : c.in_ok-clauses.clauses.clauses ≡ clauses P F = c.in_ok-clauses.ensures.clauses ∙ ap (λ Q. clauses Q F) c.parts-parts.ensures.value in
    (name P F, λ d i. clauses_tied P F c.requires d (subst (λ z. IsIn d z) same i))

pub returns-clause-models : goal.returns-clause-models
returns-clause-models c =
    let P = c.args.program.now in
    let F = c.args.sentence.now in
    let same : c.in_ok-clauses.clauses.clauses ≡ clauses P F = c.in_ok-clauses.ensures.clauses ∙ ap (λ Q. clauses Q F) c.parts-parts.ensures.value in
    subst (λ z. HasModel z ↔ HasNetwork P F) (sym same) (models_networks P F c.requires)
