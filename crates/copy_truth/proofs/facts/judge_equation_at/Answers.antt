use Rattle.std.proofs.Common.{◌≡◌, ap, ap₂, ◌∷◌, ◌∙◌}
use Rattle.clause_log.specs.Literals.{literal_true, truths}
use Rattle.decision_laws.specs.Copies.{Equation, place}
use Rattle.ground_inst.specs.Facts.{num_of}
use Rattle.ground_inst.specs.Walk.{entry, equation_fact, scope, ways_of}
use Rattle.copy_truth.proofs.ReadLaws.{said_literal}
use Rattle.copy_truth.proofs.facts.judge_equation_at.Goals as goal

pub returns : goal.returns
returns c =
    let names = c.args.r.now.names in
    let env = entry c.args.binding ∷ scope c.args.env.now in
    let sort = c.sort_at-sort.result in
    let atom = c.in_ok-equation_atom.ensures ∙ ap₂ (λ x y. num_of names.facts.now (Equation sort x y)) c.place_at-a.ensures c.place_at-b.ensures
    ∙ ap (λ s. num_of names.facts.now (Equation s (place (ways_of names).voc env c.args.t) (place (ways_of names).voc env c.args.u))) c.sort_at-sort.ensures in
    c.is_true.ensures ∙ ap (literal_true (truths c.args.r.now.trues.now)) (c.in_ok-l.ensures ∙ ap (λ z. record { positive = c.args.sign; atom = z }) atom)
    ∙ said_literal c.args.r.now c.args.sign (equation_fact (ways_of names) env c.args.t c.args.u)
