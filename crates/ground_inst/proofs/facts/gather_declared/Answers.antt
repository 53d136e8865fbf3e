use Rattle.std.proofs.Common.{get_or, length, subst, ◌<◌, ◌≡◌, ◌∙◌}
use Rattle.fol_forms.specs.Forms.{form_of}
use Rattle.decision_laws.specs.Vocabulary.{uses}
use Rattle.csdn_core.specs.declared.terms.Pred.TheVariants.{Stored}
use Rattle.ground_inst.specs.Facts.{with_relation}
use Rattle.ground_inst.proofs.FactSteps.{columns, next_relation, sorts_at, stored}
use Rattle.ground_inst.proofs.facts.gather_declared.Goals as goal

pub loop-number-preserved : goal.loop-number-preserved
loop-number-preserved c =
    let at : c.loop-number.number < length c.args.parts.now.relations = rw (← c.as_slice-relation-items.ensures) c.loop-number-test.true in
    let item : c.relation-item.result ≡ get_or c.args.parts.now.relations c.loop-number.number c.relation-item.result =
    subst (λ z. c.relation-item.result ≡ get_or z c.loop-number.number c.relation-item.result) c.as_slice-relation-items.ensures c.relation-item.is in
    next_relation (uses (form_of c.args.sentence.now)) (columns c.args.parts.now) c.loop-number.facts c.gather.new.facts c.loop-number.number (length c.args.parts.now.relations) c.relation-item.result.sorts
    at (sorts_at c.args.parts.now c.loop-number.number c.relation-item.result at item)
    (subst (λ ss. c.gather.new.facts ≡ with_relation (uses (form_of c.args.sentence.now) (stored c.loop-number.number)) c.loop-number.facts (stored c.loop-number.number) ss) c.as_slice.ensures
    (subst (λ i. c.gather.new.facts ≡ with_relation (uses (form_of c.args.sentence.now) (Stored i)) c.loop-number.facts (Stored i) c.as_slice.result.now) c.in_ok-id.ensures c.in_ok-gather.ensures))
    ∙ c.loop-number.invariant
