use Rattle.std.proofs.Common.{◌≡◌}
use Rattle.csdn_conditions.specs.declared.sentence.Condition.{Condition}
use Rattle.answer_listing.specs.Words.{unproven_text}
use Rattle.answer_listing.proofs.Found.{of_kind, if_ok}
use Rattle.answer_listing.proofs.words.unproven_line.Goals as goal

pub returns : goal.returns
returns c =
    let P = c.args.program.now in
    if_ok c.put_unproven.result _ _ (λ text is. of_kind P c.args.level c.args.index c.condition_kind-kind.result (λ (q : Condition). text.items ≡ unproven_text P c.args.level c.args.index q.kind c.args.why) c.condition_kind-kind.ensures.there is) c.put_unproven.ensures
