use Rattle.std.proofs.Common.{◌≡◌}
use Rattle.csdn_conditions.specs.declared.sentence.Condition.{Condition}
use Rattle.answer_listing.specs.Counterexamples.{counterexample_text}
use Rattle.answer_listing.proofs.Found.{of_kind, if_ok}
use Rattle.answer_listing.proofs.InOrder.{case_again}
use Rattle.answer_listing.proofs.counterexample.counterexample_of.Goals as goal

pub returns : goal.returns
returns c =
    let P = c.args.program.now in
    let n = c.args.level in
    let i = c.args.index in
    let case = c.args.case.now in
    if_ok c.text_of.result _ _ (λ text is. record {
      text_is = of_kind P n i c.condition_kind-kind.result (λ (q : Condition). text.items ≡ counterexample_text P n i q.kind case) c.condition_kind-kind.ensures.there is;
      again = case_again P n i case c.parts-parts.ensures.well_sorted c.requires.case c.in_ok-case_is_in_order.ensures;
    }) c.text_of.ensures
