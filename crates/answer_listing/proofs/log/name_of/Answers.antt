use Rattle.std.proofs.Common.{◌≡◌, ◌∙◌, ◌<◌, ◌^◌, ap, rules, arith}
use Rattle.csdn_conditions.specs.declared.sentence.Condition.{Condition}
use Rattle.log_text.specs.LogText.{is_bare_name}
use Rattle.answer_listing.specs.Words.{condition_text}
use Rattle.answer_listing.proofs.Found.{of_kind}
use Rattle.answer_listing.proofs.Names.{bare_condition}
use Rattle.answer_listing.proofs.log.name_of.Goals as goal

pub returns-clause-name : goal.returns-clause-name
returns-clause-name c =
    let P = c.args.program.now in
    let is : c.from_vec.result ≡ condition_text P c.args.index c.condition_kind-kind.result = search rules in
    of_kind P c.args.level c.args.index c.condition_kind-kind.result (λ (q : Condition). c.from_vec.result ≡ condition_text P c.args.index q.kind) c.condition_kind-kind.ensures.there is

pub returns-clause-fits : goal.returns-clause-fits
returns-clause-fits c =
    let P = c.args.program.now in
    let few : c.args.index < 2 ^ 32 = omega arith in
    let is : c.from_vec.result ≡ condition_text P c.args.index c.condition_kind-kind.result = search rules in
    ap is_bare_name is ∙ bare_condition P c.parts-parts.ensures.well_sorted c.args.level c.args.index c.condition_kind-kind.result (omega arith) few c.condition_kind-kind.ensures.within
