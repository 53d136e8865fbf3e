use Rattle.std.proofs.Common.{◌∙◌, ap, sym}
use Rattle.std.specs.List.{list_any}
use Rattle.std.specs.Option.{option_copied}
use Rattle.std.proofs.lemmas.Result.{on_ok_weaker}
use Rattle.clause_log.specs.Literals.{truths}
use Rattle.lazy_ground.specs.Joins.{joined_in}
use Rattle.lazy_ground.proofs.JoinLaws.{relation_found}
use Rattle.lazy_ground.proofs.TupleLaws.{none_replaced, replaced_found}
use Rattle.lazy_ground.proofs.exchanges.find_replacements.Goals as goal

pub returns-then-not-of_some : goal.returns-then-not-of_some
returns-then-not-of_some c =
    relation_found c.args.constants.now.parts.now c.args.constants.now.facts.now (truths c.args.trues.now) c.args.joined c.requires c.args.relation c.args.rows.now
    (ap (list_any (joined_in c.args.joined)) (sym c.sorts_of_used.ensures) ∙ sym c.of_some.ensures ∙ c.if-not-of_some.true)

pub returns-in-None : goal.returns-in-None
returns-in-None c = none_replaced c.args.constants.now.parts.now c.args.constants.now.facts.now c.args.relation c.args.trues.now c.args.rows.now (sym c.used_of.ensures ∙ ap option_copied c.in-None.is)

pub returns-in-Some : goal.returns-in-Some
returns-in-Some c =
    on_ok_weaker c.find_tuples.result (λ e.
    replaced_found c.args.constants.now.parts.now c.args.constants.now.facts.now c.args.relation c.in-Some.used.now (sym c.used_of.ensures ∙ ap option_copied c.in-Some.is) c.args.trues.now c.args.rows.now c.find_tuples.new.rows e) c.find_tuples.ensures
