use Rattle.std.proofs.Common.{◌<◌, ◌∙◌, arith, subst}
use Rattle.std.proofs.lemmas.List.{get_or_read_under}
use Rattle.std.specs.Prelude.{slice_index_or}
use Rattle.clause_log.specs.Literals.{truths}
use Rattle.fol_forms.specs.Counts.{count_of}
use Rattle.decision_laws.specs.Clauses.{no}
use Rattle.decision_laws.specs.Copies.{Tuple}
use Rattle.ground_inst.specs.Facts.{num_of}
use Rattle.lazy_ground.proofs.JoinLaws.{column_found}
use Rattle.lazy_ground.proofs.exchanges.find_exchanges_at.Goals as goal

pub returns-then-is_alone-clause-rows : goal.returns-then-is_alone-clause-rows
returns-then-is_alone-clause-rows c =
    column_found c.args.constants.now.parts.now c.args.constants.now.facts.now (truths c.args.trues.now) c.args.joined c.requires c.args.relation c.args.sort c.args.places.now.items
    (no (num_of c.args.constants.now.facts.now (Tuple c.args.relation c.args.places.now.items))) c.args.at (slice_index_or c.args.places.now.items c.args.at 0) c.args.rows.now (c.is_alone.ensures.joined c.if-is_alone.true)
    (subst (λ z. z < count_of c.args.constants.now.facts.now.counts c.args.sort) (get_or_read_under c.args.places.now.items c.args.at c.len.result c.index.result.now 0 c.index.ensures (omega (arith, c.if-at-len.false)) (c.len.ensures ∙ c.args.places.now.ok.0)) (c.is_alone.ensures.place c.if-is_alone.true))
