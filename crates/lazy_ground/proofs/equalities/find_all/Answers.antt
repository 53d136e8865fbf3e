use Rattle.std.proofs.Common.{ap, subst, ◌∙◌}
use Rattle.std.proofs.lemmas.Result.{on_ok_weaker}
use Rattle.std.specs.Prelude.{flat_map}
use Rattle.clause_log.specs.Literals.{truths}
use Rattle.ground_inst.specs.Equality.{numerals_differ}
use Rattle.ground_inst.specs.Facts.{num_of}
use Rattle.ground_inst.proofs.Turns.{numerals_are}
use Rattle.lazy_ground.specs.Found.{Finds}
use Rattle.lazy_ground.proofs.FindLaws.{finds_five}
use Rattle.lazy_ground.proofs.equalities.find_all.Goals as goal

pub returns : goal.returns
returns c =
    on_ok_weaker c.find_numerals.result
    (λ e. finds_five (truths c.args.trues.now) _ _ _ _ _ c.args.rows.now c.find_sort.new.rows c.find_sort-2.new.rows c.find_sort-3.new.rows c.find_relations.new.rows c.find_numerals.new.rows
    c.in_ok-find_sort.ensures c.in_ok-find_sort-2.ensures c.in_ok-find_sort-3.ensures c.in_ok-find_relations.ensures
    (subst (λ z. Finds (truths c.args.trues.now) z c.find_relations.new.rows c.find_numerals.new.rows)
    (ap (λ ps. flat_map (λ p. flat_map (λ q. numerals_differ (num_of c.args.constants.now.facts.now) p q) ps) ps) c.as_slice.ensures.value
    ∙ numerals_are c.args.constants.now.parts.now (num_of c.args.constants.now.facts.now) c.args.constants.now.numerals.items c.args.constants.now.placed) e))
    c.find_numerals.ensures
