use Rattle.std.proofs.Common.{ap, ◌++◌, ◌∙◌}
use Rattle.std.proofs.lemmas.Result.{on_ok_weaker}
use Rattle.std.specs.Prelude.{flat_map}
use Rattle.ground_inst.specs.Equality.{numerals_differ}
use Rattle.ground_inst.specs.Facts.{num_of}
use Rattle.ground_inst.proofs.Turns.{five_parts, numerals_are}
use Rattle.ground_inst.proofs.equality.write_all.Goals as goal

pub returns : goal.returns
returns c =
    on_ok_weaker c.write_numerals.result
    (λ e. five_parts c.args.rows.now c.write_sort.new.rows c.write_sort-2.new.rows c.write_sort-3.new.rows c.write_relations.new.rows c.write_numerals.new.rows _ _ _ _ _
    c.in_ok-write_sort.ensures c.in_ok-write_sort-2.ensures c.in_ok-write_sort-3.ensures c.in_ok-write_relations.ensures
    (e
    ∙ ap (λ ps. c.write_relations.new.rows ++ flat_map (λ p. flat_map (λ q. numerals_differ (num_of c.args.constants.now.facts.now) p q) ps) ps) c.as_slice.ensures.value
    ∙ ap (λ z. c.write_relations.new.rows ++ z) (numerals_are c.args.constants.now.parts.now (num_of c.args.constants.now.facts.now) c.args.constants.now.numerals.items c.args.constants.now.placed)))
    c.write_numerals.ensures
