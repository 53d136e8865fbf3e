use Rattle.std.proofs.Common.{ap, arith, ◌++◌, ◌∷◌, [], ◌∙◌, ◌≡◌}
use Rattle.std.specs.Prelude.{flat_map}
use Rattle.decision_laws.specs.Classes.{all_tuples}
use Rattle.decision_laws.specs.Vocabulary.{places_from}
use Rattle.fol_forms.specs.Counts.{count_of}
use Rattle.ground_inst.specs.Equality.{exchanges}
use Rattle.ground_inst.proofs.Turns.{by_first, one_more, popped, turned}
use Rattle.ground_inst.proofs.exchange.+tuples.Goals as goal

pub write_tuples_over-constants-preserved : goal.write_tuples_over-constants-preserved
write_tuples_over-constants-preserved t c =
    let front : c.append_place.new.places.items ≡ c.args.places.now.items ++ c.constants.a ∷ [] = c.in_ok-append_place.ensures ∙ ap (λ z. z ++ c.constants.a ∷ []) c.constants.invariant.1 in
    let turn =
    turned c.args.constants.now.parts.now c.args.constants.now.facts.now c.args.relation c.args.columns.now c.args.others.now c.args.places.now.items c.append_place.new.places.items c.constants.a c.constants.rows c.write_tuples.new.rows front
    c.in_ok-write_tuples.ensures.rows in (
      one_more (λ a. flat_map (λ xs. exchanges c.args.constants.now.parts.now c.args.constants.now.facts.now c.args.relation c.args.columns.now (c.args.places.now.items ++ a ∷ xs)) (all_tuples (count_of c.args.constants.now.facts.now.counts) c.args.others.now))
          c.args.rows.now c.constants.rows c.write_tuples.new.rows c.constants.a c.constants.invariant.0 turn,
      popped c.args.places.now.items c.write_tuples.new.places.items c.pop.new.self.items c.constants.a c.write_tuples.new.places.len c.append_place.new.places.items front c.in_ok-write_tuples.ensures.places c.write_tuples.new.places.ok.0 c.pop.ensures.rest,
    )

pub write_tuples_over-returns-clause-rows : goal.write_tuples_over-returns-clause-rows
write_tuples_over-returns-clause-rows t c =
    let last : c.constants.a ≡ count_of c.args.constants.now.facts.now.counts c.args.sort = omega (arith, c.constants-test.false, c.constants.auto.a-end, c.count-count.ensures) in
    c.constants.invariant.0
    ∙ ap (λ k. c.args.rows.now ++ flat_map (λ a. flat_map (λ xs. exchanges c.args.constants.now.parts.now c.args.constants.now.facts.now c.args.relation c.args.columns.now (c.args.places.now.items ++ a ∷ xs)) (all_tuples (count_of c.args.constants.now.facts.now.counts) c.args.others.now)) (places_from 0 k)) last
    ∙ ap (λ z. c.args.rows.now ++ z) (by_first c.args.constants.now.parts.now c.args.constants.now.facts.now c.args.relation c.args.columns.now c.args.sort c.args.others.now c.args.places.now.items)
