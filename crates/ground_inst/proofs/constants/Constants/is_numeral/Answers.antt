use Rattle.std.proofs.Common.{ap, false, sym, ◌==◌, ◌&&◌, ◌∙◌}
use Rattle.std.specs.Prelude.{slice_index_or}
use Rattle.std.specs.List.{list_any}
use Rattle.general_facts.proofs.Lists.{list_any-map}
use Rattle.ground_inst.specs.Equality.{numeral_of}
use Rattle.ground_inst.proofs.constants.Constants.is_numeral.Goals as goal

pub returns-then-is_same : goal.returns-then-is_same
returns-then-is_same c =
    c.mark_at.ensures
    ∙ ap (λ marks. slice_index_or marks c.args.place false) c.as_slice.ensures.value
    ∙ c.args.self.now.marked c.args.place
    ∙ ap (list_any (λ p. p.place == c.args.place)) c.args.self.now.placed
    ∙ list_any-map (λ p. p.place == c.args.place) (numeral_of c.args.self.now.parts.now) c.args.self.now.parts.now.numerals
    ∙ ap (λ b. b && list_any (λ k. (numeral_of c.args.self.now.parts.now k).place == c.args.place) c.args.self.now.parts.now.numerals) (sym (sym c.is_same.ensures ∙ c.if-is_same.true))
