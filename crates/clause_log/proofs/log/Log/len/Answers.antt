use Rattle.std.proofs.Common.{◌∙◌, length, sym, ap}
use Rattle.clause_log.proofs.Steps.{steps_count}
use Rattle.clause_log.proofs.log.Log.len.Goals as goal

pub returns : goal.returns
returns c =
    c.len.ensures ∙ c.self.inside.literal_ends.ok.0
    ∙ sym (steps_count c.self.inside.literal_ends.items c.self.inside.literals.items c.self.inside.hint_ends.items c.self.inside.hints.items c.self.invariant) ∙ ap length c.self.view_is
