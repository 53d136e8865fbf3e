use Rattle.std.proofs.Common.{◌++◌, [], ◌∷◌, ◌∙◌, ap}
use Rattle.clause_log.specs.Refutations.{Step}
use Rattle.clause_log.proofs.Steps.{steps_more, flat_more, flat_same, by_ways, on_all}
use Rattle.clause_log.proofs.log.Log.push.Goals as goal

pub invariant_of-self : goal.invariant_of-self
invariant_of-self c =
    let e = c.append_step.ensures in
    by_ways c.append_step.result _ _ _ _ _ _ _ _ _ e.literals e.literal_ends e.hints e.hint_ends e.same_literal_ends e.same_literals e.same_hint_ends e.same_hints
    (λ a b d f. flat_more c.self.inside.literal_ends.items c.append_step.new.literal_ends.items c.self.inside.literals.items c.append_step.new.literals.items c.self.inside.hint_ends.items c.append_step.new.hint_ends.items c.self.inside.hints.items c.append_step.new.hints.items c.args.lits.now c.args.hints.now c.self.invariant c.requires (record { literals = a; literal_ends = b; hints = d; hint_ends = f }))
    (λ a b d f. flat_same c.self.inside.literal_ends.items c.append_step.new.literal_ends.items c.self.inside.literals.items c.append_step.new.literals.items c.self.inside.hint_ends.items c.append_step.new.hint_ends.items c.self.inside.hints.items c.append_step.new.hints.items c.self.invariant a b d f)

pub returns-clause-ok : goal.returns-clause-ok
returns-clause-ok c =
    let e = c.append_step.ensures in
    let added : Step = record { literals = c.args.lits.now; hints = c.args.hints.now } in
    on_all c.append_step.result _ _ _ _ _ e.literals e.literal_ends e.hints e.hint_ends
    (λ a b d f. steps_more c.self.inside.literal_ends.items c.append_step.new.literal_ends.items c.self.inside.literals.items c.append_step.new.literals.items c.self.inside.hint_ends.items c.append_step.new.hint_ends.items c.self.inside.hints.items c.append_step.new.hints.items c.args.lits.now c.args.hints.now c.self.invariant (record { literals = a; literal_ends = b; hints = d; hint_ends = f })
    ∙ ap (λ ss. ss ++ added ∷ []) c.self.view_is)
