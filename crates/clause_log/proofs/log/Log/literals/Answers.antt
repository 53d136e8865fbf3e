use Rattle.std.proofs.Common.{◌<◌, ◌∙◌, [], length, get_or, sym, ap, ap₂, subst}
use Rattle.clause_log.specs.Refutations.{no_step}
use Rattle.clause_log.specs.Rows.{split}
use Rattle.clause_log.proofs.Steps.{steps_count, step_is}
use Rattle.clause_log.proofs.log.Log.literals.Goals as goal

pub row_of-requires-clause-within : goal.row_of-requires-clause-within
row_of-requires-clause-within c =
    subst (λ n. c.args.at < n)
    (sym (ap length c.self.view_is) ∙ steps_count c.self.inside.literal_ends.items c.self.inside.literals.items c.self.inside.hint_ends.items c.self.inside.hints.items c.self.invariant ∙ sym (ap length c.deref-2.ensures.value))
    c.requires

pub returns-clause-value : goal.returns-clause-value
returns-clause-value c =
    let within : c.args.at < length c.self.inside.literal_ends.items =
    subst (λ n. c.args.at < n) (sym (ap length c.self.view_is) ∙ steps_count c.self.inside.literal_ends.items c.self.inside.literals.items c.self.inside.hint_ends.items c.self.inside.hints.items c.self.invariant) c.requires in
    c.row_of.ensures ∙ ap₂ (λ es ls. get_or (split 0 es ls) c.args.at []) c.deref-2.ensures.value c.deref.ensures.value
    ∙ sym (ap (λ s. s.literals) (step_is c.self.inside.literal_ends.items c.self.inside.literals.items c.self.inside.hint_ends.items c.self.inside.hints.items c.args.at c.self.invariant within))
    ∙ ap (λ ss. (get_or ss c.args.at no_step).literals) c.self.view_is
