use Rattle.std.proofs.Common.{refl, sym, ◌∙◌}
use Rattle.csdn_text.specs.Machine.Takes.{done}
use Rattle.csdn_text.proofs.Steps.{last, this, other, by, not_by, then_token, then, then_by, no_token, no_part, no_part_by, after_token, after_part, exit, no_memory}
use Rattle.csdn_text.proofs.parser.Parser.+command.Goals as goal

pub block-returns-in_err-take-clause-parses : goal.block-returns-in_err-take-clause-parses
block-returns-in_err-take-clause-parses t c = exit _ c.from_residual.ensures.1 (not_by last (no_token c.in_err-take.ensures.parses))

pub block-returns-in_err-body-clause-parses : goal.block-returns-in_err-body-clause-parses
block-returns-in_err-body-clause-parses t c = exit _ c.from_residual-in_err-body.ensures.1 (not_by last (after_token c.in_ok-take.ensures.parses (no_part c.in_err-body.ensures.parses)))

pub block-returns-in_err-take-2-clause-parses : goal.block-returns-in_err-take-2-clause-parses
block-returns-in_err-take-2-clause-parses t c = exit _ c.from_residual-in_err-take-2.ensures.1 (not_by last (after_token c.in_ok-take.ensures.parses (after_part c.in_ok-body.ensures.parses (no_token c.in_err-take-2.ensures.parses))))

pub block-returns-clause-parses : goal.block-returns-clause-parses
block-returns-clause-parses t c = by last (then_token c.in_ok-take.ensures.parses (then c.in_ok-body.ensures.parses (then_token c.in_ok-take-2.ensures.parses done))) refl

pub commands-returns-in_err-first-clause-parses : goal.commands-returns-in_err-first-clause-parses
commands-returns-in_err-first-clause-parses t c = exit _ c.from_residual.ensures.1 (not_by last (no_part c.in_err-first.ensures.parses))

pub commands-returns-then-not-begins_command-clause-parses : goal.commands-returns-then-not-begins_command-clause-parses
commands-returns-then-not-begins_command-clause-parses t c = by last (then c.in_ok-first.ensures.parses (then_by (other (sym c.begins_command.ensures ∙ c.if-not-begins_command.true) last) done done)) refl

pub commands-returns-in_err-rest-clause-parses : goal.commands-returns-in_err-rest-clause-parses
commands-returns-in_err-rest-clause-parses t c = exit _ c.from_residual-in_err-rest.ensures.1 (not_by last (after_part c.in_ok-first.ensures.parses (no_part_by (this (sym c.begins_command.ensures ∙ c.if-not-begins_command.false)) (no_part c.in_err-rest.ensures.parses))))

pub commands-returns-in_err-whole-clause-parses : goal.commands-returns-in_err-whole-clause-parses
commands-returns-in_err-whole-clause-parses t c = exit _ c.from_residual-in_err-whole.ensures.1 (no_memory c.in_err-whole.ensures)

pub commands-returns-clause-parses : goal.commands-returns-clause-parses
commands-returns-clause-parses t c = by last (then c.in_ok-first.ensures.parses (then_by (this (sym c.begins_command.ensures ∙ c.if-not-begins_command.false)) (then c.in_ok-rest.ensures.parses done) done)) (sym c.in_ok-whole.ensures)

pub command-returns-in_err-take-clause-parses : goal.command-returns-in_err-take-clause-parses
command-returns-in_err-take-clause-parses t c = exit _ c.from_residual.ensures.1 (not_by (this (sym c.next_is.ensures ∙ c.if-next_is.true)) (no_token c.in_err-take.ensures.parses))

pub command-returns-in_err-take-2-clause-parses : goal.command-returns-in_err-take-2-clause-parses
command-returns-in_err-take-2-clause-parses t c = exit _ c.from_residual-in_err-take-2.ensures.1 (not_by (this (sym c.next_is.ensures ∙ c.if-next_is.true)) (after_token c.in_ok-take.ensures.parses (no_token c.in_err-take-2.ensures.parses)))

pub command-returns-in_ok-take-2-clause-parses : goal.command-returns-in_ok-take-2-clause-parses
command-returns-in_ok-take-2-clause-parses t c = by (this (sym c.next_is.ensures ∙ c.if-next_is.true)) (then_token c.in_ok-take.ensures.parses (then_token c.in_ok-take-2.ensures.parses done)) refl

pub command-returns-in_err-whole-clause-parses : goal.command-returns-in_err-whole-clause-parses
command-returns-in_err-whole-clause-parses t c = exit _ c.from_residual-in_err-whole.ensures.1 (not_by (other (sym c.next_is.ensures ∙ c.if-next_is.false) (this (sym c.begins.ensures ∙ c.if-begins.true))) (no_part c.in_err-whole.ensures.parses))

pub command-returns-in_ok-whole-clause-parses : goal.command-returns-in_ok-whole-clause-parses
command-returns-in_ok-whole-clause-parses t c = by (other (sym c.next_is.ensures ∙ c.if-next_is.false) (this (sym c.begins.ensures ∙ c.if-begins.true))) (then c.in_ok-whole.ensures.parses done) refl

pub command-returns-in_err-whole-2-clause-parses : goal.command-returns-in_err-whole-2-clause-parses
command-returns-in_err-whole-2-clause-parses t c = exit _ c.from_residual-in_err-whole-2.ensures.1 (not_by (other (sym c.next_is.ensures ∙ c.if-next_is.false) (other (sym c.begins.ensures ∙ c.if-begins.false) (this (sym c.begins-else-begins.ensures ∙ c.if-begins-2.true)))) (no_part c.in_err-whole-2.ensures.parses))

pub command-returns-in_ok-whole-2-clause-parses : goal.command-returns-in_ok-whole-2-clause-parses
command-returns-in_ok-whole-2-clause-parses t c = by (other (sym c.next_is.ensures ∙ c.if-next_is.false) (other (sym c.begins.ensures ∙ c.if-begins.false) (this (sym c.begins-else-begins.ensures ∙ c.if-begins-2.true)))) (then c.in_ok-whole-2.ensures.parses done) refl

pub command-returns-in_err-name-clause-parses : goal.command-returns-in_err-name-clause-parses
command-returns-in_err-name-clause-parses t c = exit _ c.from_residual-in_err-name.ensures.1 (not_by (other (sym c.next_is.ensures ∙ c.if-next_is.false) (other (sym c.begins.ensures ∙ c.if-begins.false) (other (sym c.begins-else-begins.ensures ∙ c.if-begins-2.false) last))) (no_part c.in_err-name.ensures.parses))

pub command-returns-in_err-take-3-clause-parses : goal.command-returns-in_err-take-3-clause-parses
command-returns-in_err-take-3-clause-parses t c = exit _ c.from_residual-in_err-take-3.ensures.1 (not_by (other (sym c.next_is.ensures ∙ c.if-next_is.false) (other (sym c.begins.ensures ∙ c.if-begins.false) (other (sym c.begins-else-begins.ensures ∙ c.if-begins-2.false) last))) (after_part c.in_ok-name.ensures.parses (no_token c.in_err-take-3.ensures.parses)))

pub command-returns-in_err-action-clause-parses : goal.command-returns-in_err-action-clause-parses
command-returns-in_err-action-clause-parses t c = exit _ c.from_residual-in_err-action.ensures.1 (not_by (other (sym c.next_is.ensures ∙ c.if-next_is.false) (other (sym c.begins.ensures ∙ c.if-begins.false) (other (sym c.begins-else-begins.ensures ∙ c.if-begins-2.false) last))) (after_part c.in_ok-name.ensures.parses (after_token c.in_ok-take-3.ensures.parses (no_part c.in_err-action.ensures.parses))))

pub command-returns-in_err-take-4-clause-parses : goal.command-returns-in_err-take-4-clause-parses
command-returns-in_err-take-4-clause-parses t c = exit _ c.from_residual-in_err-take-4.ensures.1 (not_by (other (sym c.next_is.ensures ∙ c.if-next_is.false) (other (sym c.begins.ensures ∙ c.if-begins.false) (other (sym c.begins-else-begins.ensures ∙ c.if-begins-2.false) last))) (after_part c.in_ok-name.ensures.parses (after_token c.in_ok-take-3.ensures.parses (after_part c.in_ok-action.ensures.parses (no_token c.in_err-take-4.ensures.parses)))))

pub command-returns-in_ok-take-4-clause-parses : goal.command-returns-in_ok-take-4-clause-parses
command-returns-in_ok-take-4-clause-parses t c = by (other (sym c.next_is.ensures ∙ c.if-next_is.false) (other (sym c.begins.ensures ∙ c.if-begins.false) (other (sym c.begins-else-begins.ensures ∙ c.if-begins-2.false) last))) (then c.in_ok-name.ensures.parses (then_token c.in_ok-take-3.ensures.parses (then c.in_ok-action.ensures.parses (then_token c.in_ok-take-4.ensures.parses done)))) (sym c.command_of.ensures)

pub branch-returns-in_err-take-clause-parses : goal.branch-returns-in_err-take-clause-parses
branch-returns-in_err-take-clause-parses t c = exit _ c.from_residual.ensures.1 (not_by last (no_token c.in_err-take.ensures.parses))

pub branch-returns-in_err-condition-clause-parses : goal.branch-returns-in_err-condition-clause-parses
branch-returns-in_err-condition-clause-parses t c = exit _ c.from_residual-in_err-condition.ensures.1 (not_by last (after_token c.in_ok-take.ensures.parses (no_part c.in_err-condition.ensures.parses)))

pub branch-returns-in_err-body-clause-parses : goal.branch-returns-in_err-body-clause-parses
branch-returns-in_err-body-clause-parses t c = exit _ c.from_residual-in_err-body.ensures.1 (not_by last (after_token c.in_ok-take.ensures.parses (after_part c.in_ok-condition.ensures.parses (no_part c.in_err-body.ensures.parses))))

pub branch-returns-in_err-other-clause-parses : goal.branch-returns-in_err-other-clause-parses
branch-returns-in_err-other-clause-parses t c = exit _ c.from_residual-in_err-other.ensures.1 (not_by last (after_token c.in_ok-take.ensures.parses (after_part c.in_ok-condition.ensures.parses (after_part c.in_ok-body.ensures.parses (no_part c.in_err-other.ensures.parses)))))

pub branch-returns-in_err-whole-clause-parses : goal.branch-returns-in_err-whole-clause-parses
branch-returns-in_err-whole-clause-parses t c = exit _ c.from_residual-in_err-whole.ensures.1 (no_memory c.in_err-whole.ensures)

pub branch-returns-clause-parses : goal.branch-returns-clause-parses
branch-returns-clause-parses t c = by last (then_token c.in_ok-take.ensures.parses (then c.in_ok-condition.ensures.parses (then c.in_ok-body.ensures.parses (then c.in_ok-other.ensures.parses done)))) (sym c.in_ok-whole.ensures)

pub choice-returns-in_err-take-clause-parses : goal.choice-returns-in_err-take-clause-parses
choice-returns-in_err-take-clause-parses t c = exit _ c.from_residual.ensures.1 (not_by last (no_token c.in_err-take.ensures.parses))

pub choice-returns-in_err-name-clause-parses : goal.choice-returns-in_err-name-clause-parses
choice-returns-in_err-name-clause-parses t c = exit _ c.from_residual-in_err-name.ensures.1 (not_by last (after_token c.in_ok-take.ensures.parses (no_part c.in_err-name.ensures.parses)))

pub choice-returns-in_err-take-2-clause-parses : goal.choice-returns-in_err-take-2-clause-parses
choice-returns-in_err-take-2-clause-parses t c = exit _ c.from_residual-in_err-take-2.ensures.1 (not_by last (after_token c.in_ok-take.ensures.parses (after_part c.in_ok-name.ensures.parses (no_token c.in_err-take-2.ensures.parses))))

pub choice-returns-in_err-sort-clause-parses : goal.choice-returns-in_err-sort-clause-parses
choice-returns-in_err-sort-clause-parses t c = exit _ c.from_residual-in_err-sort.ensures.1 (not_by last (after_token c.in_ok-take.ensures.parses (after_part c.in_ok-name.ensures.parses (after_token c.in_ok-take-2.ensures.parses (no_part c.in_err-sort.ensures.parses)))))

pub choice-returns-in_err-take-3-clause-parses : goal.choice-returns-in_err-take-3-clause-parses
choice-returns-in_err-take-3-clause-parses t c = exit _ c.from_residual-in_err-take-3.ensures.1 (not_by last (after_token c.in_ok-take.ensures.parses (after_part c.in_ok-name.ensures.parses (after_token c.in_ok-take-2.ensures.parses (after_part c.in_ok-sort.ensures.parses (no_token c.in_err-take-3.ensures.parses))))))

pub choice-returns-in_err-condition-clause-parses : goal.choice-returns-in_err-condition-clause-parses
choice-returns-in_err-condition-clause-parses t c = exit _ c.from_residual-in_err-condition.ensures.1 (not_by last (after_token c.in_ok-take.ensures.parses (after_part c.in_ok-name.ensures.parses (after_token c.in_ok-take-2.ensures.parses (after_part c.in_ok-sort.ensures.parses (after_token c.in_ok-take-3.ensures.parses (no_part c.in_err-condition.ensures.parses)))))))

pub choice-returns-in_err-body-clause-parses : goal.choice-returns-in_err-body-clause-parses
choice-returns-in_err-body-clause-parses t c = exit _ c.from_residual-in_err-body.ensures.1 (not_by last (after_token c.in_ok-take.ensures.parses (after_part c.in_ok-name.ensures.parses (after_token c.in_ok-take-2.ensures.parses (after_part c.in_ok-sort.ensures.parses (after_token c.in_ok-take-3.ensures.parses (after_part c.in_ok-condition.ensures.parses (no_part c.in_err-body.ensures.parses))))))))

pub choice-returns-in_err-other-clause-parses : goal.choice-returns-in_err-other-clause-parses
choice-returns-in_err-other-clause-parses t c = exit _ c.from_residual-in_err-other.ensures.1 (not_by last (after_token c.in_ok-take.ensures.parses (after_part c.in_ok-name.ensures.parses (after_token c.in_ok-take-2.ensures.parses (after_part c.in_ok-sort.ensures.parses (after_token c.in_ok-take-3.ensures.parses (after_part c.in_ok-condition.ensures.parses (after_part c.in_ok-body.ensures.parses (no_part c.in_err-other.ensures.parses)))))))))

pub choice-returns-in_err-whole-clause-parses : goal.choice-returns-in_err-whole-clause-parses
choice-returns-in_err-whole-clause-parses t c = exit _ c.from_residual-in_err-whole.ensures.1 (no_memory c.in_err-whole.ensures)

pub choice-returns-clause-parses : goal.choice-returns-clause-parses
choice-returns-clause-parses t c = by last (then_token c.in_ok-take.ensures.parses (then c.in_ok-name.ensures.parses (then_token c.in_ok-take-2.ensures.parses (then c.in_ok-sort.ensures.parses (then_token c.in_ok-take-3.ensures.parses (then c.in_ok-condition.ensures.parses (then c.in_ok-body.ensures.parses (then c.in_ok-other.ensures.parses done)))))))) (sym c.in_ok-whole.ensures)

pub otherwise-returns-in_err-take-clause-parses : goal.otherwise-returns-in_err-take-clause-parses
otherwise-returns-in_err-take-clause-parses t c = exit _ c.from_residual.ensures.1 (not_by (this (sym c.next_is.ensures ∙ c.if-not-next_is.false)) (no_token c.in_err-take.ensures.parses))

pub otherwise-returns-in_err-body-clause-parses : goal.otherwise-returns-in_err-body-clause-parses
otherwise-returns-in_err-body-clause-parses t c = exit _ c.from_residual-in_err-body.ensures.1 (not_by (this (sym c.next_is.ensures ∙ c.if-not-next_is.false)) (after_token c.in_ok-take.ensures.parses (no_part c.in_err-body.ensures.parses)))

pub otherwise-returns-then-not-next_is-clause-parses : goal.otherwise-returns-then-not-next_is-clause-parses
otherwise-returns-then-not-next_is-clause-parses t c = by (other (sym c.next_is.ensures ∙ c.if-not-next_is.true) last) done refl

pub otherwise-returns-clause-parses : goal.otherwise-returns-clause-parses
otherwise-returns-clause-parses t c = by (this (sym c.next_is.ensures ∙ c.if-not-next_is.false)) (then_token c.in_ok-take.ensures.parses (then c.in_ok-body.ensures.parses done)) refl
