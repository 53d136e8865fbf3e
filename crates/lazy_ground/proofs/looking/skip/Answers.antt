use Rattle.std.proofs.Common.{◌∙◌, ap, ◌+◌}
use Rattle.fol_forms.specs.Constants.{need}
use Rattle.decision_laws.specs.Clauses.{yes}
use Rattle.form_trees.specs.Trees.{tree_form}
use Rattle.ground_inst.specs.Walk.{state_of}
use Rattle.lazy_ground.proofs.LookSteps.{skipped}
use Rattle.lazy_ground.proofs.looking.skip.Goals as goal

pub returns : goal.returns
returns c =
    let same = c.in_ok-value.ensures.same in
    skipped c.args.r.now (tree_form c.args.tree.now) c.args.given c.args.count (state_of c.args.work.now)
    (state_of (record { env = c.judge_unless.new.work.env; base = c.in_ok-work-2.field-0; next = c.in_ok-work.field-0; rows = c.judge_unless.new.work.rows })) (record { literal = c.in_ok-top.top; value = c.in_ok-value.value })
    (ap (λ z. z.env) same) (c.in_ok-work-2.ensures ∙ ap (λ z. λ t. z.base t + need (tree_form c.args.tree.now) t) same) (c.in_ok-work.ensures ∙ ap (λ z. z.next + c.args.count) same) (ap (λ z. z.out) same)
    (c.in_ok-top.ensures ∙ ap (λ z. yes z.next) same) c.in_ok-value.ensures.value
