use Rattle.std.proofs.Common.{◌≡◌, ◌++◌, ◌∙◌, ap, List, subst, IfOk}
use Rattle.csdn_core.specs.declared.syntax.Formula.{Formula}
use Rattle.csdn_conditions.specs.declared.lists.Join.TheVariants.{And}
use Rattle.csdn_conditions.specs.Lists.{joined}
use Rattle.csdn_conditions.specs.Conditions.{formulas, all_after}
use Rattle.csdn_conditions.proofs.Rooms.{joined_in_room, conjunction_refused_by}
use Rattle.csdn_conditions.proofs.after.all_after.Goals as goal

pub returns-in_err-_left : goal.returns-in_err-_left
returns-in_err-_left c =
    conjunction_refused_by (all_after c.args.program.now c.args.level (formulas c.args.invariants.now)) _ c.from_residual.result c.in_err-_left.ensures.left c.from_residual.ensures.1

pub returns : goal.returns
returns c =
    let all : List Formula = all_after c.args.program.now c.args.level (formulas c.args.invariants.now) in
    let members : c.push_all.new.members ≡ all = c.in_ok-_left.ensures.added ∙ ap (λ (z : List Formula). z ++ all) c.new-members.ensures in
    rw c.or_memory.ensures
    (joined_in_room And all c.in_ok-_left._left c.joined.result c.in_ok-_left.ensures.left
    (subst (λ (z : List Formula). IfOk c.joined.result (λ p. p ≡ joined And z)) members c.joined.ensures))
