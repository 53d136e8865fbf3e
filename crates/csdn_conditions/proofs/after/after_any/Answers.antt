use Rattle.std.proofs.Common.{ap₂, sym, subst, ◌∙◌}
use Rattle.csdn_core.specs.declared.syntax.Formula.{Formula}
use Rattle.csdn_core.specs.Tree.{conjunction}
use Rattle.fol_forms.specs.Limits.{most_nodes}
use Rattle.csdn_wp.specs.EventPreconditions.{wp_in}
use Rattle.csdn_wp.specs.Makes.{Makes}
use Rattle.csdn_conditions.specs.Conditions.{after_rules}
use Rattle.csdn_conditions.proofs.Growth.{refused_by_part, fewer_left, fewer_right, any_is}
use Rattle.csdn_conditions.proofs.after.after_any.Goals as goal

pub returns-in_err-packet : goal.returns-in_err-packet
returns-in_err-packet c =
    let P = c.args.program.now in
    let q = c.args.formula.now in
    subst (λ (p : Formula). Makes most_nodes p c.from_residual.result) (sym (any_is P q))
    (refused_by_part most_nodes (wp_in P q) (conjunction (wp_in P q) (after_rules P q)) _ c.from_residual.result (fewer_left (wp_in P q) (after_rules P q)) c.in_err-packet.ensures c.from_residual.ensures.1)

pub returns-in_err-later : goal.returns-in_err-later
returns-in_err-later c =
    let P = c.args.program.now in
    let q = c.args.formula.now in
    subst (λ (p : Formula). Makes most_nodes p c.from_residual-in_err-later.result) (sym (any_is P q))
    (refused_by_part most_nodes (after_rules P q) (conjunction (wp_in P q) (after_rules P q)) _ c.from_residual-in_err-later.result (fewer_right (wp_in P q) (after_rules P q)) c.in_err-later.ensures c.from_residual-in_err-later.ensures.1)

pub returns : goal.returns
returns c =
    subst (λ (p : Formula). Makes most_nodes p c.both.result) (ap₂ conjunction c.in_ok-packet.ensures.0 c.in_ok-later.ensures.0 ∙ sym (any_is c.args.program.now c.args.formula.now)) c.both.ensures
