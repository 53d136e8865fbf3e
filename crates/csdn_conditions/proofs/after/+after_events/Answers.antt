use Rattle.std.proofs.Common.{◌-◌, ◌∙◌, sym, ap, subst}
use Rattle.csdn_core.specs.declared.syntax.Formula.{Formula}
use Rattle.fol_forms.specs.Limits.{most_nodes}
use Rattle.csdn_wp.specs.Makes.{Makes}
use Rattle.csdn_conditions.specs.Conditions.{after_any, after_events}
use Rattle.csdn_conditions.proofs.Growth.{refused_by_part, grows-any, one_more}
use Rattle.csdn_conditions.proofs.after.+after_events.Goals as goal

pub returns-in_err-before : goal.returns-in_err-before
returns-in_err-before t c =
    let P = c.args.program.now in
    let before : Formula = after_events P (c.args.count - 1) c.args.formula.now in
    subst (λ (p : Formula). Makes most_nodes p c.from_residual.result) (sym (one_more P c.args.count c.args.formula.now c.if-count-eq0.false))
    (refused_by_part most_nodes before (after_any P before) _ c.from_residual.result (grows-any P before) c.in_err-before.ensures c.from_residual.ensures.1)

pub returns : goal.returns
returns t c =
    let P = c.args.program.now in
    subst (λ (p : Formula). Makes most_nodes p c.after_any.result) (ap (after_any P) c.in_ok-before.ensures.0 ∙ sym (one_more P c.args.count c.args.formula.now c.if-count-eq0.false))
    c.after_any.ensures
