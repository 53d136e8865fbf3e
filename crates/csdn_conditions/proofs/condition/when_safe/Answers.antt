use Rattle.std.proofs.Common.{◌≡◌, ◌∙◌, ap, subst, List, Err}
use Rattle.csdn_core.specs.declared.syntax.Formula.{Formula}
use Rattle.csdn_core.specs.declared.program.Invariant.{Invariant}
use Rattle.csdn_core.specs.Tree.{conjunction}
use Rattle.fol_forms.specs.Limits.{most_nodes}
use Rattle.csdn_wp.specs.Makes.{Makes}
use Rattle.csdn_conditions.specs.Lists.{conjunction_of}
use Rattle.csdn_conditions.specs.Conditions.{formulas, all_after, topology, safe_for}
use Rattle.csdn_conditions.proofs.Growth.{refused_by_part, fewer_left, fewer_right}
use Rattle.csdn_conditions.proofs.condition.when_safe.Goals as goal

pub returns-in_err-topology : goal.returns-in_err-topology
returns-in_err-topology c =
    let P = c.args.program.now in
    refused_by_part most_nodes (topology P) (conjunction (topology P) (safe_for P c.args.level)) _ c.from_residual.result (fewer_left (topology P) (safe_for P c.args.level)) c.in_err-topology.ensures
    c.from_residual.ensures.1

pub returns-in_err-safe : goal.returns-in_err-safe
returns-in_err-safe c =
    let P = c.args.program.now in
    let safe : Formula = safe_for P c.args.level in
    let invariants : c.as_slice.result.now ≡ P.safety = c.as_slice.ensures ∙ ap (λ p. p.safety) c.parts-parts.ensures.value in
    let why : Makes most_nodes safe (Err c.in_err-safe.field-0.0) =
    subst (λ (z : List Invariant). Makes most_nodes (conjunction_of (all_after P c.args.level (formulas z))) (Err c.in_err-safe.field-0.0)) invariants c.in_err-safe.ensures in
    refused_by_part most_nodes safe (conjunction (topology P) safe) _ c.from_residual-in_err-safe.result (fewer_right (topology P) safe) why c.from_residual-in_err-safe.ensures.1
