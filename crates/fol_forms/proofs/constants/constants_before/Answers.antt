use Rattle.std.proofs.Common.{take, ap, arith}
use Rattle.fol_forms.specs.Constants.{one_if}
use Rattle.fol_forms.proofs.ConstantCounts.{counted_next, one_if-few}
use Rattle.fol_forms.proofs.constants.constants_before.Goals as goal

pub loop-constant-preserved : goal.loop-constant-preserved
loop-constant-preserved c =
    let first = take c.min.result c.args.constants.now in
    let d = c.constant-item.result in
    let more = counted_next c.args.sort first c.loop-constant.constant-index d c.loop-constant-test.true in
    let same = ap (λ z. one_if z.sort c.args.sort) c.constant-item.is in (
      omega (arith, c.loop-constant.invariant.0, one_if-few d.sort c.args.sort, c.one_if-count.ensures),
      omega (arith, c.loop-constant.invariant.1, more, same, c.one_if-count.ensures),
    )
