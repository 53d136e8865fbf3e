use Rattle.std.proofs.Common.{◌≡◌, ◌∙◌, ap, length, arith}
use Rattle.csdn_conditions.proofs.StartMade.{length-binds_from}
use Rattle.csdn_conditions.proofs.start.holds_rows.Goals as goal

pub holds_rows_under-requires : goal.holds_rows_under-requires
holds_rows_under-requires c =
    let many : length c.as_slice.result.now ≡ length c.args.sorts.now =
    ap length (c.as_slice.ensures ∙ c.in_ok-binds.ensures) ∙ length-binds_from 0 c.args.sorts.now in
    omega (arith, many, c.requires)
