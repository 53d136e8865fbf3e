use Rattle.std.proofs.Common.{subst}
use Rattle.std.proofs.lemmas.Result.{IfOk-weaker}
use Rattle.ground_inst.specs.Walk.{scope, ways_of}
use Rattle.copy_truth.specs.Early.{AreColumns}
use Rattle.copy_truth.proofs.OpenTuples.{rows_elsewhere}
use Rattle.copy_truth.proofs.misses.used_misses.Goals as goal

pub returns : goal.returns
returns c =
    IfOk-weaker c.row_candidates.result _ _ (λ missed h.
    rows_elsewhere c.args.r.now (scope c.args.env.now) c.args.relation c.args.used.now c.args.terms.now c.requires c.args.x c.args.within missed
    (subst (AreColumns (ways_of c.args.r.now.names) (scope c.args.env.now) c.args.terms.now) c.as_slice.ensures (c.are_columns.ensures c.if-not-are_columns.false)) h) c.row_candidates.ensures
