use Rattle.std.proofs.Common.{◌∙◌, ap, List}
use Rattle.std.proofs.lemmas.Result.{IfOk-weaker}
use Rattle.std.specs.List.{flat_map}
use Rattle.net_structs.specs.declared.row.Row.{Row}
use Rattle.net_structs.specs.Networks.{in_order}
use Rattle.csdn_run.specs.Joins.{match_at}
use Rattle.csdn_run.specs.Places.{match_cmp}
use Rattle.csdn_run.proofs.Joining.{joined_is}
use Rattle.csdn_run.proofs.joins.matches_of.Goals as goal

pub returns : goal.returns
returns c =
    IfOk-weaker c.listed.result _ _
    (λ matches is.
    is ∙ c.in_ok-keys.ensures
    ∙ ap (λ (rows : List Row). in_order match_cmp (flat_map (match_at c.args.setting.now.network.now c.args.s) rows)) (c.as_slice.ensures ∙ c.in_ok-rows.ensures.rows)
    ∙ joined_is c.args.setting.now.network.now c.args.s c.args.state.now)
    c.listed.ensures
