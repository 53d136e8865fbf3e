use Rattle.std.proofs.Common.{◌≡◌, ◌∙◌, length, List, arith, ap}
use Rattle.csdn_core.specs.Nodes.{nodes}
use Rattle.net_structs.specs.declared.env.Pair.{Pair}
use Rattle.fol_forms.proofs.Capped.{within}
use Rattle.condition_listing.proofs.Depths.{depth_within}
use Rattle.condition_listing.proofs.judgement.is_true.Goals as goal

pub truth-is_true-requires : goal.truth-is_true-requires
truth-is_true-requires c =
    let pairs = ap (λ (ps : List Pair). length ps) c.in_ok-env.ensures.pairs in
    let count : c.node_count.result ≡ nodes c.args.formula.now = c.node_count.ensures ∙ within (nodes c.args.formula.now) (omega (arith, c.requires)) in
    let deep = depth_within c.args.formula.now in
    omega (arith, pairs, count, deep, c.in_ok-env.ensures.room)
