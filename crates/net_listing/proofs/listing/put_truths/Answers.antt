use Rattle.std.proofs.Common.{◌∙◌, ◌≤◌}
use Rattle.csdn_core.specs.Network.{structure}
use Rattle.csdn_core.specs.Depth.{depth}
use Rattle.net_structs.specs.Rows.{held}
use Rattle.net_listing.proofs.Turns.{one_more, all_left}
use Rattle.net_listing.proofs.listing.put_truths.Goals as goal

pub invariants-preserved : goal.invariants-preserved
invariants-preserved c = (
  one_more c.args.kind.now (structure c.args.program.now c.args.network.now (held c.args.state.now) c.args.packet.now) c.invariants.rest.now c.invariant-item.result c.invariants.out.items c.put_truth.new.out.items _
      c.in-len1-up.len_at_least c.invariant-item.is c.in_ok-put_truth.ensures.text c.invariants.invariant.0,
  c.in_ok-put_truth.ensures.env ∙ c.invariants.invariant.1,
  all_left (λ v. depth v.formula ≤ 24) c.invariants.rest.now c.invariants.invariant.2,
)
