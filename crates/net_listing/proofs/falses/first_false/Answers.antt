use Rattle.std.proofs.Common.{◌≤◌, ◌∙◌, sym, ap, Some, List, ℕ}
use Rattle.csdn_core.specs.Network.{structure}
use Rattle.csdn_core.specs.Depth.{depth}
use Rattle.net_structs.specs.Rows.{held}
use Rattle.net_listing.proofs.Turns.{all_left}
use Rattle.net_listing.proofs.FirstFalse.{found, passed}
use Rattle.net_listing.proofs.falses.first_false.Goals as goal

pub returns-then-not-is_true-clause-name : goal.returns-then-not-is_true-clause-name
returns-then-not-is_true-clause-name c =
    let M = structure c.args.program.now c.args.network.now (held c.args.state.now) c.args.packet.now in
    ap (λ (n : List ℕ). Some n) c.as_slice.ensures
    ∙ found M c.invariants.rest.now c.invariant-item.result c.in-len1-up.len_at_least c.invariant-item.is (sym c.is_true.ensures.value ∙ c.if-not-is_true.true) ∙ c.invariants.invariant.0

pub invariants-preserved : goal.invariants-preserved
invariants-preserved c =
    let M = structure c.args.program.now c.args.network.now (held c.args.state.now) c.args.packet.now in (
      passed M c.invariants.rest.now c.invariant-item.result c.in-len1-up.len_at_least c.invariant-item.is (sym c.is_true.ensures.value ∙ c.if-not-is_true.false) ∙ c.invariants.invariant.0,
      c.is_true.ensures.env ∙ c.invariants.invariant.1,
      all_left (λ v. depth v.formula ≤ 24) c.invariants.rest.now c.invariants.invariant.2,
    )
