use Rattle.std.proofs.Common.{ℕ, ◌≡◌, ◌≤◌, ◌+◌, ◌-◌, ◌%◌, length, ap, sym, ◌∙◌, arith}
use Rattle.of10_wire.proofs.Items.{from_none, from_more}
use Rattle.of10_wire.proofs.Widths.{one_fits, one_less}
use Rattle.of10_wire.proofs.lists.fixed_from.Goals as goal

pub loop-at-init : goal.loop-at-init
loop-at-init g c = (rw c.new-list.ensures.items (from_none g.P.Part.slots c.args.from c.args.bytes.now c.requires.from), c.requires.whole)

pub loop-at-preserved : goal.loop-at-preserved
loop-at-preserved g c =
    let w = g.P.FixedPart.WIDTH in
    let bytes = c.args.bytes.now in
    let here : c.WIDTH-at.result ≡ w = c.WIDTH-at.ensures in
    let left : (length bytes - c.loop-at.at) % w ≡ 0 = c.loop-at.invariant.1 in
    let fits : w ≤ length bytes - c.loop-at.at = one_fits (length bytes - c.loop-at.at) w (omega (arith, c.loop-at-test.true)) c.fixed_at.ensures.some left in
    let more : c.loop-at.at + c.WIDTH-at.result ≤ length bytes = omega (arith, fits, here, c.loop-at-test.true) in
    let next : length bytes - c.loop-at.at - w ≡ length bytes - (c.loop-at.at + c.WIDTH-at.result) = omega (arith, here) in (
      rw c.in_ok-push.ensures.items (from_more g.P.Part.slots c.args.from c.loop-at.list.items c.fixed_at.result c.loop-at.at c.WIDTH-at.result bytes c.loop-at.invariant.0 c.fixed_at.ensures.stand (c.fixed_at.ensures.width ∙ sym here) more),
      ap (λ (n : ℕ). n % w) (sym next) ∙ one_less (length bytes - c.loop-at.at) w fits c.fixed_at.ensures.some left,
    )
