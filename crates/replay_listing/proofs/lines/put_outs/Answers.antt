use Rattle.std.proofs.Common.{refl, sym, subst, ℕ, List}
use Rattle.replay_listing.specs.Replays.{AreListed}
use Rattle.replay_listing.proofs.Cut.{listed_next}
use Rattle.replay_listing.proofs.lines.put_outs.Goals as goal

pub messages-preserved : goal.messages-preserved
messages-preserved c =
    subst (λ (l : List ℕ). AreListed c.args.sent.now l c.args.out.now.items c.put_out.new.out.items) (sym c.rest_from-rest.ensures)
    (listed_next c.args.sent.now c.messages.rest.now c.args.out.now.items c.messages.out.items c.put_out.new.out.items c.in-Frame.length c.messages.invariant (sym c.in-Frame.ensures.opening) (c.in-Frame.ensures.whole c.in-Frame.length refl).1 c.in_ok-put_out.ensures)
