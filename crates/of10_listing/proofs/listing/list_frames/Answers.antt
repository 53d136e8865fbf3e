use Rattle.std.proofs.Common.{ℕ, List, sym, subst, arith}
use Rattle.of10_listing.specs.Listings.{IsKept}
use Rattle.of10_listing.proofs.Goes.{starts, kept, near, ended, length_left, place_is}
use Rattle.of10_listing.proofs.listing.list_frames.Goals as goal

pub frames-init : goal.frames-init
frames-init c = (omega arith, subst (λ (l : List ℕ). IsKept c.args.bytes.now 0 c.args.bytes.now l) (sym c.new-text.ensures.items) (starts c.args.bytes.now))

pub frames-smaller : goal.frames-smaller
frames-smaller c =
    let f = rw c.in-Ok.is at c.in_ok-line.ensures in
    omega (arith, length_left c.in-Ok.line.length c.frames.rest.now, f.long, f.within)

pub frames-preserved : goal.frames-preserved
frames-preserved c =
    let f = rw c.in-Ok.is at c.in_ok-line.ensures in
    let next = kept _ _ _ _ _ _ f c.in_ok-put_message_line-in-Ok.ensures c.frames.invariant.1 in
    (place_is _ _ _ _ next, next)

pub put_tail_line-requires : goal.put_tail_line-requires
put_tail_line-requires c =
    let t = rw c.in-Err.is at c.in_ok-line.ensures in
    near _ _ _ _ _ (omega arith) t c.frames.invariant.1

pub returns-in-Err : goal.returns-in-Err
returns-in-Err c =
    let t = rw c.in-Err.is at c.in_ok-line.ensures in
    ended _ _ _ _ _ _ _ c.frames.invariant.1 t c.in_ok-put_tail_line-in-Err.ensures c.is_whole.ensures
