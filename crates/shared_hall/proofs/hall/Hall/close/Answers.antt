use Rattle.std.proofs.Common.{vec_len, ap, arith}
use Rattle.shared_hall.proofs.Endings.{begins_closing, goes_on_closing, closes, nothing_left}
use Rattle.shared_hall.proofs.hall.Hall.close.Goals as goal

pub loop-other-init : goal.loop-other-init
loop-other-init c =
    begins_closing c.args.self c.args.seats.items c.pop.new.self.items c.in-Some.first c.first.inside.seat c.in-Some.ensures.items c.requires.0 c.requires.1
    (ap (λ s. s.hall.id) c.first.view_is)
    (record { slots = c.first.invariant.0; idle = c.first.invariant.1; some_part = omega (arith, c.first.invariant.2) })
    c.first.invariant.2
    (ap (λ s. s.account) c.first.view_is)

pub loop-other-preserved : goal.loop-other-preserved
loop-other-preserved c =
    goes_on_closing c.args.self c.args.seats.items c.loop-other.seats.items c.pop-in-loop-other.new.self.items c.in-Some-pop.other c.loop-other.keeper c.end.new.keeper
    c.loop-other.invariant c.in-Some-pop.ensures.items c.end.ensures.same c.end.ensures.took

pub returns : goal.returns
returns c =
    closes c.args.self c.args.seats.items c.loop-other.seats.items c.loop-other.keeper c.finish.result c.loop-other.invariant (nothing_left c.loop-other.seats.items c.pop-in-loop-other.new.self.items (vec_len c.loop-other.seats) c.in_default-pop.ensures.items c.in_default-pop.ensures.rest c.in_default-pop.ensures.cases.0) c.finish.ensures
