use Rattle.std.proofs.Common.{sym, subst}
use Rattle.shared_hall.specs.Halls.{SeatView}
use Rattle.session_entries.specs.Additions.{Keeps}
use Rattle.session_entries.proofs.Adding.{keeps_nothing}
use Rattle.session_entries.proofs.entries.SeatEntries.new.Goals as goal

pub invariant_of-result : goal.invariant_of-result
invariant_of-result g c = record {
  here = c.requires.here;
  few = c.requires.few;
  keeps = subst (λ (v : SeatView). Keeps c.args.hall.now.opening c.args.session v.account c.args.seat.now.account) (sym c.of-begun.ensures) (keeps_nothing c.args.hall.now.opening c.args.session c.args.seat.now.account);
}
