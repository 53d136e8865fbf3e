use Rattle.std.proofs.Common.{ap, ◌∙◌, sym, arith}
use Rattle.shared_hall.proofs.Joins.{joins}
use Rattle.shared_hall.proofs.Rows.{takes_in}
use Rattle.shared_hall.proofs.hall.Hall.end.Goals as goal

pub join_seat-requires : goal.join_seat-requires
join_seat-requires c =
    let id = ap (λ h. h.id) c.self.view_is in (
      c.requires.keeper.0 ∙ sym id,
      ap (λ s. s.hall.id) c.other.view_is ∙ (ap (λ h. h.id) c.requires.other ∙ sym id),
      c.other.invariant.0,
      omega (arith, c.self.invariant.0),
      joins c.self.inside.table.shared.key c.args.keeper.now.id c.args.keeper.now.me.0 c.other.inside.seat.id c.other.inside.seat.me.0
          c.requires.keeper.1.idle c.requires.keeper.1.some_part c.other.invariant.1 (omega (arith, c.other.invariant.2)) c.other.invariant.3,
    )

pub returns-clause-took : goal.returns-clause-took
returns-clause-took c =
    takes_in c.args.keeper.now.me c.join_seat.new.seat.me c.other.inside.seat.me c.args.other.account c.requires.keeper.1 c.other.invariant.2
    (ap (λ s. s.account) c.other.view_is) c.join_seat.ensures.2
