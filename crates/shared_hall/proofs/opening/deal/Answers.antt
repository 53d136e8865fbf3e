use Rattle.std.proofs.Common.{◌≡◌, ◌+◌, ◌-◌, ap, ◌∙◌, sym, arith}
use Rattle.shared_hall.proofs.Rows.{deals, deals_on, given_fresh, one_more}
use Rattle.shared_hall.specs.Halls.{fresh, fresh_seats}
use Rattle.shared_hall.proofs.opening.deal.Goals as goal

pub split_seat-next-requires : goal.split_seat-next-requires
split_seat-next-requires c = (
  c.loop-number.invariant.0 ∙ sym (ap (λ h. h.id) c.hall.view_is),
  omega (arith, c.hall.invariant.0),
  deals c.hall.inside.table.shared.key c.loop-number.seat.id c.args.hall.now.opening c.args.hall.now.seats c.loop-number.number c.loop-number.seat.me c.loop-number.invariant.1 (omega (arith, c.requires.seats.0)),
)

pub made-requires : goal.made-requires
made-requires c = (
  c.split_seat-next.ensures.3 ∙ c.loop-number.invariant.0,
  given_fresh c.args.hall.now.opening c.args.hall.now.seats c.loop-number.number c.loop-number.seat.me c.split_seat-next.result.me c.loop-number.invariant.1 c.split_seat-next.ensures.4,
)

pub loop-number-preserved : goal.loop-number-preserved
loop-number-preserved c = (
  c.split_seat-next.ensures.0 ∙ c.loop-number.invariant.0,
  deals_on c.args.hall.now.opening c.args.hall.now.seats c.loop-number.number c.loop-number.seat.me c.split_seat-next.new.seat.me c.loop-number.invariant.1 c.split_seat-next.ensures.2,
  one_more c.args.hall.now c.loop-number.number c.loop-number.row.items c.push_reserved.new.self.items c.made.result c.loop-number.invariant.2 c.made.ensures c.push_reserved.ensures.items,
  omega (arith, c.push_reserved.ensures.capacity, c.loop-number.invariant.3),
  omega (arith, c.push_reserved.ensures.len, c.loop-number.invariant.4),
)

pub returns-clause-row : goal.returns-clause-row
returns-clause-row c =
    let seats : (c.args.seats - 1) + 1 ≡ c.args.seats = omega (arith, c.requires.seats.1) in
    let last : c.loop-number.number ≡ c.args.seats - 1 = omega arith in
    one_more c.args.hall.now c.loop-number.number c.loop-number.row.items c.push_reserved-2.new.self.items c.made-2.result c.loop-number.invariant.2
    (c.made-2.ensures ∙ ap (fresh c.args.hall.now) (sym last)) c.push_reserved-2.ensures.items
    ∙ ap (fresh_seats c.args.hall.now) (ap (λ n. n + 1) last ∙ seats)
