use Rattle.std.proofs.Common.{ap, ◌∙◌, sym, arith}
use Rattle.std.specs.Prelude.{Some}
use Rattle.atomic_table.specs.Table.{step}
use mathlib.Core.Option.{none}
use Rattle.csdn_run.specs.Histories.{with_history}
use Rattle.shared_hall.proofs.Calls.{draws_as, holds_one}
use Rattle.shared_hall.proofs.hall.Hall.take.Goals as goal

pub fetch_add-ticket-requires : goal.fetch_add-ticket-requires
fetch_add-ticket-requires g c = (
  c.requires.table ∙ sym (ap (λ h. h.id) c.self.view_is),
  omega (arith, c.self.invariant.0),
  draws_as c.self.inside.table.shared.key c.self.inside.table.shared.table_id.slots c.args.seat.now.id c.args.seat.now.me (step c.self.inside.table.shared.table_id.slots 0 1 0 none) c.requires.idle,
)

pub exchange-requires : goal.exchange-requires
exchange-requires g c =
    let w = c.wait.ensures.turn in (
      c.wait.ensures.same.0 ∙ (c.fetch_add-ticket.ensures.0 ∙ (c.requires.table ∙ sym (ap (λ h. h.id) c.self.view_is))),
      (Some (with_history c.fetch_add-ticket.new.seat.me.0.opening w.history), holds_one c.wait.new.seat.me _ _ w.now),
    )
