use Rattle.std.proofs.Common.{ap, ◌∙◌, sym, arith}
use Rattle.atomic_table.specs.Table.{step}
use mathlib.Core.Option.{none}
use Rattle.shared_hall.proofs.Calls.{passes_as}
use Rattle.shared_hall.proofs.hall.Hall.give.Goals as goal

pub fetch_add-requires : goal.fetch_add-requires
fetch_add-requires c =
    let e = c.exchange-taken.ensures in (
      e.0 ∙ (c.requires.table ∙ sym (ap (λ h. h.id) c.self.view_is)),
      omega (arith, c.self.invariant.0),
      passes_as c.self.inside.table.shared.key c.self.inside.table.shared.table_id.slots c.exchange-taken.new.seat.id c.args.seat.now.me c.exchange-taken.new.seat.me c.args.runtime (step c.self.inside.table.shared.table_id.slots 1 1 0 none) c.requires.turn e.3,
    )
