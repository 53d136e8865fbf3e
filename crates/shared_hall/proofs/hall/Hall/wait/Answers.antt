use Rattle.std.proofs.Common.{ap, ◌∙◌, sym, subst, arith}
use Rattle.atomic_table.specs.Table.{step}
use mathlib.Core.Option.{none}
use Rattle.shared_hall.specs.Plays.{Mine}
use Rattle.shared_hall.specs.Turns.{IsWaiting}
use Rattle.shared_hall.proofs.Calls.{looks_as}
use Rattle.shared_hall.proofs.hall.Hall.wait.Goals as goal

pub load-requires : goal.load-requires
load-requires g c = (
  c.loop.invariant.0 ∙ (c.requires.table ∙ sym (ap (λ h. h.id) c.self.view_is)),
  omega (arith, c.self.invariant.0),
  looks_as c.self.inside.table.shared.key c.self.inside.table.shared.table_id.slots c.loop.seat.id c.loop.seat.me c.args.ticket (step c.self.inside.table.shared.table_id.slots 1 0 0 none)
      (let P : Mine → Type 0 = λ m. IsWaiting m c.args.ticket in subst P (sym c.loop.invariant.2) c.requires.waiting),
)
