-- Halls are shared among threads, and their seats go to other threads: `crossing` is what a search for that cites.
--
-- Programs hold formulas and commands, which are trees, and too much for one search: each type is shown by its fields.
use denote.RattleType.{RattleType}
use denote.Hole.{as_row}
use denote.Struct.Field.{row_field}
use denote.Param.Send.{IsSend, IsSync, view_send, view_sync, sendable}
use denote.Param.SendFields.{declared_send, declared_sync, as_row_send}
use Rattle.std.proofs.Crossing.{crosses}
use Rattle.std.proofs.option.Option.TheSendSync as OptionCrosses
use Rattle.std.proofs.alloc.Global.TheSendSync as GlobalCrosses
use Rattle.std.specs.contracts.option.Option as Option
use Rattle.sqlite_items.proofs.boxed.Boxed.TheSendSync as BoxedCrosses
use Rattle.sqlite_items.proofs.items.Items.TheSendSync as ItemsCross
use Rattle.sqlite_items.specs.contracts.items.Items as Items
use Rattle.atomic_table.proofs.shared.Seat.TheSendSync as SeatCrosses
use Rattle.atomic_table.proofs.owned.Table.TheSendSync as TableCrosses
use Rattle.csdn_core.proofs.syntax.Formula.TheLaws.TheKnot as FormulaKnot
use Rattle.csdn_core.proofs.syntax.Command.TheLaws.TheKnot as CommandKnot
use Rattle.csdn_core.proofs.terms.VarId.TheSendSync as VarIdCrosses
use Rattle.csdn_core.proofs.terms.Sort.TheSendSync as SortCrosses
use Rattle.csdn_core.proofs.terms.Term.TheSendSync as TermCrosses
use Rattle.csdn_core.proofs.terms.Terms.TheSendSync as TermsCross
use Rattle.csdn_core.proofs.terms.Pred.TheSendSync as PredCrosses
use Rattle.csdn_core.proofs.terms.RelId.TheSendSync as RelIdCrosses
use Rattle.csdn_core.proofs.program.Relation.TheSendSync as RelationCrosses
use Rattle.csdn_core.proofs.program.Constant.TheSendSync as ConstantCrosses
use Rattle.csdn_core.proofs.program.StartRow.TheSendSync as StartRowCrosses
use Rattle.csdn_core.specs.contracts.syntax.Formula as Formula
use Rattle.csdn_core.specs.contracts.syntax.Command as Command
use Rattle.csdn_core.specs.contracts.program.Handler as Handler
use Rattle.csdn_core.specs.contracts.program.Invariant as Invariant
use Rattle.csdn_core.specs.contracts.program.Parts as Parts
use Rattle.csdn_core.specs.contracts.program.Program as Program
use Rattle.csdn_core.specs.contracts.program.Program.TheInside as ProgramInside
use Rattle.net_structs.proofs.network.Network.TheSendSync as NetworkCrosses
use Rattle.csdn_history.proofs.entry.Entry.TheSendSync as EntryCrosses
use Rattle.csdn_run.proofs.standing.Kept.TheSendSync as KeptCrosses
use Rattle.csdn_run.specs.contracts.runtime.Runtime as Runtime
use Rattle.csdn_run.specs.contracts.runtime.Runtime.TheInside as RuntimeInside
use Rattle.shared_hall.specs.contracts.view.View as View
use Rattle.shared_hall.specs.contracts.hall.HallSeat as HallSeat
use Rattle.shared_hall.specs.contracts.hall.HallSeat.TheInside as HallSeatInside
use Rattle.shared_hall.specs.contracts.hall.Hall as Hall
use Rattle.shared_hall.specs.contracts.hall.Hall.TheInside as HallInside

ruleset plain = (sendable, crosses, as_row_send, BoxedCrosses.the_send, BoxedCrosses.the_sync, ItemsCross.the_send, OptionCrosses.the_send, VarIdCrosses.the_send, SortCrosses.the_send, TermCrosses.the_send, TermsCross.the_send, PredCrosses.the_send, RelIdCrosses.the_send)

-- a field whose type is no declared struct or enum
field_send : (R : RattleType) → IsSend R → IsSend (as_row (row_field R))
field_send R = as_row_send (row_field R)

-- ---- programs
formula_send : IsSend Formula.the_row
formula_send = search (plain, FormulaKnot.send-Formula) depth 40

command_send : IsSend Command.the_row
command_send = search (plain, formula_send, CommandKnot.send-Command) depth 40

invariant_send : IsSend Invariant.the_row
invariant_send = declared_send Invariant.the_type (search plain depth 40, (formula_send, tt))

handler_send : IsSend Handler.the_row
handler_send = declared_send Handler.the_type (search plain depth 40, (VarIdCrosses.the_send, (VarIdCrosses.the_send, (VarIdCrosses.the_send, (VarIdCrosses.the_send, (command_send, tt))))))

invariants_send : IsSend (as_row (row_field (Items.the_row Invariant.the_row)))
invariants_send = field_send (Items.the_row Invariant.the_row) (ItemsCross.the_send Invariant.the_row invariant_send)

handlers_send : IsSend (as_row (row_field (Items.the_row Handler.the_row)))
handlers_send = field_send (Items.the_row Handler.the_row) (ItemsCross.the_send Handler.the_row handler_send)

parts_send : IsSend Parts.the_row
parts_send = declared_send Parts.the_type (
  search (plain, RelationCrosses.the_send) depth 40,
  (
    search (plain, ConstantCrosses.the_send) depth 40,
    (
      search (plain, StartRowCrosses.the_send) depth 40,
      (invariants_send, (invariants_send, (invariants_send, (handlers_send, (search plain depth 40, (search plain depth 40, tt)))))),
    ),
  ),
)

pub program_send : IsSend Program.the_row
program_send = view_send _ _ _ _ _ (declared_send ProgramInside.the_type (parts_send, tt))

-- ---- runtimes
pub runtime_send : IsSend Runtime.the_row
runtime_send = view_send _ _ _ _ _ (declared_send RuntimeInside.the_type (
  GlobalCrosses.the_send,
  (program_send, (NetworkCrosses.the_send, (search sendable depth 20, (search (plain, EntryCrosses.the_send) depth 40, (KeptCrosses.the_send, tt))))),
))

-- ---- halls and seats
slot_send : IsSend (Option.the_row Runtime.the_row)
slot_send = OptionCrosses.the_send Runtime.the_row runtime_send

pub seat_send : IsSend HallSeat.the_row
seat_send = view_send _ _ _ _ _ (declared_send HallSeatInside.the_type (
  search sendable depth 20,
  (search sendable depth 20, (SeatCrosses.the_send (Option.the_row Runtime.the_row) View.the_row slot_send, tt)),
))

pub hall_sync : IsSync Hall.the_row
hall_sync = view_sync _ _ _ _ _ (declared_sync HallInside.the_type (search (TableCrosses.the_sync, slot_send, GlobalCrosses.the_sync, sendable, crosses) depth 40, (search (sendable, crosses) depth 40, tt)))

pub ruleset crossing = (seat_send, hall_sync, runtime_send, program_send, NetworkCrosses.the_send, sendable, crosses)
