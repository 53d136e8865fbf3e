-- What formulas speak of.
use Rattle.std.specs.Prelude.{not, ◌&&◌, List, Option, Some, None, option_copied}
use Rattle.csdn_core.specs.Truth.{Structure}
use Rattle.csdn_core.specs.Network.{State, structure}
use Rattle.net_structs.specs.declared.row.Row.{Row}
use Rattle.net_structs.specs.declared.view.View.{View}
use Rattle.net_structs.specs.Rows.{held}

-- the first state, without what is in the second
abbrev pub but : State → State → State
but x y = λ r cells. x r cells && not (y r cells)

-- the state of these rows, without those that are taken out
abbrev pub held_without : List Row → Option (List Row) → State
held_without rows None = held rows
held_without rows (Some gone) = but (held rows) (held gone)

-- the state that a view shows
abbrev pub shown : View → State
shown view = held_without view.state.now (option_copied view.gone)

-- the structure that a program's network, the state shown and the packet make
abbrev pub world : View → Structure
world view = structure view.program.now view.network.now (shown view) view.packet.now
