-- Rows of a program put into a state, one after another.
use Rattle.std.specs.Prelude.{List, [], ◌∷◌}
use Rattle.csdn_core.specs.declared.terms.Pred.TheVariants.{Stored}
use Rattle.csdn_core.specs.declared.program.Parts.{Parts}
use Rattle.csdn_core.specs.declared.program.StartRow.{StartRow}
use Rattle.csdn_core.specs.Truth.{Assignment}
use Rattle.csdn_core.specs.Network.{Network, State}
use Rattle.csdn_core.specs.Execution.{put, tuple}

abbrev pub started : Parts → Network → Assignment → List StartRow → State → State
started P N e [] x = x
started P N e (row ∷ rows) x = started P N e rows (put x (Stored row.rel) (tuple P N row.terms e x))
