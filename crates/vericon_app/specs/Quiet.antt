-- Calls that no fault disturbs.
use Rattle.std.specs.Prelude.{◌≡◌, ℕ, ◌<◌, ◌-◌, ◌^◌, List, Option}
use Rattle.vericon_edge.specs.Written.{Grown}
use Rattle.command_words.specs.Call.{Call}
use Rattle.file_loads.specs.Lines.{memory_text}
use Rattle.file_loads.specs.Views.{Change, calm}
use Rattle.file_loads.specs.Explained.{IsExplained}
use Rattle.vericon_app.specs.Calls.{files_named}
use Rattle.vericon_app.specs.Output.{MayPrint, Output}

-- Of the files before and after a call, and the sink's count of faults before and after: no fault of reading or writing was counted, and the counts could have risen.
pub record IsUndisturbed (change : Change) (before after : ℕ) : Type 0 where
  pub no_read_fault : change.after.read_faults ≡ change.before.read_faults
  pub reads_counted : change.before.read_faults < 2 ^ 64 - 1
  pub no_file_fault : change.after.write_faults ≡ change.before.write_faults
  pub files_counted : change.before.write_faults < 2 ^ 64 - 1
  pub no_write_fault : after ≡ before
  pub writes_counted : before < 2 ^ 64 - 1

-- Where the output of `run` is this, an output that the files explain without a fault was written whole; or the line `memory` was.
pub data IsAnswered (run : Call → MayPrint) (asked : Option Call) (change : Change) (old new : Option (List ℕ)) (status : ℕ) : Type 0 where
  answers : (text : List ℕ) → IsExplained (calm change) (files_named asked) (Output run asked) text status → Grown old new text → IsAnswered run asked change old new status
  wants_memory : status ≡ 7 → Grown old new memory_text → IsAnswered run asked change old new status
