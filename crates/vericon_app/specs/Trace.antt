-- The output of `trace`.
use Rattle.std.specs.Prelude.{◌≡◌, ℕ, List, Option}
use Rattle.csdn_core.specs.declared.program.Parts.{Parts}
use Rattle.net_structs.specs.declared.case.Case.{Case}
use Rattle.journal_text.specs.declared.note.Note.{Note}
use Rattle.trace_listing.specs.declared.trace.Ending.{Ending}
use Rattle.trace_listing.specs.declared.trace.Ending.TheVariants.{Unbroken, Broken, Stopped}
use Rattle.trace_listing.specs.Traces.{IsTrace, start_of}
use Rattle.file_loads.specs.Answers.{Answer}
use Rattle.file_loads.specs.Writes.{Write}
use Rattle.file_loads.specs.Outputs.{Then}
use Rattle.file_loads.specs.Loads.{WithProgram, WithCase, WithNotes}

abbrev pub status_of : Ending → ℕ
status_of Unbroken = 0
status_of Broken = 1
status_of Stopped = 3

-- The trace of notes in a case, from its state or from the initial one, and the status by its ending.
pub record NotesOutput (P : Parts) (kase : Case) (notes : List Note) (text : List ℕ) (status : ℕ) : Type 0 where
  pub ending : Ending
  pub trace : IsTrace P kase.network (start_of P kase.network kase.state) notes text ending
  pub status_is : status ≡ status_of ending

-- `trace PROGRAM NET JOURNAL`
abbrev pub TraceOutput : List ℕ → List ℕ → List ℕ → List Answer → Option Write → List ℕ → ℕ → Type 0
TraceOutput name net journal = WithProgram name (λ P. WithCase P net (λ kase. WithNotes journal (λ notes. Then (NotesOutput P kase notes))))
