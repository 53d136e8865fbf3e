-- The output of `replay`.
use Rattle.std.specs.Prelude.{◌≡◌, ℕ, List, Option, Some, None}
use Rattle.csdn_core.specs.declared.program.Parts.{Parts}
use Rattle.csdn_core.specs.Network.{Network}
use Rattle.journal_text.specs.declared.note.Note.{Note}
use Rattle.replay_listing.specs.declared.listing.Ending.{Ending}
use Rattle.replay_listing.specs.declared.listing.Ending.TheVariants.{Closed, Ended, Differs}
use Rattle.replay_listing.specs.declared.refusals.Refused.{Refused}
use Rattle.replay_listing.specs.Journals.{noted}
use Rattle.replay_listing.specs.Refusals.{first_refused, refused_text}
use Rattle.replay_listing.specs.Replays.{IsReplay}
use Rattle.file_loads.specs.declared.read.FileKind.TheVariants.{Frames}
use Rattle.file_loads.specs.Answers.{Answer}
use Rattle.file_loads.specs.Writes.{Write}
use Rattle.file_loads.specs.Outputs.{Then}
use Rattle.file_loads.specs.Loads.{WithProgram, WithNotes, WithBytes}
use Rattle.file_loads.specs.Networks.{WithNetwork}

abbrev pub status_of : Ending → ℕ
status_of Closed = 0
status_of Ended = 3
status_of Differs = 3

-- What a session of these notes says to the bytes of its switch, and the status by how it ended.
pub record StreamOutput (P : Parts) (N : Network) (notes : List Note) (session : ℕ) (bytes text : List ℕ) (status : ℕ) : Type 0 where
  pub ending : Ending
  pub replay : IsReplay P N (noted notes) session bytes text ending
  pub status_is : status ≡ status_of ending

-- the note that can't be entered
abbrev pub IsRefusedNote : Refused → List ℕ → ℕ → Type 0
IsRefusedNote refused text status = (text ≡ refused_text refused) × (status ≡ 3)

-- The first note that can't be entered, and then no stream is read; or, where all can, what a session of them says to its stream.
pub data EntriesOutput (P : Parts) (N : Network) (session : ℕ) (stream : List ℕ) (notes : List Note) (answers : List Answer) (write : Option Write) (text : List ℕ) (status : ℕ) : Type 0 where
  has_refused : (refused : Refused) → first_refused P N 1 0 notes ≡ Some refused → Then (IsRefusedNote refused) answers write text status → EntriesOutput P N session stream notes answers write text status
  can_enter : first_refused P N 1 0 notes ≡ None → WithBytes Frames stream (λ bytes. Then (StreamOutput P N notes session bytes)) answers write text status → EntriesOutput P N session stream notes answers write text status

-- `replay PROGRAM NET JOURNAL SESSION STREAM`
abbrev pub ReplayOutput : List ℕ → List ℕ → List ℕ → ℕ → List ℕ → List Answer → Option Write → List ℕ → ℕ → Type 0
ReplayOutput name net journal session stream = WithProgram name (λ P. WithNetwork P net (λ N. WithNotes journal (EntriesOutput P N session stream)))
