-- What a call has left in its sink.
use Rattle.std.specs.Prelude.{◌≡◌, ℕ, List, Option}
use Rattle.vericon_edge.specs.Counts.{Rose}
use Rattle.vericon_edge.specs.Written.{Grown, GrownByFront}
use Rattle.file_loads.specs.Lines.{memory_text}

-- Of a relation of outputs and statuses, the bytes written before and after, the count of the sink's faults before and after, and the status: an output whole; or the line `memory`; or, after a fault of the sink, a front of one of these.
pub data HasLeft (output : List ℕ → ℕ → Type 0) (old new : Option (List ℕ)) (before after status : ℕ) : Type 0 where
  whole : (text : List ℕ) → output text status → Grown old new text → after ≡ before → HasLeft output old new before after status
  no_memory : status ≡ 7 → Grown old new memory_text → after ≡ before → HasLeft output old new before after status
  cut : (text : List ℕ) (other : ℕ) → output text other → status ≡ 8 → GrownByFront old new text → Rose before after → HasLeft output old new before after status
  cut_memory : status ≡ 8 → GrownByFront old new memory_text → Rose before after → HasLeft output old new before after status

-- a text was written, and the status is the given one; or a fault cut it off
pub data Finishes (text : List ℕ) (given : ℕ) (old new : Option (List ℕ)) (before after status : ℕ) : Type 0 where
  all : status ≡ given → Grown old new text → after ≡ before → Finishes text given old new before after status
  front : status ≡ 8 → GrownByFront old new text → Rose before after → Finishes text given old new before after status
