-- What a run has left in its sink, and when its last statuses come.
use Rattle.std.specs.Prelude.{◌≡◌, ℕ, ◌⊎◌, true, List, Option, Some}
use Rattle.vericon_edge.specs.Counts.{Rose}
use Rattle.vericon_edge.specs.Written.{GrownByFront}
use Rattle.command_words.specs.Call.{Call}
use Rattle.vericon_app.specs.Left.{HasLeft}
use Rattle.vericon_run.specs.Runs.{ListenerView}
use Rattle.vericon_run.specs.Words.{sessions_of}

-- .. as any call leaves it; or, where there was no memory once sessions were served, a front of an output
pub data HasRunLeft (output : List ℕ → ℕ → Type 0) (old new : Option (List ℕ)) (before after status : ℕ) : Type 0 where
  has_left : HasLeft output old new before after status → HasRunLeft output old new before after status
  is_short : (text : List ℕ) (other : ℕ) → output text other → status ≡ 7 → GrownByFront old new text → after ≡ before → HasRunLeft output old new before after status

-- as many sessions came as the call asks for
pub record CameAll (asked : Option Call) (l : ListenerView) : Type 0 where
  pub call : Call
  pub asked_is : asked ≡ Some call
  pub came : l.came ≡ sessions_of call

-- Of what the listener tells before and after, the sink's count of faults before and after, and the status: it is 0 only where no count rose, and all
-- sessions came or no more come; 9 only where the listener failed, and the sink didn't; 8 only where the sink did.
pub record HasCause (asked : Option Call) (l l' : ListenerView) (before after status : ℕ) : Type 0 where
  pub done : status ≡ 0 → (l'.faults ≡ l.faults) × (after ≡ before) × (CameAll asked l' ⊎ (l'.ended ≡ true))
  pub listen_fault : status ≡ 9 → Rose l.faults l'.faults × (after ≡ before)
  pub write_fault : status ≡ 8 → Rose before after
