-- What a runtime is seen as, and which entries it refuses.
use Rattle.std.specs.Prelude.{◌≡◌, ℕ, ◌≤◌, if◌then◌else◌, List, length, nat_lt, Option, Some, None, Result, Ok, Err}
use Rattle.csdn_core.specs.declared.program.Parts.{Parts}
use Rattle.csdn_core.specs.Network.{IsNetwork, Network}
use Rattle.net_structs.specs.Networks.{IsServable}
use Rattle.csdn_history.specs.declared.entry.Entry.{Entry}
use Rattle.csdn_run.specs.declared.runtime.RunRefusal.{RunRefusal}
use Rattle.csdn_run.specs.declared.runtime.RunRefusal.TheVariants.{Stranger, HistoryFull, Memory}
use Rattle.csdn_run.specs.declared.standing.Kept.{Kept}
use Rattle.csdn_run.specs.Standings.{after, is_declared}
use Rattle.csdn_run.specs.Sights.{standing_of}

-- a program over a network, with what was entered so far
pub record Running : Type 0 where
  pub program : Parts
  pub network : Network
  -- how many entries the history may have
  pub room : ℕ
  pub history : List Entry

abbrev pub running : Parts → Network → ℕ → List Entry → Running
running P N room entries = record { program = P; network = N; room = room; history = entries }

abbrev pub with_history : Running → List Entry → Running
with_history r entries = running r.program r.network r.room entries

-- what a runtime keeps is what its history leads to
pub record Stands (r : Running) (kept : Kept) : Type 0 where
  pub standing : standing_of kept ≡ after r.program r.network r.history
  pub count : kept.count ≡ length r.history
  pub room : length r.history ≤ r.room
  pub most : r.room ≤ 4194304
  pub network : IsNetwork r.program r.network
  pub servable : IsServable r.network

-- why an entry is refused, where it is not for want of memory
abbrev pub first_refusal : Running → Entry → Option RunRefusal
first_refusal r entry = if is_declared r.program r.network entry then (if nat_lt (length r.history) r.room then None else Some HistoryFull) else Some Stranger

-- an answer or want of memory where nothing is to be refused, and else the first refusal
abbrev pub IsRunAnswer : {X : Type 0} → Option RunRefusal → Result X RunRefusal → Type 0
IsRunAnswer first (Ok answer) = first ≡ None
IsRunAnswer first (Err Memory) = first ≡ None
IsRunAnswer first (Err why) = first ≡ Some why
