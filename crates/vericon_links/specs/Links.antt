-- What a link tells of the bytes that it took.
use Rattle.std.specs.Prelude.{◌≡◌, ℕ, ◌<◌, ◌≤◌, Bool, true, false, List, [], length, take, Option, Some, None, Result, Ok, Err}
use Rattle.vericon_edge.specs.declared.fault.Failed.{Failed}
use Rattle.vericon_edge.specs.Counts.{Rose}
use Rattle.vericon_edge.specs.Written.{Grown}
use Rattle.vericon_links.specs.declared.link.Got.{Got}
use Rattle.vericon_links.specs.declared.link.Got.TheVariants.{Bytes, Closed}

-- Of a read: the bytes taken before and after, what stands in the slice after it, whether the link was closed before and is after, and
-- the count of read faults before and after. The bytes taken are those at the front of the slice.
abbrev pub ReadAnswers : Option (List ℕ) → Option (List ℕ) → List ℕ → Bool → Bool → ℕ → ℕ → Result Got Failed → Type 0
ReadAnswers old new into closed closed' before now (Ok (Bytes n)) = (0 < n) × (n ≤ length into) × Grown old new (take n into) × (closed' ≡ closed) × (now ≡ before)
ReadAnswers old new into closed closed' before now (Ok Closed) = (new ≡ old) × (closed' ≡ true) × (now ≡ before)
ReadAnswers old new into closed closed' before now (Err fault) = (new ≡ old) × (closed' ≡ closed) × Rose before now

-- nothing is in the list, where it is told
abbrev pub IsEmptyWhereTold : Option (List ℕ) → Type 0
IsEmptyWhereTold None = Unit {0}
IsEmptyWhereTold (Some bytes) = bytes ≡ []

-- Of a link: the bytes taken, the bytes written, whether it is closed, whether it is shut, and the counts of read and write faults. It
-- was not used yet.
pub record IsUnused (taken written : Option (List ℕ)) (closed shut : Bool) (read_faults write_faults : ℕ) : Type 0 where
  pub none_taken : IsEmptyWhereTold taken
  pub none_written : IsEmptyWhereTold written
  pub open_yet : closed ≡ false
  pub held_yet : shut ≡ false
  pub no_read_fault : read_faults ≡ 0
  pub no_write_fault : write_faults ≡ 0

-- an answer gives at least one byte, and at most so many, or says that none come any more
abbrev pub GivesSome : ℕ → Got → Type 0
GivesSome room (Bytes n) = (0 < n) × (n ≤ room)
GivesSome room Closed = Unit {0}
