-- What a link in memory does.
use Rattle.std.specs.Prelude.{◌≡◌, ℕ, ◌⊎◌, ◌-◌, true, List, take, length, min, Result, Ok, Err}
use Rattle.vericon_edge.specs.declared.fault.Failed.{Failed}
use Rattle.vericon_edge.specs.FaultPlan.{IsNextDue}
use Rattle.vericon_links.specs.declared.link.Got.{Got}
use Rattle.vericon_links.specs.declared.link.Got.TheVariants.{Bytes, Closed}
use Rattle.vericon_links.specs.declared.mem_link.LinkScript.{LinkScript}
use Rattle.vericon_links.specs.declared.mem_link.MemLink.{MemLink}

-- what the link is to do
abbrev pub script_of : MemLink → LinkScript
script_of link = link.script

-- the bytes that were taken from it
abbrev pub taken_of : MemLink → List ℕ
taken_of link = take link.taken link.script.gives.items

-- how many bytes a read into a slice of this length gives
abbrev pub next_width : MemLink → ℕ → ℕ
next_width link room = min (min (length link.script.gives.items - link.taken) room) link.script.most_read

-- the next read fails: it is planned so, or the link is shut
abbrev pub ReadFails : MemLink → Type 0
ReadFails link = IsNextDue link.script.reads ⊎ (link.is_shut ≡ true)

-- the next write fails, whatever memory there is
abbrev pub WriteFails : MemLink → Type 0
WriteFails link = IsNextDue link.script.writes ⊎ (link.is_shut ≡ true)

-- an answer, where there is one, gives so many bytes, and says that none come any more where that is 0
abbrev pub Gives : ℕ → Result Got Failed → Type 0
Gives width (Ok (Bytes n)) = n ≡ width
Gives width (Ok Closed) = width ≡ 0
Gives width (Err fault) = Unit {0}
