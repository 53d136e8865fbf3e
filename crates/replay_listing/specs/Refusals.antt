-- The first note of a journal that is refused.
use Rattle.std.specs.Prelude.{ℕ, ◌+◌, nat_lt, if◌then◌else◌, List, [], ◌∷◌, ◌++◌, Option, Some, None, codes, decimal}
use Rattle.csdn_core.specs.declared.program.Parts.{Parts}
use Rattle.csdn_core.specs.Network.{Network}
use Rattle.csdn_run.specs.Standings.{is_declared}
use Rattle.journal_text.specs.declared.note.Note.{Note}
use Rattle.journal_text.specs.declared.note.Note.TheVariants.{Kept, Flow}
use Rattle.replay_listing.specs.declared.refusals.Refusal.{Refusal}
use Rattle.replay_listing.specs.declared.refusals.Refusal.TheVariants.{Stranger, Full}
use Rattle.replay_listing.specs.declared.refusals.Refused.{Refused}

-- how many entries a history may have
abbrev pub most_entries : ℕ
most_entries = 4194304

-- why a note is refused behind so many entries: its entry isn't declared, or there is no room for it
abbrev pub refusal_of : Parts → Network → ℕ → Note → Option Refusal
refusal_of P N count (Kept entry) = if is_declared P N entry then (if nat_lt count most_entries then None else Some Full) else Some Stranger
refusal_of P N count (Flow s a b i o) = None

-- how many entries a note is
abbrev pub entries_in : Note → ℕ
entries_in (Kept entry) = 1
entries_in (Flow s a b i o) = 0

abbrev pub refused_or : ℕ → Option Refusal → Option Refused → Option Refused
refused_or number None later = later
refused_or number (Some why) later = Some (record { number = number; why = why })

-- the first note that is refused, where the first of these has a number, and so many entries come before it
abbrev pub first_refused : Parts → Network → (number count : ℕ) → List Note → Option Refused
first_refused P N number count [] = None
first_refused P N number count (note ∷ notes) = refused_or number (refusal_of P N count note) (first_refused P N (number + 1) (count + entries_in note) notes)

abbrev pub words_of : Refusal → List ℕ
words_of Stranger = codes "stranger"
words_of Full = codes "full"

-- `entry J: stranger` or `entry J: full`
abbrev pub refused_text : Refused → List ℕ
refused_text r = codes "entry " ++ decimal r.number ++ codes ": " ++ words_of r.why ++ codes "\n"
