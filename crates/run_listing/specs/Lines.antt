-- What is printed of a run.
use Rattle.std.specs.Prelude.{ℕ, ◌+◌, ◌*◌, Bool, if◌then◌else◌, List, [], ◌∷◌, ◌++◌, length, map, slice_get, Option, Some, None, codes, decimal}
use Rattle.std.specs.List.{flat_map, range_with_len}
use Rattle.csdn_history.specs.declared.entry.Entry.{Entry}
use Rattle.journal_text.specs.declared.note.Note.{Note}
use Rattle.journal_text.specs.declared.note.Note.TheVariants.{Kept}
use Rattle.journal_text.specs.JournalText.{journal_text}
use Rattle.of10_listing.specs.Lines.{why_name}
use Rattle.link_sessions.specs.declared.ends.Ended.{Ended}
use Rattle.link_sessions.specs.declared.ends.SessionEnd.{SessionEnd}
use Rattle.link_sessions.specs.declared.ends.SessionEnd.TheVariants.{Closed, ReadFault, WriteFault, Wire, Incompatible, OutOfTurn, UnknownSwitch, HistoryFull, StreamFull, Memory}
use Rattle.session_workers.specs.declared.row.Row.{Row}
use Rattle.session_workers.specs.Endings.{longest}

-- END
abbrev pub end_words : SessionEnd → List ℕ
end_words Closed = codes "closed"
end_words ReadFault = codes "read fault"
end_words WriteFault = codes "write fault"
end_words (Wire at why) = codes "wire " ++ decimal at ++ codes " " ++ why_name why
end_words Incompatible = codes "incompatible"
end_words (OutOfTurn at) = codes "out of turn " ++ decimal at
end_words (UnknownSwitch s) = codes "unknown switch " ++ decimal s
end_words HistoryFull = codes "history full"
end_words StreamFull = codes "stream full"
end_words Memory = codes "memory"

-- `session N END ignored M`
abbrev pub session_line : ℕ → Ended → List ℕ
session_line number ended = codes "session " ++ decimal number ++ codes " " ++ end_words ended.end ++ codes " ignored " ++ decimal ended.ignored ++ codes "\n"

abbrev pub line_where : ℕ → Option Ended → List ℕ
line_where number None = []
line_where number (Some ended) = session_line number ended

-- a line for the session of each seat before which the seat had so many, from a number on
abbrev pub round_lines : ℕ → ℕ → List Row → List ℕ
round_lines before number [] = []
round_lines before number (row ∷ rows) = line_where number (slice_get row.ends.items before) ++ round_lines before (number + 1) rows

-- The lines of all sessions, in the order of their numbers: the first of each seat, then the second of each, and so on.
abbrev pub session_lines : List Row → List ℕ
session_lines rows = flat_map (λ before. round_lines before (1 + length rows * before) rows) (range_with_len 0 (longest rows))

abbrev pub notes_of : List Entry → List Note
notes_of entries = map (λ entry. Kept entry) entries

-- the sessions, the history as a journal, and `listen fault` where the listener failed
abbrev pub run_text : List Row → List Entry → Bool → List ℕ
run_text rows history is_faulted = session_lines rows ++ journal_text (notes_of history) ++ (if is_faulted then codes "listen fault\n" else [])
