-- How a history answers the asks of a session.
use Rattle.std.specs.Prelude.{ℕ, ◌==◌, Bool, false, ◌&&◌, List, map}
use Rattle.csdn_core.specs.declared.program.Parts.{Parts}
use Rattle.csdn_core.specs.Network.{Network}
use Rattle.csdn_history.specs.declared.entry.Entry.{Entry}
use Rattle.csdn_history.specs.declared.entry.Entry.TheVariants as entry
use Rattle.csdn_run.specs.Sessions.{entries_of, replies}
use Rattle.csdn_run.specs.Standings.{is_declared}
use Rattle.of10_session.specs.declared.turn.Ask.{Ask}
use Rattle.of10_session.specs.declared.turn.Ask.TheVariants.{Join, Packet, Expire}
use Rattle.of10_speech.specs.Speeches.{Speech, Told, IsSpoken}

-- the entry that an ask makes for a seat and a session
abbrev pub entry_of : (seat session : ℕ) → Ask → Entry
entry_of seat session (Join s) = entry.Join seat session s
entry_of seat session (Packet s a b i) = entry.Packet seat session s a b i
entry_of seat session (Expire s a b i cookie) = entry.Expire seat session s a b i cookie

-- the ask that an entry answers
abbrev pub ask_of : Entry → Ask
ask_of (entry.Join seat session s) = Join s
ask_of (entry.Packet seat session s a b i) = Packet s a b i
ask_of (entry.Expire seat session s a b i cookie) = Expire s a b i cookie

abbrev pub same_ask : Ask → Ask → Bool
same_ask (Join s) (Join t) = s == t
same_ask (Packet s a b i) (Packet t c d j) = (s == t) && ((a == c) && ((b == d) && (i == j)))
same_ask (Expire s a b i cookie) (Expire t c d j mark) = (s == t) && ((a == c) && ((b == d) && ((i == j) && (cookie == mark))))
same_ask _ _ = false

-- an ask is declared as its entry is, whatever the seat and the session
abbrev pub declares : Parts → Network → Ask → Bool
declares P N ask = is_declared P N (entry_of 0 0 ask)

-- the asks that a session's entries answer
abbrev pub asks_of : ℕ → List Entry → List Ask
asks_of q entries = map ask_of (entries_of q entries)

-- what a session is told by a history: its k-th ask that is declared is answered by the reply to its k-th entry
abbrev pub told_by : Parts → Network → List Entry → ℕ → Told
told_by P N entries q = record { declares = declares P N; replies = replies P N q entries; asks = asks_of q entries }

-- a session's answer to the bytes of its switch, where this is the history
abbrev pub IsSessionAnswer : Parts → Network → (bytes : List ℕ) → (q : ℕ) → List Entry → Speech → Type 0
IsSessionAnswer P N bytes q entries x = IsSpoken (told_by P N entries q) q bytes x
