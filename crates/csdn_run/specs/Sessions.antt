-- What is answered to one session.
use Rattle.std.specs.Prelude.{ℕ, ◌==◌, if◌then◌else◌, List, [], ◌∷◌, ◌++◌, filter}
use Rattle.csdn_core.specs.declared.program.Parts.{Parts}
use Rattle.csdn_core.specs.Network.{Network}
use Rattle.csdn_history.specs.declared.entry.Entry.{Entry}
use Rattle.csdn_history.specs.declared.entry.Entry.TheVariants.{Join, Packet, Expire}
use Rattle.csdn_history.specs.declared.reply.Reply.{Reply}
use Rattle.csdn_run.specs.Standings.{Standing, opening, taken}
use Rattle.csdn_run.specs.Replies.{reply_in}

abbrev pub session_of : Entry → ℕ
session_of (Join seat session s) = session
session_of (Packet seat session s a b i) = session
session_of (Expire seat session s a b i cookie) = session

-- the session's own entries
abbrev pub entries_of : ℕ → List Entry → List Entry
entries_of q entries = filter (λ entry. session_of entry == q) entries

-- .. and the replies to them, each at its place
abbrev pub replies_from : Parts → Network → Standing → ℕ → List Entry → List Reply
replies_from P N w q [] = []
replies_from P N w q (entry ∷ entries) = (if session_of entry == q then reply_in P N w entry ∷ [] else []) ++ replies_from P N (taken P N w entry) q entries

-- the replies to a session's entries in a history
abbrev pub replies : Parts → Network → ℕ → List Entry → List Reply
replies P N q entries = replies_from P N (opening P N) q entries
