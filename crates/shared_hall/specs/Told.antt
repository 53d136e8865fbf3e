-- What is answered to some of a seat's entries, as to those of one session.
use Rattle.std.specs.Prelude.{◌≡◌, ℕ, Bool, true, if◌then◌else◌, List, [], ◌∷◌, ◌++◌}
use Rattle.csdn_core.specs.declared.program.Parts.{Parts}
use Rattle.csdn_core.specs.Network.{Network}
use Rattle.csdn_history.specs.declared.entry.Entry.{Entry}
use Rattle.csdn_history.specs.declared.reply.Reply.{Reply}
use Rattle.csdn_run.specs.Histories.{Running}
use Rattle.csdn_run.specs.Standings.{Standing, opening, taken}
use Rattle.csdn_run.specs.Replies.{reply_in}
use Rattle.shared_hall.specs.Views.{seat_of}

-- the replies to the entries that are picked, each at its place
abbrev pub replies_from : (Entry → Bool) → Parts → Network → Standing → List Entry → List Reply
replies_from picks P N w [] = []
replies_from picks P N w (e ∷ es) = (if picks e then reply_in P N w e ∷ [] else []) ++ replies_from picks P N (taken P N w e) es

-- .. in a history of a runtime
abbrev pub replies_to : (Entry → Bool) → Running → List Entry → List Reply
replies_to picks r history = replies_from picks r.program r.network (opening r.program r.network) history

-- only entries of this seat are picked
abbrev pub PicksOf : ℕ → (Entry → Bool) → Type 0
PicksOf number picks = (e : Entry) → picks e ≡ true → seat_of e ≡ number
