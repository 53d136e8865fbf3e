-- What a session is told by the entries that a seat adds for it.
use Rattle.std.specs.Prelude.{ℕ, ◌≡◌, ◌==◌, Bool, true, ◌&&◌, List, ◌++◌, length, drop, map, All}
use Rattle.std.specs.List.{list_all}
use Rattle.csdn_history.specs.declared.entry.Entry.{Entry}
use Rattle.csdn_history.specs.declared.reply.Reply.{Reply}
use Rattle.csdn_run.specs.Histories.{Running}
use Rattle.csdn_run.specs.Sessions.{session_of}
use Rattle.of10_speech.specs.Speeches.{Told}
use Rattle.shared_hall.specs.declared.view.Account.{Account}
use Rattle.shared_hall.specs.Views.{seat_of, StartsWith, mine}
use Rattle.shared_hall.specs.Halls.{HallView, SeatView}
use Rattle.shared_hall.specs.Told.{replies_to}
use Rattle.session_asks.specs.Told.{ask_of, declares}

-- an entry of this session of this seat
abbrev pub is_of : (seat session : ℕ) → Entry → Bool
is_of seat session e = (seat_of e == seat) && (session_of e == session)

-- the replies to the entries of a session of a seat, along what the seat has seen
unfoldable pub replies_given : Running → ℕ → Account → List Reply
replies_given r session a = replies_to (is_of a.number session) r a.seen

-- the entries that a seat has added since
unfoldable pub added : (before after : Account) → List Entry
added before after = drop (length (mine before)) (mine after)

-- the replies that a session of the seat was given since
unfoldable pub replies_since : Running → ℕ → (before after : Account) → List Reply
replies_since r session before after = drop (length (replies_given r session before)) (replies_given r session after)

-- What a session is told by the entries that its seat has added since.
abbrev pub told_since : Running → ℕ → (before after : Account) → Told
told_since r session before after = record {
  declares = declares r.program r.network;
  replies = replies_since r session before after;
  asks = map ask_of (added before after);
}

-- the history that a seat has seen has no room for a further entry
abbrev pub is_full : Running → Account → Bool
is_full r a = length a.seen == r.room

-- ---- what a seat keeps while it serves

-- all entries that it added are of the session, and it has seen no less than when it began
pub record Keeps (r : Running) (session : ℕ) (before after : Account) : Type 0 where
  pub number : after.number ≡ before.number
  pub seen : after.seen ≡ before.seen ++ drop (length before.seen) after.seen
  pub mine : mine after ≡ mine before ++ added before after
  pub own : list_all (λ e. session_of e == session) (added before after) ≡ true
  pub replies : replies_given r session after ≡ replies_given r session before ++ replies_since r session before after

-- what a session's answers come from: the hall, its number, and the seat when it began, with the name of the reference to it
pub record Origin : Type 0 where
  pub hall : HallView
  pub session : ℕ
  pub begun : SeatView
  pub reference : ℕ

-- ---- a session

-- A seat served a session: it has seen no less, all entries that it added are of the session, and the session was given their replies.
pub record AddsFor (r : Running) (session : ℕ) (before after : Account) : Type 0 where
  pub number : after.number ≡ before.number
  pub seen : StartsWith after.seen before.seen
  pub mine : mine after ≡ mine before ++ added before after
  pub own : All (λ e. session_of e ≡ session) (added before after)
  pub replies : replies_given r session after ≡ replies_given r session before ++ replies_since r session before after
