-- What callers know of a hall: its seats, what a call does, and what the runtime holds at the end.
use Rattle.std.specs.Prelude.{◌≡◌, ℕ, ◌<◌, List, [], ◌∷◌, ◌++◌, length, map, All}
use Rattle.std.specs.List.{range_with_len}
use Rattle.atomic_table.specs.Seated.{TableId}
use Rattle.csdn_core.specs.declared.program.Parts.{Parts}
use Rattle.csdn_core.specs.Network.{IsNetwork, Network}
use Rattle.csdn_core.specs.WellSorted.{IsWellSorted}
use Rattle.csdn_history.specs.declared.entry.Entry.{Entry}
use Rattle.csdn_history.specs.declared.reply.Reply.{Reply}
use Rattle.csdn_run.specs.declared.runtime.RunRefusal.{RunRefusal}
use Rattle.csdn_run.specs.declared.runtime.RunRefusal.TheVariants.{HistoryFull}
use Rattle.csdn_run.specs.Histories.{Running, with_history}
use Rattle.csdn_run.specs.Replies.{reply as reply_of}
use Rattle.net_structs.specs.Networks.{IsServable}
use Rattle.shared_hall.specs.declared.view.Account.{Account}
use Rattle.shared_hall.specs.Views.{seat_of, StartsWith, mine, fresh_account}
use Rattle.shared_hall.specs.Rules.{IsTold}

-- which hall it is, the runtime at its opening, and its number of seats
pub record HallView : Type 0 where
  pub id : TableId
  pub opening : Running
  pub seats : ℕ

-- a seat: its hall, and its account
pub record SeatView : Type 0 where
  pub hall : HallView
  pub account : Account

-- ---- a call

-- The call is entered: behind a history that begins with all that the seat had seen, and has no further entry of the seat.
pub record Enters (r : Running) (old new : Account) (entry : Entry) (reply : Reply) : Type 0 where
  pub past : List Entry
  pub begins : StartsWith past old.seen
  pub seen : new.seen ≡ past ++ entry ∷ []
  pub answer : reply ≡ reply_of r.program r.network past entry
  pub room : length past < r.room
  pub mine : mine new ≡ mine old ++ entry ∷ []

-- The call is refused: it enters nothing, and the seat has seen no less.
pub record IsTurnedAway (r : Running) (old new : Account) (why : RunRefusal) : Type 0 where
  pub begins : StartsWith new.seen old.seen
  pub mine : mine new ≡ mine old
  pub full : why ≡ HistoryFull → length new.seen ≡ r.room

-- The runtime that seats take turns at is one: the parts are a program's, and the network is a servable one of it.
pub record CanServe (P : Parts) (N : Network) : Type 0 where
  pub sorted : IsWellSorted P
  pub network : IsNetwork P N
  pub servable : IsServable N

-- ---- opening and closing

-- a seat that has not acted
abbrev pub fresh : HallView → ℕ → SeatView
fresh hall k = record { hall = hall; account = fresh_account k }

-- the first n seats of a hall, in the order of their numbers
abbrev pub fresh_seats : HallView → ℕ → List SeatView
fresh_seats hall n = map (fresh hall) (range_with_len 0 n)

-- The runtime at the end: its history begins with all that each seat has seen, and has of each seat its own entries alone, and
-- none of anyone else.
pub record Closes (hall : HallView) (seats : List SeatView) (r : Running) : Type 0 where
  pub runtime : r ≡ with_history hall.opening r.history
  pub told : All (λ s. IsTold r.history s.account) seats
  pub numbers : All (λ e. seat_of e < hall.seats) r.history
