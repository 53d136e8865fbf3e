-- What a seat has in its hands on the way through a turn, and while a hall opens and ends.
use Rattle.std.specs.Prelude.{◌≡◌, ◌≢◌, ℕ, ◌+◌, ◌-◌, ◌^◌, ◌<◌, ◌≤◌, List, [], ◌∷◌, length, None, ◌⊎◌}
use mathlib.Core.Option.{some}
use lib.ListN.{get_elem?}
use Rattle.csdn_history.specs.declared.entry.Entry.{Entry}
use Rattle.csdn_run.specs.Histories.{Running, with_history}
use Rattle.shared_hall.specs.declared.view.Account.{Account}
use Rattle.shared_hall.specs.declared.view.View.{View}
use Rattle.shared_hall.specs.declared.view.Stage.TheVariants.{Idle, Waiting, Serving}
use Rattle.shared_hall.specs.Views.{entries_by, StartsWith, mine, with_stage, drawn_by, fresh_account, dealing}
use Rattle.shared_hall.specs.Rules.{IsTold}
use Rattle.shared_hall.specs.Plays.{Mine}

-- ---- a turn

-- a seat that may draw a ticket
pub record CanDraw (me : Mine) : Type 0 where
  pub slots : me.1 ≡ []
  pub idle : me.0.stage ≡ Idle
  pub one : me.0.parts ≡ 1
  pub alone : me.0.ended ≡ []
  pub acts : me.0.own.acts < 2 ^ 56

-- a seat that waits with this ticket
pub record IsWaiting (me : Mine) (t : ℕ) : Type 0 where
  pub slots : me.1 ≡ []
  pub ticket : me.0.stage ≡ Waiting t
  pub some_part : 0 < me.0.parts

-- it is the seat's turn, and the runtime that it took stands for a history
pub record Took (old new : Mine) (r : Running) : Type 0 where
  pub ticket : ℕ
  pub history : List Entry
  -- the slot in its hands is empty
  pub now : new ≡ (with_stage (drawn_by old.0 ticket) (Serving ticket history), (0, None) ∷ [])
  pub runtime : r ≡ with_history old.0.opening history
  pub begins : StartsWith history old.0.own.seen
  pub mine : entries_by old.0.own.number history ≡ mine old.0.own
  pub room : length history ≤ old.0.opening.room

-- a past grows by entries of one number alone
pub record Grows (past now : List Entry) (number : ℕ) : Type 0 where
  pub begins : StartsWith now past
  pub others : (b : ℕ) → b ≢ number → entries_by b now ≡ entries_by b past

-- a seat in its turn, with an empty slot in its hands, may put this runtime back
pub record CanPass (me : Mine) (r : Running) : Type 0 where
  pub slots : me.1 ≡ (0, None) ∷ []
  pub some_part : 0 < me.0.parts
  pub runtime : r ≡ with_history me.0.opening r.history
  pub ticket : ℕ
  pub history : List Entry
  pub turn : me.0.stage ≡ Serving ticket history
  pub grows : Grows history r.history me.0.own.number
  pub room : length r.history ≤ me.0.opening.room

-- ---- seats are made

-- the seat from which the others are cut, when it has handed out k of them
abbrev pub IsDealing : Running → ℕ → ℕ → Mine → Type 0
IsDealing opening seats k me = me ≡ (dealing opening seats k (seats - k), [])

-- an idle seat that stands for one number, and has not acted
pub record IsFresh (opening : Running) (seats k : ℕ) (me : Mine) : Type 0 where
  pub slots : me.1 ≡ []
  pub idle : me.0.stage ≡ Idle
  pub one : me.0.parts ≡ 1
  pub alone : me.0.ended ≡ []
  pub own : me.0.own ≡ fresh_account k
  pub opening_is : me.0.opening ≡ opening
  pub seats_is : me.0.seats ≡ seats

-- ---- seats end

-- the account is a view's own, or one that it keeps as ended
abbrev pub Keeps : View → Account → Type 0
Keeps v a = (v.own ≡ a) ⊎ ((k : ℕ) × (get_elem? v.ended k ≡ some a))

-- an idle seat that stands for at least one number
pub record IsKeeper (me : Mine) : Type 0 where
  pub slots : me.1 ≡ []
  pub idle : me.0.stage ≡ Idle
  pub some_part : 0 < me.0.parts

-- the keeper keeps what it kept, and the account of another seat
pub record TakesIn (old new : Mine) (a : Account) : Type 0 where
  pub keeper : IsKeeper new
  pub parts : new.0.parts ≡ old.0.parts + 1
  pub kept : (b : Account) → Keeps old.0 b → Keeps new.0 b
  pub taken : Keeps new.0 a

-- a runtime's history is as each account of a view says, and has no entry of a number that is no seat's
pub record EndsWith (opening : Running) (seats : ℕ) (v : View) (r : Running) : Type 0 where
  pub runtime : r ≡ with_history opening r.history
  pub told : (a : Account) → Keeps v a → IsTold r.history a
  pub below : (b : ℕ) → seats ≤ b → entries_by b r.history ≡ []
