-- What each step tells the seat that makes it.
use Rattle.std.specs.Prelude.{◌≡◌, ℕ, ◌==◌, ◌≤◌, List, [], ◌∷◌, length, Option, Some, MatchBool}
use Rattle.atomic_table.specs.Table.{Me, Step}
use Rattle.csdn_history.specs.declared.entry.Entry.{Entry}
use Rattle.csdn_run.specs.Histories.{Running, with_history}
use Rattle.shared_hall.specs.declared.view.View.{View}
use Rattle.shared_hall.specs.declared.view.Stage.TheVariants.{Waiting, Serving}
use Rattle.shared_hall.specs.Views.{entries_by, StartsWith, mine, with_stage, drawn_by, passed_with}

-- a seat's view, and the slot that is out with it
abbrev pub Mine : Type 0
Mine = Me (Option Running) View

-- the number found is the ticket
abbrev pub Draws : Step (Option Running) → Mine → ℕ → Mine → Type 0
Draws st v n w = w ≡ (drawn_by v.0 n, v.1)

-- its turn comes: the slot is out with it, and the runtime in it stands for a history that begins with what it has seen, and
-- has no further entry of its number
pub record Starts (v : Mine) (t : ℕ) (w : Mine) : Type 0 where
  pub history : List Entry
  pub now : w ≡ (with_stage v.0 (Serving t history), (0, Some (with_history v.0.opening history)) ∷ [])
  pub begins : StartsWith history v.0.own.seen
  pub mine : entries_by v.0.own.number history ≡ mine v.0.own
  pub room : length history ≤ v.0.opening.room

-- the number found is the ticket of a waiting seat, or nothing changes
abbrev pub Looks : Step (Option Running) → Mine → ℕ → Mine → Type 0
Looks st v n w = (t : ℕ) × (v.0.stage ≡ Waiting t) × MatchBool (n == t) (Starts v t w) (w ≡ v)

-- the turn ends with the history of the runtime that the seat holds
abbrev pub ended_with : View → List (ℕ × Option Running) → View
ended_with v ((k, Some r) ∷ xs) = passed_with v r.history
ended_with v xs = v

abbrev pub Passes : Step (Option Running) → Mine → ℕ → Mine → Type 0
Passes st v n w = w ≡ (ended_with v.0 v.1, [])
