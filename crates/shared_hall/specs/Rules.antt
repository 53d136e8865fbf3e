-- The rule of the hall: what is true between any two steps.
use Rattle.std.specs.Prelude.{◌≡◌, ℕ, ◌+◌, ◌*◌, ◌^◌, ◌<◌, ◌≤◌, List, [], ◌∷◌, length, Option, Some, Bool, true, false, ◌⊎◌}
use mathlib.Core.Option.{some, none}
use lib.ListN.{get_elem?}
use Rattle.atomic_table.specs.Table.{State}
use Rattle.csdn_history.specs.declared.entry.Entry.{Entry}
use Rattle.csdn_run.specs.Histories.{Running, with_history}
use Rattle.shared_hall.specs.declared.view.Account.{Account}
use Rattle.shared_hall.specs.declared.view.View.{View}
use Rattle.shared_hall.specs.declared.view.Setting.{Setting}
use Rattle.shared_hall.specs.declared.view.Stage.{Stage}
use Rattle.shared_hall.specs.declared.view.Stage.TheVariants.{Idle, Waiting, Serving}
use Rattle.shared_hall.specs.Views.{entries_by, StartsWith, mine, acts_of, tickets_of, total}

-- where a number is: at a view, or at this place of what a view keeps as ended
pub data Place : Type 0 where
  sits : ℕ → Place
  ended : ℕ → ℕ → Place

-- how many tickets were drawn and served, the past, whose view has a ticket, where each number is, and whether the slot is out
pub record World : Type 0 where
  pub drawn : ℕ
  pub served : ℕ
  pub past : List Entry
  pub owner : ℕ → ℕ
  pub place : ℕ → Place
  pub out : Bool

-- tickets differ, as each has one owner, and were drawn and not yet served. In its turn a view has the ticket that is
-- served, the slot is out, and the view's list is the past
abbrev pub StageFits : World → ℕ → Stage → Type 0
StageFits w i Idle = Unit {0}
StageFits w i (Waiting t) = (w.served ≤ t) × (t < w.drawn) × (w.owner t ≡ i)
StageFits w i (Serving t h) = (t ≡ w.served) × (t < w.drawn) × (w.owner t ≡ i) × (h ≡ w.past) × (w.out ≡ true)

-- what was seen is a beginning of the past, which has no further entry of that number
pub record IsTold (past : List Entry) (a : Account) : Type 0 where
  pub seen : StartsWith past a.seen
  pub mine : entries_by a.number past ≡ mine a

-- an account that a view keeps as ended, at its place
pub record HasEnded (setting : Setting) (place : ℕ → Place) (past : List Entry) (i k : ℕ) (a : Account) : Type 0 where
  pub number : a.number < setting.seats
  pub acts : a.acts ≤ 2 ^ 56
  pub here : place a.number ≡ ended i k
  pub told : IsTold past a

-- a view that is not spent: it has its number and all from `next` on, of which the past has no entry
pub record Sits (setting : Setting) (place : ℕ → Place) (past : List Entry) (i : ℕ) (v : View) : Type 0 where
  pub opening : v.opening ≡ setting.opening.value
  pub seats : v.seats ≡ setting.seats
  pub number : v.own.number < v.next
  pub next : v.next ≤ setting.seats
  pub acts : v.own.acts ≤ 2 ^ 56
  pub here : place v.own.number ≡ sits i
  pub rights : (b : ℕ) → v.next ≤ b → b < setting.seats → place b ≡ sits i
  pub unborn : (b : ℕ) → v.next ≤ b → entries_by b past ≡ []
  pub told : IsTold past v.own
  pub ended : (k : ℕ) (a : Account) → get_elem? v.ended k ≡ some a → HasEnded setting place past i k a

pub record Fits (setting : Setting) (w : World) (i : ℕ) (v : View) : Type 0 where
  pub acts : acts_of v ≤ 2 ^ 56 * v.parts
  pub stage : StageFits w i v.stage
  pub idle : v.parts ≡ 0 → v.stage ≡ Idle
  pub sits : 0 < v.parts → Sits setting w.place w.past i v

-- a view that has seen the whole past, or keeps an account that has
abbrev pub SawAll : List Entry → View → Type 0
SawAll past v = (v.own.seen ≡ past) ⊎ ((k : ℕ) × (a : Account) × (get_elem? v.ended k ≡ some a) × (a.seen ≡ past))

-- the past is the longest seen
abbrev pub IsLongest : List View → List Entry → Type 0
IsLongest views past = (i : ℕ) × (v : View) × (get_elem? views i ≡ some v) × SawAll past v

-- the view's turn has come
abbrev pub IsServing : List View → ℕ → Type 0
IsServing views j = (v : View) × (get_elem? views j ≡ some v) × ((t : ℕ) × (h : List Entry) × (v.stage ≡ Serving t h))

-- the runtime at home stands for the past; while it is out, it is the turn of the view j
abbrev pub SlotFits : Running → List Entry → ℕ → List View → Bool → List (mathlib.Core.Option.Option (Option Running)) → Type 0
SlotFits opening past j views false homes = homes ≡ some (Some (with_history opening past)) ∷ []
SlotFits opening past j views true homes = (homes ≡ none ∷ []) × IsServing views j

pub record IsKept (setting : Setting) (s : State (Option Running) View) (w : World) : Type 0 where
  pub words : s.words ≡ w.drawn ∷ w.served ∷ []
  pub few : setting.seats ≤ 64
  pub parts : total (λ v. v.parts) s.views ≡ setting.seats
  pub acts : total acts_of s.views ≡ w.drawn
  -- what was drawn is what was served, and the tickets that views have
  pub tickets : w.served + total tickets_of s.views ≡ w.drawn
  pub slot : SlotFits setting.opening.value w.past (w.owner w.served) s.views w.out s.homes
  pub room : length w.past ≤ setting.opening.value.room
  pub longest : IsLongest s.views w.past
  pub views : (i : ℕ) (v : View) → get_elem? s.views i ≡ some v → Fits setting w i v

abbrev pub Kept : Setting → State (Option Running) View → Type 0
Kept setting s = (w : World) × IsKept setting s w
