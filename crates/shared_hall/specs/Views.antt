-- Accounts of seats, views of a hall, and how steps change them.
use Rattle.std.specs.Prelude.{◌≡◌, ℕ, ◌+◌, ◌-◌, ◌==◌, List, [], ◌∷◌, ◌++◌, filter, sum_by, None}
use Rattle.csdn_history.specs.declared.entry.Entry.{Entry}
use Rattle.csdn_history.specs.declared.entry.Entry.TheVariants.{Join, Packet, Expire}
use Rattle.csdn_run.specs.Histories.{Running, running}
use Rattle.shared_hall.specs.declared.view.Account.{Account}
use Rattle.shared_hall.specs.declared.view.View.{View}
use Rattle.shared_hall.specs.declared.view.Stage.{Stage}
use Rattle.shared_hall.specs.declared.view.Stage.TheVariants.{Idle, Waiting, Serving}

-- ---- entries and accounts

-- the seat that brought an entry
abbrev pub seat_of : Entry → ℕ
seat_of (Join seat session s) = seat
seat_of (Packet seat session s a b i) = seat
seat_of (Expire seat session s a b i cookie) = seat

-- the entries of a seat, in their order
abbrev pub entries_by : ℕ → List Entry → List Entry
entries_by number history = filter (λ e. seat_of e == number) history

-- a history begins with what was seen
abbrev pub StartsWith : List Entry → List Entry → Type 0
StartsWith history seen = (rest : List Entry) × (history ≡ seen ++ rest)

-- a seat's own entries, in what it has seen
abbrev pub mine : Account → List Entry
mine a = entries_by a.number a.seen

-- ---- views

-- what one view or another has of something, added up
abbrev pub total : (View → ℕ) → List View → ℕ
total f [] = 0
total f (v ∷ vs) = f v + total f vs

-- how often the seats acted for which a view stands
abbrev pub acts_of : View → ℕ
acts_of v = v.own.acts + sum_by (λ (a : Account). a.acts) v.ended

abbrev pub tickets_in : Stage → ℕ
tickets_in Idle = 0
tickets_in (Waiting t) = 1
tickets_in (Serving t h) = 1

-- how many tickets a view has
abbrev pub tickets_of : View → ℕ
tickets_of v = tickets_in v.stage

abbrev pub with_stage : View → Stage → View
with_stage v st = record { opening = v.opening; seats = v.seats; own = v.own; next = v.next; parts = v.parts; stage = st; ended = v.ended }

-- after a draw
abbrev pub drawn_by : View → ℕ → View
drawn_by v t = record {
  opening = v.opening;
  seats = v.seats;
  own = record { number = v.own.number; acts = v.own.acts + 1; seen = v.own.seen };
  next = v.next;
  parts = v.parts;
  stage = Waiting t;
  ended = v.ended;
}

abbrev pub with_seen : Account → List Entry → Account
with_seen a h = record { number = a.number; acts = a.acts; seen = h }

-- after a turn that ended with this history
abbrev pub passed_with : View → List Entry → View
passed_with v h = record { opening = v.opening; seats = v.seats; own = with_seen v.own h; next = v.next; parts = v.parts; stage = Idle; ended = v.ended }

-- the account of a seat that has not acted
abbrev pub fresh_account : ℕ → Account
fresh_account k = record { number = k; acts = 0; seen = [] }

-- the view from which seats are cut: it has this number, and may give the following ones
abbrev pub dealing : Running → ℕ → ℕ → ℕ → View
dealing r seats k parts = record { opening = r; seats = seats; own = fresh_account k; next = k + 1; parts = parts; stage = Idle; ended = [] }

abbrev pub opened : Running → ℕ → View
opened r seats = dealing r seats 0 seats

-- a view is cut: a new view has its number, and it goes on with the next
abbrev pub kept_part : View → View
kept_part v = dealing v.opening v.seats v.next (v.parts - 1)

abbrev pub given_part : View → View
given_part v = record { opening = v.opening; seats = v.seats; own = v.own; next = v.seats; parts = 1; stage = Idle; ended = [] }

-- a view takes in another, whose account it keeps as ended
abbrev pub joined : View → View → View
joined v w = record {
  opening = v.opening;
  seats = v.seats;
  own = v.own;
  next = v.next;
  parts = v.parts + w.parts;
  stage = v.stage;
  ended = (v.ended ++ w.own ∷ []) ++ w.ended;
}

-- a runtime of nothing
abbrev pub nothing : Running
nothing =
    running (record { relations = []; constants = []; start = []; topology = []; safety = []; trans = []; handlers = []; numerals = []; timeout = None })
    (record { switches = []; hosts = []; ports = []; constants = []; rows = [] })
    0
    []

abbrev pub spent : View
spent = record { opening = nothing; seats = 0; own = fresh_account 0; next = 0; parts = 0; stage = Idle; ended = [] }
