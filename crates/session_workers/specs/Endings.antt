-- What is known of all sessions along the whole history, once all workers are done.
use Rattle.std.specs.Prelude.{◌≡◌, ℕ, ◌+◌, ◌<◌, ◌⊎◌, max, Bool, true, false, List, [], ◌∷◌, ◌++◌, length, map, slice_index_or, Option, Some, None, All}
use Rattle.csdn_core.specs.Members.{AreDistinct}
use Rattle.csdn_history.specs.declared.entry.Entry.{Entry}
use Rattle.csdn_run.specs.Histories.{Running}
use Rattle.csdn_run.specs.Sessions.{entries_of, session_of}
use Rattle.shared_hall.specs.declared.view.Account.{Account}
use Rattle.shared_hall.specs.Views.{seat_of, StartsWith}
use Rattle.vericon_edge.specs.Counts.{Rose}
use Rattle.link_sessions.specs.declared.ends.Ended.{Ended}
use Rattle.link_sessions.specs.Links.{LinkView}
use Rattle.session_workers.specs.declared.terms.Terms.{Terms}
use Rattle.session_workers.specs.declared.halt.Halt.{Halt}
use Rattle.session_workers.specs.declared.halt.Halt.TheVariants.{Done, Fault, Memory}
use Rattle.session_workers.specs.declared.door.Door.{Door}
use Rattle.session_workers.specs.declared.door.Door.TheVariants.{Open, Closed, Broken}
use Rattle.session_workers.specs.declared.row.Row.{Row}
use Rattle.session_workers.specs.Courses.{session_number, HasServed}

-- The session q of a seat: it was served as `serve` says, along a list with which the history begins, and of which the history has all
-- entries of the session.
pub record IsSessionIn (r : Running) (history : List Entry) (seat q most : ℕ) (now : LinkView) (ended : Ended) : Type 0 where
  pub before : Account
  pub after : Account
  pub number : before.number ≡ seat
  pub served : HasServed r q most before after now ended
  pub none_before : entries_of q before.seen ≡ []
  pub begins : StartsWith history after.seen
  pub whole : entries_of q history ≡ entries_of q after.seen

-- the sessions q, q + workers, .. of a seat, which ended so and of whose links this is told
abbrev pub AreSessionsIn : Running → List Entry → Terms → ℕ → ℕ → List Ended → List LinkView → Type 0
AreSessionsIn r history t seat q [] [] = Unit {0}
AreSessionsIn r history t seat q [] (k ∷ links) = ⊥
AreSessionsIn r history t seat q (e ∷ ends) [] = ⊥
AreSessionsIn r history t seat q (e ∷ ends) (k ∷ links) = IsSessionIn r history seat q t.most k e × AreSessionsIn r history t seat (q + t.workers) ends links

-- the sessions of this seat, of the next, and so on
abbrev pub AreRowsIn : Running → List Entry → Terms → ℕ → List Row → List (List LinkView) → Type 0
AreRowsIn r history t seat [] [] = Unit {0}
AreRowsIn r history t seat [] (links ∷ more) = ⊥
AreRowsIn r history t seat (row ∷ rows) [] = ⊥
AreRowsIn r history t seat (row ∷ rows) (links ∷ more) = AreSessionsIn r history t seat (1 + seat) row.ends.items links × AreRowsIn r history t (seat + 1) rows more

-- the links of a seat, each with the number of its session
abbrev pub numbered_from : Terms → ℕ → List LinkView → List (ℕ × LinkView)
numbered_from t q [] = []
numbered_from t q (k ∷ links) = (q, k) ∷ numbered_from t (q + t.workers) links

-- .. and those of this seat, of the next, and so on
abbrev pub numbered : Terms → ℕ → List (List LinkView) → List (ℕ × LinkView)
numbered t seat [] = []
numbered t seat (links ∷ more) = numbered_from t (1 + seat) links ++ numbered t (seat + 1) more

-- their numbers
abbrev pub numbers : List (ℕ × LinkView) → List ℕ
numbers links = map (λ (link : ℕ × LinkView). link.0) links

-- how many sessions a seat has at most
abbrev pub longest : List Row → ℕ
longest [] = 0
longest (row ∷ rows) = max (length row.ends.items) (longest rows)

-- links that are given back are told to be, where that is told
abbrev pub GivenMore : Option (List (ℕ × LinkView)) → Option (List (ℕ × LinkView)) → List (ℕ × LinkView) → Type 0
GivenMore None new links = new ≡ None
GivenMore (Some given) new links = new ≡ Some (given ++ links)

-- an entry is of a session that one of the seats had
pub record HasSession (t : Terms) (rows : List Row) (e : Entry) : Type 0 where
  pub row : Row
  pub row_is : row ≡ slice_index_or rows (seat_of e) row
  pub seat : seat_of e < length rows
  pub before : ℕ
  pub session : before < length row.ends.items
  pub number : session_of e ≡ session_number t.workers (seat_of e) before

-- Why no more links are asked for: the counts of faults before and now, how many links came, and whether no more come.
abbrev pub HaltsFor : Terms → Halt → (before now came : ℕ) → Bool → Type 0
HaltsFor t Done before now came ended = (now ≡ before) × ((came ≡ t.sessions) ⊎ (ended ≡ true))
HaltsFor t Fault before now came ended = Rose before now
HaltsFor t Memory before now came ended = Unit {0}

-- .. which is asked of what lies under the lock at the end
abbrev pub halt_at : Bool → Door → Bool → Halt
halt_at true door is_full = Memory
halt_at false Closed is_full = Done
halt_at false Broken is_full = Fault
halt_at false Open true = Done
halt_at false Open false = Memory

-- All sessions, by the seats: they ended so, of the links given back this is told, no two of them have one number, they are as many as came, and
-- each entry of the history is of one of them.
pub record IsRunOf (t : Terms) (r : Running) (history : List Entry) (rows : List Row) (given given' : Option (List (ℕ × LinkView))) (came : ℕ) : Type 0 where
  pub links : List (List LinkView)
  pub sessions : AreRowsIn r history t 0 rows links
  pub given_back : GivenMore given given' (numbered t 0 links)
  pub distinct : AreDistinct (numbers (numbered t 0 links))
  pub count : came ≡ length (numbered t 0 links)
  pub entries : All (HasSession t rows) history
