-- What a worker does: it serves one session after another.
use Rattle.std.specs.Prelude.{◌≡◌, ℕ, ◌+◌, ◌*◌, ◌<◌, ◌≤◌, ◌^◌, List, [], ◌∷◌, length}
use Rattle.csdn_run.specs.Histories.{Running}
use Rattle.shared_hall.specs.declared.view.Account.{Account}
use Rattle.shared_hall.specs.Views.{fresh_account}
use Rattle.shared_hall.specs.Halls.{HallView, SeatView}
use Rattle.vericon_links.specs.Links.{IsUnused}
use Rattle.link_sessions.specs.declared.ends.Ended.{Ended}
use Rattle.session_serve.specs.Servings.{IsServed}
use Rattle.link_sessions.specs.Links.{LinkView}
use Rattle.session_workers.specs.declared.terms.Terms.{Terms}

-- the number of the session of a seat before which it had so many, among so many workers
abbrev pub session_number : ℕ → ℕ → ℕ → ℕ
session_number workers seat before = (1 + seat) + workers * before

-- a link that nobody had used was served as the session q, which took the seat from one account to another
pub record HasServed (r : Running) (q most : ℕ) (before after : Account) (now : LinkView) (ended : Ended) : Type 0 where
  pub came : LinkView
  pub unused : IsUnused came.taken came.written came.closed came.is_shut came.read_faults came.write_faults
  pub served : IsServed r q most before after came now ended

-- the sessions q, q + workers, .. in turn, which ended so and of whose links this is told, took the seat from a to b
abbrev pub Course : Running → Terms → ℕ → Account → List Ended → List LinkView → Account → Type 0
Course r t q a [] [] b = b ≡ a
Course r t q a [] (k ∷ links) b = ⊥
Course r t q a (e ∷ ends) [] b = ⊥
Course r t q a (e ∷ ends) (k ∷ links) b = (c : Account) × HasServed r q t.most a c k e × Course r t (q + t.workers) c ends links b

-- all that a seat of the hall did was to serve its sessions, of which these have ended
pub record HasWorked (hall : HallView) (t : Terms) (seat : SeatView) (ends : List Ended) (links : List LinkView) : Type 0 where
  pub here : seat.hall ≡ hall
  pub number : seat.account.number < t.workers
  pub course : Course hall.opening t (1 + seat.account.number) (fresh_account seat.account.number) ends links seat.account
  pub acts : seat.account.acts ≤ 2 ^ 35 * length ends
  pub bound : length ends ≤ 2 ^ 20

-- a worker with its part of the count of links, which is that of its sessions
pub record IsWorker (hall : HallView) (t : Terms) (seat : SeatView) (ends : List Ended) (links : List LinkView) (parts amount : ℕ) : Type 0 where
  pub worked : HasWorked hall t seat ends links
  pub counted : amount ≡ length ends
  pub part : parts ≡ 1
