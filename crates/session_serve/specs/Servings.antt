-- What a served session did.
use Rattle.std.specs.Prelude.{ℕ, ◌≡◌, ◌+◌, ◌*◌, ◌≤◌, true, length}
use Rattle.csdn_run.specs.Histories.{Running}
use Rattle.shared_hall.specs.declared.view.Account.{Account}
use Rattle.session_entries.specs.Additions.{AddsFor, is_full, told_since}
use Rattle.link_sessions.specs.declared.ends.Ended.{Ended}
use Rattle.link_sessions.specs.Links.{LinkView}
use Rattle.link_sessions.specs.Said.{IsSaid}

-- A session with this number, of a seat of a runtime's hall, by the seat's accounts before and after: it is told by the entries that the
-- seat added, which are all of the session. The seat acted at most once for 16 bytes, and the link is shut.
pub record IsServed (r : Running) (number most : ℕ) (before after : Account) (link link' : LinkView) (ended : Ended) : Type 0 where
  pub seat : AddsFor r number before after
  pub said : IsSaid (told_since r number before after) (is_full r after) number most link link' ended
  pub acts : 16 * after.acts ≤ 16 * before.acts + length said.taken
  pub shut : link'.is_shut ≡ true
