-- All workers side by side, and once they are done.
use Rattle.std.specs.Prelude.{◌≡◌, ℕ, ◌+◌, ◌<◌, List, [], ◌∷◌, length, map, slice_index_or}
use Rattle.shared_hall.specs.Halls.{HallView, SeatView}
use Rattle.link_sessions.specs.Links.{LinkView}
use Rattle.session_workers.specs.declared.row.Row.{Row}
use Rattle.session_workers.specs.declared.row.Links.{Links}
use Rattle.session_workers.specs.declared.terms.Terms.{Terms}
use Rattle.session_workers.specs.Courses.{HasWorked}

-- this holds of each member and its place
abbrev pub EachAt : {X : Type 0} → (ℕ → X → Type 0) → List X → Type 0
EachAt {X} P xs = (k : ℕ) (d : X) → k < length xs → P k (slice_index_or xs k d)

-- what the seat of this number did, the next one, and so on
abbrev pub AreDone : HallView → Terms → ℕ → List SeatView → List Row → List (List LinkView) → Type 0
AreDone hall t number [] [] [] = Unit {0}
AreDone hall t number (s ∷ seats) (row ∷ rows) (links ∷ more) = HasWorked hall t s row.ends.items links × (s.account.number ≡ number) × AreDone hall t (number + 1) seats rows more
AreDone hall t number seats rows more = ⊥

-- what is told of the links of a seat, and of those of many
abbrev pub views_of : {K : Type 0} → (K → LinkView) → List (Links K) → List (List LinkView)
views_of see [] = []
views_of see (left ∷ more) = map see left.links.items ∷ views_of see more
