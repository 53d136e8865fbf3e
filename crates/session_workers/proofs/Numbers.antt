-- The numbers of sessions.
use Rattle.std.proofs.Common.{◌≡◌, ℕ, suc, ◌+◌, ◌*◌, ◌<◌, ◌≤◌, ◌∙◌, List, [], ◌∷◌, ◌++◌, length, inl, inr, sym, subst, ap, ⊎_elim, arith}
use Rattle.std.proofs.lemmas.Bool.{cases_lt}
use Rattle.std.proofs.lemmas.List.{map-append}
use Rattle.csdn_core.specs.Members.{AreDistinct, IsIn}
use Rattle.csdn_core.proofs.Members.{distinct_append, in_both}
use Rattle.link_sessions.specs.Links.{LinkView}
use Rattle.session_workers.specs.declared.terms.Terms.{Terms}
use Rattle.session_workers.specs.Courses.{session_number}
use Rattle.session_workers.specs.Endings.{numbered, numbered_from, numbers}

-- a later session of one seat
pub further : (w j i : ℕ) → j < i → w * j + w ≤ w * i
further w j i less = grind arith

-- two seats have no number in common
pub same_seat : (w b s j i : ℕ) → b < w → s < w → (1 + b) + w * j ≡ (1 + s) + w * i → b ≡ s
same_seat w b s j i few less is =
    ⊎_elim
    (λ (before : j < i). let f = further w j i before in absurd (omega arith))
    (λ (from : i ≤ j). ⊎_elim
    (λ (behind : i < j). let f = further w i j behind in absurd (omega arith))
    (λ (to : j ≤ i). let e : j ≡ i = omega arith in let m : w * j ≡ w * i = ap (λ (n : ℕ). w * n) e in omega arith)
    (cases_lt i j))
    (cases_lt j i)

-- the numbers of a row from its second session on
pub next_number : (w q n : ℕ) → q + w * (n + 1) ≡ (q + w) + w * n
next_number w q n = grind arith

pub first_number : (w q : ℕ) → q + w * 0 ≡ q
first_number w q = grind arith

pub later_number : (w q n : ℕ) → q + w * suc n ≡ (q + w) + w * n
later_number w q n = grind arith

-- ---- no two sessions have one number

-- a number among those of one seat
from_one : (t : Terms) (q : ℕ) (links : List LinkView) (n : ℕ) → IsIn n (numbers (numbered_from t q links)) → (i : ℕ) × (n ≡ q + t.workers * i)
from_one t q [] n within = absurd within
from_one t q (k ∷ links) n (inl is) = (0, is ∙ sym (first_number t.workers q))
from_one t q (k ∷ links) n (inr later) =
    let f = from_one t (q + t.workers) links n later in
    (suc f.0, f.1 ∙ sym (later_number t.workers q f.0))

from_distinct : (t : Terms) (q : ℕ) (links : List LinkView) → AreDistinct (numbers (numbered_from t q links))
from_distinct t q [] = tt
from_distinct t q (k ∷ links) = (
  (λ again. let f = from_one t (q + t.workers) links q again in let e = f.1 in let w = t.some_worker in omega arith),
  from_distinct t (q + t.workers) links,
)

-- a number among those of many seats
record IsOfSeat (t : Terms) (seat : ℕ) (end : ℕ) (n : ℕ) : Type 0 where
  pub one : ℕ
  pub before : ℕ
  pub from : seat ≤ one
  pub to : one < end
  pub is : n ≡ session_number t.workers one before

all_split : (t : Terms) (seat : ℕ) (links : List LinkView) (more : List (List LinkView)) → numbers (numbered t seat (links ∷ more)) ≡ numbers (numbered_from t (1 + seat) links) ++ numbers (numbered t (seat + 1) more)
all_split t seat links more = map-append (λ (link : ℕ × LinkView). link.0) (numbered_from t (1 + seat) links) (numbered t (seat + 1) more)

of_one : (t : Terms) (seat : ℕ) (all : List (List LinkView)) (n : ℕ) → IsIn n (numbers (numbered t seat all)) → IsOfSeat t seat (seat + length all) n
of_one t seat [] n within = absurd within
of_one t seat (links ∷ more) n within =
    ⊎_elim
    (λ (here : IsIn n (numbers (numbered_from t (1 + seat) links))). let f = from_one t (1 + seat) links n here in record { one = seat; before = f.0; from = omega arith; to = omega arith; is = f.1 })
    (λ (there : IsIn n (numbers (numbered t (seat + 1) more))). let f = of_one t (seat + 1) more n there in record { one = f.one; before = f.before; from = (let m = f.from in omega arith); to = (let m = f.to in omega arith); is = f.is })
    (in_both (numbers (numbered_from t (1 + seat) links)) (numbers (numbered t (seat + 1) more)) n (subst (λ (l : List ℕ). IsIn n l) (all_split t seat links more) within))

pub all_distinct : (t : Terms) (seat : ℕ) (all : List (List LinkView)) → seat + length all ≤ t.workers → AreDistinct (numbers (numbered t seat all))
all_distinct t seat [] few = tt
all_distinct t seat (links ∷ more) few =
    let apart : (n : ℕ) → IsIn n (numbers (numbered_from t (1 + seat) links)) → IsIn n (numbers (numbered t (seat + 1) more)) → ⊥ =
    λ n here there.
    let f = from_one t (1 + seat) links n here in
    let g = of_one t (seat + 1) more n there in
    let same : seat ≡ g.one = same_seat t.workers seat g.one f.0 g.before (omega arith) (let m = g.to in omega arith) (sym f.1 ∙ g.is) in
    (let m = g.from in omega (arith, same)) in
    subst AreDistinct (sym (all_split t seat links more))
    (distinct_append (numbers (numbered_from t (1 + seat) links)) (numbers (numbered t (seat + 1) more)) (from_distinct t (1 + seat) links) (all_distinct t (seat + 1) more (omega arith)) apart)
