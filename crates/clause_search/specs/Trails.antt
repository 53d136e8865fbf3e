-- The literals that a search holds true, in the order in which they became so: decided, or forced by a clause.
use Rattle.std.specs.Prelude.{◌≡◌, ℕ, zero, suc, ◌+◌, true, List, [], ◌∷◌, ◌++◌, Option, Some, None, if◌then◌else◌}
use Rattle.clause_log.specs.Literals.{Literal, is_within}
use Rattle.clause_log.specs.Assignments.{Assignment, no_values, assign}
use Rattle.clause_log.specs.Refutations.{clause_at, unit_at}
use Rattle.clause_log.specs.Limits.{is_hint}
use Rattle.clause_search.specs.declared.trail.Entry.{Entry}

-- the assignment after these entries
abbrev pub after : Assignment → List Entry → Assignment
after f [] = f
after f (e ∷ es) = after (assign e.literal f) es

abbrev pub values_of : List Entry → Assignment
values_of es = after no_values es

-- the atom of each entry had no value before it
abbrev pub AreNew : Assignment → List Entry → Type 0
AreNew f [] = Unit {0}
AreNew f (e ∷ es) = (f e.literal.atom ≡ None) × AreNew (assign e.literal f) es

-- the atoms that are true
abbrev pub positives : List Entry → List ℕ
positives [] = []
positives (e ∷ es) = if e.literal.positive then e.literal.atom ∷ positives es else positives es

-- the clause of this number, if there is to be one, forces the literal
abbrev pub IsForced : List (List Literal) → Assignment → Literal → Option ℕ → Type 0
IsForced cs f l None = Unit {0}
IsForced cs f l (Some r) = (unit_at f (clause_at cs r) ≡ Some l) × (is_hint r ≡ true)

-- an entry that may be made next: its literal has no value, and is decided or forced
pub record Fits (atoms : ℕ) (cs : List (List Literal)) (f : Assignment) (e : Entry) : Type 0 where
  pub new : f e.literal.atom ≡ None
  pub within : is_within atoms e.literal ≡ true
  pub forced : IsForced cs f e.literal e.reason

-- each entry fits after those before it
abbrev pub IsTrail : ℕ → List (List Literal) → Assignment → List Entry → Type 0
IsTrail atoms cs f [] = Unit {0}
IsTrail atoms cs f (e ∷ es) = Fits atoms cs f e × IsTrail atoms cs (assign e.literal f) es

-- the trail with some entries more
pub record Extends (atoms : ℕ) (cs : List (List Literal)) (old new : List Entry) : Type 0 where
  pub more : List Entry
  pub is : new ≡ old ++ more
  pub fits : IsTrail atoms cs (values_of old) more

-- how many values a trail with room for so many entries has
abbrev pub power : ℕ → ℕ
power zero = 1
power (suc n) = power n + power n + power n

-- a decision counts once, and a forced literal twice
abbrev pub weight : Option ℕ → ℕ → ℕ
weight None p = p
weight (Some r) p = p + p

-- a trail with room for n entries as a number to base three: 1 for a decision, 2 for a forced literal, 0 where there is none yet
abbrev pub trail_number : ℕ → List Entry → ℕ
trail_number zero es = 0
trail_number (suc n) [] = 0
trail_number (suc n) (e ∷ es) = weight e.reason (power n) + trail_number n es
