-- What a search keeps, and what its parts find.
use Rattle.std.specs.Prelude.{◌≡◌, ◌<◌, ℕ, Bool, true, false, List, [], slice_index_or, Option, Some, None}
use Rattle.std.specs.List.{list_any, list_all}
use Rattle.clause_log.specs.Literals.{Literal, ClauseList, is_within}
use Rattle.clause_log.specs.Assignments.{Assignment, literal_value, no_values, is_conflict, unit_literal}
use Rattle.clause_log.specs.Refutations.{Step, clause_at, is_conflict_at, steps_hold, with_steps}
use Rattle.clause_log.specs.Limits.{is_hint, is_step}
use Rattle.clause_search.specs.Outcomes.{IsRefutationOf}
use Rattle.clause_search.specs.Trails.{IsTrail, values_of, trail_number}
use Rattle.clause_search.specs.declared.trail.Entry.{Entry}
use Rattle.clause_search.specs.declared.clause.Verdict.{Verdict}
use Rattle.clause_search.specs.declared.clause.Verdict.TheVariants.{Quiet, Forces, Conflict}
use Rattle.clause_search.specs.declared.clause.Choice.{Choice}
use Rattle.clause_search.specs.declared.clause.Choice.TheVariants.{True, Open, False}
use Rattle.clause_search.specs.declared.turn.Turn.{Turn}
use Rattle.clause_search.specs.declared.turn.Turn.TheVariants.{GoesOn, AllTrue, Failed}
use Rattle.clause_search.specs.declared.turn.Pick.{Pick}
use Rattle.clause_search.specs.declared.turn.Pick.TheVariants.{Decide, Conflict as Conflict_at, Nothing}

abbrev pub says_true : Option Bool → Bool
says_true None = false
says_true (Some b) = b

-- a literal of the clause is true
abbrev pub is_satisfied : Assignment → List Literal → Bool
is_satisfied f c = list_any (λ l. says_true (literal_value f l)) c

-- what holds of each literal of the clause holds of this one
abbrev pub IsOf : List Literal → Literal → Type 0
IsOf c l = (test : Literal → Bool) → list_all test c ≡ true → test l ≡ true

-- what a clause does under an assignment: it forces a literal, or has false literals alone
abbrev pub Does : Assignment → List Literal → Verdict → Type 0
Does f c Quiet = Unit {0}
Does f c (Forces l) = unit_literal f c ≡ Some l
Does f c Conflict = is_conflict f c ≡ true

-- a clause has a true literal; or it has one without a value; or its literals are false
abbrev pub Leaves : Assignment → List Literal → Choice → Type 0
Leaves f c True = is_satisfied f c ≡ true
Leaves f c (Open l) = (f l.atom ≡ None) × IsOf c l
Leaves f c False = is_conflict f c ≡ true

-- the clause of this number has false literals alone
abbrev pub IsConflict : List (List Literal) → Assignment → ℕ → Type 0
IsConflict cs f h = (is_conflict_at f (clause_at cs h) ≡ true) × (is_hint h ≡ true)

-- where there is a number, it is a conflict's
abbrev pub MayConflict : List (List Literal) → Assignment → Option ℕ → Type 0
MayConflict cs f None = Unit {0}
MayConflict cs f (Some h) = IsConflict cs f h

-- each step holds, and each entry of the trail fits after those before it
pub record IsSearch (c : ClauseList) (log : List Step) (trail : List Entry) : Type 0 where
  pub steps : steps_hold c.clauses log ≡ true
  pub within : list_all (is_step c.atoms) log ≡ true
  pub fits : IsTrail c.atoms (with_steps c.clauses log) no_values trail

-- a turn: the search goes on, and its trail's number has grown; or all clauses are true; or the log refutes them
abbrev pub Turns : ClauseList → List Entry → List Step → List Entry → Turn → Type 0
Turns c old log new GoesOn = IsSearch c log new × (trail_number c.atoms old < trail_number c.atoms new)
Turns c old log new AllTrue = list_all (is_satisfied (values_of new)) c.clauses ≡ true
Turns c old log new Failed = IsRefutationOf c log

-- what is to be done where nothing is forced
abbrev pub Picks : ClauseList → Assignment → Pick → Type 0
Picks c f (Decide l) = (f l.atom ≡ None) × (is_within c.atoms l ≡ true)
Picks c f (Conflict_at i) = is_conflict f (slice_index_or c.clauses i []) ≡ true
Picks c f Nothing = list_all (is_satisfied f) c.clauses ≡ true
