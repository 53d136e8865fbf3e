-- When a log refutes clauses.
use Rattle.std.specs.Prelude.{ℕ, zero, suc, Bool, true, false, ◌&&◌, List, [], ◌∷◌, ◌++◌, map, take, Option, Some, None, slice_get}
use Rattle.clause_log.specs.Literals.{Literal}
use Rattle.clause_log.specs.Assignments.{Assignment, no_values, assign, with_false, unit_literal, is_conflict, is_empty}

-- a step adds the clause of its literals; its hints are numbers of earlier clauses
pub record Step : Type 0 where
  pub literals : List Literal
  pub hints : List ℕ

-- what a list of steps gives past its end
abbrev pub no_step : Step
no_step = record { literals = []; hints = [] }

-- the clause of this number; clauses are numbered from 1
abbrev pub clause_at : List (List Literal) → ℕ → Option (List Literal)
clause_at cs zero = None
clause_at cs (suc i) = slice_get cs i

abbrev pub is_conflict_at : Assignment → Option (List Literal) → Bool
is_conflict_at f None = false
is_conflict_at f (Some c) = is_conflict f c

abbrev pub unit_at : Assignment → Option (List Literal) → Option Literal
unit_at f None = None
unit_at f (Some c) = unit_literal f c

-- goes on with the forced literal true, if there is one
abbrev pub with_unit : Option Literal → Assignment → (Assignment → Bool) → Bool
with_unit None f rest = false
with_unit (Some l) f rest = rest (assign l f)

-- each hint but the last names a clause that forces a literal, which is then true, and the last one names a conflict
abbrev pub reaches_conflict : List (List Literal) → List ℕ → Assignment → Bool
reaches_conflict cs [] f = false
reaches_conflict cs (h ∷ []) f = is_conflict_at f (clause_at cs h)
reaches_conflict cs (h ∷ k ∷ hs) f = with_unit (unit_at f (clause_at cs h)) f (reaches_conflict cs (k ∷ hs))

-- with the step's literals false, its hints reach a conflict among these clauses
abbrev pub step_holds : List (List Literal) → Step → Bool
step_holds cs s = reaches_conflict cs s.hints (with_false no_values s.literals)

-- each step holds over the clauses and those of the steps before it
abbrev pub steps_hold : List (List Literal) → List Step → Bool
steps_hold cs [] = true
steps_hold cs (s ∷ ss) = step_holds cs s && steps_hold (cs ++ s.literals ∷ []) ss

-- there is a step, and the last one has no literal
abbrev pub ends_empty : List Step → Bool
ends_empty [] = false
ends_empty (s ∷ []) = is_empty s.literals
ends_empty (s ∷ t ∷ ss) = ends_empty (t ∷ ss)

-- the log refutes the clauses: all its steps hold, and the last one has no literal
abbrev pub is_refutation : List (List Literal) → List Step → Bool
is_refutation cs ss = steps_hold cs ss && ends_empty ss

-- the clauses, and those of the steps
abbrev pub with_steps : List (List Literal) → List Step → List (List Literal)
with_steps cs ss = cs ++ map (λ s. s.literals) ss

-- the clauses, and those of the first n steps
abbrev pub known : List (List Literal) → List Step → ℕ → List (List Literal)
known cs ss n = with_steps cs (take n ss)
