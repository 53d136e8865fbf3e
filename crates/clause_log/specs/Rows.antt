-- A list of rows that is kept flat: the items one after the other, and the place where each row ends.
use Rattle.std.specs.Prelude.{◌≡◌, ℕ, zero, suc, slice_index, ◌-◌, ◌^◌, ◌<◌, ◌≤◌, true, length, List, [], ◌∷◌, take, drop}
use Rattle.std.specs.List.{list_all}
use Rattle.clause_log.specs.Literals.{Literal, is_clause, has_distinct_atoms}
use Rattle.clause_log.specs.Refutations.{Step}

-- the parts of a list, from a place to each end
abbrev pub split : {X : Type 0} → ℕ → List ℕ → List X → List (List X)
split low [] xs = []
split low (e ∷ es) xs = take (e - low) (drop low xs) ∷ split e es xs

-- the ends never fall, and the last one is the length
abbrev pub IsSplit : ℕ → List ℕ → ℕ → Type 0
IsSplit low [] n = low ≡ n
IsSplit low (e ∷ es) n = (low ≤ e) × IsSplit e es n

-- where a row begins
abbrev pub begins : ℕ → List ℕ → ℕ → ℕ
begins low es zero = low
begins low es (suc i) = slice_index es i

-- steps, from their literals and their hints
abbrev pub steps_of : List (List Literal) → List (List ℕ) → List Step
steps_of [] hs = []
steps_of (l ∷ ls) [] = []
steps_of (l ∷ ls) (h ∷ hs) = record { literals = l; hints = h } ∷ steps_of ls hs

-- what a flat list of clauses keeps
pub record AreFlatClauses (atoms : ℕ) (ends : List ℕ) (literals : List Literal) : Type 0 where
  pub split_up : IsSplit 0 ends (length literals)
  pub small : atoms < 2 ^ 62
  pub clauses : list_all (is_clause atoms) (split 0 ends literals) ≡ true

-- what a flat list of steps keeps: the two lists are split up into equally many rows
pub record AreFlatSteps (literal_ends : List ℕ) (literals : List Literal) (hint_ends hints : List ℕ) : Type 0 where
  pub literals_split : IsSplit 0 literal_ends (length literals)
  pub hints_split : IsSplit 0 hint_ends (length hints)
  pub even : length literal_ends ≡ length hint_ends
  pub distinct : list_all has_distinct_atoms (split 0 literal_ends literals) ≡ true
