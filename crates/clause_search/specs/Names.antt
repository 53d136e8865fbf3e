-- Names for small atoms: the k-th name stands for the atom k, counted from 1.
use Rattle.std.specs.Prelude.{◌≡◌, ℕ, ◌-◌, ◌<◌, ◌≤◌, Bool, List, length, map, slice_index}
use Rattle.clause_log.specs.Literals.{Literal}
use Rattle.clause_log.specs.Refutations.{Step}

abbrev pub named_atom : List ℕ → ℕ → ℕ
named_atom names a = slice_index names (a - 1)

abbrev pub named : List ℕ → Literal → Literal
named names l = record { positive = l.positive; atom = named_atom names l.atom }

abbrev pub named_clause : List ℕ → List Literal → List Literal
named_clause names c = map (named names) c

abbrev pub named_step : List ℕ → Step → Step
named_step names s = record { literals = named_clause names s.literals; hints = s.hints }

-- names rise, and are atoms from 1 to the greatest one
pub record AreNames (atoms : ℕ) (names : List ℕ) : Type 0 where
  pub rising : (i j : ℕ) → i < j → j < length names → slice_index names i < slice_index names j
  pub from_one : (i : ℕ) → i < length names → 0 < slice_index names i
  pub most : (i : ℕ) → i < length names → slice_index names i ≤ atoms

-- the valuation gives each name the value of its small atom
abbrev pub IsNamedValuation : List ℕ → (ℕ → Bool) → (ℕ → Bool) → Type 0
IsNamedValuation names small v = (a : ℕ) → 0 < a → a ≤ length names → v (named_atom names a) ≡ small a
