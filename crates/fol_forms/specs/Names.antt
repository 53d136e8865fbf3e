-- New numbers of variables in scope.
use Rattle.std.specs.Prelude.{ℕ, ◌==◌, List, [], ◌∷◌, if◌then◌else◌}
use Rattle.fol_forms.specs.declared.renumber.Renaming.{Renaming}

-- the number of the last pair with this variable, or else n
abbrev pub last_number : ℕ → List Renaming → ℕ → ℕ
last_number n [] v = n
last_number n (r ∷ rs) v = last_number (if v == r.var.0 then r.number else n) rs v

-- the new number of each variable; one that no pair names keeps its own
abbrev pub new_numbers : List Renaming → ℕ → ℕ
new_numbers rs v = last_number v rs v
