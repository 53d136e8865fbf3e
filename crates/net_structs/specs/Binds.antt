-- What a list of pairs of variables and elements stands for.
use Rattle.std.specs.Prelude.{ℕ, ◌==◌, if◌then◌else◌, List, [], ◌∷◌, Option, Some}
use Rattle.csdn_core.specs.declared.terms.VarId.{VarId}
use Rattle.csdn_core.specs.Truth.{Assignment, with_var}
use Rattle.csdn_core.specs.Run.{no_values}
use Rattle.net_structs.specs.declared.env.Pair.{Pair}

-- the pairs, and how many there may be
pub record Binds : Type 0 where
  pub pairs : List Pair
  pub room : ℕ

abbrev pub extended : Assignment → List Pair → Assignment
extended e [] = e
extended e (pair ∷ pairs) = extended (with_var e pair.var pair.value) pairs

-- the last pair of a variable has its element
abbrev pub assignment : List Pair → Assignment
assignment pairs = extended no_values pairs

-- the element of the last pair with this variable, or else the one found before
abbrev pub found_in : Option ℕ → List Pair → VarId → Option ℕ
found_in found [] v = found
found_in found (pair ∷ pairs) v = found_in (if v.0 == pair.var.0 then Some pair.value else found) pairs v
