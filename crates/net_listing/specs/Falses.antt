-- The first invariant that is false.
use Rattle.std.specs.Prelude.{ℕ, if◌then◌else◌, List, [], ◌∷◌, Option, Some, None}
use Rattle.csdn_core.specs.declared.program.Invariant.{Invariant}
use Rattle.csdn_core.specs.Truth.{Structure, truth}
use Rattle.csdn_core.specs.Run.{no_values}

-- its name
abbrev pub first_false : Structure → List Invariant → Option (List ℕ)
first_false M [] = None
first_false M (v ∷ vs) = if truth M v.formula no_values then first_false M vs else Some v.name
