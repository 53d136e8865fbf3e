-- The match that a row of `ft` tells of a switch.
use Rattle.std.specs.Prelude.{ℕ, ◌==◌, Bool, ◌&&◌, if◌then◌else◌, List, [], ◌∷◌}
use Rattle.csdn_core.specs.declared.event.Match.{Match}
use Rattle.csdn_core.specs.Network.{Network}
use Rattle.net_structs.specs.declared.row.Row.{Row}
use Rattle.net_structs.specs.Networks.{has}

abbrev pub is_flow : Network → (a b i o : ℕ) → Bool
is_flow N a b i o = has N.hosts a && (has N.hosts b && (has N.ports i && has N.ports o))

abbrev pub match_of_cells : Network → ℕ → List ℕ → List Match
match_of_cells N s (t ∷ a ∷ b ∷ i ∷ o ∷ []) = if (s == t) && is_flow N a b i o then record { s = s; a = a; b = b; i = i } ∷ [] else []
match_of_cells N s _ = []

-- the match of a tuple of the switch, if its elements are the network's
abbrev pub match_at : Network → ℕ → Row → List Match
match_at N s row = match_of_cells N s row.cells
