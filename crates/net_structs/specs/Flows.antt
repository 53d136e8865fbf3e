-- The flow rules of a match.
use Rattle.std.specs.Prelude.{◌≡◌, ℕ, if◌then◌else◌, List, [], ◌∷◌}
use Rattle.std.specs.List.{flat_map}
use Rattle.csdn_core.specs.declared.terms.Pred.TheVariants.{Ft}
use Rattle.csdn_core.specs.declared.event.Match.{Match}
use Rattle.csdn_core.specs.Network.{same_pred, same_cells}
use Rattle.std.specs.declared.cmp.Ordering.TheVariants.{Less}
use Rattle.net_structs.specs.declared.row.Row.{Row}
use Rattle.net_structs.specs.Rows.{row_cmp}

-- the elements of a match
abbrev pub match_cells : Match → List ℕ
match_cells m = m.s ∷ m.a ∷ m.b ∷ m.i ∷ []

-- the egress port of a tuple that fits the match
abbrev pub port_of : Match → List ℕ → List ℕ
port_of m (s ∷ a ∷ b ∷ i ∷ o ∷ []) = if same_cells (match_cells m) (s ∷ a ∷ b ∷ i ∷ []) then o ∷ [] else []
port_of m _ = []

-- .. where it is one of `ft`
abbrev pub output_of : Match → Row → List ℕ
output_of m row = if same_pred Ft row.pred then port_of m row.cells else []

-- the egress ports of the flow rules of a match, in the order of the rows
abbrev pub outputs_of : Match → List Row → List ℕ
outputs_of m rows = flat_map (output_of m) rows

-- the tuple of a flow rule of the match
abbrev pub flow_row : Match → ℕ → Row
flow_row m o = record { pred = Ft; cells = m.s ∷ m.a ∷ m.b ∷ m.i ∷ o ∷ [] }

-- the least row of `ft` that begins like the match
abbrev pub first_row : Match → Row
first_row m = record { pred = Ft; cells = match_cells m }

-- a row behind all flow rules of the match
pub record IsPast (m : Match) (row : Row) : Type 0 where
  pub first : row_cmp (first_row m) row ≡ Less
  pub flows : (o : ℕ) → row_cmp (flow_row m o) row ≡ Less
