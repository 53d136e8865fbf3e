-- What is made of a judgement with these numbers of its classes.
use Rattle.std.specs.Prelude.{◌≡◌, ℕ, ◌-◌, ◌/◌, ◌==◌, Bool, not, List, [], ◌∷◌, Option, Some, None, flat_map, filter, map, length, nat_lt, if◌then◌else◌}
use Rattle.std.specs.Ordering.{nat_cmp}
use Rattle.csdn_core.specs.declared.terms.Sort.{Sort}
use Rattle.csdn_core.specs.declared.terms.Pred.{Pred}
use Rattle.csdn_core.specs.declared.terms.Pred.TheVariants.{Stored, Ft, Sent, RcvThis}
use Rattle.csdn_core.specs.declared.terms.Term.TheVariants.{Const}
use Rattle.csdn_core.specs.declared.event.Packet.TheVariants.{Nothing}
use Rattle.csdn_core.specs.declared.program.Parts.{Parts}
use Rattle.csdn_core.specs.Network.{Network, StaticRow, is_fixed}
use Rattle.fol_forms.specs.Constants.{names_of}
use Rattle.decision_laws.specs.Vocabulary.{places_from, sort_of_constant}
use Rattle.decision_laws.specs.Copies.{index_of}
use Rattle.decision_laws.specs.Numbers.{tuple_of}
use Rattle.decision_laws.specs.Classes.{Meaning, is_static, values_of}
use Rattle.ground_inst.specs.declared.facts.UsedRelation.{UsedRelation}
use Rattle.net_structs.specs.declared.row.Row.{Row}
use Rattle.net_structs.specs.declared.case.Case.{Case}
use Rattle.net_structs.specs.Networks.{in_order, static_cmp}
use Rattle.net_structs.specs.Rows.{row_cmp}
use Rattle.class_networks.specs.declared.judgement.Judgement.{Judgement}
use Rattle.class_networks.specs.declared.numbers.Numbers.{Numbers}
use Rattle.class_networks.specs.Judgements.{constants_in}
use Rattle.class_networks.specs.Numberings.{AreNumbers, number_at}

-- the value of a declared constant
abbrev pub value_in : Parts → Numbers → ℕ → ℕ
value_in P numbers k = number_at numbers (sort_of_constant P k) (index_of (Const (record { 0 = k })) (names_of P (sort_of_constant P k)))

abbrev pub values_in : Parts → Numbers → List ℕ
values_in P numbers = map (value_in P numbers) (places_from 0 (length P.constants))

-- The tuples of true atoms, where the constants have these numbers.

abbrev pub rows_by : Pred → Option (List ℕ) → List Row
rows_by r None = []
rows_by r (Some cells) = record { pred = r; cells = cells } ∷ []

-- what is left of a tuple's number behind its places: nothing where the tuple is one of these sorts
abbrev pub left_over : (Sort → ℕ) → List Sort → ℕ → ℕ
left_over n [] k = k
left_over n (s ∷ ss) k = left_over n ss (k / n s)

module _ (n : Sort → ℕ) (ρ : Meaning) where
  -- the elements of the tuple of a number
  abbrev pub cells_by : List Sort → ℕ → Option (List ℕ)
  cells_by ss k = if left_over n ss k == 0 then Some (values_of ρ ss (tuple_of n ss k)) else None

  -- the tuple of an atom, where it is one of the relation's
  abbrev pub row_at : UsedRelation → ℕ → List Row
  row_at u x = if nat_lt u.before x then rows_by u.relation (cells_by u.sorts (x - u.before - 1)) else []

  -- those of these true atoms
  abbrev pub rows_in : List ℕ → List UsedRelation → List Row
  rows_in trues us = flat_map (λ u. flat_map (row_at u) trues) us

-- The tuples of static relations, and the others.

abbrev pub fixed_tuple : Parts → Pred → List ℕ → List StaticRow
fixed_tuple P (Stored r) cells = if is_fixed P r.0 then record { rel = r.0; cells = cells } ∷ [] else []
fixed_tuple P Ft cells = []
fixed_tuple P Sent cells = []
fixed_tuple P RcvThis cells = []

abbrev pub fixed_row : Parts → Row → List StaticRow
fixed_row P row = fixed_tuple P row.pred row.cells

abbrev pub fixed_rows : Parts → List Row → List StaticRow
fixed_rows P rows = flat_map (fixed_row P) rows

abbrev pub is_stored : Parts → Row → Bool
is_stored P row = not (is_static P row.pred)

abbrev pub stored_rows : Parts → List Row → List Row
stored_rows P rows = filter (is_stored P) rows

-- the rows of a judgement
abbrev pub judged_rows : Judgement → Numbers → List Row
judged_rows g numbers = rows_in (constants_in g) (number_at numbers) g.valuation.now g.facts.now.relations

-- the network whose elements are the numbers of constants, with those of these tuples that are of static relations
abbrev pub made_network : Parts → Numbers → List Row → Network
made_network P numbers rows = record {
  switches = in_order nat_cmp numbers.switches;
  hosts = in_order nat_cmp numbers.hosts;
  ports = in_order nat_cmp numbers.ports;
  constants = values_in P numbers;
  rows = in_order static_cmp (fixed_rows P rows);
}

-- the case is made of a judgement
pub record IsMade (g : Judgement) (c : Case) : Type 0 where
  pub numbers : Numbers
  pub are_numbers : AreNumbers g numbers
  pub network : c.network ≡ made_network g.parts.now numbers (judged_rows g numbers)
  pub state : c.state ≡ Some (in_order row_cmp (stored_rows g.parts.now (judged_rows g numbers)))
  pub packet : c.packet ≡ Nothing
