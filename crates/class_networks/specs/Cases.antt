-- The network and the state of a valuation.
use Rattle.std.specs.Prelude.{◌≡◌, ℕ, Bool, List, Option, Some, None, All}
use Rattle.std.specs.Ordering.{nat_cmp}
use Rattle.csdn_core.specs.declared.event.Packet.TheVariants.{Nothing}
use Rattle.csdn_core.specs.declared.program.Parts.{Parts}
use Rattle.csdn_core.specs.declared.syntax.Formula.{Formula}
use Rattle.csdn_core.specs.Network.{Network, IsNetwork}
use Rattle.csdn_core.specs.Satisfied.{IsTrueIn}
use Rattle.decision_laws.specs.Classes.{network_of, state_of}
use Rattle.decision_laws.specs.Laws.{judged}
use Rattle.fol_forms.specs.Forms.{form_of}
use Rattle.net_structs.specs.declared.case.Case.{Case}
use Rattle.net_structs.specs.declared.row.Row.{Row}
use Rattle.net_structs.specs.Networks.{in_order, static_cmp}
use Rattle.net_structs.specs.Rows.{held}
use Rattle.net_structs.specs.StateTuples.{IsStateTuple}

-- the network with its elements and its tuples in order, each once
abbrev pub ordered : Network → Network
ordered N = record {
  switches = in_order nat_cmp N.switches;
  hosts = in_order nat_cmp N.hosts;
  ports = in_order nat_cmp N.ports;
  constants = N.constants;
  rows = in_order static_cmp N.rows;
}

-- there is a state, and its rows are such
abbrev pub HasState : Option (List Row) → (List Row → Type 0) → Type 0
HasState None p = ⊥
HasState (Some rows) p = p rows

-- The network and the state that decision_laws makes of what the valuation says of facts: each element, each value of a constant
-- and each tuple is told.
pub record IsNetworkOf (P : Parts) (F : Formula) (v : ℕ → Bool) (c : Case) : Type 0 where
  pub network : c.network ≡ ordered (network_of P (form_of F) (judged P F v))
  pub state : HasState c.state (λ rows. held rows ≡ state_of P (form_of F) (judged P F v))
  pub packet : c.packet ≡ Nothing

-- a network of the program, and a state of its elements in which the sentence is true
pub record MakesTrue (P : Parts) (F : Formula) (c : Case) : Type 0 where
  pub network : IsNetwork P c.network
  pub tuples : HasState c.state (All (IsStateTuple P c.network))
  pub state : HasState c.state (λ rows. IsTrueIn P F c.network (held rows))
  pub packet : c.packet ≡ Nothing
