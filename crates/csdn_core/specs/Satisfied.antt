-- Sentences that are true in some network and state.
use Rattle.std.specs.Prelude.{IsTrue}
use Rattle.csdn_core.specs.declared.event.Packet.TheVariants.{Nothing}
use Rattle.csdn_core.specs.declared.program.Parts.{Parts}
use Rattle.csdn_core.specs.declared.syntax.Formula.{Formula}
use Rattle.csdn_core.specs.Truth.{truth}
use Rattle.csdn_core.specs.Network.{Network, State, structure, IsNetwork}
use Rattle.csdn_core.specs.Run.{no_values}

module _ (P : Parts) (F : Formula) where
  -- the sentence is true in the network and state
  abbrev pub IsTrueIn : Network → State → Type 0
  IsTrueIn N x = IsTrue (truth (structure P N x Nothing) F no_values)

  -- some network and state make it true
  abbrev pub HasNetwork : Type 0
  HasNetwork = (N : Network) × (x : State) × IsNetwork P N × IsTrueIn N x
