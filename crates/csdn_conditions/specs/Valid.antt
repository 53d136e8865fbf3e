-- What it means that a condition is valid, and that it has a case.
use Rattle.std.specs.Prelude.{IsFalse}
use Rattle.csdn_core.specs.declared.event.Packet.TheVariants.{Nothing}
use Rattle.csdn_core.specs.declared.program.Parts.{Parts}
use Rattle.csdn_core.specs.Truth.{truth}
use Rattle.csdn_core.specs.Network.{Network, State, structure, IsNetwork}
use Rattle.csdn_core.specs.Run.{no_values}
use Rattle.csdn_core.specs.Satisfied.{IsTrueIn}
use Rattle.csdn_conditions.specs.declared.sentence.Condition.{Condition}

-- in every network and state in which the hypothesis is true, the goal is
abbrev pub IsValid : Parts → Condition → Type 0
IsValid P c =
    (N : Network) (x : State) → IsNetwork P N → IsTrueIn P c.hypothesis N x → IsTrueIn P c.goal N x

-- a case of it: a network and a state in which the hypothesis is true and the goal false
abbrev pub HasCase : Parts → Condition → Type 0
HasCase P c =
    (N : Network) × (x : State) × IsNetwork P N × IsTrueIn P c.hypothesis N x × IsFalse (truth (structure P N x Nothing) c.goal no_values)
