use Rattle.std.proofs.Common.{◌≡◌, [], ◌∷◌, length}
use Rattle.csdn_core.specs.Execution.{flooded}
use Rattle.csdn_step.specs.Drafts.{standing, start_of}
use Rattle.csdn_step.proofs.sends.flood_packet.Given as goal

abbrev pub invariant-ports : goal.invariant-ports
invariant-ports l =
    (flooded (standing l.draft) l.rest (l.s ∷ l.a ∷ l.b ∷ l.i ∷ []) ≡ flooded (standing l.fn.draft) l.ports (l.s ∷ l.a ∷ l.b ∷ l.i ∷ []))
    × (start_of l.draft ≡ start_of l.fn.draft)

abbrev pub decreases-ports : goal.decreases-ports
decreases-ports l = length l.rest
