-- Actions, and bytes behind them.
use Rattle.std.proofs.Common.{◌≡◌, ℕ, ◌+◌, List, ◌++◌, length, arith}
use Rattle.std.specs.Global.{Vec}
use Rattle.std.specs.List.{flat_map, AllByRecursion}
use Rattle.of10_wire.specs.declared.types.PhyPort.{PhyPort}
use Rattle.of10_wire.specs.declared.action.Action.{Action}
use Rattle.of10_wire.specs.Layout.{width}
use Rattle.of10_wire.specs.Actions.{action_slots}
use Rattle.of10_wire.specs.Writing.{Writes}
use Rattle.of10_wire.proofs.Standing.{width-append}
use Rattle.of10_wire.proofs.Items.{Writes-then, all_free}
use Rattle.of10_msgs.specs.Messages.{rest}

pub width_tail : (us : List Action) (v : List ℕ) → width (flat_map action_slots us ++ rest v) ≡ width (flat_map action_slots us) + length v
width_tail us v = omega (arith, width-append (flat_map action_slots us) (rest v))

pub writes_tail : (a b c : Vec ℕ) (us : List Action) (v : List ℕ) → Writes a b (flat_map action_slots us) → Writes b c (rest v) → Writes a c (flat_map action_slots us ++ rest v)
writes_tail a b c us v p q = Writes-then a b c (flat_map action_slots us) (rest v) p q

-- any ports can be written
pub ports_proper : (ports : List PhyPort) → AllByRecursion (λ (port : PhyPort). Unit {0}) ports
ports_proper ports = all_free ports
