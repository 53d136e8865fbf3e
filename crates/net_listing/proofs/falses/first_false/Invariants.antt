use Rattle.std.proofs.Common.{◌≡◌, ◌≤◌, All, length}
use Rattle.csdn_core.specs.Network.{structure}
use Rattle.csdn_core.specs.Depth.{depth}
use Rattle.net_structs.specs.Rows.{held}
use Rattle.net_listing.specs.Falses.{first_false}
use Rattle.net_listing.proofs.falses.first_false.Given as goal

abbrev pub invariant-invariants : goal.invariant-invariants
invariant-invariants l =
    (first_false (structure l.program l.network (held l.state) l.packet) l.rest ≡ first_false (structure l.program l.network (held l.state) l.packet) l.invariants)
    × (l.env ≡ l.fn.env) × All (λ v. depth v.formula ≤ 24) l.rest

abbrev pub decreases-invariants : goal.decreases-invariants
decreases-invariants l = length l.rest
