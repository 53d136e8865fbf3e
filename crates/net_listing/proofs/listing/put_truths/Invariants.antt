use Rattle.std.proofs.Common.{◌≡◌, ◌≤◌, ◌++◌, All, length}
use Rattle.std.specs.List.{flat_map}
use Rattle.text_lines.specs.Printed.{line_text}
use Rattle.csdn_core.specs.Network.{structure}
use Rattle.csdn_core.specs.Depth.{depth}
use Rattle.net_structs.specs.Rows.{held}
use Rattle.net_listing.specs.Listings.{truth_lines}
use Rattle.net_listing.proofs.listing.put_truths.Given as goal

abbrev pub invariant-invariants : goal.invariant-invariants
invariant-invariants l =
    (l.out.items ++ flat_map line_text (truth_lines l.kind (structure l.program l.network (held l.state) l.packet) l.rest) ≡ l.fn.out.items ++ flat_map line_text (truth_lines l.kind (structure l.program l.network (held l.state) l.packet) l.invariants))
    × (l.env ≡ l.fn.env) × All (λ v. depth v.formula ≤ 24) l.rest

abbrev pub decreases-invariants : goal.decreases-invariants
decreases-invariants l = length l.rest
