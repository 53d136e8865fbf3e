use Rattle.std.proofs.Common.{◌≡◌, ◌++◌, map}
use Rattle.net_structs.specs.Networks.{as_stored, static_of}
use Rattle.net_structs.proofs.network.Network.rows.Given as goal

abbrev pub invariant-rows : goal.invariant-rows
invariant-rows l = l.rows ++ as_stored (map static_of l.row-iterator) ≡ as_stored l.self.rows
