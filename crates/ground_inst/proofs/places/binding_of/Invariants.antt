use Rattle.std.proofs.Common.{◌≡◌, length}
use Rattle.ground_inst.proofs.Scopes.{stands}
use Rattle.ground_inst.proofs.places.binding_of.Given as goal

abbrev pub invariant-bindings : goal.invariant-bindings
invariant-bindings l = stands l.rest l.var.0 ≡ stands l.env l.var.0

abbrev pub decreases-bindings : goal.decreases-bindings
decreases-bindings l = length l.rest
