use Rattle.std.proofs.Common.{◌≡◌, take}
use Rattle.std.specs.Prelude.{map}
use Rattle.of10_session.specs.Replies.{output_to}
use Rattle.of10_session.proofs.reply.outputs.Given as goal

abbrev pub invariant-loop-port : goal.invariant-loop-port
invariant-loop-port l = l.actions.items ≡ map (output_to l.ingress) (take l.port-index l.ports)
