use Rattle.std.proofs.Common.{◌≡◌, take}
use Rattle.std.specs.Prelude.{map}
use Rattle.of10_session.specs.Replies.{out_action}
use Rattle.of10_session.proofs.reply.out_actions.Given as goal

abbrev pub invariant-loop-out : goal.invariant-loop-out
invariant-loop-out l = l.actions.items ≡ map (out_action l.ingress) (take l.out-index l.outs)
