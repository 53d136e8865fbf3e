use Rattle.csdn_tokens.proofs.Runs.{go_blank, go_one, go_fault, go_end}
use Rattle.csdn_tokens.proofs.tokens.Goals as goal

pub pieces-preserved-in-Blank : goal.pieces-preserved-in-Blank
pieces-preserved-in-Blank c = go_blank c.pieces.invariant c.pieces-test.true c.in-Blank.ensures.value c.in-Blank.ensures.within.1

pub pieces-preserved : goal.pieces-preserved
pieces-preserved c = rw c.in_ok-push-in-Token.ensures.items (go_one c.pieces.invariant c.pieces-test.true c.in-Token.ensures.value c.in-Token.ensures.within.1 c.in_ok-next-in-Token.ensures)

pub returns-in-Bad : goal.returns-in-Bad
returns-in-Bad c = rw c.in_ok-push-in-Bad.ensures.items (go_fault c.pieces.invariant c.pieces-test.true c.in-Bad.ensures.value c.in_ok-fault-in-Bad.ensures)

pub returns : goal.returns
returns c = rw c.in_ok-push.ensures.items (go_end c.pieces.invariant c.pieces-test.false c.in_ok-end.ensures)
