use Rattle.std.proofs.Common.{arith}
use Rattle.lazy_ground.proofs.JoinLaws.{one_more_row}
use Rattle.lazy_ground.proofs.joining.has_join.Goals as goal

pub constants-init : goal.constants-init
constants-init c a l = absurd (omega (arith, l))

pub constants-preserved : goal.constants-preserved
constants-preserved c = one_more_row _ c.constants.a c.constants.invariant (c.in_ok-joined.ensures c.if-joined.false)

pub returns : goal.returns
returns c e a b l m = c.constants.invariant a (omega (arith, m, c.constants-test.false, c.of-count.ensures)) b l
