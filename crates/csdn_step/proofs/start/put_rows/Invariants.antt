use Rattle.std.proofs.Common.{◌≡◌, length}
use Rattle.net_structs.specs.Binds.{assignment}
use Rattle.net_structs.specs.Rows.{held}
use Rattle.csdn_step.specs.Starting.{started}
use Rattle.csdn_step.proofs.start.put_rows.Given as goal

abbrev pub invariant-rows : goal.invariant-rows
invariant-rows l =
    started l.program l.network (assignment l.env.pairs) l.rest (held l.state)
    ≡ started l.program l.network (assignment l.env.pairs) l.fn.rows (held l.fn.state)

abbrev pub decreases-rows : goal.decreases-rows
decreases-rows l = length l.rest
