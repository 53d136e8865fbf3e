use Rattle.std.proofs.Common.{rules, ◌≤◌, length, arith}
use Rattle.csdn_conditions.specs.Start.{stored_from}
use Rattle.csdn_conditions.proofs.StartMade.{stored_next, rest_has}
use Rattle.csdn_conditions.proofs.start.stored.Goals as goal

pub relations-preserved : goal.relations-preserved
relations-preserved c = (
  rw (c.in_ok-push_stored.ensures, c.relation-item.is)
      (stored_next c.args.rows.now c.relations.place c.relations.rest.now c.relation-item.result c.relations.members (stored_from c.args.rows.now 0 c.args.relations.now) (search rules) c.relations.invariant.0),
  grind arith,
  rest_has (λ r. length r.sorts ≤ 5) c.relations.rest.now c.relations.invariant.2,
)
