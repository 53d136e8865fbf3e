use Rattle.csdn_conditions.proofs.Joined.{joined_before}
use Rattle.csdn_conditions.proofs.lists.joined.Goals as goal

pub join-preserved : goal.join-preserved
join-preserved c =
    rw c.in_ok-made.ensures
    (joined_before c.args.join c.args.formulas c.join.before c.pop-in-join.new.self c.in-Some-pop.formula c.join.made c.in-Some-pop.ensures c.join.invariant)
