use Rattle.std.proofs.Common.{◌≡◌, ◌<◌, [], length, sym, subst, arith}
use Rattle.csdn_core.specs.Members.{IsIn}
use Rattle.lazy_ground.proofs.PickLaws.{item_in, more_picked, none_empty}
use Rattle.lazy_ground.proofs.picking.picked.Goals as goal

pub clauses-preserved : goal.clauses-preserved
clauses-preserved c =
    let inside : c.clauses.at < length c.args.found.now.clauses = omega (arith, c.clauses-test.true, c.len-count.ensures) in
    more_picked c.args.found.now c.clauses.some c.put_if.new.some c.clauses.at c.clause-literals.result.now c.is_wanted-wanted.result c.clauses.invariant
    (subst (λ z. IsIn z c.args.found.now.clauses) (sym c.clause-literals.ensures) (item_in c.args.found.now.clauses c.clauses.at [] inside)) c.is_wanted-wanted.ensures c.in_ok-put_if.ensures

pub returns : goal.returns
returns c =
    let last : c.clauses.at ≡ length c.args.found.now.clauses = omega (arith, c.clauses-test.false, c.clauses.auto.at-end, c.len-count.ensures) in
    record { atoms = c.clauses.invariant.atoms; picked = record { within = c.clauses.invariant.within; one = none_empty c.args.found.now c.clauses.some c.clauses.at c.clauses.invariant last } }
