use Rattle.std.proofs.Common.{arith}
use Rattle.clause_log.proofs.Flat.{row_in, begins_later}
use Rattle.clause_log.proofs.rows.place_of.Goals as goal

pub returns-then-at-eq0-clause-inside : goal.returns-then-at-eq0-clause-inside
returns-then-at-eq0-clause-inside c = (row_in 0 c.args.ends.now c.args.count 0 c.requires.split (omega arith)).1

pub returns-else-at-eq0-clause-order : goal.returns-else-at-eq0-clause-order
returns-else-at-eq0-clause-order c =
    let r = row_in 0 c.args.ends.now c.args.count c.args.at c.requires.split c.requires.within in
    omega (arith, begins_later c.args.ends.now c.args.at c.if-at-eq0.false, r.0)

pub returns-else-at-eq0-clause-start : goal.returns-else-at-eq0-clause-start
returns-else-at-eq0-clause-start c = begins_later c.args.ends.now c.args.at c.if-at-eq0.false

pub returns-else-at-eq0-clause-inside : goal.returns-else-at-eq0-clause-inside
returns-else-at-eq0-clause-inside c = (row_in 0 c.args.ends.now c.args.count c.args.at c.requires.split c.requires.within).1
