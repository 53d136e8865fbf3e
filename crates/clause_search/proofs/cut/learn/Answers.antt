use Rattle.clause_log.specs.Refutations.{with_steps}
use Rattle.clause_search.specs.Cuts.{mark_of}
use Rattle.clause_search.proofs.Points.{learned_holds, learned_is_step, learned_jumps}
use Rattle.clause_search.proofs.cut.learn.Goals as goal

pub returns-clause-holds : goal.returns-clause-holds
returns-clause-holds c =
    learned_holds c.args.clauses.now.atoms (with_steps c.args.clauses.now.clauses c.args.log.now) c.args.trail.now (mark_of c.walk.new.marks) c.walk.new.marks.seen c.in_ok-jump.jump c.walk.new.hints.items c.collect.new.literals.items c.reverse.new.self.items
    c.requires.search.fits c.in_ok-collect.ensures.listed c.in_ok-jump.ensures.cut c.in_ok-jump.ensures.point c.in_ok-collect.ensures.literals c.reverse.ensures.items

pub returns-clause-within : goal.returns-clause-within
returns-clause-within c =
    learned_is_step c.args.clauses.now.atoms (with_steps c.args.clauses.now.clauses c.args.log.now) c.args.trail.now (mark_of c.walk.new.marks) c.walk.new.marks.seen c.walk.new.hints.items c.collect.new.literals.items c.reverse.new.self.items
    c.requires.search.fits c.in_ok-collect.ensures.listed c.in_ok-jump.ensures.cut c.in_ok-collect.ensures.literals c.reverse.ensures.items

pub returns-clause-jump : goal.returns-clause-jump
returns-clause-jump c =
    learned_jumps c.args.clauses.now.atoms (with_steps c.args.clauses.now.clauses c.args.log.now) c.args.trail.now (mark_of c.walk.new.marks) c.walk.new.marks.seen c.in_ok-jump.jump c.collect.new.literals.items
    c.requires.search.fits c.in_ok-collect.ensures.listed c.in_ok-jump.ensures.point c.in_ok-collect.ensures.literals
