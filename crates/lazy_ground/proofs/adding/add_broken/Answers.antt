use Rattle.clause_log.specs.Literals.{truths}
use Rattle.lazy_ground.proofs.AddLaws.{added_broken}
use Rattle.lazy_ground.proofs.adding.add_broken.Goals as goal

pub returns-clause-ok : goal.returns-clause-ok
returns-clause-ok c =
    added_broken c.args.program.now c.args.lazy.now.made.sentence (truths c.args.valuation.now) c.args.lazy.now c.in_ok-found.found.clauses c.in_ok-all.all c.len-added.result c.requires.lazy c.requires.model c.in_ok-found.ensures.broken c.in_ok-all.ensures c.len-added.ensures
