use Rattle.ground_inst.specs.declared.facts.Facts.{Facts}
use Rattle.ground_inst.proofs.FactSteps.{gathered_are_facts}
use Rattle.ground_inst.proofs.facts.facts_of.Goals as goal

pub returns-then-facts : goal.returns-then-facts
returns-then-facts c =
    let start : Facts = record { counts = c.constants_of-counts.result; relations = c.new.result; count = c.in_ok-count.count } in
    gathered_are_facts c.args.parts.now c.args.sentence.now start c.gather_all.new.facts c.constants_of-counts.ensures c.new.ensures c.in_ok-count.ensures c.in_ok-gather_all.ensures c.if-facts.true
