use Rattle.class_networks.proofs.WholeNetworks.{answered}
use Rattle.class_networks.proofs.making.network_of.Goals as goal

pub returns-clause-network : goal.returns-clause-network
returns-clause-network c =
    (answered _ c.args.program.now c.args.made.now.sentence c.parts.ensures.value c.requires.sentence c.requires.facts c.requires.judgement c.case_of.result c.case_of.ensures).network

pub returns-clause-case : goal.returns-clause-case
returns-clause-case c =
    (answered _ c.args.program.now c.args.made.now.sentence c.parts.ensures.value c.requires.sentence c.requires.facts c.requires.judgement c.case_of.result c.case_of.ensures).case
