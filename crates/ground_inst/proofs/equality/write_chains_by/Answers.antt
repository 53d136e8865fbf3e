use Rattle.ground_inst.specs.Equality.{chain_at}
use Rattle.ground_inst.specs.Facts.{num_of, vocabulary_of}
use Rattle.ground_inst.proofs.Turns.{one_more}
use Rattle.ground_inst.proofs.equality.write_chains_by.Goals as goal

pub constants-preserved : goal.constants-preserved
constants-preserved c =
    one_more (λ d. chain_at (num_of c.args.constants.now.facts.now) (vocabulary_of c.args.constants.now.parts.now c.args.constants.now.facts.now) c.args.sort c.args.a c.args.b d)
    c.args.rows.now c.constants.rows c.write_chain.new.rows c.constants.c c.constants.invariant c.in_ok-write_chain.ensures
