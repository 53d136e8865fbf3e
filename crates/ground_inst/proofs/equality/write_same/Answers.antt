use Rattle.std.proofs.Common.{[], ◌∷◌}
use Rattle.decision_laws.specs.Clauses.{yes}
use Rattle.decision_laws.specs.Copies.{Equation}
use Rattle.ground_inst.specs.Facts.{num_of}
use Rattle.ground_inst.proofs.Turns.{one_more}
use Rattle.ground_inst.proofs.equality.write_same.Goals as goal

pub constants-preserved : goal.constants-preserved
constants-preserved c =
    one_more (λ a. (yes (num_of c.args.constants.now.facts.now (Equation c.args.sort a a)) ∷ []) ∷ [])
    c.args.rows.now c.constants.rows c.write_same_at.new.rows c.constants.a c.constants.invariant c.in_ok-write_same_at.ensures
