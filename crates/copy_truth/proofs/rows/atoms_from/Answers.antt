use Rattle.copy_truth.proofs.OpenTuples.{in_from_equal, in_from_next}
use Rattle.copy_truth.proofs.rows.atoms_from.Goals as goal

pub returns-in-Ok-clause-behind : goal.returns-in-Ok-clause-behind
returns-in-Ok-clause-behind c = in_from_equal c.args.atoms.now c.args.before c.in-Ok.place c.requires c.in-Ok.ensures.position

pub returns-in-Err-clause-behind : goal.returns-in-Err-clause-behind
returns-in-Err-clause-behind c = in_from_next c.args.atoms.now c.args.before c.in-Err.place c.requires c.in-Err.ensures.position
