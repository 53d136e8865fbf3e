use Rattle.std.proofs.Common.{arith}
use Rattle.csdn_conditions.proofs.Shared.{starts_within}
use Rattle.vericon_decide.proofs.LevelLaws.{shared_rises}
use Rattle.vericon_decide.proofs.levels.prove_starts.Goals as goal

pub prove-requires-clause-first : goal.prove-requires-clause-first
prove-requires-clause-first c =
    let rises = shared_rises c.args.program.now c.args.level in
    omega (arith, rises, c.shared_count-first.ensures, c.shared_count-end.ensures)

pub prove-requires-clause-end : goal.prove-requires-clause-end
prove-requires-clause-end c =
    let within = starts_within c.args.program.now c.args.level in
    omega (arith, within, c.shared_count-end.ensures)
