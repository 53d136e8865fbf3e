use Rattle.std.proofs.Common.{Err, subst}
use Rattle.std.proofs.lemmas.List.Sorted.{searched}
use Rattle.clause_log.specs.Literals.{truths}
use Rattle.lazy_ground.specs.Readings.{IsFree}
use Rattle.lazy_ground.proofs.ReadLaws.{free_between, rising_at}
use Rattle.lazy_ground.proofs.reading.is_free.Goals as goal

pub returns-in-Err : goal.returns-in-Err
returns-in-Err c =
    λ h. subst (λ xs. IsFree (truths xs) c.args.first c.args.count) c.true_atoms-atoms.ensures.atoms
    (free_between c.true_atoms-atoms.result.now c.args.first c.in-Err.place c.args.count (rising_at c.true_atoms-atoms.result.now c.true_atoms-atoms.ensures.rising)
    (searched c.true_atoms-atoms.result.now c.args.first (Err c.in-Err.place) c.in-Err.ensures.position (rising_at c.true_atoms-atoms.result.now c.true_atoms-atoms.ensures.rising)).1 (c.is_past.ensures h))
