use Rattle.fol_forms.specs.Counts.{count_of}
use Rattle.ground_inst.specs.Facts.{vocabulary_of}
use Rattle.ground_inst.specs.Walk.{scope}
use Rattle.copy_truth.proofs.OpenTuples.{none_there}
use Rattle.copy_truth.proofs.tuples.+may_be.Goals as goal

pub may_be-returns-in-len1-up-sorts : goal.may_be-returns-in-len1-up-sorts
may_be-returns-in-len1-up-sorts t c =
    none_there (vocabulary_of c.args.names.now.parts.now c.args.names.now.facts.now) (scope c.args.env.now) (count_of c.args.names.now.facts.now.counts) c.args.terms.now c.args.sorts.now c.args.number
    c.in-empty.len_below c.in-len1-up-sorts.len_at_least
