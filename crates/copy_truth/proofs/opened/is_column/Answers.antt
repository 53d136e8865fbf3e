use Rattle.std.proofs.Common.{◌∙◌, arith, sym, ltb-true}
use Rattle.csdn_core.proofs.Same.{same_sort-is}
use Rattle.ground_inst.specs.Walk.{scope, ways_of}
use Rattle.copy_truth.proofs.OpenTuples.{column_known, column_open}
use Rattle.copy_truth.proofs.opened.is_column.Goals as goal

pub returns-then-place : goal.returns-then-place
returns-then-place c =
    λ e. column_open (ways_of c.args.names.now) (scope c.args.env.now) c.args.term c.args.sort (sym c.sort_of.ensures ∙ same_sort-is _ _ (sym c.is_same.ensures ∙ c.if-not-is_same.false))
    (sym c.place_of-place.ensures ∙ c.if-place.true) (sym c.is_variable.ensures ∙ e)

pub returns : goal.returns
returns c =
    λ e. column_known (ways_of c.args.names.now) (scope c.args.env.now) c.args.term c.args.sort (sym c.sort_of.ensures ∙ same_sort-is _ _ (sym c.is_same.ensures ∙ c.if-not-is_same.false))
    (λ o. c.if-place.false (c.place_of-place.ensures ∙ o)) (omega (arith, ltb-true c.place_of-place.result c.of.result e, c.of.ensures, c.place_of-place.ensures))
