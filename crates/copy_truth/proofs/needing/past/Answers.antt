use Rattle.form_trees.specs.Trees.{tree_form}
use Rattle.ground_inst.specs.Walk.{ways_of}
use Rattle.copy_truth.proofs.ReadLaws.{past_counts}
use Rattle.copy_truth.proofs.needing.past.Goals as goal

pub returns : goal.returns
returns c =
    past_counts c.args.base c.extent_of.result.need (tree_form c.args.tree.now) c.in_ok-sw.sw c.in_ok-ho.ho c.in_ok-pr.pr c.in_ok-sw.ensures c.in_ok-ho.ensures c.in_ok-pr.ensures
    (c.extent_of.ensures (ways_of c.args.names.now).count c.requires).need
