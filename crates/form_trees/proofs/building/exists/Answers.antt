use Rattle.form_trees.specs.Trees.{tree_form}
use Rattle.form_trees.specs.declared.trees.FormTree.TheVariants as t
use Rattle.ground_inst.proofs.Steps.{told}
use Rattle.form_trees.proofs.BuiltSteps.{exists_built}
use Rattle.form_trees.proofs.TreeSteps.{extent_there}
use Rattle.form_trees.proofs.building.exists.Goals as goal

pub returns-clause-measured : goal.returns-clause-measured
returns-clause-measured c = λ n i.
    let v = c.args.var in
    let s = c.args.sort in
    let p = c.args.p in
    let e = c.in_ok-extent.extent in
    let body = extent_there n c.get.result.now p c.extent_of.result c.get.ensures (c.extent_of.ensures n) in
    told c.new.result (t.Exists e v s p) _ c.new.ensures (exists_built n e v s p i (λ k. c.in_ok-extent.ensures n v (tree_form p) (body k)))
