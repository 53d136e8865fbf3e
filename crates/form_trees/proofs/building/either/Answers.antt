use Rattle.form_trees.specs.Trees.{tree_form}
use Rattle.form_trees.specs.declared.trees.FormTree.TheVariants as t
use Rattle.ground_inst.proofs.Steps.{told}
use Rattle.form_trees.proofs.BuiltSteps.{either_built}
use Rattle.form_trees.proofs.TreeSteps.{extent_there}
use Rattle.form_trees.proofs.building.either.Goals as goal

pub returns-clause-measured : goal.returns-clause-measured
returns-clause-measured c = λ n i j.
    let p = c.args.p in
    let q = c.args.q in
    let e = c.in_ok-extent.extent in
    let first = extent_there n c.get.result.now p c.extent_of.result c.get.ensures (c.extent_of.ensures n) in
    let second = extent_there n c.get-2.result.now q c.extent_of-2.result c.get-2.ensures (c.extent_of-2.ensures n) in
    told c.new.result (t.Either e p q) _ c.new.ensures (either_built n e p q i j (λ rectified k l. c.in_ok-extent.ensures n (tree_form p) (tree_form q) rectified (first k) (second l)))
