use Rattle.std.proofs.Common.{sym}
use Rattle.fol_forms.specs.Counts.{count_of}
use Rattle.form_trees.specs.Trees.{tree_form}
use Rattle.form_trees.specs.declared.trees.FormTree.TheVariants as t
use Rattle.ground_inst.proofs.Steps.{told}
use Rattle.form_trees.proofs.BuiltSteps.{forall_built}
use Rattle.form_trees.proofs.TreeSteps.{extent_there}
use Rattle.form_trees.proofs.building.forall.Goals as goal

pub returns-clause-measured : goal.returns-clause-measured
returns-clause-measured c = λ i.
    let n = count_of c.args.counts.now in
    let v = c.args.var in
    let s = c.args.sort in
    let p = c.args.p in
    let e = c.in_ok-extent.extent in
    let body = extent_there n c.get.result.now p c.extent_of.result c.get.ensures (c.extent_of.ensures n) in
    told c.new.result (t.Forall e v s p) _ c.new.ensures (forall_built n e v s p i (λ rectified k. c.in_ok-extent.ensures n v s (tree_form p) (sym c.of.ensures) rectified (body k)))
