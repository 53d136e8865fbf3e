use Rattle.std.proofs.Common.{◌∙◌, ◌++◌, ◌∷◌, [], ap, drop}
use Rattle.std.proofs.lemmas.Result.{IfOk-weaker}
use Rattle.form_trees.specs.Trees.{tree_form}
use Rattle.ground_inst.specs.Walk.{scope, ways_of}
use Rattle.copy_truth.specs.Goals.{IsFound, any_true}
use Rattle.copy_truth.specs.Matrix.{matrix}
use Rattle.copy_truth.proofs.SearchLaws.{found_one}
use Rattle.copy_truth.proofs.searching.search.Goals as goal

pub returns-clause-found : goal.returns-clause-found
returns-clause-found c =
    let n = (ways_of c.args.r.now.names).count in
    let env = scope c.args.env.now.items in
    IfOk-weaker c.find.result (IsFound n (any_true c.args.r.now (drop 0 c.push.new.self.items)) env) (IsFound n (matrix c.args.r.now (tree_form c.args.tree.now)) env)
    (λ b found. found_one c.args.r.now c.args.tree c.push.new.self.items env b (c.in_ok-push.ensures.items ∙ ap (λ gs. gs ++ c.args.tree ∷ []) c.new-goals.ensures.items) found) c.find.ensures.found
