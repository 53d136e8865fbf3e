use Rattle.std.proofs.Common.{◌++◌, ◌∷◌, [], ◌∙◌, ap}
use Rattle.form_trees.specs.Trees.{tree_form}
use Rattle.copy_truth.specs.Matrix.{binders}
use Rattle.copy_truth.proofs.PlainLaws.{plain_candidates}
use Rattle.copy_truth.proofs.breaking.plain_candidates.Goals as goal

pub returns-clause-value : goal.returns-clause-value
returns-clause-value c =
    let opened = c.in_ok-open_binders.ensures ∙ ap (λ bs. bs ++ binders (tree_form c.args.body.now)) (c.in_ok-bind.ensures ∙ ap (λ b. c.args.env.now.items ++ b ∷ []) c.at.ensures) in
    plain_candidates c.args.r.now (tree_form c.args.body.now) c.args.x c.args.env.now.items c.open_binders.new.env.items c.in_ok-candidates.candidates c.requires.filled c.requires.known c.requires.plain opened c.in_ok-candidates.ensures.value
