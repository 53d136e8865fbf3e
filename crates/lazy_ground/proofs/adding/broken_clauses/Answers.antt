use Rattle.std.proofs.Common.{ap, subst, ◌∙◌}
use Rattle.std.proofs.lemmas.Result.{IfOk-weaker}
use Rattle.clause_log.specs.Literals.{truths}
use Rattle.fol_forms.specs.Counts.{count_of}
use Rattle.form_trees.specs.Trees.{tree_form}
use Rattle.ground_inst.specs.Copies.{copies_over}
use Rattle.lazy_ground.specs.Found.{IsPickedFrom}
use Rattle.lazy_ground.proofs.WholeFound.{bounded_from, broken_from}
use Rattle.lazy_ground.proofs.adding.broken_clauses.Goals as goal

pub into_clauses-found-requires-clause-clauses : goal.into_clauses-found-requires-clause-clauses
into_clauses-found-requires-clause-clauses c =
    bounded_from _ c.args.program.now c.args.lazy.now.made.sentence c.args.lazy.now.made.clauses.clauses (truths c.args.valuation.now) (c.parts.ensures.value, c.in_ok-named.ensures, c.in_ok-trues.ensures)
    c.requires.sentence c.requires.lazy.facts (tree_form c.get.result.now) (ap (λ t. copies_over c.args.program.now (count_of c.args.lazy.now.made.facts.counts) (tree_form t)) c.get.ensures ∙ c.requires.lazy.copies) c.in_ok-rows.rows c.atoms.result c.in_ok-rows.ensures (c.atoms.ensures.value ∙ c.requires.lazy.atoms)

pub returns-clause-broken : goal.returns-clause-broken
returns-clause-broken c =
    IfOk-weaker c.each_once.result _ _ (λ kept e.
    broken_from _ c.args.program.now c.args.lazy.now.made.sentence c.args.lazy.now.made.clauses.clauses (truths c.args.valuation.now) (c.parts.ensures.value, c.in_ok-named.ensures, c.in_ok-trues.ensures)
    c.requires.sentence c.requires.lazy.facts (tree_form c.get.result.now) (ap (λ t. copies_over c.args.program.now (count_of c.args.lazy.now.made.facts.counts) (tree_form t)) c.get.ensures ∙ c.requires.lazy.copies) c.in_ok-rows.rows c.in_ok-some.some.clauses kept.clauses c.in_ok-rows.ensures
    (subst (λ z. IsPickedFrom z.clauses c.in_ok-some.some.clauses) c.into_clauses-found.ensures c.in_ok-some.ensures.picked) (ap (λ z. z.clauses) e)) c.each_once.ensures
