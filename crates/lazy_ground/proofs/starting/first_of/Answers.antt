use Rattle.std.proofs.Common.{ap, suc, ◌++◌, ◌∙◌}
use Rattle.fol_forms.specs.Counts.{count_of}
use Rattle.ground_inst.specs.Copies.{copies_over}
use Rattle.ground_inst.specs.Facts.{num_of}
use Rattle.lazy_ground.specs.First.{open_whole}
use Rattle.std.proofs.lemmas.Result.{IfOk-weaker}
use Rattle.fol_forms.specs.Forms.{form_of}
use Rattle.ground_inst.proofs.WholeClauses.{atoms_are}
use Rattle.form_trees.specs.Trees.{tree_form}
use Rattle.lazy_ground.specs.Found.{untwinned}
use Rattle.lazy_ground.proofs.AddLaws.{first_bounded, rows_first}
use Rattle.lazy_ground.proofs.TwinLaws.{first_untwinned}
use Rattle.lazy_ground.proofs.starting.first_of.Goals as goal

pub into_clauses-requires-clause-clauses : goal.into_clauses-requires-clause-clauses
into_clauses-requires-clause-clauses c =
    first_bounded c.args.parts.now c.args.sentence.now c.requires.closed c.write_open.new.rows c.in_ok-atoms.atoms
    (rows_first c.args.parts.now c.args.sentence.now c.args.facts.now c.requires.facts (copies_over c.args.parts.now (count_of c.args.facts.now.counts) (tree_form c.args.tree.now)) c.requires.tree c.write_open.new.rows (c.in_ok-write_open.ensures ∙ ap (λ z. z ++ open_whole (num_of c.args.facts.now) (suc c.args.facts.now.count) (copies_over c.args.parts.now (count_of c.args.facts.now.counts) (tree_form c.args.tree.now))) c.new-rows.ensures))
    (atoms_are c.args.parts.now c.args.sentence.now c.args.facts.now c.requires.facts (form_of c.args.simple.now) c.requires.simple c.in_ok-atoms.atoms c.in_ok-atoms.ensures.value)

pub returns-clause-atoms : goal.returns-clause-atoms
returns-clause-atoms c =
    IfOk-weaker c.without_twins-2.result _ _ (λ kept e. ap (λ z. z.atoms) e ∙ ap (λ z. z.atoms) c.into_clauses.ensures
    ∙ atoms_are c.args.parts.now c.args.sentence.now c.args.facts.now c.requires.facts (form_of c.args.simple.now) c.requires.simple c.in_ok-atoms.atoms c.in_ok-atoms.ensures.value) c.without_twins-2.ensures

pub returns-clause-clauses : goal.returns-clause-clauses
returns-clause-clauses c =
    IfOk-weaker c.without_twins-2.result _ _ (λ kept e.
    first_untwinned c.args.parts.now c.args.sentence.now c.requires.closed c.write_open.new.rows kept.clauses
    (rows_first c.args.parts.now c.args.sentence.now c.args.facts.now c.requires.facts (copies_over c.args.parts.now (count_of c.args.facts.now.counts) (tree_form c.args.tree.now)) c.requires.tree c.write_open.new.rows (c.in_ok-write_open.ensures ∙ ap (λ z. z ++ open_whole (num_of c.args.facts.now) (suc c.args.facts.now.count) (copies_over c.args.parts.now (count_of c.args.facts.now.counts) (tree_form c.args.tree.now))) c.new-rows.ensures))
    (ap (λ z. z.clauses) e ∙ ap (λ z. untwinned z.clauses) c.into_clauses.ensures)) c.without_twins-2.ensures
