use Rattle.std.proofs.Common.{◌≡◌, ap, subst, sym, ◌∙◌}
use Rattle.fol_forms.specs.Counts.{count_of}
use Rattle.fol_forms.specs.Forms.{form_of}
use Rattle.decision_laws.specs.Laws.{atoms, name, sentence_copies}
use Rattle.decision_laws.proofs.Bridge.{part_models, part_tied}
use Rattle.form_trees.specs.Numbered.{numbered}
use Rattle.form_trees.specs.Trees.{IsMeasured, tree_form}
use Rattle.ground_inst.specs.Copies.{copies_over}
use Rattle.ground_inst.specs.Facts.{AreFactsOf}
use Rattle.lazy_ground.specs.First.{AreFirst}
use Rattle.lazy_ground.proofs.AddLaws.{first_part}
use Rattle.lazy_ground.proofs.NumberedTree.{numbered_copies, numbered_rectified}
use Rattle.lazy_ground.proofs.starting.ground_start.Goals as goal

pub first_of-requires-clause-tree : goal.first_of-requires-clause-tree
first_of-requires-clause-tree c =
    let P = c.args.program.now in
    let F = c.args.sentence.now in
    let facts = subst (λ Q. AreFactsOf Q F c.in_ok-facts.facts) c.parts-parts.ensures.value c.in_ok-facts.ensures in
    let form = c.in_ok-tree.ensures.form ∙ ap (λ p. numbered (form_of p)) c.get.ensures ∙ ap numbered c.in_ok-simple.ensures in
    subst (λ Q. copies_over Q (count_of c.in_ok-facts.facts.counts) (tree_form c.get-3.result.now) ≡ sentence_copies Q F) (sym c.parts-parts.ensures.value)
    (subst (λ t. copies_over P (count_of c.in_ok-facts.facts.counts) (tree_form t) ≡ sentence_copies P F) (sym c.get-3.ensures) (numbered_copies P F c.requires (tree_form c.in_ok-tree.tree) form c.in_ok-facts.facts facts))

pub first_of-requires-clause-measured : goal.first_of-requires-clause-measured
first_of-requires-clause-measured c =
    let form = c.in_ok-tree.ensures.form ∙ ap (λ p. numbered (form_of p)) c.get.ensures ∙ ap numbered c.in_ok-simple.ensures in
    subst (IsMeasured (count_of c.in_ok-facts.facts.counts)) (sym c.get-3.ensures) (c.in_ok-tree.ensures.measured (numbered_rectified c.args.program.now c.args.sentence.now c.requires (tree_form c.in_ok-tree.tree) form))

pub returns-clause-lazy : goal.returns-clause-lazy
returns-clause-lazy c =
    let P = c.args.program.now in
    let F = c.args.sentence.now in
    let facts = subst (λ Q. AreFactsOf Q F c.in_ok-facts.facts) c.parts-parts.ensures.value c.in_ok-facts.ensures in
    let form = c.in_ok-tree.ensures.form ∙ ap (λ p. numbered (form_of p)) c.get.ensures ∙ ap numbered c.in_ok-simple.ensures in
    record {
      sentence = c.in_ok-sentence.ensures;
      facts = facts;
      copies = numbered_copies P F c.requires (tree_form c.in_ok-tree.tree) form c.in_ok-facts.facts facts;
      measured = c.in_ok-tree.ensures.measured (numbered_rectified P F c.requires (tree_form c.in_ok-tree.tree) form);
      atoms = c.in_ok-clauses.ensures.atoms ∙ ap (λ Q. atoms Q F) c.parts-parts.ensures.value;
      part = first_part P F c.in_ok-clauses.clauses.clauses (subst (λ Q. AreFirst Q F c.in_ok-clauses.clauses.clauses) c.parts-parts.ensures.value c.in_ok-clauses.ensures.clauses);
    }

pub returns-clause-exact : goal.returns-clause-exact
returns-clause-exact c =
    (subst (λ Q. AreFirst Q c.args.sentence.now c.in_ok-clauses.clauses.clauses) c.parts-parts.ensures.value c.in_ok-clauses.ensures.clauses).all

pub returns-clause-tied : goal.returns-clause-tied
returns-clause-tied c =
    let first = subst (λ Q. AreFirst Q c.args.sentence.now c.in_ok-clauses.clauses.clauses) c.parts-parts.ensures.value c.in_ok-clauses.ensures.clauses in
    (name c.args.program.now c.args.sentence.now, part_tied c.args.program.now c.args.sentence.now c.requires c.in_ok-clauses.clauses.clauses (first_part c.args.program.now c.args.sentence.now c.in_ok-clauses.clauses.clauses first))

pub returns-clause-models : goal.returns-clause-models
returns-clause-models c =
    let first = subst (λ Q. AreFirst Q c.args.sentence.now c.in_ok-clauses.clauses.clauses) c.parts-parts.ensures.value c.in_ok-clauses.ensures.clauses in
    part_models c.args.program.now c.args.sentence.now c.requires c.in_ok-clauses.clauses.clauses (first_part c.args.program.now c.args.sentence.now c.in_ok-clauses.clauses.clauses first)
