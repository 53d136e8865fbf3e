use Rattle.std.proofs.Common.{ap, ◌∙◌}
use Rattle.fol_forms.specs.Forms.{form_of}
use Rattle.ground_inst.proofs.WholeClauses.{atoms_are, rows_are, rows_pass}
use Rattle.ground_inst.proofs.making.clauses_of.Goals as goal

pub into_clauses-requires-clause-clauses : goal.into_clauses-requires-clause-clauses
into_clauses-requires-clause-clauses c =
    let P = c.args.parts.now in
    let F = c.args.sentence.now in
    let facts = c.args.facts.now in
    rows_pass P F facts c.requires.facts (form_of c.get.result.now) (ap form_of c.get.ensures ∙ c.in_ok-simple.ensures) c.requires.closed c.in_ok-rows.rows c.in_ok-atoms.atoms
    (rows_are P F facts c.requires.facts (form_of c.get-2.result.now) (ap form_of c.get-2.ensures ∙ c.in_ok-simple.ensures) c.in_ok-rows.rows c.in_ok-rows.ensures)
    (atoms_are P F facts c.requires.facts (form_of c.get.result.now) (ap form_of c.get.ensures ∙ c.in_ok-simple.ensures) c.in_ok-atoms.atoms c.in_ok-atoms.ensures.value)

pub returns-clause-atoms : goal.returns-clause-atoms
returns-clause-atoms c =
    ap (λ made. made.atoms) c.into_clauses.ensures
    ∙ atoms_are c.args.parts.now c.args.sentence.now c.args.facts.now c.requires.facts (form_of c.get.result.now) (ap form_of c.get.ensures ∙ c.in_ok-simple.ensures) c.in_ok-atoms.atoms c.in_ok-atoms.ensures.value

pub returns-clause-clauses : goal.returns-clause-clauses
returns-clause-clauses c =
    ap (λ made. made.clauses) c.into_clauses.ensures
    ∙ rows_are c.args.parts.now c.args.sentence.now c.args.facts.now c.requires.facts (form_of c.get-2.result.now) (ap form_of c.get-2.ensures ∙ c.in_ok-simple.ensures) c.in_ok-rows.rows c.in_ok-rows.ensures
