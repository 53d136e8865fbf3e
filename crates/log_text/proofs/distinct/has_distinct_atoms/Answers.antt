use Rattle.std.proofs.Common.{◌∙◌, ap}
use Rattle.text_lines.specs.Distinct.{are_distinct}
use Rattle.log_text.proofs.Distincts.{distinct-atoms_of}
use Rattle.log_text.proofs.distinct.has_distinct_atoms.Goals as goal

pub returns : goal.returns
returns c = c.in_ok-answer.ensures ∙ ap are_distinct (c.deref.ensures.value ∙ c.in_ok-atoms.ensures) ∙ distinct-atoms_of c.args.literals.now
