use Rattle.std.proofs.Common.{◌≡◌, ◌++◌, length}
use Rattle.clause_log.specs.Literals.{truths}
use Rattle.text_lines.specs.Printed.{spaced}
use Rattle.clause_listing.specs.Answers.{model_words}
use Rattle.clause_listing.proofs.print.put_literals_of.Given as goal

abbrev pub invariant-atoms : goal.invariant-atoms
invariant-atoms l = l.out.items ++ spaced (model_words (truths l.valuation) l.rest) ≡ l.fn.out.items ++ spaced (model_words (truths l.valuation) l.atoms)

abbrev pub decreases-atoms : goal.decreases-atoms
decreases-atoms l = length l.rest
