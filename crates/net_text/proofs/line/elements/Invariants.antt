use Rattle.std.proofs.Common.{◌≡◌, length}
use Rattle.net_text.specs.Lines.{elements_from}
use Rattle.net_text.proofs.line.elements.Given as goal

abbrev pub invariant-words : goal.invariant-words
invariant-words l = elements_from l.found l.words ≡ elements_from l.fn.found l.fn.words

abbrev pub decreases-words : goal.decreases-words
decreases-words l = length l.words
