use Rattle.std.proofs.Common.{◌≡◌, length}
use Rattle.log_text.specs.Words.{literals_from}
use Rattle.log_text.proofs.words.literals.Given as goal

abbrev pub invariant-words : goal.invariant-words
invariant-words l = literals_from l.atoms l.found.items l.words ≡ literals_from l.atoms l.fn.found.items l.fn.words

abbrev pub decreases-words : goal.decreases-words
decreases-words l = length l.words
