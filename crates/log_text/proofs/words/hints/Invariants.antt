use Rattle.std.proofs.Common.{◌≡◌, length}
use Rattle.log_text.specs.Words.{hints_from}
use Rattle.log_text.proofs.words.hints.Given as goal

abbrev pub invariant-words : goal.invariant-words
invariant-words l = hints_from l.found.items l.words ≡ hints_from l.fn.found.items l.fn.words

abbrev pub decreases-words : goal.decreases-words
decreases-words l = length l.words
