use Rattle.std.proofs.Common.{◌≡◌, length}
use Rattle.log_text.specs.Words.{are_printable}
use Rattle.log_text.proofs.words.are_printable.Given as goal

abbrev pub invariant-bytes : goal.invariant-bytes
invariant-bytes l = are_printable l.rest ≡ are_printable l.bytes

abbrev pub decreases-bytes : goal.decreases-bytes
decreases-bytes l = length l.rest
