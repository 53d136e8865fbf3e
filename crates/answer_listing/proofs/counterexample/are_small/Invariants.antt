use Rattle.std.proofs.Common.{◌<◌, ◌^◌, All, length}
use Rattle.answer_listing.proofs.counterexample.are_small.Given as goal

abbrev pub invariant-numbers : goal.invariant-numbers
invariant-numbers l = All (λ m. m < 2 ^ 64) l.rest → All (λ m. m < 2 ^ 64) l.numbers

abbrev pub decreases-numbers : goal.decreases-numbers
decreases-numbers l = length l.rest
