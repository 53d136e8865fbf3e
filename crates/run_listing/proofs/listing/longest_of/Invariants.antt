use Rattle.std.proofs.Common.{◌≡◌, length}
use Rattle.std.specs.Prelude.{max}
use Rattle.session_workers.specs.Endings.{longest}
use Rattle.run_listing.proofs.listing.longest_of.Given as goal

abbrev pub invariant-rows : goal.invariant-rows
invariant-rows l = max l.most (longest l.rest) ≡ longest l.fn.rows

abbrev pub decreases-rows : goal.decreases-rows
decreases-rows l = length l.rest
