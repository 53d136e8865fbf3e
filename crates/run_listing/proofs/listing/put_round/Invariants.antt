use Rattle.std.proofs.Common.{◌≡◌, ◌+◌, ◌++◌, length}
use Rattle.run_listing.specs.Lines.{round_lines}
use Rattle.run_listing.proofs.listing.put_round.Given as goal

abbrev pub invariant-rows : goal.invariant-rows
invariant-rows l = record {
  lines : l.out.items ++ round_lines l.before l.number l.rest ≡ l.fn.out.items ++ round_lines l.before l.first l.fn.rows;
  room : l.number + length l.rest ≡ l.first + length l.fn.rows;
}

abbrev pub decreases-rows : goal.decreases-rows
decreases-rows l = length l.rest
