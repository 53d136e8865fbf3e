use Rattle.std.proofs.Common.{◌≡◌, ◌+◌, ◌*◌, ◌++◌, length}
use Rattle.std.specs.List.{flat_map, range_with_len}
use Rattle.run_listing.specs.Lines.{round_lines}
use Rattle.run_listing.proofs.listing.put_sessions.Given as goal

abbrev pub invariant-loop-before : goal.invariant-loop-before
invariant-loop-before l = l.out.items ≡ l.fn.out.items ++ flat_map (λ before. round_lines before (1 + length l.rows * before) l.rows) (range_with_len 0 l.before)
