use Rattle.std.proofs.Common.{◌≡◌, ◌&&◌, ◌++◌, ℕ, List, length}
use Rattle.clause_listing.specs.Listings.{AreListed, all_pass}
use Rattle.clause_listing.proofs.listing.list_blocks.Given as goal

abbrev pub invariant-all : goal.invariant-all
invariant-all l =
    ((t : List ℕ) → AreListed l.rest t → AreListed l.blocks (l.text.items ++ t)) × ((l.all_accepted && all_pass l.rest) ≡ all_pass l.blocks)

abbrev pub decreases-all : goal.decreases-all
decreases-all l = length l.rest
