use Rattle.std.proofs.Common.{◌≡◌, ℕ, ◌||◌, drop}
use Rattle.std.specs.Ordering.{nat_cmp}
use Rattle.std.specs.BTreeSet.{contains}
use Rattle.clause_listing.specs.Answers.{is_named}
use Rattle.clause_listing.proofs.named.enter_all.Given as goal

abbrev pub invariant-clauses : goal.invariant-clauses
invariant-clauses l = (a : ℕ) → (contains nat_cmp l.atoms a || is_named (drop l.at l.clauses.clauses) a) ≡ is_named l.clauses.clauses a
