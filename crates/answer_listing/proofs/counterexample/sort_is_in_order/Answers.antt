use Rattle.std.proofs.Common.{List, ℕ, subst}
use Rattle.std.specs.Ordering.{nat_cmp}
use Rattle.std.specs.List.Sorted.{IsStrictlySortedBy}
use Rattle.std.proofs.lemmas.Map.Keys.{sorted_from_strictly_increasing}
use Rattle.answer_listing.proofs.counterexample.sort_is_in_order.Goals as goal

pub returns-clause-rise : goal.returns-clause-rise
returns-clause-rise c = subst (λ (es : List ℕ). IsStrictlySortedBy nat_cmp es) c.elements.ensures.elements (sorted_from_strictly_increasing c.elements.result.now c.elements.ensures.rising)
