use Rattle.std.proofs.Common.{◌∙◌, ap, subst}
use Rattle.std.specs.Ordering.{nat_cmp}
use Rattle.std.specs.List.Sorted.{IsBinarySearchResult}
use Rattle.clause_log.specs.Literals.{truths}
use Rattle.clause_log.proofs.Valuations.{searched_truth}
use Rattle.clause_log.proofs.valuation.Valuation.value.Goals as goal

pub returns : goal.returns
returns c =
    c.is_ok.ensures.value
    ∙ searched_truth c.self.inside.trues.items c.args.atom c.binary_search.result c.self.invariant (subst (λ xs. IsBinarySearchResult (λ y. nat_cmp y c.args.atom) xs c.binary_search.result) c.deref.ensures.value c.binary_search.ensures.position)
    ∙ ap (λ xs. truths xs c.args.atom) c.self.view_is
