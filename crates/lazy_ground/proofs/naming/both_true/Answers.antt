use Rattle.std.proofs.Common.{ap, sym, ◌∙◌, eqb}
use Rattle.std.proofs.lemmas.List.Sorted.{IsNonDecreasingBy-from_sort, list_any-IsPermutation}
use Rattle.clause_log.specs.Literals.{truths}
use Rattle.lazy_ground.proofs.NamedLaws.{kept_true}
use Rattle.lazy_ground.proofs.naming.both_true.Goals as goal

pub from_true_atoms-requires : goal.from_true_atoms-requires
from_true_atoms-requires c = IsNonDecreasingBy-from_sort (λ n. n) c.sort_unstable.new.self.items c.sort_unstable.ensures.sorted

pub returns : goal.returns
returns c =
    λ a. ap (λ v. truths v a) c.from_true_atoms.ensures
    ∙ sym (list_any-IsPermutation (λ t. eqb t a) _ _ c.sort_unstable.ensures.permutation)
    ∙ ap (λ v. truths v a) c.in_ok-atoms.ensures
    ∙ kept_true (truths c.args.named.now) c.args.valuation.now a
