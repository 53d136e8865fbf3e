use Rattle.std.proofs.Common.{ap, sym, ◌∙◌, eqb}
use Rattle.std.proofs.lemmas.List.Sorted.{IsNonDecreasingBy-from_sort, list_any-IsPermutation}
use Rattle.clause_log.specs.Literals.{truths}
use Rattle.clause_search.specs.Names.{named_atom}
use Rattle.clause_search.proofs.names.named_valuation.Goals as goal

pub from_true_atoms-requires : goal.from_true_atoms-requires
from_true_atoms-requires c = IsNonDecreasingBy-from_sort (λ n. n) c.sort_unstable.new.self.items c.sort_unstable.ensures.sorted

pub returns : goal.returns
returns c =
    λ a low high. ap (λ v. truths v (named_atom c.args.names.now a)) c.from_true_atoms.ensures
    ∙ sym (list_any-IsPermutation (λ t. eqb t (named_atom c.args.names.now a)) _ _ c.sort_unstable.ensures.permutation)
    ∙ c.in_ok-trues.ensures a low high
