use Rattle.std.proofs.lemmas.Result.{on_ok_weaker}
use Rattle.lazy_ground.proofs.FindLaws.{finds_both}
use Rattle.lazy_ground.proofs.equalities.find_sort.Goals as goal

pub returns : goal.returns
returns c = on_ok_weaker c.find_joined_chains.result (λ e. finds_both _ _ _ _ _ _ c.in_ok-find_same.ensures e) c.find_joined_chains.ensures
