use Rattle.lazy_ground.proofs.FindLaws.{goes_next, goes_out}
use Rattle.lazy_ground.proofs.ReadLaws.{flat_first, flat_last}
use Rattle.lazy_ground.proofs.exchanges.find_tuples.Goals as goal

pub atoms-preserved : goal.atoms-preserved
atoms-preserved c = goes_next _ _ _ _ _ _ _ _ c.atoms.invariant (flat_first _ 0 c.atoms.rest.now c.in-len1-up.len_at_least) c.in_ok-find_tuple.ensures

pub returns : goal.returns
returns c = goes_out _ _ _ _ _ c.atoms.invariant (flat_last _ c.atoms.rest.now c.in_default.len_below)
