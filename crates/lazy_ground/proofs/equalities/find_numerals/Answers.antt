use Rattle.lazy_ground.proofs.FindLaws.{goes_next, goes_out}
use Rattle.lazy_ground.proofs.ReadLaws.{flat_first, flat_last}
use Rattle.lazy_ground.proofs.equalities.find_numerals.Goals as goal

pub numerals-preserved : goal.numerals-preserved
numerals-preserved c = goes_next _ _ _ _ _ _ _ _ c.numerals.invariant (flat_first _ _ c.numerals.rest.now c.in-len1-up.len_at_least) c.in_ok-find_numerals_beside.ensures

pub returns : goal.returns
returns c = goes_out _ _ _ _ _ c.numerals.invariant (flat_last _ c.numerals.rest.now c.in_default.len_below)
