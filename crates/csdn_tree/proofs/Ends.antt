-- What stands from one place on and below another leaves the two in order.
use Rattle.std.proofs.Common.{ℕ, ◌+◌, ◌≤◌, List, [], ◌∷◌, arith}
use Rattle.csdn_tree.specs.declared.names.RawTerm.{RawTerm}
use Rattle.csdn_tree.specs.Places.{place}
use Rattle.csdn_tree.specs.Within.{TermsWithin}

pub terms_end : (from to : ℕ) (ts : List RawTerm) → TermsWithin from ts to → from ≤ to
unfolding TermsWithin
terms_end from to [] within = within
terms_end from to (t ∷ ts) within = omega (arith, within.0, terms_end (place t + 1) to ts within.1)
