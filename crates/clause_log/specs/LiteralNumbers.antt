-- The numbers that stand for literals.
use Rattle.std.specs.Prelude.{◌≡◌, ◌+◌, ◌-◌, ℤ, pos, negsuc, refl}
use Rattle.std.proofs.Common.{ap, arith}
use Rattle.clause_log.specs.Literals.{literal_of, number_of}

pub number_of-literal_of : (z : ℤ) → number_of (literal_of z) ≡ z
number_of-literal_of (pos n) = refl
number_of-literal_of (negsuc n) = let e : n + 1 - 1 ≡ n = omega arith in ap negsuc e
