-- Bytes that tell the length of the part that they begin with, of which w bytes stand before its list.
use Rattle.std.proofs.Common.{◌≡◌, ℕ, ◌≤◌, false, ◌||◌, ltb, refl, arith}
use Rattle.std.proofs.lemmas.Bool.{le-ltb, ltb-false, or_parts}

pub told_begun : (len told w : ℕ) → (ltb len w || ltb told w || ltb len told) ≡ false → (w ≤ told) × (told ≤ len)
told_begun len told w h =
    let parts = or_parts (ltb len w || ltb told w) (ltb len told) h in
    let first = or_parts (ltb len w) (ltb told w) parts.0 in
    (ltb-false told w first.1, ltb-false len told parts.1)

pub told_fits : (len told w : ℕ) → w ≤ told → told ≤ len → (ltb len w || ltb told w || ltb len told) ≡ false
told_fits len told w low high = rw (le-ltb len w (omega (arith, low, high)), le-ltb told w low, le-ltb len told high) refl
