-- Numbers written in digits.
use Rattle.std.proofs.Common.{◌≡◌, ℕ, suc, ◌+◌, ◌*◌, ◌-◌, ◌<◌, ◌≤◌, List, [], ◌∷◌, length, take, Bool, true, false, cond, refl, subst, arith, slice_index}
use Rattle.std.specs.Char.{is_ascii_digit, digit_value}
use Rattle.std.specs.List.{prefix_len}
use Rattle.std.specs.Str.Parse.{AllDigits, digits_value_after}
use Rattle.std.proofs.lemmas.Str.{digit_value_digit}
use Rattle.std.proofs.lemmas.Str.Parse.{digit_from_value}
use Rattle.csdn_tokens.specs.declared.Class.TheVariants as class
use Rattle.csdn_tokens.specs.Lex.{is_in}

-- further digits make a number no smaller
pub grows : (n : ℕ) (ds : List ℕ) → n ≤ digits_value_after 10 n ds
grows n [] = omega arith
grows n (d ∷ ds) = omega (arith, grows (n * 10 + digit_value d) ds)

-- a number that is too large before its last digits is too large
pub exceeds : (total n : ℕ) (ds : List ℕ) → digits_value_after 10 n ds ≡ total → AllDigits 10 ds → 0 < length ds
    → 65280 < n * 10 + (slice_index ds 0 - 48) → 65280 < total
exceeds total n [] is all some large = absurd (omega arith)
exceeds total n (d ∷ ds) is all some large =
    omega (arith, grows (n * 10 + digit_value d) ds, digit_value_digit d (digit_from_value d all.0), is)

digit_small : (b : ℕ) → is_ascii_digit b ≡ true → digit_value b < 10
digit_small b is = grind (arith, digit_value_digit)

-- a run of digits is a numeral
pub run_of_digits : (text : List ℕ) → AllDigits 10 (take (prefix_len (is_in class.Digit) text) text)
run_of_digits [] = tt
run_of_digits (b ∷ text) = by_cases (is_ascii_digit b) refl (run_of_digits text)
  where
    by_cases : (x : Bool) → is_ascii_digit b ≡ x → AllDigits 10 (take (prefix_len (is_in class.Digit) text) text)
        → AllDigits 10 (take (cond x (1 + prefix_len (is_in class.Digit) text) 0) (b ∷ text))
    by_cases true is more = let e : suc (prefix_len (is_in class.Digit) text) ≡ 1 + prefix_len (is_in class.Digit) text = omega arith in
        subst (λ n. AllDigits 10 (take n (b ∷ text))) e (digit_small b is, more)
    by_cases false is more = tt
