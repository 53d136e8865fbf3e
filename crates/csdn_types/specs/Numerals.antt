-- The numerals of a program, rising and each once.
use Rattle.std.specs.Prelude.{◌≡◌, ℕ, List, [], ◌∷◌, ◌++◌, refl}
use Rattle.std.specs.Ordering.{nat_cmp}
use Rattle.std.specs.BTreeSet.{insert_key}

-- a number put into a rising list, each once
abbrev pub with_numeral : List ℕ → ℕ → List ℕ
with_numeral ns n = insert_key nat_cmp ns n

-- the numbers of a list, rising and each once, put into a rising list
abbrev pub with_numerals : List ℕ → List ℕ → List ℕ
with_numerals ns [] = ns
with_numerals ns (n ∷ more) = with_numerals (with_numeral ns n) more

pub with_numerals-append : (ns xs ys : List ℕ) → with_numerals ns (xs ++ ys) ≡ with_numerals (with_numerals ns xs) ys
with_numerals-append ns [] ys = refl
with_numerals-append ns (x ∷ xs) ys = with_numerals-append (with_numeral ns x) xs ys

pub ruleset with_numeral_steps = (with_numerals-append)
