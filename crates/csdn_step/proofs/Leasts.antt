-- The first element of a rising list that passes is the least.
use Rattle.std.proofs.Common.{◌≡◌, ◌∙◌, sym, ap, refl, ℕ, ◌<◌, ◌≤◌, min, Bool, true, false, if◌then◌else◌, List, [], ◌∷◌, ◌-◌, length, take, drop, slice_index_or, arith}
use Rattle.std.specs.Prelude.{Option, Some}
use Rattle.std.proofs.Math.Nat.{min-eq_left}
use Rattle.std.specs.List.{AllByRecursion}
use Rattle.std.specs.List.Sorted.{IsStrictlyIncreasing, IsStrictlySortedBy}
use Rattle.std.specs.Ordering.{nat_cmp}
use Rattle.std.specs.declared.cmp.Ordering.TheVariants.{Less}
use Rattle.std.proofs.lemmas.Map.Keys.{sorted_from_strictly_increasing}
use Rattle.std.proofs.lemmas.Map.Keys.{below_from_sorted}
use Rattle.csdn_step.specs.Least.{least, lesser, first_of}
use Rattle.general_facts.proofs.Lists.{rest_is}

-- the first of two numbers in order
two : (m n : ℕ) → nat_cmp m n ≡ Less → IsStrictlySortedBy nat_cmp (m ∷ n ∷ [])
unfolding IsStrictlySortedBy
two m n is = ((is, tt), (tt, tt))

less_is : (m n : ℕ) → nat_cmp m n ≡ Less → m < n
less_is m n is = below_from_sorted (m ∷ n ∷ []) 0 1 0 (two m n is) (omega arith) (omega arith)

above_by : (m n : ℕ) (rest : Option ℕ) (b : Bool) → min m n ≡ m → lesser m rest ≡ m → lesser m (if b then Some n else rest) ≡ m
above_by m n rest true is goes = is
above_by m n rest false is goes = goes

not_above : (m n : ℕ) → m < n → m ≤ n
not_above m n is = omega arith

first_above : (test : ℕ → Bool) (m : ℕ) (ms : List ℕ) → AllByRecursion (λ n. nat_cmp m n ≡ Less) ms → lesser m (first_of test ms) ≡ m
first_above test m [] all = refl
first_above test m (n ∷ ms) all = above_by m n (first_of test ms) (test n) (min-eq_left (not_above m n (less_is m n all.0))) (first_above test m ms all.1)

least_by : (m : ℕ) (rest found : Option ℕ) (b : Bool) → rest ≡ found → lesser m found ≡ m → (if b then Some (lesser m rest) else rest) ≡ (if b then Some m else found)
least_by m rest found true is goes = ap (λ (n : ℕ). Some n) (ap (lesser m) is ∙ goes)
least_by m rest found false is goes = is

least_is_first : (test : ℕ → Bool) (ms : List ℕ) → IsStrictlySortedBy nat_cmp ms → least test ms ≡ first_of test ms
unfolding IsStrictlySortedBy
least_is_first test [] sorted = refl
least_is_first test (m ∷ ms) sorted = least_by m (least test ms) (first_of test ms) (test m) (least_is_first test ms sorted.1) (first_above test m ms sorted.0)

pub first_is_least : (test : ℕ → Bool) (ms : List ℕ) → IsStrictlyIncreasing ms → first_of test ms ≡ least test ms
first_is_least test ms rises = sym (least_is_first test ms (sorted_from_strictly_increasing ms rises))

pub least_of : (test : ℕ → Bool) (found : Option ℕ) (ms elements : List ℕ) → found ≡ first_of test ms → IsStrictlyIncreasing ms → ms ≡ elements → found ≡ least test elements
least_of test found ms elements first rises is = first ∙ first_is_least test ms rises ∙ ap (λ ns. least test ns) is

-- the first of the rest passes, or it doesn't
pub first_now : (test : ℕ → Bool) (rest : List ℕ) (whole : Option ℕ) → 1 ≤ length rest → test (slice_index_or rest 0 0) ≡ true → first_of test rest ≡ whole → Some (slice_index_or rest 0 0) ≡ whole
first_now test [] whole some is goes = absurd (omega arith)
first_now test (m ∷ ms) whole some is goes = sym (ap (λ b. if b then Some m else first_of test ms) is) ∙ goes

pub first_later : (test : ℕ → Bool) (rest : List ℕ) (whole : Option ℕ) → 1 ≤ length rest → test (slice_index_or rest 0 0) ≡ false → first_of test rest ≡ whole → first_of test (take (length rest - 1) (drop 1 rest)) ≡ whole
first_later test [] whole some is goes = absurd (omega arith)
first_later test (m ∷ ms) whole some is goes = ap (λ ns. first_of test ns) (rest_is m ms) ∙ sym (ap (λ b. if b then Some m else first_of test ms) is) ∙ goes
