-- What the conditions of a level share with those of the level above.
use Rattle.std.proofs.Common.{◌≡◌, ◌∙◌, sym, ap, refl, ℕ, zero, suc, ◌+◌, ◌*◌, ◌-◌, ◌/◌, ◌%◌, ◌<◌, ◌≤◌, length, Some, arith}
use Rattle.std.specs.Prelude.{slice_get, option_map, is_some}
use Rattle.std.proofs.Math.Nat.{mul-le-mul_right}
use Rattle.std.proofs.lemmas.Option.{slice_get-map}
use Rattle.csdn_core.specs.declared.program.Parts.{Parts}
use Rattle.csdn_conditions.specs.declared.kinds.CondKind.TheVariants.{Init}
use Rattle.csdn_conditions.specs.Kinds.{events, kinds}
use Rattle.csdn_conditions.specs.Conditions.{condition, conditions}
use Rattle.csdn_conditions.proofs.KindLaws.{init_at, length-kinds, some_where}

-- a condition on the start, by its place
start_at : (P : Parts) (n m p : ℕ) → p < (n + 1) * length P.safety → n ≤ m
    → slice_get (conditions P m) (suc p) ≡ Some (condition P n (Init ((suc p - 1) / length P.safety) ((suc p - 1) % length P.safety)))
start_at P n m p below le =
    let s = length P.safety in
    let all : (n + 1) * s ≤ (m + 1) * s = mul-le-mul_right s (omega (arith, le)) in
    let there = init_at (events P) (length (events P)) refl (some_where (is_some P.timeout)) m s (length P.trans) (suc p) (λ same. omega (arith, same)) (omega (arith, below, all)) in
    slice_get-map (condition P m) (kinds P m) (suc p) ∙ ap (option_map (condition P m)) there

-- the network condition and those on the start are the same at all levels from n on
pub same_start : (P : Parts) (n m i : ℕ) → i < suc ((n + 1) * length P.safety) → n ≤ m → slice_get (conditions P m) i ≡ slice_get (conditions P n) i
same_start P n m zero below le = refl
same_start P n m (suc p) below le =
    let within : p < (n + 1) * length P.safety = omega (arith, below) in
    start_at P n m p within le ∙ sym (start_at P n n p within (omega arith))

-- a level has these conditions
pub starts_within : (P : Parts) (n : ℕ) → suc ((n + 1) * length P.safety) ≤ length (kinds P n)
starts_within P n =
    let many = length-kinds (events P) (length (events P)) refl (some_where (is_some P.timeout)) n (length P.safety) (length P.trans) in
    omega (arith, many)
