-- The first of a list of invariants that is false.
use Rattle.std.proofs.Common.{◌≡◌, ◌∙◌, sym, ap, ◌-◌, ◌≤◌, true, false, if◌then◌else◌, List, [], ◌∷◌, length, take, drop, get_or, Some, arith}
use Rattle.general_facts.proofs.Lists.{rest_is}
use Rattle.csdn_core.specs.declared.program.Invariant.{Invariant}
use Rattle.csdn_core.specs.Run.{no_values}
use Rattle.csdn_core.specs.Truth.{Structure, truth}
use Rattle.net_listing.specs.Falses.{first_false}

-- the one at hand is false
pub found : (M : Structure) (rest : List Invariant) (v : Invariant) → 1 ≤ length rest → v ≡ get_or rest 0 v → truth M v.formula no_values ≡ false → Some v.name ≡ first_false M rest
found M [] v some is wrong = absurd (omega (arith, some))
found M (x ∷ xs) v some is wrong =
    ap (λ w. Some w.name) is ∙ sym (ap (λ b. if b then first_false M xs else Some x.name) (ap (λ w. truth M w.formula no_values) (sym is) ∙ wrong))

-- the one at hand is true
pub passed : (M : Structure) (rest : List Invariant) (v : Invariant) → 1 ≤ length rest → v ≡ get_or rest 0 v → truth M v.formula no_values ≡ true → first_false M (take (length rest - 1) (drop 1 rest)) ≡ first_false M rest
passed M [] v some is right = absurd (omega (arith, some))
passed M (x ∷ xs) v some is right =
    ap (first_false M) (rest_is x xs) ∙ sym (ap (λ b. if b then first_false M xs else Some x.name) (ap (λ w. truth M w.formula no_values) (sym is) ∙ right))
