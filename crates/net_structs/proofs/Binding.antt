-- What one more pair does.
use Rattle.std.proofs.Common.{◌≡◌, ◌∙◌, sym, ap, ℕ, ◌==◌, Bool, true, false, if◌then◌else◌, List, [], ◌∷◌, ◌++◌, Option, Some, None, refl}
use Rattle.csdn_core.specs.declared.terms.VarId.{VarId}
use Rattle.csdn_core.specs.Truth.{Assignment, with_var}
use Rattle.csdn_core.specs.Run.{no_values}
use Rattle.net_structs.specs.declared.env.Pair.{Pair}
use Rattle.net_structs.specs.Binds.{extended, assignment, found_in}

pub extended-push : (e : Assignment) (pairs : List Pair) (pair : Pair) → extended e (pairs ++ pair ∷ []) ≡ with_var (extended e pairs) pair.var pair.value
extended-push e [] pair = refl
extended-push e (p ∷ pairs) pair = extended-push (with_var e p.var p.value) pairs pair

abbrev or_zero : Option ℕ → ℕ
or_zero (Some m) = m
or_zero None = 0

chosen : (b : Bool) (m : ℕ) (found : Option ℕ) → or_zero (if b then Some m else found) ≡ (if b then m else or_zero found)
chosen true m found = refl
chosen false m found = refl

found_from : (e : Assignment) (found : Option ℕ) (pairs : List Pair) (v : VarId) → or_zero found ≡ e v.0 → or_zero (found_in found pairs v) ≡ extended e pairs v.0
found_from e found [] v same = same
found_from e found (p ∷ pairs) v same =
    found_from (with_var e p.var p.value) (if v.0 == p.var.0 then Some p.value else found) pairs v
    (chosen (v.0 == p.var.0) p.value found ∙ ap (λ m. if v.0 == p.var.0 then p.value else m) same)

-- the value of a variable that is found
pub value_found : (pairs : List Pair) (v : VarId) (found : Option ℕ) (m : ℕ) → found ≡ found_in None pairs v → found ≡ Some m → m ≡ assignment pairs v.0
value_found pairs v found m is some = ap or_zero (sym some ∙ is) ∙ found_from no_values None pairs v refl

-- and of one that isn't
pub value_lacking : (pairs : List Pair) (v : VarId) (found : Option ℕ) → found ≡ found_in None pairs v → found ≡ None → 0 ≡ assignment pairs v.0
value_lacking pairs v found is none = ap or_zero (sym none ∙ is) ∙ found_from no_values None pairs v refl
