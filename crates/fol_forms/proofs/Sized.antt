-- A form is refused as too large exactly where it is.
use Rattle.std.proofs.Common.{◌≡◌, ◌↔◌, ℕ, ◌<◌, ◌≤◌, Bool, true, false, Result, Ok, Err, IfOk, arith, refl, sym, ap, ◌∙◌, true≢false}
use Rattle.std.specs.declared.alloc.AllocError.{AllocError}
use Rattle.csdn_core.specs.declared.syntax.Formula.{Formula}
use Rattle.fol_forms.specs.declared.refusal.FormRefusal.{FormRefusal}
use Rattle.fol_forms.specs.declared.refusal.FormRefusal.TheVariants.{Large, Memory}
use Rattle.fol_forms.specs.Answers.{widened}
use Rattle.fol_forms.specs.Limits.{capped, most_nodes}

is_large : Result Formula FormRefusal → Bool
is_large (Err Large) = true
is_large (Err Memory) = false
is_large (Ok p) = false

not_large : (made : Result Formula AllocError) → widened made ≡ Err Large → ⊥
unfolding is_large
not_large (Ok p) is = true≢false (sym (ap is_large is))
not_large (Err e) is = true≢false (sym (ap is_large is))

abbrev pub large : Result Formula FormRefusal
large = Err Large

pub refused : (n count : ℕ) → count ≡ capped n → most_nodes < count → (large ≡ large) ↔ (most_nodes < n)
unfolding capped
refused n count counted more = ((λ h. omega (arith, counted, more)), (λ h. refl))

pub allowed : (n count : ℕ) (made : Result Formula AllocError) (result : Result Formula FormRefusal) → count ≡ capped n → count ≤ most_nodes → result ≡ widened made → (result ≡ Err Large) ↔ (most_nodes < n)
unfolding capped
allowed n count made result counted few is = ((λ h. absurd (not_large made (sym is ∙ h))), (λ h. absurd (omega (arith, counted, few, h))))

pub if_made : (P : Formula → Type 0) (made : Result Formula AllocError) (result : Result Formula FormRefusal) → result ≡ widened made → IfOk made P → IfOk result P
if_made P (Ok p) result is right = rw is right
if_made P (Err e) result is right = rw is tt
