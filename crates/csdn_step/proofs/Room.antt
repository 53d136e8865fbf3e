-- Room for the variables in scope: at most 24.
use Rattle.std.proofs.Common.{◌≡◌, subst, ℕ, suc, ◌+◌, ◌≤◌, Bool, true, false, List, [], ◌∷◌, All, arith, if◌then◌else◌}
use Rattle.std.specs.Prelude.{Option, Some}
use Rattle.csdn_core.specs.declared.program.Handler.{Handler}
use Rattle.csdn_core.specs.declared.program.Parts.{Parts}
use Rattle.csdn_core.specs.declared.syntax.Command.TheVariants as c
use Rattle.csdn_core.specs.Run.{fits, first_fit}
use Rattle.csdn_core.specs.WellSorted.{IsHandler, IsWellSorted, signature}
use Rattle.csdn_core.specs.Depth.{command_depth}

-- what holds of each handler holds of the one that fits
fit_here : (Q : Handler → Type 0) (g h : Handler) (rest : Option Handler) (b : Bool) → Q g → (rest ≡ Some h → Q h) → (if b then Some g else rest) ≡ Some h → Q h
fit_here Q g h rest true mine later found = let same : g ≡ h = cc in subst Q same mine
fit_here Q g h rest false mine later found = later found

pub of_fit : (Q : Handler → Type 0) (hs : List Handler) (i : ℕ) (h : Handler) → All Q hs → first_fit hs i ≡ Some h → Q h
of_fit Q [] i h all is = absurd (cc)
of_fit Q (g ∷ hs) i h all is = fit_here Q g h (first_fit hs i) (fits g.port i) (all 0 g (omega arith)) (of_fit Q hs i h (λ k d inside. all (suc k) d (omega (arith, inside)))) is

pub handler_fits : (P : Parts) (i : ℕ) (h : Handler) → IsWellSorted P → first_fit P.handlers i ≡ Some h → 4 + command_depth h.body ≤ 24
handler_fits P i h sorted is = (of_fit (IsHandler (signature P)) P.handlers i h sorted.handlers is).few
