-- A flood, port by port.
use Rattle.std.proofs.Common.{◌≡◌, ◌∙◌, sym, ap, refl, ℕ, ◌==◌, Bool, true, false, not, ◌&&◌, ◌||◌, List, [], ◌∷◌, ◌-◌, ◌≤◌, ◌<◌, length, take, drop, get_or, arith}
use Rattle.std.proofs.Math.Path.{fun_ext}
use Rattle.general_facts.proofs.Lists.{rest_is}
use Rattle.csdn_core.proofs.FiniteStates.{unchanged}
use Rattle.csdn_core.specs.declared.terms.Pred.TheVariants.{Sent}
use Rattle.csdn_core.specs.Network.{State, same_pred, same_cells}
use Rattle.csdn_core.specs.Execution.{put, flooded, is_flood}

own : (x s c b : Bool) → b ≡ true → (x || (s && ((not b && c) || false))) ≡ x
own true s c b is = refl
own false false c b is = refl
own false true c true is = refl
own false true c false is = absurd (cc)

other : (x s c b : Bool) → b ≡ false → (x || (s && c)) ≡ (x || (s && ((not b && c) || false)))
other true s c b is = refl
other false false c b is = refl
other false true true true is = is
other false true true false is = refl
other false true false true is = refl
other false true false false is = refl

grouped : (x s a f : Bool) → ((x || (s && (a || false))) || (s && f)) ≡ (x || (s && (a || f)))
grouped true s a f = refl
grouped false false a f = refl
grouped false true true f = refl
grouped false true false f = refl

module _ (x : State) (s a b i : ℕ) where
  pub flooded-none : flooded x [] (s ∷ a ∷ b ∷ i ∷ []) ≡ x
  flooded-none = fun_ext (λ q. fun_ext (λ ds. unchanged (x q ds) (same_pred q Sent)))

  pub flooded-other : (o : ℕ) → (o == i) ≡ false → put x Sent (s ∷ a ∷ b ∷ i ∷ o ∷ []) ≡ flooded x (o ∷ []) (s ∷ a ∷ b ∷ i ∷ [])
  flooded-other o is = fun_ext (λ q. fun_ext (λ ds. other (x q ds) (same_pred q Sent) (same_cells ds (s ∷ a ∷ b ∷ i ∷ o ∷ [])) (o == i) is))

  pub flooded-more : (o : ℕ) (ports : List ℕ) → flooded (flooded x (o ∷ []) (s ∷ a ∷ b ∷ i ∷ [])) ports (s ∷ a ∷ b ∷ i ∷ []) ≡ flooded x (o ∷ ports) (s ∷ a ∷ b ∷ i ∷ [])
  flooded-more o ports = fun_ext (λ q. fun_ext (λ ds. grouped (x q ds) (same_pred q Sent) (not (o == i) && same_cells ds (s ∷ a ∷ b ∷ i ∷ o ∷ [])) (is_flood ports (s ∷ a ∷ b ∷ i ∷ []) ds)))

-- one port more is passed
pub flood_goes : (y z whole : State) (s a b i o d : ℕ) (rest : List ℕ) → 1 ≤ length rest → o ≡ get_or rest 0 d → z ≡ flooded y (o ∷ []) (s ∷ a ∷ b ∷ i ∷ []) → flooded y rest (s ∷ a ∷ b ∷ i ∷ []) ≡ whole
    → flooded z (take (length rest - 1) (drop 1 rest)) (s ∷ a ∷ b ∷ i ∷ []) ≡ whole
flood_goes y z whole s a b i o d [] some first is goes = absurd (omega arith)
flood_goes y z whole s a b i o d (p ∷ ports) some first is goes =
    ap (λ more. flooded z more (s ∷ a ∷ b ∷ i ∷ [])) (rest_is p ports)
    ∙ ap (λ w. flooded w ports (s ∷ a ∷ b ∷ i ∷ [])) (is ∙ ap (λ n. flooded y (n ∷ []) (s ∷ a ∷ b ∷ i ∷ [])) first)
    ∙ flooded-more y s a b i p ports ∙ goes

pub flood_ends : (y whole : State) (s a b i : ℕ) (rest : List ℕ) → rest ≡ [] → flooded y rest (s ∷ a ∷ b ∷ i ∷ []) ≡ whole → y ≡ whole
flood_ends y whole s a b i rest none goes = sym (flooded-none y s a b i) ∙ ap (λ r. flooded y r (s ∷ a ∷ b ∷ i ∷ [])) (sym none) ∙ goes

pub none_left : {X : Type 0} (xs : List X) → length xs < 1 → xs ≡ []
none_left [] none = refl
none_left (x ∷ xs) none = absurd (omega arith)
