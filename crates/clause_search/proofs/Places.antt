-- Assignments one by one.
use Rattle.std.proofs.Common.{◌≡◌, ℕ, Bool, true, false, cond, eqb, Some, None, refl, sym, ap, ◌∙◌, eqb-true, inl, inr}
use Rattle.std.proofs.Math.Bool.{not-not}
use Rattle.std.proofs.Math.Path.{fun_ext}
use Rattle.std.proofs.lemmas.Bool.{cases_Bool, false≢true, eq-eqb}
use Rattle.clause_log.specs.Literals.{Literal, negated}
use Rattle.clause_log.specs.Assignments.{Assignment, assign}

pub none_some : {X : Type 0} (x : X) → Some x ≡ None → ⊥
none_some x e = absurd cc

pub assign_at : (f : Assignment) (l : Literal) (a : ℕ) → eqb a l.atom ≡ true → assign l f a ≡ Some l.positive
assign_at f l a e = ap (λ t. cond t (Some l.positive) (f a)) e

pub assign_apart : (f : Assignment) (l : Literal) (a : ℕ) → eqb a l.atom ≡ false → assign l f a ≡ f a
assign_apart f l a e = ap (λ t. cond t (Some l.positive) (f a)) e

-- an atom without a value in the longer assignment has none before, and is another one
pub none_before : (f : Assignment) (l : Literal) (a : ℕ) → assign l f a ≡ None → (eqb a l.atom ≡ false) × (f a ≡ None)
none_before f l a e =
    elim (cases_Bool (eqb a l.atom)) [
      | inl t ↦ absurd (none_some l.positive (sym (assign_at f l a t) ∙ e))
      | inr t ↦ (t, sym (assign_apart f l a t) ∙ e)
    ]

-- a value stays where an atom without one gets one
pub value_stays : (f : Assignment) (l : Literal) (a : ℕ) (b : Bool) → f l.atom ≡ None → f a ≡ Some b → assign l f a ≡ Some b
value_stays f l a b n e =
    elim (cases_Bool (eqb a l.atom)) [
      | inl t ↦ absurd (none_some b (sym e ∙ ap f (eqb-true a l.atom t) ∙ n))
      | inr t ↦ assign_apart f l a t ∙ e
    ]

swap_at : (f : Assignment) (d l : Literal) (a : ℕ) (s t : Bool) → eqb a d.atom ≡ s → eqb a l.atom ≡ t → eqb d.atom l.atom ≡ false → assign d (assign l f) a ≡ assign l (assign d f) a
swap_at f d l a true true p q n = absurd (false≢true (sym n ∙ eq-eqb d.atom l.atom (sym (eqb-true a d.atom p) ∙ eqb-true a l.atom q)))
swap_at f d l a true false p q n = assign_at (assign l f) d a p ∙ sym (assign_apart (assign d f) l a q ∙ assign_at f d a p)
swap_at f d l a false true p q n = assign_apart (assign l f) d a p ∙ assign_at f l a q ∙ sym (assign_at (assign d f) l a q)
swap_at f d l a false false p q n = assign_apart (assign l f) d a p ∙ assign_apart f l a q ∙ sym (assign_apart (assign d f) l a q ∙ assign_apart f d a p)

-- two literals of different atoms may be assigned in either order
pub swap : (f : Assignment) (d l : Literal) → eqb d.atom l.atom ≡ false → assign d (assign l f) ≡ assign l (assign d f)
swap f d l n = fun_ext (λ a. swap_at f d l a (eqb a d.atom) (eqb a l.atom) refl refl n)

pub negated_twice : (l : Literal) → negated (negated l) ≡ l
negated_twice l = ap (λ b. let m : Literal = record { positive = b; atom = l.atom } in m) (not-not l.positive)
