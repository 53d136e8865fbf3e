-- Members of lists.
use Rattle.std.proofs.Common.{Bool, List, [], ap, arith, cond, false, filter, inl, inr, map, refl, subst, sym, true, ℕ, ◌<◌, ◌∙◌, ◌∷◌, ◌≡◌}
use Rattle.std.proofs.lemmas.Bool.{false≢true}
use Rattle.csdn_core.specs.Same.{same_term}
use Rattle.csdn_core.proofs.Same.{same_term-is, same_term-refl}
use Rattle.csdn_core.specs.declared.terms.Sort.{Sort}
use Rattle.csdn_core.specs.declared.terms.Term.{Term}
use Rattle.decision_laws.proofs.Basics.{any_from, any_gives, in_place, place_in}
use Rattle.decision_laws.specs.Classes.{all_tuples}
use Rattle.decision_laws.specs.Copies.{AreBelow}
use Rattle.decision_laws.specs.Vocabulary.{has_term, places_from}
use Rattle.csdn_core.specs.Members.{IsIn}
use Rattle.csdn_core.proofs.Members.{in_map, map_in, in_flat, flat_in}

pub tuple_in : (n : Sort → ℕ) (ss : List Sort) (xs : List ℕ) → AreBelow n ss xs → IsIn xs (all_tuples n ss)
tuple_in n [] [] h = inl refl
tuple_in n [] (x ∷ xs) h = elim h [ ]
tuple_in n (s ∷ ss) [] h = elim h [ ]
tuple_in n (s ∷ ss) (x ∷ xs) h =
    in_flat (λ a. map (λ ys. a ∷ ys) (all_tuples n ss)) (places_from 0 (n s)) x (x ∷ xs) (place_in 0 (n s) x (omega arith) (omega (arith, h.0)))
    (in_map (λ ys. x ∷ ys) (all_tuples n ss) xs (tuple_in n ss xs h.1))

pub in_tuples : (n : Sort → ℕ) (ss : List Sort) (xs : List ℕ) → IsIn xs (all_tuples n ss) → AreBelow n ss xs
in_tuples n [] xs h = elim h [ inl e ↦ subst (λ z. AreBelow n [] z) (sym e) tt | inr r ↦ elim r [ ] ]
in_tuples n (s ∷ ss) xs h =
    let w = flat_in (λ a. map (λ ys. a ∷ ys) (all_tuples n ss)) (places_from 0 (n s)) xs h in
    let v = map_in (λ ys. w.0 ∷ ys) (all_tuples n ss) xs w.2 in
    let l : w.0 < n s = omega (arith, (in_place 0 (n s) w.0 w.1).1) in
    subst (λ z. AreBelow n (s ∷ ss) z) (sym v.2) (l, in_tuples n ss v.0 v.1)

pub kept_first : {X : Type 0} (b : Bool) (x y : X) (ys : List X) → b ≡ true → x ≡ y → IsIn x (cond b (y ∷ ys) ys)
kept_first true x y ys e q = inl q
kept_first false x y ys e q = absurd (false≢true e)

pub kept_later : {X : Type 0} (b : Bool) (x y : X) (ys : List X) → IsIn x ys → IsIn x (cond b (y ∷ ys) ys)
kept_later true x y ys i = inr i
kept_later false x y ys i = i

filter_step : {X : Type 0} (p : X → Bool) (y : X) (ys : List X) (x : X) (b : Bool) → p y ≡ b → IsIn x (cond b (y ∷ filter p ys) (filter p ys)) → (IsIn x (filter p ys) → IsIn x ys × (p x ≡ true)) → IsIn x (y ∷ ys) × (p x ≡ true)
filter_step p y ys x true e i h = elim i [ inl q ↦ (inl q, ap p q ∙ e) | inr r ↦ (let w = h r in (inr w.0, w.1)) ]
filter_step p y ys x false e i h = (let w = h i in (inr w.0, w.1))

-- a member passes the test, and so stands in the filtered list
pub in_filter : {X : Type 0} (p : X → Bool) (xs : List X) (x : X) → IsIn x xs → p x ≡ true → IsIn x (filter p xs)
in_filter p [] x i h = elim i [ ]
in_filter p (y ∷ ys) x i h =
    elim i [
      | inl e ↦ kept_first (p y) x y (filter p ys) (sym (ap p e) ∙ h) e
      | inr r ↦ kept_later (p y) x y (filter p ys) (in_filter p ys x r h)
    ]

pub filter_in : {X : Type 0} (p : X → Bool) (xs : List X) (x : X) → IsIn x (filter p xs) → IsIn x xs × (p x ≡ true)
filter_in p [] x i = elim i [ ]
filter_in p (y ∷ ys) x i = filter_step p y ys x (p y) refl i (filter_in p ys x)

pub term_in : (t : Term) (ts : List Term) → has_term t ts ≡ true → IsIn t ts
term_in t ts h = (let w = any_gives (same_term t) ts h in subst (λ z. IsIn z ts) (sym (same_term-is t w.0 w.2)) w.1)

pub in_term : (t : Term) (ts : List Term) → IsIn t ts → has_term t ts ≡ true
in_term t ts i = any_from (same_term t) ts t i (same_term-refl t)
