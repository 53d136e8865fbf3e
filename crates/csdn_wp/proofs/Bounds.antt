-- The variables that preconditions bind.
use Rattle.std.proofs.Common.{◌≡◌, ◌⊎◌, inl, inr, ℕ, ◌+◌, ◌≤◌, Bool, true, false, List, [], ◌∷◌, ◌++◌, refl, ap, ap₂, subst, arith, if◌then◌else◌}
use Rattle.csdn_core.specs.declared.terms.Term.{Term}
use Rattle.csdn_core.specs.declared.terms.Pred.{Pred}
use Rattle.csdn_core.specs.declared.terms.Pred.TheVariants.{Sent, RcvThis}
use Rattle.csdn_core.specs.declared.syntax.Formula.{Formula}
use Rattle.csdn_core.specs.declared.syntax.Formula.TheVariants as f
use Rattle.csdn_core.specs.declared.syntax.Command.{Command}
use Rattle.csdn_core.specs.declared.syntax.Command.TheVariants.{Skip, Insert, Remove, Install, Uninstall, Forward, Flood}
use Rattle.csdn_core.specs.Tree.{negation, conjunction, disjunction, implication, equivalence, universal, existential, sequence, conditional, choice}
use Rattle.csdn_core.specs.Truth.{with_var}
use Rattle.csdn_core.specs.Network.{same_pred}
use Rattle.csdn_core.specs.Sorted.{bound_in}
use Rattle.csdn_core.specs.WellSorted.{command_bound_in}
use Rattle.fol_forms.specs.Replace.{replace, same, or_row, not_row, or_flood, is_row, no_row, floods}
use Rattle.fol_forms.specs.Renumber.{binders, renumbered}
use Rattle.csdn_wp.specs.Preconditions.{wp}
use Rattle.csdn_core.specs.Members.{IsIn}
use Rattle.csdn_core.proofs.Members.{in_left, in_right, in_both}

-- what stands in place of atoms binds nothing

bound_in-same : (us ts : List Term) → bound_in (same us ts) ≡ []
unfolding bound_in
bound_in-same [] ts = refl
bound_in-same (u ∷ []) [] = refl
bound_in-same (u ∷ v ∷ us) [] = refl
bound_in-same (u ∷ []) (t ∷ []) = refl
bound_in-same (u ∷ []) (t ∷ w ∷ ts) = bound_in-same [] (w ∷ ts)
bound_in-same (u ∷ v ∷ us) (t ∷ ts) = bound_in-same (v ∷ us) ts

binds_none : (b : Bool) (p q : Formula) → bound_in p ≡ [] → bound_in q ≡ [] → bound_in (if b then p else q) ≡ []
binds_none true p q first second = first
binds_none false p q first second = second

pub bound_in-or_row : (r : Pred) (ts : List Term) (q : Pred) (us : List Term) → bound_in (or_row r ts q us) ≡ []
unfolding bound_in
bound_in-or_row r ts q us = binds_none (same_pred q r) (disjunction (f.Atom q us) (same us ts)) (f.Atom q us) (bound_in-same us ts) refl

pub bound_in-not_row : (r : Pred) (ts : List Term) (q : Pred) (us : List Term) → bound_in (not_row r ts q us) ≡ []
unfolding bound_in
bound_in-not_row r ts q us = binds_none (same_pred q r) (conjunction (f.Atom q us) (negation (same us ts))) (f.Atom q us) (bound_in-same us ts) refl

pub bound_in-is_row : (ts : List Term) (q : Pred) (us : List Term) → bound_in (is_row ts q us) ≡ []
unfolding bound_in
bound_in-is_row ts q us = binds_none (same_pred q RcvThis) (same us ts) (f.Atom q us) (bound_in-same us ts) refl

bound_in-floods : (ts us : List Term) → bound_in (floods ts us) ≡ []
unfolding bound_in
bound_in-floods (s ∷ a ∷ b ∷ i ∷ []) (u ∷ v ∷ w ∷ j ∷ o ∷ []) = refl
bound_in-floods _ _ = refl

pub bound_in-or_flood : (ts : List Term) (q : Pred) (us : List Term) → bound_in (or_flood ts q us) ≡ []
unfolding bound_in
bound_in-or_flood ts q us = binds_none (same_pred q Sent) (disjunction (f.Atom q us) (floods ts us)) (f.Atom q us) (bound_in-floods ts us) refl

pub bound_in-no_row : (q : Pred) (us : List Term) → bound_in (no_row q us) ≡ []
unfolding bound_in
bound_in-no_row q us = binds_none (same_pred q RcvThis) f.False (f.Atom q us) refl refl

pub bound_in-replace : (g : Pred → List Term → Formula) → ((r : Pred) (us : List Term) → bound_in (g r us) ≡ []) → (p : Formula) → bound_in (replace g p) ≡ bound_in p
unfolding bound_in replace
bound_in-replace g none f.True = refl
bound_in-replace g none f.False = refl
bound_in-replace g none (f.Atom r us) = none r us
bound_in-replace g none (f.Same t u) = refl
bound_in-replace g none (negation p) = bound_in-replace g none p
bound_in-replace g none (conjunction p q) = ap₂ (λ xs ys. xs ++ ys) (bound_in-replace g none p) (bound_in-replace g none q)
bound_in-replace g none (disjunction p q) = ap₂ (λ xs ys. xs ++ ys) (bound_in-replace g none p) (bound_in-replace g none q)
bound_in-replace g none (implication p q) = ap₂ (λ xs ys. xs ++ ys) (bound_in-replace g none p) (bound_in-replace g none q)
bound_in-replace g none (equivalence p q) = ap₂ (λ xs ys. xs ++ ys) (bound_in-replace g none p) (bound_in-replace g none q)
bound_in-replace g none (universal v s p) = ap (λ xs. v.0 ∷ xs) (bound_in-replace g none p)
bound_in-replace g none (existential v s p) = ap (λ xs. v.0 ∷ xs) (bound_in-replace g none p)

-- new numbers are k and more
pub bound_in-renumbered : (p : Formula) (new : ℕ → ℕ) (k n : ℕ) → IsIn n (bound_in (renumbered new k p)) → k ≤ n
unfolding bound_in renumbered
bound_in-renumbered f.True new k n i = elim i [ ]
bound_in-renumbered f.False new k n i = elim i [ ]
bound_in-renumbered (f.Atom r ts) new k n i = elim i [ ]
bound_in-renumbered (f.Same t u) new k n i = elim i [ ]
bound_in-renumbered (negation p) new k n i = bound_in-renumbered p new k n i
bound_in-renumbered (conjunction p q) new k n i = elim (in_both (bound_in (renumbered new k p)) (bound_in (renumbered new (k + binders p) q)) n i) [ inl here ↦ bound_in-renumbered p new k n here | inr there ↦ (let far = bound_in-renumbered q new (k + binders p) n there in omega (arith, far)) ]
bound_in-renumbered (disjunction p q) new k n i = elim (in_both (bound_in (renumbered new k p)) (bound_in (renumbered new (k + binders p) q)) n i) [ inl here ↦ bound_in-renumbered p new k n here | inr there ↦ (let far = bound_in-renumbered q new (k + binders p) n there in omega (arith, far)) ]
bound_in-renumbered (implication p q) new k n i = elim (in_both (bound_in (renumbered new k p)) (bound_in (renumbered new (k + binders p) q)) n i) [ inl here ↦ bound_in-renumbered p new k n here | inr there ↦ (let far = bound_in-renumbered q new (k + binders p) n there in omega (arith, far)) ]
bound_in-renumbered (equivalence p q) new k n i = elim (in_both (bound_in (renumbered new k p)) (bound_in (renumbered new (k + binders p) q)) n i) [ inl here ↦ bound_in-renumbered p new k n here | inr there ↦ (let far = bound_in-renumbered q new (k + binders p) n there in omega (arith, far)) ]
bound_in-renumbered (universal v s p) new k n (inl is) = omega (arith, is)
bound_in-renumbered (universal v s p) new k n (inr there) = let far = bound_in-renumbered p (with_var new v k) (k + 1) n there in omega (arith, far)
bound_in-renumbered (existential v s p) new k n (inl is) = omega (arith, is)
bound_in-renumbered (existential v s p) new k n (inr there) = let far = bound_in-renumbered p (with_var new v k) (k + 1) n there in omega (arith, far)

-- a precondition binds what its command binds, and what the formula binds
pub bound_in-wp : (c : Command) (q : Formula) (n : ℕ) → IsIn n (bound_in (wp c q)) → IsIn n (command_bound_in c) ⊎ IsIn n (bound_in q)
unfolding wp bound_in command_bound_in
bound_in-wp Skip q n i = inr i
bound_in-wp (sequence a b) q n i = elim (bound_in-wp a (wp b q) n i) [
  | inl here ↦ inl (in_left (command_bound_in a) (command_bound_in b) n here)
  | inr later ↦ (elim (bound_in-wp b q n later) [ inl here ↦ inl (in_right (command_bound_in a) (command_bound_in b) n here) | inr after ↦ inr after ])
]
bound_in-wp (conditional p a b) q n i = elim (in_both (bound_in p ++ bound_in (wp a q)) (bound_in p ++ bound_in (wp b q)) n i) [
  | inl left ↦ (elim (in_both (bound_in p) (bound_in (wp a q)) n left) [ inl here ↦ inl (in_left (bound_in p) _ n here) | inr there ↦ with_first (bound_in-wp a q n there) ])
  | inr right ↦ (elim (in_both (bound_in p) (bound_in (wp b q)) n right) [ inl here ↦ inl (in_left (bound_in p) _ n here) | inr there ↦ with_second (bound_in-wp b q n there) ])
]
  where
    with_first : IsIn n (command_bound_in a) ⊎ IsIn n (bound_in q) → IsIn n (bound_in p ++ (command_bound_in a ++ command_bound_in b)) ⊎ IsIn n (bound_in q)
    with_first (inl here) = inl (in_right (bound_in p) _ n (in_left (command_bound_in a) (command_bound_in b) n here))
    with_first (inr after) = inr after

    with_second : IsIn n (command_bound_in b) ⊎ IsIn n (bound_in q) → IsIn n (bound_in p ++ (command_bound_in a ++ command_bound_in b)) ⊎ IsIn n (bound_in q)
    with_second (inl here) = inl (in_right (bound_in p) _ n (in_right (command_bound_in a) (command_bound_in b) n here))
    with_second (inr after) = inr after
bound_in-wp (choice v s p a b) q n (inl is) = inl (inl is)
bound_in-wp (choice v s p a b) q n (inr i) = elim (in_both (bound_in p ++ bound_in (wp a q)) (v.0 ∷ (bound_in p ++ bound_in (wp b q))) n i) [
  | inl left ↦ (elim (in_both (bound_in p) (bound_in (wp a q)) n left) [ inl here ↦ inl (inr (in_left (bound_in p) _ n here)) | inr there ↦ with_first (bound_in-wp a q n there) ])
  | inr right ↦ in_second (λ there. bound_in-wp b q n there) right
]
  where
    with_first : IsIn n (command_bound_in a) ⊎ IsIn n (bound_in q) → IsIn n (v.0 ∷ (bound_in p ++ (command_bound_in a ++ command_bound_in b))) ⊎ IsIn n (bound_in q)
    with_first (inl here) = inl (inr (in_right (bound_in p) _ n (in_left (command_bound_in a) (command_bound_in b) n here)))
    with_first (inr after) = inr after

    with_second : IsIn n (command_bound_in b) ⊎ IsIn n (bound_in q) → IsIn n (v.0 ∷ (bound_in p ++ (command_bound_in a ++ command_bound_in b))) ⊎ IsIn n (bound_in q)
    with_second (inl here) = inl (inr (in_right (bound_in p) _ n (in_right (command_bound_in a) (command_bound_in b) n here)))
    with_second (inr after) = inr after

    in_second : (IsIn n (bound_in (wp b q)) → IsIn n (command_bound_in b) ⊎ IsIn n (bound_in q)) → IsIn n (v.0 ∷ (bound_in p ++ bound_in (wp b q))) → IsIn n (v.0 ∷ (bound_in p ++ (command_bound_in a ++ command_bound_in b))) ⊎ IsIn n (bound_in q)
    in_second later (inl is) = inl (inl is)
    in_second later (inr more) = elim (in_both (bound_in p) (bound_in (wp b q)) n more) [ inl here ↦ inl (inr (in_left (bound_in p) _ n here)) | inr there ↦ with_second (later there) ]
bound_in-wp (Insert r ts) q n i = inr (subst (λ xs. IsIn n xs) (bound_in-replace (or_row _ ts) (bound_in-or_row _ ts) q) i)
bound_in-wp (Remove r ts) q n i = inr (subst (λ xs. IsIn n xs) (bound_in-replace (not_row _ ts) (bound_in-not_row _ ts) q) i)
bound_in-wp (Install ts) q n i = inr (subst (λ xs. IsIn n xs) (bound_in-replace (or_row _ ts) (bound_in-or_row _ ts) q) i)
bound_in-wp (Uninstall ts) q n i = inr (subst (λ xs. IsIn n xs) (bound_in-replace (not_row _ ts) (bound_in-not_row _ ts) q) i)
bound_in-wp (Forward ts) q n i = inr (subst (λ xs. IsIn n xs) (bound_in-replace (or_row _ ts) (bound_in-or_row _ ts) q) i)
bound_in-wp (Flood ts) q n i = inr (subst (λ xs. IsIn n xs) (bound_in-replace (or_flood ts) (bound_in-or_flood ts) q) i)
