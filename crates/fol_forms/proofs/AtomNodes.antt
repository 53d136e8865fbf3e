-- The nodes of what stands in an atom's place.
use Rattle.std.proofs.Common.{◌≡◌, ℕ, ◌+◌, ◌*◌, ◌<◌, ◌≤◌, min, Bool, true, false, cond, List, [], ◌∷◌, length, refl, ap, ◌∙◌, arith}
use Rattle.csdn_core.specs.declared.terms.Term.{Term}
use Rattle.csdn_core.specs.declared.terms.Pred.{Pred}
use Rattle.csdn_core.specs.declared.terms.Pred.TheVariants.{Ft, Sent, RcvThis}
use Rattle.csdn_core.specs.declared.syntax.Formula.TheVariants as f
use Rattle.csdn_core.specs.Network.{same_pred}
use Rattle.csdn_core.specs.Nodes.{nodes}
use Rattle.fol_forms.specs.Changes.{is_match}
use Rattle.fol_forms.specs.Limits.{capped}
use Rattle.fol_forms.specs.Replace.{same, floods, rule_of, or_row, not_row, not_match, is_row, no_row, or_flood}
use Rattle.fol_forms.proofs.Capped.{capped-one}

-- lists that are as long, and not empty
pub nodes-same_alike : (us ts : List Term) → length us ≡ length ts → 0 < length us → nodes (same us ts) + 1 ≡ 2 * length us
unfolding nodes
nodes-same_alike [] ts long some = absurd (omega arith)
nodes-same_alike (u ∷ us) [] long some = absurd (omega arith)
nodes-same_alike (u ∷ []) (t ∷ []) long some = refl
nodes-same_alike (u ∷ []) (t ∷ w ∷ ts) long some = absurd (omega arith)
nodes-same_alike (u ∷ v ∷ us) (t ∷ []) long some = absurd (omega arith)
nodes-same_alike (u ∷ v ∷ us) (t ∷ w ∷ ts) long some =
    let rest = nodes-same_alike (v ∷ us) (w ∷ ts) (omega arith) (omega arith) in omega (arith, rest)

-- lists that aren't as long, and empty ones
pub nodes-same_other : (us ts : List Term) → (length us ≡ length ts → 0 < length us → ⊥) → nodes (same us ts) ≡ 2 * min (length us) (length ts) + 1
unfolding nodes
nodes-same_other [] ts differ = omega arith
nodes-same_other (u ∷ []) [] differ = omega arith
nodes-same_other (u ∷ v ∷ us) [] differ = omega arith
nodes-same_other (u ∷ []) (t ∷ []) differ = absurd (differ refl (omega arith))
nodes-same_other (u ∷ []) (t ∷ w ∷ ts) differ = omega arith
nodes-same_other (u ∷ v ∷ us) (t ∷ ts) differ =
    let rest = nodes-same_other (v ∷ us) ts (λ long some. differ (omega (arith, long)) (omega arith)) in omega (arith, rest)

pub nodes-match : (ts us : List Term) → (nodes (rule_of ts us) ≡ cond (is_match ts us) 7 1) × (nodes (floods ts us) ≡ cond (is_match ts us) 10 1)
unfolding nodes
nodes-match [] us = (refl, refl)
nodes-match (s ∷ []) us = (refl, refl)
nodes-match (s ∷ a ∷ []) us = (refl, refl)
nodes-match (s ∷ a ∷ b ∷ []) us = (refl, refl)
nodes-match (s ∷ a ∷ b ∷ i ∷ t ∷ ts) us = (refl, refl)
nodes-match (s ∷ a ∷ b ∷ i ∷ []) [] = (refl, refl)
nodes-match (s ∷ a ∷ b ∷ i ∷ []) (u ∷ []) = (refl, refl)
nodes-match (s ∷ a ∷ b ∷ i ∷ []) (u ∷ v ∷ []) = (refl, refl)
nodes-match (s ∷ a ∷ b ∷ i ∷ []) (u ∷ v ∷ w ∷ []) = (refl, refl)
nodes-match (s ∷ a ∷ b ∷ i ∷ []) (u ∷ v ∷ w ∷ j ∷ []) = (refl, refl)
nodes-match (s ∷ a ∷ b ∷ i ∷ []) (u ∷ v ∷ w ∷ j ∷ o ∷ []) = (refl, refl)
nodes-match (s ∷ a ∷ b ∷ i ∷ []) (u ∷ v ∷ w ∷ j ∷ o ∷ k ∷ us) = (refl, refl)

-- The count of an atom's place.

few_within : (n : ℕ) → n ≤ 20 → n ≡ capped n
unfolding capped
few_within n few = omega arith

pub or_row-count : (r : Pred) (ts : List Term) (q : Pred) (us : List Term) (n : ℕ) → same_pred q r ≡ true → n ≡ nodes (same us ts) → n ≤ 11 → n + 2 ≡ capped (nodes (or_row r ts q us))
unfolding nodes
or_row-count r ts q us n is counted few = rw is (few_within (n + 2) (omega (arith, few)) ∙ ap capped (omega (arith, counted)))

pub not_row-count : (r : Pred) (ts : List Term) (q : Pred) (us : List Term) (n : ℕ) → same_pred q r ≡ true → n ≡ nodes (same us ts) → n ≤ 11 → n + 3 ≡ capped (nodes (not_row r ts q us))
unfolding nodes
not_row-count r ts q us n is counted few = rw is (few_within (n + 3) (omega (arith, few)) ∙ ap capped (omega (arith, counted)))

pub not_match-count : (ts : List Term) (q : Pred) (us : List Term) (n : ℕ) → same_pred q Ft ≡ true → n ≡ nodes (rule_of ts us) → n ≤ 7 → n + 3 ≡ capped (nodes (not_match ts q us))
unfolding nodes
not_match-count ts q us n is counted few = rw is (few_within (n + 3) (omega (arith, few)) ∙ ap capped (omega (arith, counted)))

pub is_row-count : (ts : List Term) (q : Pred) (us : List Term) (n : ℕ) → same_pred q RcvThis ≡ true → n ≡ nodes (same us ts) → n ≤ 11 → n ≡ capped (nodes (is_row ts q us))
is_row-count ts q us n is counted few = rw is (few_within n (omega (arith, few)) ∙ ap capped counted)

pub or_flood-count : (ts : List Term) (q : Pred) (us : List Term) (n : ℕ) → same_pred q Sent ≡ true → n ≡ nodes (floods ts us) → n ≤ 10 → n + 2 ≡ capped (nodes (or_flood ts q us))
unfolding nodes
or_flood-count ts q us n is counted few = rw is (few_within (n + 2) (omega (arith, few)) ∙ ap capped (omega (arith, counted)))

-- an atom of another relation
pub or_row-other : (r : Pred) (ts : List Term) (q : Pred) (us : List Term) → same_pred q r ≡ false → 1 ≡ capped (nodes (or_row r ts q us))
unfolding nodes
or_row-other r ts q us isnt = rw isnt capped-one

pub not_row-other : (r : Pred) (ts : List Term) (q : Pred) (us : List Term) → same_pred q r ≡ false → 1 ≡ capped (nodes (not_row r ts q us))
unfolding nodes
not_row-other r ts q us isnt = rw isnt capped-one

pub not_match-other : (ts : List Term) (q : Pred) (us : List Term) → same_pred q Ft ≡ false → 1 ≡ capped (nodes (not_match ts q us))
unfolding nodes
not_match-other ts q us isnt = rw isnt capped-one

pub no_row-count : (q : Pred) (us : List Term) → 1 ≡ capped (nodes (no_row q us))
unfolding nodes
no_row-count q us = by_case (same_pred q RcvThis)
  where
    by_case : (b : Bool) → 1 ≡ capped (nodes (cond b f.False (f.Atom q us)))
    by_case true = capped-one
    by_case false = capped-one

pub is_row-other : (ts : List Term) (q : Pred) (us : List Term) → same_pred q RcvThis ≡ false → 1 ≡ capped (nodes (is_row ts q us))
unfolding nodes
is_row-other ts q us isnt = rw isnt capped-one

pub or_flood-other : (ts : List Term) (q : Pred) (us : List Term) → same_pred q Sent ≡ false → 1 ≡ capped (nodes (or_flood ts q us))
unfolding nodes
or_flood-other ts q us isnt = rw isnt capped-one
