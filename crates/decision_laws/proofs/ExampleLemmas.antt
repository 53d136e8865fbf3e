-- The judgement of the worked example is fair; the contradiction, its clauses as they are asked for; hosts in another order.
use Rattle.std.proofs.Common.{AllPairs, Contains, IsFalse, ap, arith, length, suc, zero, ◌↔◌, ◌≢◌, Bool, List, [], eq-eqb, eqb-true, false, inl, inr, nat_eq, refl, subst, sym, true, ℕ, ◌&&◌, ◌||◌, ◌∙◌, ◌∷◌, ◌≡◌}
use Rattle.std.proofs.lemmas.Bool.{false≢true}
use Rattle.std.specs.Cmp.{both_ways}
use Rattle.csdn_core.specs.declared.terms.Sort.{Sort}
use Rattle.csdn_core.specs.declared.terms.Sort.TheVariants.{Sw, Ho, Pr}
use Rattle.csdn_core.specs.declared.terms.Pred.{Pred}
use Rattle.decision_laws.specs.Copies.{AreAlike, IsFair, Tuple}
use Rattle.csdn_core.specs.declared.terms.Term.TheVariants.{Port}
use Rattle.csdn_core.specs.Members.{IsIn}
use Rattle.csdn_core.specs.Network.{elements}
use Rattle.csdn_core.specs.SortedIn.{HaveSortsIn, IsAtomIn, IsSortedIn, no_rcv_this, no_scope}
use Rattle.csdn_core.specs.WellSorted.{signature}
use Rattle.csdn_core.proofs.Members.{contains_in, in_contains}
use Rattle.clause_log.specs.Literals.{Literal, clause_true}
use Rattle.decision_laws.specs.Classes.{ListTheSame}
use Rattle.decision_laws.specs.Sublists.{ArePart, AreBroken}
use Rattle.decision_laws.specs.Example.{small_program, contradiction, contradiction_clauses, first_clauses, seven_and_nine, broken_clauses, example_network, reordered_network, example_judgement, example_meaning, host_of, program, r, sentence}
use Rattle.decision_laws.specs.Laws.{IsSentence, clauses, words}
use Rattle.fol_forms.specs.Forms.{normal_form}
use Rattle.fol_forms.specs.Constants.{counts}

pub nat_eq-turned : (a b : ℕ) → nat_eq a b ≡ nat_eq b a
nat_eq-turned a b = both_ways (nat_eq a b) (nat_eq b a) (λ e. eq-eqb b a (sym (eqb-true a b e))) (λ e. eq-eqb a b (sym (eqb-true b a e)))

or_same : (b : Bool) → ((b && true) || false) ≡ b
or_same true = refl
or_same false = refl

pub one_tuple : (a : ℕ) → ((nat_eq 2 a && true) || false) ≡ nat_eq a 2
one_tuple a = or_same (nat_eq 2 a) ∙ nat_eq-turned 2 a

replaced_in : (n : Sort → ℕ) (xs ys : List ℕ) → AreAlike n example_judgement (Ho ∷ []) xs ys → example_judgement (Tuple r xs) ≡ true → example_judgement (Tuple r ys) ≡ true
replaced_in n [] ys h e = absurd (false≢true e)
replaced_in n (a ∷ as') [] h e = elim h [ ]
replaced_in n (a ∷ as') (b ∷ bs) h e =
    let same : host_of a ≡ host_of b = eqb-true (host_of a) (host_of b) h.2 in
    subst (λ z. nat_eq z 2 ≡ true) same e

-- the judgement looks at no relation
kept_tuple : (q : Pred) (xs : List ℕ) → example_judgement (Tuple q xs) ≡ true → example_judgement (Tuple r xs) ≡ true
kept_tuple q [] e = e
kept_tuple q (a ∷ as') e = e

back_tuple : (q : Pred) (xs : List ℕ) → example_judgement (Tuple r xs) ≡ true → example_judgement (Tuple q xs) ≡ true
back_tuple q [] e = e
back_tuple q (a ∷ as') e = e

pub example_fair : IsFair (words program sentence) (counts program sentence) example_judgement
unfolding normal_form
example_fair = record {
  same = λ s a l. eq-eqb (example_meaning s a) (example_meaning s a) refl;
  turned = λ s a b l m e. eq-eqb (example_meaning s b) (example_meaning s a) (sym (eqb-true (example_meaning s a) (example_meaning s b) e));
  chained = λ s a b c l m k e f. eq-eqb (example_meaning s a) (example_meaning s c) (eqb-true (example_meaning s a) (example_meaning s b) e ∙ eqb-true (example_meaning s b) (example_meaning s c) f);
  replaced = λ q xs ys i h e.
      (let here : q ≡ r = elim i [ inl p ↦ p | inr z ↦ elim z [ ] ] in
      back_tuple q ys (replaced_in (counts program sentence) xs ys (subst (λ z. AreAlike (counts program sentence) example_judgement ((words program sentence).columns z) xs ys) here h) (kept_tuple q xs e)));
  numerals = λ k m i. elim i [ ];
}

-- the contradiction

contradiction_sorted : IsSortedIn (signature small_program) no_rcv_this no_scope contradiction
unfolding IsSortedIn HaveSortsIn
contradiction_sorted =
    let numeral : Contains small_program.numerals 1 = (0, omega arith, refl) in
    let q : IsAtomIn (signature small_program) no_scope r (Port 1 ∷ []) × no_rcv_this r = (record { sorts = Pr ∷ []; declared = refl; terms = ((refl, numeral), tt) }, refl) in
    (q, q)

pub contradiction_is_sentence : IsSentence small_program contradiction
unfolding normal_form
contradiction_is_sentence = record { closed = contradiction_sorted; inside = refl }

pub contradiction_computed : clauses small_program contradiction ≡ contradiction_clauses
unfolding normal_form
contradiction_computed = refl

-- clauses that are asked for

pub first_part : ArePart contradiction_clauses first_clauses
first_part = record { distinct = (λ i. elim i [ inl is ↦ absurd (let e : 2 ≡ 1 = ap length is in omega (arith, e)) | inr none ↦ none ], ((λ none. none), tt)); within = within }
  where
    within : (c : List Literal) → IsIn c first_clauses → IsIn c contradiction_clauses
    within c (inl is) = inl is
    within c (inr (inl is)) = inr (inr (inl is))
    within c (inr (inr none)) = absurd none

pub first_broken : AreBroken contradiction_clauses seven_and_nine broken_clauses
first_broken = record { part = record { distinct = ((λ none. none), tt); within = within }; broken = broken }
  where
    within : (c : List Literal) → IsIn c broken_clauses → IsIn c contradiction_clauses
    within c (inl is) = inr (inl is)
    within c (inr none) = absurd none

    broken : (c : List Literal) → IsIn c broken_clauses → IsFalse (clause_true seven_and_nine c)
    broken c (inl is) = subst (λ d. IsFalse (clause_true seven_and_nine d)) (sym is) refl
    broken c (inr none) = absurd none

-- a network in another order

swapped : (a b m : ℕ) → Contains (a ∷ b ∷ []) m → Contains (b ∷ a ∷ []) m
swapped a b m there = in_contains (b ∷ a ∷ []) m (turned (contains_in (a ∷ b ∷ []) m there))
  where
    turned : IsIn m (a ∷ b ∷ []) → IsIn m (b ∷ a ∷ [])
    turned (inl is) = inr (inl is)
    turned (inr (inl is)) = inl is
    turned (inr (inr none)) = absurd none

pub lists_the_same : ListTheSame example_network reordered_network
lists_the_same = record { elements = both; constants = refl; rows = λ row. ((λ there. there), (λ there. there)) }
  where
    both : (s : Sort) (m : ℕ) → Contains (elements example_network s) m ↔ Contains (elements reordered_network s) m
    both Sw m = ((λ there. there), (λ there. there))
    both Ho m = (swapped 1 2 m, swapped 2 1 m)
    both Pr m = ((λ there. there), (λ there. there))

pub each_once : (s : Sort) → AllPairs (λ m n. m ≢ n) (elements reordered_network s)
each_once Sw i j d less within = absurd (omega (arith, less, within))
each_once Pr i j d less within = absurd (omega (arith, less, within))
each_once Ho zero zero d less within = absurd (omega (arith, less))
each_once Ho zero (suc zero) d less within = λ is. absurd (omega (arith, is))
each_once Ho zero (suc (suc j)) d less within = absurd (omega (arith, within))
each_once Ho (suc i) j d less within = absurd (omega (arith, less, within))
