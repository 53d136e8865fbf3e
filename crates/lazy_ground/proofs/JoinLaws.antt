-- Where the constants of a sort are all different, its clauses of equality are true.
use Rattle.std.proofs.Common.{◌≡◌, ◌∙◌, ℕ, suc, ◌+◌, ◌*◌, ◌<◌, Bool, true, false, not, ◌&&◌, List, [], ◌∷◌, ◌++◌, refl, sym, ap, ap₂, arith, inl, inr, flat_map, nat_lt, eqb, slice_set, if◌then◌else◌}
use Rattle.std.proofs.Math.Nat.{max_comm, min_comm}
use Rattle.std.proofs.lemmas.Bool.{and_parts, cases_eq, cases_lt, false≢true, or_parts}
use Rattle.std.specs.List.{list_any}
use Rattle.general_facts.proofs.Numbers.{self_equal}
use Rattle.csdn_core.specs.Members.{IsIn}
use Rattle.csdn_core.proofs.Members.{flat_in, in_both}
use Rattle.csdn_core.specs.declared.program.Parts.{Parts}
use Rattle.csdn_core.specs.declared.terms.Pred.{Pred}
use Rattle.csdn_core.specs.declared.terms.Sort.{Sort}
use Rattle.csdn_core.specs.declared.terms.Sort.TheVariants.{Sw, Ho, Pr}
use Rattle.clause_log.specs.Literals.{Literal}
use Rattle.fol_forms.specs.Counts.{count_of}
use Rattle.decision_laws.specs.Classes.{all_tuples}
use Rattle.decision_laws.specs.Clauses.{chain_clause, chain_clauses, is_chain, is_numeral, may_meet, no, replace_clause, replace_clauses, replace_from, yes}
use Rattle.decision_laws.specs.Copies.{AreBelow, Equation, Fact, Tuple}
use Rattle.decision_laws.specs.Vocabulary.{Vocabulary, places_from}
use Rattle.decision_laws.proofs.Basics.{in_place}
use Rattle.decision_laws.proofs.Lists.{in_tuples}
use Rattle.decision_laws.proofs.Read.{AllTrue}
use Rattle.ground_inst.specs.Equality.{exchange_at}
use Rattle.ground_inst.specs.Facts.{equations_before, num_of, sorts_in, vocabulary_of}
use Rattle.ground_inst.specs.declared.facts.Facts.{Facts}
use Rattle.lazy_ground.specs.Found.{Finds}
use Rattle.lazy_ground.specs.Joins.{AreJoined, joined_in}
use Rattle.lazy_ground.specs.declared.joining.Joined.{Joined}
use Rattle.lazy_ground.proofs.FindLaws.{finds_true, first_cond}

-- what is false of the numbers below k, and of k
pub one_later : (p : ℕ → Bool) (k : ℕ) → ((b : ℕ) → b < k → p b ≡ false) → p k ≡ false → (b : ℕ) → b < k + 1 → p b ≡ false
one_later p k h e b l = elim (cases_eq b k) [ inl q ↦ ap p q ∙ e | inr ne ↦ h b (omega (arith, l, ne)) ]

-- the same of a triangle of numbers
pub one_more_row : (p : ℕ → ℕ → Bool) (k : ℕ) → ((a : ℕ) → a < k → (b : ℕ) → b < a → p a b ≡ false) → ((b : ℕ) → b < k → p k b ≡ false) → (a : ℕ) → a < k + 1 → (b : ℕ) → b < a → p a b ≡ false
one_more_row p k h e a l b m =
    elim (cases_eq a k) [
      | inl q ↦ ap (λ z. p z b) q ∙ e b (omega (arith, m, q))
      | inr ne ↦ h a (omega (arith, l, ne)) b m
    ]

differ : (a b : ℕ) → not (eqb a b) ≡ true → a ≡ b → ⊥
differ a b ne q = false≢true (sym (ap not (ap (eqb a) (sym q) ∙ self_equal a)) ∙ ne)

mirrored : (facts : Facts) (s : Sort) (a b : ℕ) → num_of facts (Equation s a b) ≡ num_of facts (Equation s b a)
unfolding num_of
mirrored facts s a b = ap₂ (λ x y. suc (equations_before (count_of facts.counts) s + (x * count_of facts.counts s + y))) (max_comm a b) (min_comm a b)

-- the equations of a sort below the diagonal are false, where the test says so
abbrev pub AreFalseBelow : Facts → (ℕ → Bool) → Sort → Bool → Type 0
AreFalseBelow facts v s joined = joined ≡ false → (a b : ℕ) → b < a → a < count_of facts.counts s → v (num_of facts (Equation s a b)) ≡ false

pub all_joined : (facts : Facts) (v : ℕ → Bool) (j : Joined) → AreFalseBelow facts v Sw j.sw → AreFalseBelow facts v Ho j.ho → AreFalseBelow facts v Pr j.pr → (s : Sort) → AreFalseBelow facts v s (joined_in j s)
all_joined facts v j sw ho pr Sw = sw
all_joined facts v j sw ho pr Ho = ho
all_joined facts v j sw ho pr Pr = pr

pub joined_from : (facts : Facts) (v : ℕ → Bool) (j : Joined) → ((s : Sort) → AreFalseBelow facts v s (joined_in j s)) → AreJoined facts v j
joined_from facts v j h s a b e la lb ne =
    elim (cases_lt b a) [
      | inl l ↦ h s e a b l la
      | inr g ↦ ap v (mirrored facts s a b) ∙ h s e b a (omega (arith, g, differ a b ne)) lb
    ]

-- a clause that is there or not, with a negated atom that is false where it is
first_where : (w : ℕ → Bool) (b : Bool) (x : ℕ) (c : List Literal) → (b ≡ true → w x ≡ false) → AllTrue w (if b then (no x ∷ c) ∷ [] else [])
first_where w true x c h = first_cond w true x c (h refl)
first_where w false x c h = λ d i. absurd i

below : (n k : ℕ) → IsIn k (places_from 0 n) → k < n
below n k i = omega (arith, (in_place 0 n k i).1)

apart : (voc : Vocabulary) (s : Sort) (a b : ℕ) → may_meet voc s a b ≡ true → not (eqb a b) ≡ true
apart voc s a b e = (and_parts (not (eqb a b)) (not (is_numeral voc s a && is_numeral voc s b)) e).0

module _ (P : Parts) (facts : Facts) (v : ℕ → Bool) (j : Joined) (all : AreJoined facts v j) where
  abbrev num : Fact → ℕ
  num = num_of facts

  abbrev n : Sort → ℕ
  n = count_of facts.counts

  abbrev voc : Vocabulary
  voc = vocabulary_of P facts

  pub chains_found : (s : Sort) (rows : List (List Literal)) → joined_in j s ≡ false → Finds v (chain_clauses num n voc s) rows rows
  chains_found s rows e =
      finds_true v (chain_clauses num n voc s) rows (λ c i.
      let ps = places_from 0 (n s) in
      let x = flat_in (λ a. flat_map (λ b. flat_map (λ d. if is_chain voc s a b d then chain_clause num s a b d ∷ [] else []) ps) ps) ps c i in
      let y = flat_in (λ b. flat_map (λ d. if is_chain voc s x.0 b d then chain_clause num s x.0 b d ∷ [] else []) ps) ps c x.2 in
      let z = flat_in (λ d. if is_chain voc s x.0 y.0 d then chain_clause num s x.0 y.0 d ∷ [] else []) ps c y.2 in
      first_where v (is_chain voc s x.0 y.0 z.0) (num (Equation s x.0 y.0)) (no (num (Equation s y.0 z.0)) ∷ yes (num (Equation s x.0 z.0)) ∷ [])
      (λ t. all s x.0 y.0 e (below (n s) x.0 x.1) (below (n s) y.0 y.1)
      (apart voc s x.0 y.0 (and_parts (may_meet voc s x.0 y.0) (may_meet voc s y.0 z.0) (and_parts (nat_lt x.0 z.0) (may_meet voc s x.0 y.0 && may_meet voc s y.0 z.0) t).1).0)) c z.2)

  pub column_found : (r : Pred) (s : Sort) (xs : List ℕ) (whole : Literal) (at a : ℕ) (rows : List (List Literal)) → joined_in j s ≡ false → a < n s
      → Finds v (flat_map (λ b. exchange_at P facts r s xs whole at a b) (places_from 0 (n s))) rows rows
  column_found r s xs whole at a rows e l =
      finds_true v (flat_map (λ b. exchange_at P facts r s xs whole at a b) (places_from 0 (n s))) rows (λ c i.
      let x = flat_in (λ b. exchange_at P facts r s xs whole at a b) (places_from 0 (n s)) c i in
      first_where v (may_meet voc s a x.0) (num (Equation s a x.0)) (whole ∷ yes (num (Tuple r (slice_set xs at x.0))) ∷ [])
      (λ t. all s a x.0 e l (below (n s) x.0 x.1) (apart voc s a x.0 t)) c x.2)

  from_true : (r : Pred) (front : List ℕ) (ss : List Sort) (xs : List ℕ) → AreBelow n ss xs → list_any (joined_in j) ss ≡ false → AllTrue v (replace_from num n voc r front ss xs)
  from_true r front [] xs low e c i = elim i [ ]
  from_true r front (s ∷ ss) [] low e c i = elim i [ ]
  from_true r front (s ∷ ss) (a ∷ back) low e c i =
      let make : ℕ → List (List Literal) = λ b. if may_meet voc s a b then replace_clause num r s front back a b ∷ [] else [] in
      let both = or_parts (joined_in j s) (list_any (joined_in j) ss) e in
      elim (in_both (flat_map make (places_from 0 (n s))) (replace_from num n voc r (front ++ a ∷ []) ss back) c i) [
        | inl x ↦ (
            let w = flat_in make (places_from 0 (n s)) c x in
            first_where v (may_meet voc s a w.0) (num (Equation s a w.0)) (no (num (Tuple r (front ++ a ∷ back))) ∷ yes (num (Tuple r (front ++ w.0 ∷ back))) ∷ [])
            (λ t. all s a w.0 both.0 low.0 (below (n s) w.0 w.1) (apart voc s a w.0 t)) c w.2)
        | inr x ↦ from_true r (front ++ a ∷ []) ss back low.1 both.1 c x
      ]

  pub relation_found : (r : Pred) (rows : List (List Literal)) → list_any (joined_in j) (sorts_in facts.relations r) ≡ false → Finds v (replace_clauses num n voc r) rows rows
  relation_found r rows e =
      let ss = sorts_in facts.relations r in
      finds_true v (replace_clauses num n voc r) rows (λ c i.
      let w = flat_in (λ xs. replace_from num n voc r [] ss xs) (all_tuples n ss) c i in
      from_true r [] ss w.0 (in_tuples n ss w.0 w.1) e c w.2)
