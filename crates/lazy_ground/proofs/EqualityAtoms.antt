-- The atoms of the clauses of equality are those of facts over the constants.
use Rattle.std.proofs.Common.{◌≡◌, ◌∙◌, ℕ, ◌<◌, Bool, true, false, ◌||◌, List, [], ◌∷◌, ◌++◌, refl, sym, ap, ap₂, subst, arith, cond, inl, inr, flat_map, nat_lt, append_assoc}
use Rattle.csdn_core.specs.Members.{IsIn}
use Rattle.csdn_core.proofs.Members.{flat_in, in_both, map_in, one_in}
use Rattle.csdn_core.specs.declared.terms.Pred.{Pred}
use Rattle.csdn_core.specs.declared.terms.Sort.{Sort}
use Rattle.csdn_core.specs.declared.terms.Sort.TheVariants.{Ho, Pr, Sw}
use Rattle.clause_log.specs.Literals.{Literal, clause_true, signed}
use Rattle.decision_laws.specs.Classes.{all_tuples}
use Rattle.decision_laws.specs.Clauses.{IsOver, chain_clause, chain_clauses, equality_clauses, is_chain, may_meet, no, numeral_clauses, replace_clause, replace_clauses, replace_from, same_clauses, yes}
use Rattle.decision_laws.specs.Copies.{AreBelow, Equation, Fact, Tuple, numeral_place}
use Rattle.decision_laws.specs.Vocabulary.{Vocabulary, places_from}
use Rattle.decision_laws.proofs.Basics.{in_place}
use Rattle.decision_laws.proofs.Lists.{in_tuples}
use Rattle.decision_laws.proofs.Read.{below_append}

-- valuations that agree on the atoms of a clause
pub clause_same : (v w : ℕ → Bool) (c : List Literal) → ((l : Literal) → IsIn l c → v l.atom ≡ w l.atom) → clause_true v c ≡ clause_true w c
clause_same v w [] h = refl
clause_same v w (l ∷ c) h = ap₂ (λ x y. signed l.positive x || y) (h l (inl refl)) (clause_same v w c (λ k i. h k (inr i)))

cond_is : {X : Type 0} (b : Bool) (c d : X) → IsIn c (cond b (d ∷ []) []) → c ≡ d
cond_is true c d i = one_in c d i
cond_is false c d i = elim i [ ]

module _ (num : Fact → ℕ) (n : Sort → ℕ) (voc : Vocabulary) where
  -- an atom is that of a fact over the constants
  abbrev pub IsFactAtom : ℕ → Type 0
  IsFactAtom x = (f : Fact) × IsOver n voc f × (x ≡ num f)

  abbrev AreFactAtoms : List Literal → Type 0
  AreFactAtoms c = (l : Literal) → IsIn l c → IsFactAtom l.atom

  one_atom : (l : Literal) (f : Fact) → IsOver n voc f → l.atom ≡ num f → AreFactAtoms (l ∷ [])
  one_atom l f o e k i = (f, o, ap (λ z. z.atom) (one_in k l i) ∙ e)

  more_atoms : (l : Literal) (c : List Literal) (f : Fact) → IsOver n voc f → l.atom ≡ num f → AreFactAtoms c → AreFactAtoms (l ∷ c)
  more_atoms l c f o e h k i = elim i [ inl q ↦ (f, o, ap (λ z. z.atom) q ∙ e) | inr z ↦ h k z ]

  same_atoms : (s : Sort) (c : List Literal) → IsIn c (same_clauses num n s) → AreFactAtoms c
  same_atoms s c i =
      let w = map_in (λ a. yes (num (Equation s a a)) ∷ []) (places_from 0 (n s)) c i in
      let l : w.0 < n s = omega (arith, (in_place 0 (n s) w.0 w.1).1) in
      subst AreFactAtoms (sym w.2) (one_atom (yes (num (Equation s w.0 w.0))) (Equation s w.0 w.0) (l, l) refl)

  chain_atoms : (s : Sort) (c : List Literal) → IsIn c (chain_clauses num n voc s) → AreFactAtoms c
  chain_atoms s c i =
      let ps = places_from 0 (n s) in
      let x = flat_in (λ a. flat_map (λ b. flat_map (λ d. cond (is_chain voc s a b d) (chain_clause num s a b d ∷ []) []) ps) ps) ps c i in
      let y = flat_in (λ b. flat_map (λ d. cond (is_chain voc s x.0 b d) (chain_clause num s x.0 b d ∷ []) []) ps) ps c x.2 in
      let z = flat_in (λ d. cond (is_chain voc s x.0 y.0 d) (chain_clause num s x.0 y.0 d ∷ []) []) ps c y.2 in
      let lx : x.0 < n s = omega (arith, (in_place 0 (n s) x.0 x.1).1) in
      let ly : y.0 < n s = omega (arith, (in_place 0 (n s) y.0 y.1).1) in
      let lz : z.0 < n s = omega (arith, (in_place 0 (n s) z.0 z.1).1) in
      subst AreFactAtoms (sym (cond_is (is_chain voc s x.0 y.0 z.0) c (chain_clause num s x.0 y.0 z.0) z.2))
      (more_atoms (no (num (Equation s x.0 y.0))) (no (num (Equation s y.0 z.0)) ∷ yes (num (Equation s x.0 z.0)) ∷ []) (Equation s x.0 y.0) (lx, ly) refl
      (more_atoms (no (num (Equation s y.0 z.0))) (yes (num (Equation s x.0 z.0)) ∷ []) (Equation s y.0 z.0) (ly, lz) refl
      (one_atom (yes (num (Equation s x.0 z.0))) (Equation s x.0 z.0) (lx, lz) refl)))

  replace_atoms : (r : Pred) → IsIn r voc.relations → (pre : List Sort) (front : List ℕ) → AreBelow n pre front → (ss : List Sort) (xs : List ℕ) → voc.columns r ≡ pre ++ ss → AreBelow n ss xs → (c : List Literal) → IsIn c (replace_from num n voc r front ss xs) → AreFactAtoms c
  replace_atoms r i pre front f [] xs q b c h = elim h [ ]
  replace_atoms r i pre front f (s ∷ ss) [] q b c h = elim h [ ]
  replace_atoms r i pre front f (s ∷ ss) (a ∷ back) q b c h =
      let make : ℕ → List (List Literal) = λ d. cond (may_meet voc s a d) (replace_clause num r s front back a d ∷ []) [] in
      elim (in_both (flat_map make (places_from 0 (n s))) (replace_from num n voc r (front ++ a ∷ []) ss back) c h) [
        | inl u ↦ (
            let w = flat_in make (places_from 0 (n s)) c u in
            let l : w.0 < n s = omega (arith, (in_place 0 (n s) w.0 w.1).1) in
            let over : (d : ℕ) → d < n s → IsOver n voc (Tuple r (front ++ d ∷ back)) = λ d k. (i, subst (λ z. AreBelow n z (front ++ d ∷ back)) (sym q) (below_append n pre (s ∷ ss) front (d ∷ back) f (k, b.1))) in
            subst AreFactAtoms (sym (cond_is (may_meet voc s a w.0) c (replace_clause num r s front back a w.0) w.2))
            (more_atoms (no (num (Equation s a w.0))) (no (num (Tuple r (front ++ a ∷ back))) ∷ yes (num (Tuple r (front ++ w.0 ∷ back))) ∷ []) (Equation s a w.0) (b.0, l) refl
            (more_atoms (no (num (Tuple r (front ++ a ∷ back)))) (yes (num (Tuple r (front ++ w.0 ∷ back))) ∷ []) (Tuple r (front ++ a ∷ back)) (over a b.0) refl
            (one_atom (yes (num (Tuple r (front ++ w.0 ∷ back)))) (Tuple r (front ++ w.0 ∷ back)) (over w.0 l) refl))))
        | inr u ↦ replace_atoms r i (pre ++ s ∷ []) (front ++ a ∷ []) (below_append n pre (s ∷ []) front (a ∷ []) f (b.0, tt)) ss back (q ∙ sym (append_assoc pre (s ∷ []) ss)) b.1 c u
      ]

  numeral_atoms : ((k : ℕ) → IsIn k voc.numerals → numeral_place voc k < n Pr) → (c : List Literal) → IsIn c (numeral_clauses num voc) → AreFactAtoms c
  numeral_atoms there c i =
      let pair : ℕ → ℕ → List (List Literal) = λ k m. cond (nat_lt k m) ((no (num (Equation Pr (numeral_place voc k) (numeral_place voc m))) ∷ []) ∷ []) [] in
      let x = flat_in (λ k. flat_map (pair k) voc.numerals) voc.numerals c i in
      let y = flat_in (pair x.0) voc.numerals c x.2 in
      subst AreFactAtoms (sym (cond_is (nat_lt x.0 y.0) c (no (num (Equation Pr (numeral_place voc x.0) (numeral_place voc y.0))) ∷ []) y.2))
      (one_atom (no (num (Equation Pr (numeral_place voc x.0) (numeral_place voc y.0)))) (Equation Pr (numeral_place voc x.0) (numeral_place voc y.0)) (there x.0 x.1, there y.0 y.1) refl)

  pub equality_atoms : ((k : ℕ) → IsIn k voc.numerals → numeral_place voc k < n Pr) → (c : List Literal) → IsIn c (equality_clauses num n voc) → AreFactAtoms c
  equality_atoms there c h =
      let ss : List Sort = Sw ∷ Ho ∷ Pr ∷ [] in
      let one : Sort → List (List Literal) = λ s. same_clauses num n s ++ chain_clauses num n voc s in
      let replaces : Pred → List (List Literal) = λ r. replace_clauses num n voc r in
      elim (in_both (flat_map one ss) (flat_map replaces voc.relations ++ numeral_clauses num voc) c h) [
        | inl u ↦ (
            let w = flat_in one ss c u in
            elim (in_both (same_clauses num n w.0) (chain_clauses num n voc w.0) c w.2) [ inl x ↦ same_atoms w.0 c x | inr x ↦ chain_atoms w.0 c x ])
        | inr u ↦ elim (in_both (flat_map replaces voc.relations) (numeral_clauses num voc) c u) [
          | inl x ↦ (
              let w = flat_in replaces voc.relations c x in
              let y = flat_in (λ xs. replace_from num n voc w.0 [] (voc.columns w.0) xs) (all_tuples n (voc.columns w.0)) c w.2 in
              replace_atoms w.0 w.1 [] [] tt (voc.columns w.0) y.0 refl (in_tuples n (voc.columns w.0) y.0 y.1) c y.2)
          | inr x ↦ numeral_atoms there c x
        ]
      ]
