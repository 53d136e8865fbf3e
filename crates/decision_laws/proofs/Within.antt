-- The atoms of tied clauses are those of facts and nodes.
use Rattle.std.proofs.Common.{◌≡◌, inl, inr, ℕ, zero, suc, ◌+◌, ◌-◌, ◌≤◌, Bool, ◌&&◌, true, false, List, [], ◌∷◌, ◌++◌, length, nat_lt, refl, ap, sym, subst, ◌∙◌, lt-ltb, arith}
use Rattle.std.specs.Prelude.{nat_le}
use Rattle.std.specs.List.{list_all}
use Rattle.std.proofs.lemmas.List.{get_or_past}
use Rattle.std.proofs.lemmas.List.Folds.{list_all-append}
use Rattle.std.proofs.lemmas.Bool.{and_from, cases_lt, false≢true, le-leb}
use Rattle.csdn_core.specs.declared.terms.Sort.{Sort}
use Rattle.csdn_core.specs.declared.terms.Sort.TheVariants.{Pr}
use Rattle.clause_log.specs.Literals.{Literal, is_within, negated}
use Rattle.decision_laws.proofs.Basics.{all_at, all_from}
use Rattle.decision_laws.proofs.Complete.{node_length, node_named}
use Rattle.decision_laws.specs.Clauses.{Naming, nodes, size}
use Rattle.decision_laws.specs.Copies.{Both, Copy, Each, Either, Equation, Fact, Known, Leaf, Tuple, numeral_place}
use Rattle.decision_laws.specs.Tied.{AreDifferences, IsForm, IsLiteralOf, IsTied, apart, chain, choice, member, name_of, replaced, same, turned, whole_false, whole_true}
use Rattle.decision_laws.specs.Vocabulary.{Vocabulary}

abbrev is_known : Copy → Bool
is_known (Known b) = true
is_known (Leaf sign f) = false
is_known (Both p q) = false
is_known (Either p q) = false
is_known (Each n c) = false

module _ (voc : Vocabulary) (n : Sort → ℕ) (whole : Copy) (m : Naming) (atoms : ℕ) (few : m.first + size whole ≤ suc atoms) where
  within_by : (x : ℕ) (p : Copy) → is_known p ≡ false → name_of m whole x ≡ p → (nat_lt 0 x && nat_le x atoms) ≡ true
  within_by zero p known is = absurd (false≢true (sym known ∙ ap is_known (sym is)))
  within_by (suc x) p known is =
      let bound : suc x ≤ atoms =
      elim (cases_lt (suc x) m.first) [
        | inl near ↦ omega (arith, near, few)
        | inr far ↦ elim (cases_lt (suc x - m.first) (length (nodes whole))) [
          | inl there ↦ omega (arith, there, far, node_length whole, few)
          | inr after ↦ absurd (false≢true (sym known ∙ ap is_known (sym is ∙ node_named m whole (suc x) (omega arith) far ∙ get_or_past (nodes whole) (suc x - m.first) (Known true) after)))
        ]
      ] in
      and_from (nat_lt 0 (suc x)) (nat_le (suc x) atoms) (lt-ltb 0 (suc x) (omega arith)) (le-leb (suc x) atoms bound)

  literal_within : (p : Copy) (l : Literal) → IsLiteralOf n voc whole (name_of m whole) p l → is_within atoms l ≡ true
  literal_within (Known b) l o = elim o [ ]
  literal_within (Leaf sign f) l o = elim o.1.1 [ inl e ↦ within_by l.atom _ refl e | inr e ↦ within_by l.atom _ refl e ]
  literal_within (Both p q) l o = within_by l.atom _ refl o.1
  literal_within (Either p q) l o = within_by l.atom _ refl o.1
  literal_within (Each k c) l o = within_by l.atom _ refl o.1

  abbrev AreWithin : List Literal → Type 0
  AreWithin c = list_all (is_within atoms) c ≡ true

  more_within : (l : Literal) (c : List Literal) → is_within atoms l ≡ true → AreWithin c → AreWithin (l ∷ c)
  more_within l c h k = and_from (is_within atoms l) (list_all (is_within atoms) c) h k

  both_within : (c d : List Literal) → AreWithin c → AreWithin d → AreWithin (c ++ d)
  both_within c d h k = list_all-append (is_within atoms) c d ∙ and_from (list_all (is_within atoms) c) (list_all (is_within atoms) d) h k

  fact_within : (f : Fact) (l : Literal) → IsLiteralOf n voc whole (name_of m whole) (Leaf true f) l → is_within atoms l ≡ true
  fact_within f l o = literal_within (Leaf true f) l o

  differences_within : (ss : List Sort) (xs ys : List ℕ) (ls : List Literal) → AreDifferences n voc whole (name_of m whole) ss xs ys ls → AreWithin ls
  differences_within [] [] [] ls d = subst AreWithin (sym d) refl
  differences_within [] [] (y ∷ ys) ls d = elim d [ ]
  differences_within [] (x ∷ xs) ys ls d = elim d [ ]
  differences_within (s ∷ ss) [] ys ls d = elim d [ ]
  differences_within (s ∷ ss) (x ∷ xs) [] ls d = elim d [ ]
  differences_within (s ∷ ss) (x ∷ xs) (y ∷ ys) ls d = elim d [
    | inl e ↦ differences_within ss xs ys ls e.2
    | inr e ↦ subst AreWithin (sym e.3) (more_within (negated e.1) e.2 (fact_within (Equation s x y) e.1 e.4) (differences_within ss xs ys e.2 e.5))
  ]

  form_within : (c : List Literal) → IsForm n voc whole (name_of m whole) c → AreWithin c
  form_within c (whole_true l o) = more_within l [] (literal_within whole l o) refl
  form_within c (whole_false e) = refl
  form_within c (member p q x a i o k) = more_within (negated x) (a ∷ []) (literal_within p x o) (more_within a [] (literal_within q a k) refl)
  form_within c (choice p q x a b o k l) = more_within (negated x) (a ∷ b ∷ []) (literal_within (Either p q) x o) (more_within a (b ∷ []) (literal_within p a k) (more_within b [] (literal_within q b l) refl))
  form_within c (same s a x o) = more_within x [] (fact_within (Equation s a a) x o) refl
  form_within c (turned s a b x y o k) = more_within (negated x) (y ∷ []) (fact_within (Equation s a b) x o) (more_within y [] (fact_within (Equation s b a) y k) refl)
  form_within c (chain s a b d x y z o k l) =
      more_within (negated x) (negated y ∷ z ∷ []) (fact_within (Equation s a b) x o) (more_within (negated y) (z ∷ []) (fact_within (Equation s b d) y k) (more_within z [] (fact_within (Equation s a d) z l) refl))
  form_within c (apart k l x hk hl ne o) = more_within (negated x) [] (fact_within (Equation Pr (numeral_place voc k) (numeral_place voc l)) x o) refl
  form_within c (replaced r xs ys ls x y d o k) =
      both_within ls (negated x ∷ y ∷ []) (differences_within (voc.columns r) xs ys ls d) (more_within (negated x) (y ∷ []) (fact_within (Tuple r xs) x o) (more_within y [] (fact_within (Tuple r ys) y k) refl))

  pub tied_within : (c : List Literal) → IsTied n voc whole (name_of m whole) c → AreWithin c
  tied_within c t = all_from (is_within atoms) c (λ l i. all_at (is_within atoms) t.form l (t.only l i) (form_within t.form t.has_form))
