-- The kept facts are those of the sentence.
use Rattle.std.proofs.Common.{Bool, List, [], ap, ap₂, arith, cond, false, inl, inr, map, max, min, refl, suc, sym, true, ℕ, ◌*◌, ◌+◌, ◌++◌, ◌∙◌, ◌∷◌, ◌≡◌, if◌then◌else◌}
use Rattle.std.proofs.Math.Nat.{zero-add, zero-mul}
use Rattle.std.proofs.Math.Path.{fun_ext}
use Rattle.std.specs.Prelude.{flat_map}
use Rattle.csdn_core.specs.Members.{IsIn}
use Rattle.csdn_core.specs.Network.{same_pred}
use Rattle.csdn_core.proofs.Same.{same_pred-is, same_pred-refl}
use Rattle.csdn_core.specs.declared.program.Parts.{Parts}
use Rattle.csdn_core.specs.declared.syntax.Formula.{Formula}
use Rattle.csdn_core.specs.declared.terms.Pred.{Pred}
use Rattle.csdn_core.specs.declared.terms.Sort.{Sort}
use Rattle.csdn_core.specs.declared.terms.Sort.TheVariants.{Ho, Pr, Sw}
use Rattle.fol_forms.specs.Constants.{counts}
use Rattle.fol_forms.specs.Counts.{count_of}
use Rattle.decision_laws.specs.Classes.{all_tuples}
use Rattle.decision_laws.specs.Clauses.{chain_clauses, equality_clauses, may_meet, numeral_clauses, replace_clause, replace_clauses, replace_from, same_clauses}
use Rattle.decision_laws.specs.Copies.{Equation, Fact, Tuple}
use Rattle.decision_laws.specs.Laws.{naming, words}
use Rattle.decision_laws.specs.Numbers.{Tuples, fact_count, fact_number, number_in, total, tuple_count, tuple_number}
use Rattle.decision_laws.specs.Vocabulary.{Vocabulary, places_from}
use Rattle.ground_inst.specs.Facts.{AreFactsOf, equation_count, equations_before, num_of, numbered, sorts_in, tuple_place, vocabulary_of}
use Rattle.ground_inst.specs.declared.facts.Facts.{Facts}
use Rattle.ground_inst.proofs.FactSteps.{all_facts, square_is}

module _ (n : Sort → ℕ) (voc : Vocabulary) where
  place_step : (b : Bool) (before here size more rest : ℕ) → rest ≡ (before + size) + more → cond b (before + here) rest ≡ before + cond b here (size + more)
  place_step true before here size more rest e = refl
  place_step false before here size more rest e = omega (arith, e)

  -- the place of a tuple, after the facts that are numbered before
  tuple_places : (rs : List Pred) (before none : ℕ) (r : Pred) (xs : List ℕ) → none ≡ before + total n voc (map (λ q. Tuples q) rs)
      → tuple_place n (numbered n voc.columns before rs) none r xs ≡ before + number_in n voc (map (λ q. Tuples q) rs) (Tuple r xs)
  tuple_places [] before none r xs e = e
  tuple_places (q ∷ rs) before none r xs e =
      place_step (same_pred q r) before (tuple_number n (voc.columns q) xs) (tuple_count n (voc.columns q)) (number_in n voc (map (λ p. Tuples p) rs) (Tuple r xs))
      (tuple_place n (numbered n voc.columns (before + tuple_count n (voc.columns q)) rs) none r xs)
      (tuple_places rs (before + tuple_count n (voc.columns q)) none r xs (omega (arith, e)))

  two_of : (x y m : ℕ) → (0 * m + y) * m + x ≡ y * m + x
  two_of x y m = ap (λ z. (z + y) * m + x) (zero-mul m) ∙ ap (λ z. z * m + x) (zero-add y)

  pub equation_number : (s : Sort) (a b : ℕ) → equations_before n s + (max a b * n s + min a b) ≡ fact_number n voc (Equation s a b)
  equation_number Sw a b = omega (arith, two_of (min a b) (max a b) (n Sw))
  equation_number Ho a b = omega (arith, two_of (min a b) (max a b) (n Ho), square_is (n Sw))
  equation_number Pr a b = omega (arith, two_of (min a b) (max a b) (n Pr), square_is (n Sw), square_is (n Ho))

  pub tuple_number_of : (r : Pred) (xs : List ℕ) → tuple_place n (numbered n voc.columns (equation_count n) voc.relations) (fact_count n voc) r xs ≡ fact_number n voc (Tuple r xs)
  tuple_number_of r xs =
      tuple_places voc.relations (equation_count n) (fact_count n voc) r xs (sym (all_facts n voc))
      ∙ omega (arith, square_is (n Sw), square_is (n Ho), square_is (n Pr))

  pub relations_numbered : (before : ℕ) (rs : List Pred) → map (λ u. u.relation) (numbered n voc.columns before rs) ≡ rs
  relations_numbered before [] = refl
  relations_numbered before (r ∷ rs) = ap (λ z. r ∷ z) (relations_numbered (before + tuple_count n (voc.columns r)) rs)

  sorts_step : (b : Bool) (q r : Pred) (rs : List Pred) (ss : List Sort) → same_pred q r ≡ b → IsIn r (q ∷ rs) → (IsIn r rs → ss ≡ voc.columns r) → cond b (voc.columns q) ss ≡ voc.columns r
  sorts_step true q r rs ss e i h = ap voc.columns (same_pred-is q r e)
  sorts_step false q r rs ss e i h =
      elim i [
        | inl same ↦ absurd (let t : same_pred q r ≡ true = ap (λ z. same_pred q z) same ∙ same_pred-refl q in let f : false ≡ true = sym e ∙ t in cc)
        | inr later ↦ h later
      ]

  pub sorts_numbered : (before : ℕ) (rs : List Pred) (r : Pred) → IsIn r rs → sorts_in (numbered n voc.columns before rs) r ≡ voc.columns r
  sorts_numbered before [] r i = elim i [ ]
  sorts_numbered before (q ∷ rs) r i =
      sorts_step (same_pred q r) q r rs (sorts_in (numbered n voc.columns (before + tuple_count n (voc.columns q)) rs) r) refl i (sorts_numbered (before + tuple_count n (voc.columns q)) rs r)

flat_same : {X Y : Type 0} (f g : X → List Y) (xs : List X) → ((x : X) → IsIn x xs → f x ≡ g x) → flat_map f xs ≡ flat_map g xs
flat_same f g [] h = refl
flat_same f g (x ∷ xs) h = ap₂ (λ a b. a ++ b) (h x (inl refl)) (flat_same f g xs (λ y i. h y (inr i)))

module _ (P : Parts) (F : Formula) (facts : Facts) (are : AreFactsOf P F facts) where
  pub constants_are : count_of facts.counts ≡ counts P F
  constants_are = fun_ext are.constants

  -- the number of a fact is that of its atom
  pub facts_number : (f : Fact) → num_of facts f ≡ (naming P F).num f
  unfolding num_of
  facts_number (Equation s a b) =
      ap (λ n. suc (equations_before n s + (max a b * n s + min a b))) constants_are ∙ ap suc (equation_number (counts P F) (words P F) s a b)
  facts_number (Tuple r xs) =
      ap (λ n. suc (tuple_place n facts.relations facts.count r xs)) constants_are
      ∙ ap₂ (λ us k. suc (tuple_place (counts P F) us k r xs)) are.relations are.count
      ∙ ap suc (tuple_number_of (counts P F) (words P F) r xs)

  pub relations_are : map (λ u. u.relation) facts.relations ≡ (words P F).relations
  relations_are = ap (map (λ u. u.relation)) are.relations ∙ relations_numbered (counts P F) (words P F) (equation_count (counts P F)) (words P F).relations

  pub sorts_are : (r : Pred) → IsIn r (words P F).relations → sorts_in facts.relations r ≡ (words P F).columns r
  sorts_are r i = ap (λ us. sorts_in us r) are.relations ∙ sorts_numbered (counts P F) (words P F) (equation_count (counts P F)) (words P F).relations r i

  module _ (num : Fact → ℕ) (n : Sort → ℕ) where
    replaced_same : (r : Pred) (front : List ℕ) (ss : List Sort) (xs : List ℕ) → replace_from num n (vocabulary_of P facts) r front ss xs ≡ replace_from num n (words P F) r front ss xs
    replaced_same r front [] xs = refl
    replaced_same r front (s ∷ ss) [] = refl
    replaced_same r front (s ∷ ss) (a ∷ back) =
        ap (λ z. flat_map (λ b. if may_meet (words P F) s a b then replace_clause num r s front back a b ∷ [] else []) (places_from 0 (n s)) ++ z) (replaced_same r (front ++ a ∷ []) ss back)

    replace_same : (r : Pred) → IsIn r (words P F).relations → replace_clauses num n (vocabulary_of P facts) r ≡ replace_clauses num n (words P F) r
    replace_same r i =
        flat_same (λ xs. replace_from num n (vocabulary_of P facts) r [] (sorts_in facts.relations r) xs) (λ xs. replace_from num n (words P F) r [] (sorts_in facts.relations r) xs) (all_tuples n (sorts_in facts.relations r))
        (λ xs j. replaced_same r [] (sorts_in facts.relations r) xs)
        ∙ ap (λ ss. flat_map (λ xs. replace_from num n (words P F) r [] ss xs) (all_tuples n ss)) (sorts_are r i)

    same_words : equality_clauses num n (vocabulary_of P facts) ≡ equality_clauses num n (words P F)
    same_words =
        ap (λ z. flat_map (λ s. same_clauses num n s ++ chain_clauses num n (words P F) s) (Sw ∷ Ho ∷ Pr ∷ []) ++ (z ++ numeral_clauses num (words P F)))
        (ap (flat_map (λ r. replace_clauses num n (vocabulary_of P facts) r)) relations_are
        ∙ flat_same (λ r. replace_clauses num n (vocabulary_of P facts) r) (λ r. replace_clauses num n (words P F) r) (words P F).relations replace_same)

  -- the clauses of equality between the constants of the kept facts are those of the sentence
  pub facts_equality : equality_clauses (num_of facts) (count_of facts.counts) (vocabulary_of P facts) ≡ equality_clauses (naming P F).num (counts P F) (words P F)
  facts_equality = ap₂ (λ num n. equality_clauses num n (vocabulary_of P facts)) (fun_ext facts_number) constants_are ∙ same_words (naming P F).num (counts P F)
