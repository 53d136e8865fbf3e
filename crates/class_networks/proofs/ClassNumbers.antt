-- The numbers that are kept are those of the sentence's classes.
use Rattle.std.proofs.Common.{◌≡◌, ◌∙◌, ap, ap₂, sym, refl, subst, arith, map, ℕ, zero, suc, ◌+◌, ◌<◌, Bool, List, [], ◌∷◌, slice_index_or, slice_get, length, Some, true}
use Rattle.std.proofs.Math.Path.{fun_ext}
use Rattle.csdn_core.specs.Members.{IsIn}
use Rattle.csdn_core.proofs.Members.{contains_in, in_contains, in_left, in_map, map_in}
use Rattle.csdn_core.specs.Network.{Network, State, elements}
use Rattle.csdn_core.specs.declared.program.Parts.{Parts}
use Rattle.csdn_core.specs.declared.syntax.Formula.{Formula}
use Rattle.csdn_core.specs.declared.terms.Sort.{Sort}
use Rattle.csdn_core.specs.declared.terms.Sort.TheVariants.{Ho, Pr, Sw}
use Rattle.csdn_core.specs.declared.terms.Term.TheVariants.{Const}
use Rattle.clause_log.specs.Literals.{truths}
use Rattle.fol_forms.specs.Constants.{constants_from, counts, names_of, numerals_of}
use Rattle.fol_forms.specs.Forms.{form_of}
use Rattle.decision_laws.specs.Classes.{AreOfJudgement, class_number, constant_value, number}
use Rattle.decision_laws.specs.Copies.{Fact, index_of}
use Rattle.decision_laws.specs.Laws.{judged, words}
use Rattle.decision_laws.specs.Vocabulary.{has_term, places_from, sort_of_constant, sort_or}
use Rattle.decision_laws.proofs.Basics.{in_place, index_of-below, place_in}
use Rattle.decision_laws.proofs.Lists.{in_term}
use Rattle.decision_laws.proofs.Words.{constant_has}
use Rattle.ground_inst.specs.Facts.{AreFactsOf}
use Rattle.ground_inst.proofs.FactLaws.{facts_number}
use Rattle.class_networks.specs.declared.judgement.Judgement.{Judgement}
use Rattle.class_networks.specs.declared.numbers.Numbers.{Numbers}
use Rattle.class_networks.specs.Judgements.{constants_in, numbers_in, says, words_in}
use Rattle.class_networks.specs.Made.{value_in, values_in}
use Rattle.class_networks.specs.Numberings.{AreNumbers, number_at, numbers_for}

-- Lists by place.

get_mapped : (f : ℕ → ℕ) (i m k : ℕ) → k < m → slice_index_or (map f (places_from i m)) k 0 ≡ f (i + k)
get_mapped f i zero k l = absurd (omega (arith, l))
get_mapped f i (suc m) zero l = (let z : i ≡ i + 0 = omega arith in ap f z)
get_mapped f i (suc m) (suc k) l = (let z : suc i + k ≡ i + suc k = omega arith in get_mapped f (suc i) m k (omega (arith, l)) ∙ ap f z)

map_within : (f g : ℕ → ℕ) (i m : ℕ) → ((k : ℕ) → k < i + m → f k ≡ g k) → map f (places_from i m) ≡ map g (places_from i m)
map_within f g i zero h = refl
map_within f g i (suc m) h = ap₂ (λ x xs. x ∷ xs) (h i (omega arith)) (map_within f g (suc i) m (λ k l. h k (omega (arith, l))))

pub some_at : {X : Type 0} (xs : List X) (k : ℕ) → k < length xs → (x : X) × (slice_get xs k ≡ Some x)
some_at [] k l = absurd (omega (arith, l))
some_at (y ∷ ys) zero l = (y, refl)
some_at (y ∷ ys) (suc k) l = some_at ys k (omega (arith, l))

module _ (g : Judgement) (F : Formula) (are : AreFactsOf g.parts.now F g.facts.now) where
  abbrev P : Parts
  P = g.parts.now

  abbrev j : Fact → Bool
  j = judged P F (truths g.valuation.now)

  says_fact : (f : Fact) → says g f ≡ judged P F (truths g.valuation.now) f
  unfolding says
  says_fact f = ap (truths g.valuation.now) (facts_number P F g.facts.now are f)

  says_are : says g ≡ j
  says_are = fun_ext says_fact

  pub constants_are : constants_in g ≡ counts g.parts.now F
  unfolding constants_in
  constants_are = fun_ext are.constants

  -- the numbers of classes look at the names alone
  words_same : (n : Sort → ℕ) (k : Fact → Bool) (s : Sort) (a : ℕ) → class_number (words_in g) n k s a ≡ class_number (words P F) n k s a
  words_same n k Sw a = refl
  words_same n k Ho a = refl
  words_same n k Pr a = refl

  number_is : (s : Sort) (a : ℕ) → numbers_in g s a ≡ number P (form_of F) j s a
  number_is s a = ap₂ (λ n k. class_number (words_in g) n k s a) constants_are says_are ∙ words_same (counts P F) j s a

  all_numbers : (s : Sort) → map (numbers_in g s) (places_from 0 (constants_in g s)) ≡ map (number P (form_of F) j s) (places_from 0 (counts P F s))
  all_numbers s = ap₂ (λ f m. map f (places_from 0 m)) (fun_ext (number_is s)) (ap (λ n. n s) constants_are)

  module _ (numbers : Numbers) (kept : AreNumbers g numbers) where
    numbers_are : (s : Sort) → numbers_for numbers s ≡ map (number P (form_of F) j s) (places_from 0 (counts P F s))
    numbers_are Sw = kept.switches ∙ all_numbers Sw
    numbers_are Ho = kept.hosts ∙ all_numbers Ho
    numbers_are Pr = kept.ports ∙ all_numbers Pr

    pub number_at_is : (s : Sort) (a : ℕ) → a < counts g.parts.now F s → number_at numbers s a ≡ number g.parts.now (form_of F) (judged g.parts.now F (truths g.valuation.now)) s a
    number_at_is s a l =
        let z : 0 + a ≡ a = omega arith in
        ap (λ xs. slice_index_or xs a 0) (numbers_are s) ∙ get_mapped (number P (form_of F) j s) 0 (counts P F s) a l ∙ ap (number P (form_of F) j s) z

    -- the numbers of all constants of a sort are the elements of a network of the judgement
    module _ (N : Network) (x : State) (of : AreOfJudgement g.parts.now (form_of F) (judged g.parts.now F (truths g.valuation.now)) (number g.parts.now (form_of F) (judged g.parts.now F (truths g.valuation.now))) N x) where
      pub number_element : (s : Sort) (m : ℕ) → IsIn m (numbers_for numbers s) → IsIn m (elements N s)
      number_element s m i =
          let w = map_in (number P (form_of F) j s) (places_from 0 (counts P F s)) m (subst (IsIn m) (numbers_are s) i) in
          subst (λ y. IsIn y (elements N s)) (sym w.2) (contains_in (elements N s) (number P (form_of F) j s w.0) (of.home s w.0 (omega (arith, (in_place 0 (counts P F s) w.0 w.1).1))))

      pub element_number : (s : Sort) (m : ℕ) → IsIn m (elements N s) → IsIn m (numbers_for numbers s)
      element_number s m i =
          let w = of.covered s m (in_contains (elements N s) m i) in
          subst (IsIn m) (sym (numbers_are s))
          (subst (λ y. IsIn y (map (number P (form_of F) j s) (places_from 0 (counts P F s)))) (sym w.2)
          (in_map (number P (form_of F) j s) (places_from 0 (counts P F s)) w.0 (place_in 0 (counts P F s) w.0 (omega arith) (omega (arith, w.1)))))

    -- the place of a declared constant is one of its sort's constants
    place_below : (k : ℕ) → k < length P.constants → index_of (Const (record { 0 = k })) (names_of P (sort_of_constant P k)) < counts P F (sort_of_constant P k)
    place_below k l =
        let c = some_at P.constants k l in
        let s = sort_of_constant P k in
        let t = Const (record { 0 = k }) in
        let z : 0 + k ≡ k = omega arith in
        let here : IsIn t (constants_from s 0 P.constants) = subst (λ y. IsIn (Const (record { 0 = y })) (constants_from s 0 P.constants)) z (constant_has s 0 P.constants k c.0 c.1 (sym (ap sort_or c.1))) in
        let has : has_term t (names_of P s) ≡ true = in_term t (names_of P s) (in_left (constants_from s 0 P.constants) (numerals_of s P.numerals) t here) in
        omega (arith, index_of-below t (names_of P s) has)

    pub values_are : values_in g.parts.now numbers ≡ map (constant_value g.parts.now (form_of F) (judged g.parts.now F (truths g.valuation.now))) (places_from 0 (length g.parts.now.constants))
    values_are =
        map_within (value_in P numbers) (constant_value P (form_of F) j) 0 (length P.constants)
        (λ k l. number_at_is (sort_of_constant P k) (index_of (Const (record { 0 = k })) (names_of P (sort_of_constant P k))) (place_below k (omega (arith, l))))
