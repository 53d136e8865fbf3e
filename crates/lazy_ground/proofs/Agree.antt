-- Judgements that agree on the facts over the constants, and what a completed valuation says of facts.
use Rattle.std.proofs.Common.{◌≡◌, ◌∙◌, ℕ, ◌<◌, ◌≤◌, Bool, true, false, ◌&&◌, ◌||◌, List, [], ◌∷◌, refl, sym, ap, ap₂, arith, cond, inl, inr}
use Rattle.general_facts.proofs.Lists.{list_all-same}
use Rattle.csdn_core.specs.Members.{IsIn}
use Rattle.csdn_core.proofs.Members.{contains_in}
use Rattle.csdn_core.specs.declared.program.Parts.{Parts}
use Rattle.csdn_core.specs.declared.syntax.Formula.{Formula}
use Rattle.csdn_core.specs.declared.terms.Sort.{Sort}
use Rattle.csdn_core.specs.declared.terms.Sort.TheVariants.{Pr}
use Rattle.csdn_core.specs.declared.terms.Term.TheVariants.{Port}
use Rattle.clause_log.specs.Literals.{IsModel, Literal}
use Rattle.fol_forms.specs.Constants.{counts}
use Rattle.fol_forms.specs.Forms.{form_of, signed}
use Rattle.decision_laws.specs.Vocabulary.{Vocabulary, places_from}
use Rattle.decision_laws.specs.Copies.{AreAlike, AreBelow, Copy, Known, Leaf, Both, Either, Each, Equation, Fact, Tuple, IsFair, judge, known, numeral_place}
use Rattle.decision_laws.specs.Clauses.{IsOver, mirror}
use Rattle.decision_laws.specs.Laws.{IsJudgement, IsSentence, clauses, judged, name, naming, sentence_copies, words}
use Rattle.decision_laws.specs.Simplified.{simplified}
use Rattle.decision_laws.proofs.Basics.{in_place, index_of-below}
use Rattle.decision_laws.proofs.Bridge.{model_judged, numbers_named}
use Rattle.decision_laws.proofs.Complete.{IsReady, ready}
use Rattle.decision_laws.proofs.Fitting.{is_closed}
use Rattle.decision_laws.proofs.Made.{AllOver, copies_over}
use Rattle.decision_laws.proofs.Simplify.{fits-simplified, inside-simplified, need-simplified}
use Rattle.lazy_ground.specs.Completed.{completed, is_named, said}

module _ (n : Sort → ℕ) (voc : Vocabulary) (i j : Fact → Bool) (same : (f : Fact) → IsOver n voc f → i f ≡ j f) where
  pub judge_same : (c : Copy) → AllOver n voc c → judge i c ≡ judge j c
  judge_same (Known b) o = refl
  judge_same (Leaf sign f) o = ap (signed sign) (same f o)
  judge_same (Both p q) o = ap₂ (λ x y. x && y) (judge_same p o.0) (judge_same q o.1)
  judge_same (Either p q) o = ap₂ (λ x y. x || y) (judge_same p o.0) (judge_same q o.1)
  judge_same (Each m c) o =
      list_all-same (λ k. judge i (c k)) (λ k. judge j (c k)) (places_from 0 m) (λ k h. judge_same (c k) (o k (omega (arith, (in_place 0 m k (contains_in (places_from 0 m) k h)).1))))

  alike_same : (ss : List Sort) (xs ys : List ℕ) → AreAlike n j ss xs ys → AreAlike n i ss xs ys
  alike_same [] [] [] h = tt
  alike_same [] [] (y ∷ ys) h = elim h [ ]
  alike_same [] (x ∷ xs) ys h = elim h [ ]
  alike_same (s ∷ ss) [] ys h = elim h [ ]
  alike_same (s ∷ ss) (x ∷ xs) [] h = elim h [ ]
  alike_same (s ∷ ss) (x ∷ xs) (y ∷ ys) h = (h.0, h.1, same (Equation s x y) (h.0, h.1) ∙ h.2, alike_same ss xs ys h.3)

  left_below : (ss : List Sort) (xs ys : List ℕ) → AreAlike n j ss xs ys → AreBelow n ss xs
  left_below [] [] [] h = tt
  left_below [] [] (y ∷ ys) h = elim h [ ]
  left_below [] (x ∷ xs) ys h = elim h [ ]
  left_below (s ∷ ss) [] ys h = elim h [ ]
  left_below (s ∷ ss) (x ∷ xs) [] h = elim h [ ]
  left_below (s ∷ ss) (x ∷ xs) (y ∷ ys) h = (h.0, left_below ss xs ys h.3)

  right_below : (ss : List Sort) (xs ys : List ℕ) → AreAlike n j ss xs ys → AreBelow n ss ys
  right_below [] [] [] h = tt
  right_below [] [] (y ∷ ys) h = elim h [ ]
  right_below [] (x ∷ xs) ys h = elim h [ ]
  right_below (s ∷ ss) [] ys h = elim h [ ]
  right_below (s ∷ ss) (x ∷ xs) [] h = elim h [ ]
  right_below (s ∷ ss) (x ∷ xs) (y ∷ ys) h = (h.1, right_below ss xs ys h.3)

  fair_same : ((k : ℕ) → IsIn k voc.numerals → numeral_place voc k < n Pr) → IsFair voc n i → IsFair voc n j
  fair_same there fair = record {
    same = λ s a l. sym (same (Equation s a a) (l, l)) ∙ fair.same s a l;
    turned = λ s a b l k e. sym (same (Equation s b a) (k, l)) ∙ fair.turned s a b l k (same (Equation s a b) (l, k) ∙ e);
    chained = λ s a b c l k o e f. sym (same (Equation s a c) (l, o)) ∙ fair.chained s a b c l k o (same (Equation s a b) (l, k) ∙ e) (same (Equation s b c) (k, o) ∙ f);
    replaced = λ rel xs ys u h e.
        sym (same (Tuple rel ys) (u, right_below (voc.columns rel) xs ys h))
        ∙ fair.replaced rel xs ys u (alike_same (voc.columns rel) xs ys h) (same (Tuple rel xs) (u, left_below (voc.columns rel) xs ys h) ∙ e);
    numerals = λ k m ik im ne. sym (same (Equation Pr (numeral_place voc k) (numeral_place voc m)) (there k ik, there m im)) ∙ fair.numerals k m ik im ne;
  }

module _ (P : Parts) (F : Formula) (is : IsSentence P F) where
  few_names : (s : Sort) → known (words P F) s ≤ counts P F s
  few_names s = omega arith

  pub sentence_ready : IsReady (counts P F) (words P F) (name P F) (naming P F).num
  sentence_ready = ready (words P F) (counts P F) (naming P F) (numbers_named P F) (sentence_copies P F) (is_closed P F is).vocabulary few_names

  pub sentence_over : AllOver (counts P F) (words P F) (sentence_copies P F)
  sentence_over =
      copies_over (words P F) (counts P F) few_names (simplified (form_of F)) [] (known (words P F)) tt (fits-simplified (words P F) (form_of F) [] (is_closed P F is).closed) (inside-simplified (form_of F) (is_closed P F is).inside)
      (λ s. omega (arith, need-simplified (form_of F) s))

  pub numerals_below : (k : ℕ) → IsIn k (words P F).numerals → numeral_place (words P F) k < counts P F Pr
  numerals_below k i =
      let l = index_of-below (Port k) ((words P F).names Pr) ((is_closed P F is).vocabulary.numbered k i) in
      omega (arith, l, few_names Pr)

  module _ (cs : List (List Literal)) (v : ℕ → Bool) where
    named_step : (x : ℕ) (b : Bool) (fact : Fact) → is_named cs x ≡ b → judged P F (λ y. is_named cs y && v y) fact ≡ (is_named cs x && v x) → judge (said P F cs v) (name P F x) ≡ said P F cs v fact → completed P F cs v x ≡ said P F cs v fact
    named_step x true fact e s j = ap (λ b. cond b (v x) (judge (said P F cs v) (name P F x))) e ∙ sym (ap (λ b. b && v x) e) ∙ sym s
    named_step x false fact e s j = ap (λ b. cond b (v x) (judge (said P F cs v) (name P F x))) e ∙ j

    -- a fact over the constants has the value that is said
    pub fact_completed : (fact : Fact) → IsOver (counts P F) (words P F) fact → completed P F cs v ((naming P F).num fact) ≡ said P F cs v fact
    fact_completed fact o =
        let names = sentence_ready.facts fact o in
        named_step ((naming P F).num fact) (is_named cs ((naming P F).num fact)) fact refl refl
        (elim names.1 [
          | inl e ↦ ap (judge (said P F cs v)) e
          | inr e ↦ ap (judge (said P F cs v)) e ∙ mirrored fact
        ]) where
          mirrored : (f : Fact) → said P F cs v (mirror f) ≡ said P F cs v f
          mirrored (Tuple rel xs) = refl
          mirrored (Equation s a b) = ap (λ x. is_named cs x && v x) ((numbers_named P F).turned s b a)

    -- where the completed valuation makes each clause true, what is said of facts is a judgement
    pub said_judgement : IsModel (completed P F cs v) (clauses P F) → IsJudgement P F (said P F cs v)
    said_judgement model =
        let j = model_judged P F is (completed P F cs v) model in record {
          fair = fair_same (counts P F) (words P F) (judged P F (completed P F cs v)) (said P F cs v) fact_completed numerals_below j.fair;
          agrees = sym (judge_same (counts P F) (words P F) (judged P F (completed P F cs v)) (said P F cs v) fact_completed (sentence_copies P F) sentence_over) ∙ j.agrees;
        }
