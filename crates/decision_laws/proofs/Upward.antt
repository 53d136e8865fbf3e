-- A sentence that is true in a structure has a fair judgement that makes its copies true.
use Rattle.std.proofs.Common.{Bool, List, [], ap, ap₂, arith, cond, eq-eqb, eqb-true, get_or, lt-ltb, ltb-true, nat_eq, nat_lt, ne_eqb, refl, sym, true, ℕ, ◌∙◌, ◌∷◌, ◌≡◌}
use Rattle.csdn_core.specs.declared.terms.Sort.{Sort}
use Rattle.csdn_core.specs.declared.terms.Sort.TheVariants.{Pr}
use Rattle.csdn_core.specs.declared.terms.Term.{Term}
use Rattle.csdn_core.specs.declared.terms.Term.TheVariants.{Port}
use Rattle.csdn_core.specs.Truth.{Structure, value}
use Rattle.csdn_core.specs.Run.{no_values}
use Rattle.decision_laws.proofs.Agree.{Interprets, Models}
use Rattle.decision_laws.proofs.Basics.{IsClosed, IsStructure, IsVocabulary, get_or-index_of, has_term_at, index_of-below, inside_step}
use Rattle.decision_laws.proofs.Choice.{IsInside, choose, met_true}
use Rattle.decision_laws.proofs.Simplify.{fits-simplified, form_truth-simplified, inside-simplified, need-simplified}
use Rattle.decision_laws.specs.Classes.{Meaning, values_of}
use Rattle.decision_laws.specs.Copies.{AreAlike, Equation, Fact, IsFair, Tuple, constants, copies_of, index_of, judge, known, numeral_place}
use Rattle.decision_laws.specs.Vocabulary.{Vocabulary, has_term}
use Rattle.fol_forms.specs.Forms.{Form, form_truth, form_of}
use Rattle.decision_laws.specs.Simplified.{simplified}
use Rattle.csdn_core.specs.declared.program.Parts.{Parts}
use Rattle.csdn_core.specs.declared.syntax.Formula.{Formula}
use Rattle.csdn_core.specs.Satisfied.{IsTrueIn}
use Rattle.decision_laws.specs.Laws.{AgreesOnNames, IsJudgement, IsSentence, words}
use Rattle.csdn_core.specs.Network.{IsNetwork, Network, State, structure}
use Rattle.decision_laws.proofs.Words.{is_structure, form_is_true}
use Rattle.decision_laws.proofs.Fitting.{is_closed}
use Rattle.csdn_core.specs.declared.event.Packet.TheVariants.{Nothing}

-- what the names denote, and some element for each further constant
abbrev pub start : Vocabulary → Structure → (Sort → ℕ) → Meaning
start voc m d s a = cond (nat_lt a (known voc s)) (value m no_values (get_or (voc.names s) a (Port 0))) (d s)

start-known : (voc : Vocabulary) (m : Structure) (d : Sort → ℕ) (s : Sort) (t : Term) → has_term t (voc.names s) ≡ true → value m no_values t ≡ start voc m d s (index_of t (voc.names s))
start-known voc m d s t h =
    let a = index_of t (voc.names s) in
    sym (ap (λ b. cond b (value m no_values (get_or (voc.names s) a (Port 0))) (d s)) (lt-ltb a (known voc s) (index_of-below t (voc.names s) h)) ∙ ap (value m no_values) (get_or-index_of t (Port 0) (voc.names s) h))

start_inside : (voc : Vocabulary) (m : Structure) → (o : IsStructure voc m) → IsInside m (start voc m (λ s. (o.filled s).0))
start_inside voc m o s a =
    inside_step m s (nat_lt a (known voc s)) (value m no_values (get_or (voc.names s) a (Port 0))) (o.filled s).0
    (λ e. o.named s (get_or (voc.names s) a (Port 0)) (has_term_at (voc.names s) a (Port 0) (ltb-true a (known voc s) e)))
    (o.filled s).1

-- what a structure judges, where the constants stand for these elements
abbrev pub judgement_of : Vocabulary → Structure → Meaning → Fact → Bool
judgement_of voc m ρ (Tuple r xs) = m.holds r (values_of ρ (voc.columns r) xs)
judgement_of voc m ρ (Equation s a b) = nat_eq (ρ s a) (ρ s b)

alike_values : (voc : Vocabulary) (n : Sort → ℕ) (m : Structure) (ρ : Meaning) (ss : List Sort) (xs ys : List ℕ) → AreAlike n (judgement_of voc m ρ) ss xs ys → values_of ρ ss xs ≡ values_of ρ ss ys
alike_values voc n m ρ [] [] [] h = refl
alike_values voc n m ρ [] [] (y ∷ ys) h = elim h [ ]
alike_values voc n m ρ [] (x ∷ xs) ys h = elim h [ ]
alike_values voc n m ρ (s ∷ ss) [] ys h = elim h [ ]
alike_values voc n m ρ (s ∷ ss) (x ∷ xs) [] h = elim h [ ]
alike_values voc n m ρ (s ∷ ss) (x ∷ xs) (y ∷ ys) h = ap₂ (λ z zs. z ∷ zs) (eqb-true (ρ s x) (ρ s y) h.2) (alike_values voc n m ρ ss xs ys h.3)

fair : (voc : Vocabulary) → IsVocabulary voc → (n : Sort → ℕ) (m : Structure) (ρ : Meaning) → Interprets voc m ρ → IsFair voc n (judgement_of voc m ρ)
fair voc is n m ρ o = record {
  same = λ s a l. eq-eqb (ρ s a) (ρ s a) refl;
  turned = λ s a b k l e. eq-eqb (ρ s b) (ρ s a) (sym (eqb-true (ρ s a) (ρ s b) e));
  chained = λ s a b c k l i e f. eq-eqb (ρ s a) (ρ s c) (eqb-true (ρ s a) (ρ s b) e ∙ eqb-true (ρ s b) (ρ s c) f);
  replaced = λ r xs ys i h e. ap (m.holds r) (sym (alike_values voc n m ρ (voc.columns r) xs ys h)) ∙ e;
  numerals = λ k l hk hl ne. ne_eqb (ρ Pr (numeral_place voc k)) (ρ Pr (numeral_place voc l)) (λ e. ne (o.named Pr (Port k) (is.numbered k hk) ∙ e ∙ sym (o.named Pr (Port l) (is.numbered l hl))));
}

-- it judges equations of names as the structure does
abbrev pub AgreesOn : Vocabulary → Structure → (Fact → Bool) → Type 0
AgreesOn voc m j =
    (s : Sort) (t u : Term) → has_term t (voc.names s) ≡ true → has_term u (voc.names s) ≡ true
    → j (Equation s (index_of t (voc.names s)) (index_of u (voc.names s))) ≡ nat_eq (value m no_values t) (value m no_values u)

pub judged : (voc : Vocabulary) (f : Form) → IsClosed voc f → (m : Structure) → IsStructure voc m → form_truth m f no_values ≡ true → (j : Fact → Bool) × IsFair voc (constants voc f) j × (judge j (copies_of voc f) ≡ true) × AgreesOn voc m j
judged voc f is m o h =
    let first = start voc m (λ s. (o.filled s).0) in
    let g = simplified f in
    let c = choose m g [] (known voc) first tt (start_inside voc m o) (form_truth-simplified voc m o f no_values ∙ h) in
    let ρ = c.0 in
    let n = constants voc f in
    let i : Interprets voc m ρ = record { named = λ s t k. start-known voc m (λ z. (o.filled z).0) s t k ∙ c.1 s (index_of t (voc.names s)) (index_of-below t (voc.names s) k) } in
    let models : Models voc n m ρ (judgement_of voc m ρ) = record { interprets = i; room = λ s. omega arith; equal = λ s a b k l. refl; tuples = λ r xs k l. refl } in (
      judgement_of voc m ρ,
      fair voc is.vocabulary n m ρ i,
      met_true voc n m ρ (judgement_of voc m ρ) models (λ s a l. c.2 s a) g [] (known voc) tt (fits-simplified voc f [] is.closed) (inside-simplified f is.inside) (λ s. omega (arith, need-simplified f s)) c.3,
      (λ s t u ht hu. ap₂ nat_eq (sym (i.named s t ht)) (sym (i.named s u hu))),
    )

-- a sentence that is true in a network and state has a judgement
pub law_up : (P : Parts) (F : Formula) → IsSentence P F → (N : Network) (x : State) → IsNetwork P N → IsTrueIn P F N x → (j : Fact → Bool) × IsJudgement P F j × AgreesOnNames P F N x j
law_up P F is N x net h =
    let w = judged (words P F) (form_of F) (is_closed P F is) (structure P N x Nothing) (is_structure P (form_of F) N x net) (form_is_true P F N x h) in
    (w.0, record { fair = w.1; agrees = w.2 }, w.3)
