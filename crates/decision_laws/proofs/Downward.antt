-- The classes of a judgement that makes the copies true make a structure in which the sentence is true.
use Rattle.std.proofs.Common.{Bool, [], ap, ap₂, arith, inl, inr, nat_eq, slice_index, subst, sym, true, ℕ, ◌+◌, ◌<◌, ◌∙◌, ◌≡◌, ◌≤◌}
use Rattle.csdn_core.specs.declared.terms.Sort.{Sort}
use Rattle.csdn_core.specs.declared.terms.Sort.TheVariants.{Pr}
use Rattle.csdn_core.specs.declared.terms.Term.TheVariants.{Const, Port}
use Rattle.csdn_core.specs.declared.event.Packet.TheVariants.{Nothing}
use Rattle.csdn_core.specs.declared.program.Parts.{Parts}
use Rattle.csdn_core.specs.declared.syntax.Formula.{Formula}
use Rattle.csdn_core.specs.Truth.{Structure, value}
use Rattle.csdn_core.specs.Network.{Network, State, elements, structure}
use Rattle.csdn_core.specs.Run.{no_values}
use Rattle.decision_laws.proofs.Agree.{Interprets, Models}
use Rattle.decision_laws.proofs.Basics.{IsClosed, IsStructure, index_of-below}
use Rattle.decision_laws.proofs.Simplify.{fits-simplified, form_truth-simplified, inside-simplified, need-simplified}
use Rattle.decision_laws.proofs.Walks.{IsCovered, IsHome, copies_true}
use Rattle.decision_laws.proofs.Words.{name_is}
use Rattle.decision_laws.specs.Classes.{AreOfJudgement, Meaning, sizes}
use Rattle.decision_laws.specs.Copies.{Fact, constants, copies_of, index_of, judge, known}
use Rattle.csdn_core.specs.Satisfied.{IsTrueIn}
use Rattle.decision_laws.specs.Laws.{AgreesOnNames, IsJudgement, IsSentence, words}
use Rattle.decision_laws.specs.Vocabulary.{Vocabulary, vocabulary}
use Rattle.fol_forms.specs.Forms.{Form, form_truth, form_of}
use Rattle.fol_forms.specs.Constants.{counts}
use Rattle.fol_forms.proofs.NormalTruth.{form_truth-form_of}
use Rattle.decision_laws.specs.Simplified.{simplified}
use Rattle.csdn_core.specs.Members.{IsIn}
use Rattle.csdn_core.proofs.Members.{contains_in, in_contains}
use Rattle.decision_laws.proofs.Fitting.{is_closed}

-- where each constant's element is one of its sort and names have theirs, no sort is empty
abbrev pub filled_by : (voc : Vocabulary) (n : Sort → ℕ) (m : Structure) (ρ : Meaning) (j : Fact → Bool) → ((s : Sort) → 0 < n s) → Models voc n m ρ j → IsHome n m ρ → IsStructure voc m
filled_by voc n m ρ j some models home = record {
  filled = λ s. (ρ s 0, home s 0 (some s));
  named = λ s t h. subst (λ x. IsIn x (m.elements s)) (sym (models.interprets.named s t h)) (home s (index_of t (voc.names s)) (omega (arith, index_of-below t (voc.names s) h, models.room s)));
}

pub classes_true : (voc : Vocabulary) (f : Form) → IsClosed voc f → (m : Structure) (ρ : Meaning) (j : Fact → Bool) → Models voc (constants voc f) m ρ j → IsCovered (constants voc f) m ρ → IsHome (constants voc f) m ρ → judge j (copies_of voc f) ≡ true → form_truth m f no_values ≡ true
classes_true voc f is m ρ j models cover home h =
    let n = constants voc f in
    let g = simplified f in
    let whole : IsStructure voc m = filled_by voc n m ρ j (λ s. omega arith) models home in
    sym (form_truth-simplified voc m whole f no_values) ∙ copies_true voc n m ρ j models cover home g [] (known voc) tt (fits-simplified voc f [] is.closed) (inside-simplified f is.inside) (λ s. omega (arith, need-simplified f s)) h

-- a network and state of a judgement give each name the element of its constant
pub interprets_of : (P : Parts) (f : Form) (j : Fact → Bool) (ρ : Meaning) (N : Network) (x : State) → AreOfJudgement P f j ρ N x → Interprets (vocabulary P f) (structure P N x Nothing) ρ
interprets_of P f j ρ N x o = record {
  named = λ s t h.
      elim (name_is P f s t h) [
        | inl a ↦ (
            let names = (vocabulary P f).names in
            let z : 0 + a.0 ≡ a.0 = omega arith in
            let here : slice_index N.constants a.0 ≡ ρ s (index_of (Const (record { 0 = a.0 })) (names s)) = o.values a.0 a.1 a.2 ∙ ap (λ y. ρ y (index_of (Const (record { 0 = a.0 })) (names y))) a.3 in
            subst (λ u. value (structure P N x Nothing) no_values u ≡ ρ s (index_of u (names s))) (sym a.4)
            (subst (λ y. slice_index N.constants y ≡ ρ s (index_of (Const (record { 0 = y })) (names s))) (sym z) here))
        | inr a ↦ (
            let names = (vocabulary P f).names in
            let here : a.1 ≡ ρ Pr (index_of (Port a.1) (names Pr)) = sym (o.numbering.ports a.1 a.2) in
            subst (λ u. value (structure P N x Nothing) no_values u ≡ ρ s (index_of u (names s))) (sym a.3)
            (subst (λ y. a.1 ≡ ρ y (index_of (Port a.1) (names y))) (sym a.0) here))
      ];
}

pub models_of : (P : Parts) (f : Form) (j : Fact → Bool) (ρ : Meaning) (N : Network) (x : State) → AreOfJudgement P f j ρ N x → Models (vocabulary P f) (sizes P f) (structure P N x Nothing) ρ j
models_of P f j ρ N x o = record {
  interprets = interprets_of P f j ρ N x o;
  room = λ s. omega arith;
  equal = o.numbering.classes;
  tuples = λ r xs i l. sym (o.tuples r xs i l);
}

-- the sentence is true in the network and state of its judgement, whatever numbers the classes have
pub law_down : (P : Parts) (F : Formula) (j : Fact → Bool) (ρ : Meaning) (N : Network) (x : State) → IsSentence P F → IsJudgement P F j → AreOfJudgement P (form_of F) j ρ N x → IsTrueIn P F N x
law_down P F j ρ N x is h o =
    let f = form_of F in
    sym (form_truth-form_of (structure P N x Nothing) F no_values)
    ∙ classes_true (words P F) f (is_closed P F is) (structure P N x Nothing) ρ j (models_of P f j ρ N x o)
    (λ s m i. o.covered s m (in_contains (elements N s) m i))
    (λ s a l. contains_in (elements N s) (ρ s a) (o.home s a l)) h.agrees

-- names are one element exactly where they are judged equal
pub law_names : (P : Parts) (F : Formula) (j : Fact → Bool) (ρ : Meaning) (N : Network) (x : State) → AreOfJudgement P (form_of F) j ρ N x → AgreesOnNames P F N x j
law_names P F j ρ N x o s t u ht hu =
    let names = (words P F).names s in
    let i = interprets_of P (form_of F) j ρ N x o in
    let few : known (words P F) s ≤ counts P F s = omega arith in
    o.numbering.classes s (index_of t names) (index_of u names) (omega (arith, few, index_of-below t names ht)) (omega (arith, few, index_of-below u names hu)) ∙ ap₂ nat_eq (sym (i.named s t ht)) (sym (i.named s u hu))
