-- The vocabulary of a program's sentence, and its networks as structures.
use Rattle.std.proofs.Common.{Bool, Contains, List, Some, [], ap, arith, cond, false, inl, inr, map, refl, slice_get, slice_index, subst, suc, sym, true, ℕ, ◌+◌, ◌∙◌, ◌∷◌, ◌≡◌, ◌⊎◌, Option, None, zero}
use Rattle.std.proofs.lemmas.Bool.{and_from, false≢true}
use Rattle.csdn_core.specs.declared.terms.Sort.{Sort}
use Rattle.csdn_core.specs.declared.terms.Sort.TheVariants.{Ho, Pr, Sw}
use Rattle.csdn_core.specs.declared.terms.Term.{Term}
use Rattle.csdn_core.specs.declared.terms.Term.TheVariants.{Const, Port, Var}
use Rattle.csdn_core.specs.declared.event.Packet.TheVariants.{Nothing}
use Rattle.csdn_core.specs.declared.program.Parts.{Parts}
use Rattle.csdn_core.specs.declared.program.Constant.{Constant}
use Rattle.csdn_core.specs.declared.syntax.Formula.{Formula}
use Rattle.csdn_core.specs.Truth.{value}
use Rattle.csdn_core.specs.Network.{IsNetwork, Network, State, elements, structure}
use Rattle.csdn_core.specs.Run.{no_values}
use Rattle.std.proofs.lemmas.List.Elements.{All-contains}
use Rattle.csdn_core.specs.Same.{same_sort}
use Rattle.csdn_core.proofs.Same.{same_sort-refl, same_sort-is}
use Rattle.decision_laws.proofs.Basics.{IsStructure, IsVocabulary}
use Rattle.decision_laws.proofs.Lists.{in_term, term_in, kept_first, kept_later}
use Rattle.csdn_core.specs.Satisfied.{IsTrueIn}
use Rattle.decision_laws.specs.Vocabulary.{has_term, sort_or, vocabulary}
use Rattle.decision_laws.proofs.Fits.{term_fits}
use Rattle.fol_forms.specs.Forms.{Form, form_truth, form_of}
use Rattle.fol_forms.specs.Constants.{constants_from, numerals_of}
use Rattle.fol_forms.proofs.NormalTruth.{form_truth-form_of}
use Rattle.csdn_core.specs.Members.{IsIn}
use Rattle.csdn_core.proofs.Members.{contains_in, in_both, in_contains, in_map, in_right, map_in}
use Rattle.std.specs.Prelude.{is_some}

-- a term is a constant among these, which are numbered from k on, and has the sort
abbrev pub IsAmong : Sort → ℕ → List Constant → Term → Type 0
IsAmong s k cs t = (i : ℕ) × (c : Constant) × (slice_get cs i ≡ Some c) × (c.sort ≡ s) × (t ≡ Const (record { 0 = k + i }))

among_later : (s : Sort) (k : ℕ) (c : Constant) (cs : List Constant) (t : Term) → IsAmong s (suc k) cs t → IsAmong s k (c ∷ cs) t
among_later s k c cs t h =
    let e : suc k + h.0 ≡ k + suc h.0 = omega arith in
    (suc h.0, h.1, h.2, h.3, h.4 ∙ ap (λ z. Const (record { 0 = z })) e)

among_step : (b : Bool) (s : Sort) (k : ℕ) (c : Constant) (cs : List Constant) (t : Term) → same_sort c.sort s ≡ b → IsIn t (cond b (Const (record { 0 = k }) ∷ constants_from s (suc k) cs) (constants_from s (suc k) cs)) → (IsIn t (constants_from s (suc k) cs) → IsAmong s (suc k) cs t) → IsAmong s k (c ∷ cs) t
among_step true s k c cs t q i f =
    elim i [
      | inl e ↦ (let z : k ≡ k + 0 = omega arith in (0, c, refl, same_sort-is c.sort s q, e ∙ ap (λ y. Const (record { 0 = y })) z))
      | inr r ↦ among_later s k c cs t (f r)
    ]
among_step false s k c cs t q i f = among_later s k c cs t (f i)

is_among : (s : Sort) (k : ℕ) (cs : List Constant) (t : Term) → IsIn t (constants_from s k cs) → IsAmong s k cs t
is_among s k [] t i = elim i [ ]
is_among s k (c ∷ cs) t i = among_step (same_sort c.sort s) s k c cs t refl i (is_among s (suc k) cs t)

-- a term is a numeral of the ports
is_numeral : (s : Sort) (ks : List ℕ) (t : Term) → IsIn t (numerals_of s ks) → (s ≡ Pr) × (k : ℕ) × IsIn k ks × (t ≡ Port k)
is_numeral Sw ks t i = elim i [ ]
is_numeral Ho ks t i = elim i [ ]
is_numeral Pr ks t i = (let w = map_in Port ks t i in (refl, w.0, w.1, w.2))

abbrev port_or : Term → ℕ
port_or (Var v) = 0
port_or (Const c) = 0
port_or (Port k) = k

abbrev is_port : Term → Bool
is_port (Var v) = false
is_port (Const c) = false
is_port (Port k) = true

abbrev constant_or : Constant → Option Constant → Constant
constant_or c None = c
constant_or c (Some d) = d

-- each declared constant is a name of its sort
pub constant_has : (s : Sort) (k : ℕ) (cs : List Constant) (i : ℕ) (c : Constant) → slice_get cs i ≡ Some c → c.sort ≡ s → IsIn (Const (record { 0 = k + i })) (constants_from s k cs)
constant_has s k [] i c e q = absurd (false≢true (ap is_some e))
constant_has s k (d ∷ ds) zero c e q =
    let z : k + 0 ≡ k = omega arith in
    kept_first (same_sort d.sort s) (Const (record { 0 = k + 0 })) (Const (record { 0 = k })) (constants_from s (suc k) ds)
    (ap (λ y. same_sort y s) (ap (λ o. (constant_or d o).sort) e ∙ q) ∙ same_sort-refl s) (ap (λ y. Const (record { 0 = y })) z)
constant_has s k (d ∷ ds) (suc i) c e q =
    let z : suc k + i ≡ k + suc i = omega arith in
    kept_later (same_sort d.sort s) (Const (record { 0 = k + suc i })) (Const (record { 0 = k })) (constants_from s (suc k) ds)
    (subst (λ y. IsIn (Const (record { 0 = y })) (constants_from s (suc k) ds)) z (constant_has s (suc k) ds i c e q))

module _ (P : Parts) (f : Form) where
  -- a name is a declared constant of its sort, or a numeral
  pub name_is : (s : Sort) (t : Term) → has_term t ((vocabulary P f).names s) ≡ true → IsAmong s 0 P.constants t ⊎ ((s ≡ Pr) × (k : ℕ) × IsIn k P.numerals × (t ≡ Port k))
  name_is s t h =
      elim (in_both (constants_from s 0 P.constants) (numerals_of s P.numerals) t (term_in t ((vocabulary P f).names s) h)) [
        | inl i ↦ inl (is_among s 0 P.constants t i)
        | inr i ↦ inr (is_numeral s P.numerals t i)
      ]

  constant_fits : (s : Sort) (t : Term) → has_term t ((vocabulary P f).names s) ≡ true → IsAmong s 0 P.constants t → term_fits (vocabulary P f) [] s t ≡ true
  constant_fits s t h a =
      let voc = vocabulary P f in
      let z : 0 + a.0 ≡ a.0 = omega arith in
      let sort : voc.constant_sort (0 + a.0) ≡ s = ap voc.constant_sort z ∙ ap sort_or a.2 ∙ a.3 in
      subst (λ u. term_fits voc [] s u ≡ true) (sym a.4)
      (and_from (same_sort (voc.constant_sort (0 + a.0)) s) (has_term (Const (record { 0 = 0 + a.0 })) (voc.names s))
      (ap (λ y. same_sort y s) sort ∙ same_sort-refl s)
      (subst (λ u. has_term u (voc.names s) ≡ true) a.4 h))

  pub is_vocabulary : IsVocabulary (vocabulary P f)
  is_vocabulary = record {
    sorted = λ s t h.
        elim (name_is s t h) [
          | inl a ↦ constant_fits s t h a
          | inr a ↦ subst (λ u. term_fits (vocabulary P f) [] s u ≡ true) (sym a.3)
              (and_from (same_sort Pr s) (has_term (Port a.1) ((vocabulary P f).names s)) (ap (same_sort Pr) a.0) (subst (λ u. has_term u ((vocabulary P f).names s) ≡ true) a.3 h))
        ];
    numbered = λ k i. in_term (Port k) ((vocabulary P f).names Pr) (in_right (constants_from Pr 0 P.constants) (map Port P.numerals) (Port k) (in_map Port P.numerals k i));
    ports = λ k h.
        elim (name_is Pr (Port k) h) [
          | inl a ↦ absurd (false≢true (sym (ap is_port a.4)))
          | inr a ↦ subst (λ z. IsIn z P.numerals) (sym (ap port_or a.3)) a.2
        ];
  }

  some_element : (xs : List ℕ) → (xs ≡ [] → ⊥) → (x : ℕ) × IsIn x xs
  some_element [] n = absurd (n refl)
  some_element (x ∷ xs) n = (x, inl refl)

  pub is_structure : (N : Network) (x : State) → IsNetwork P N → IsStructure (vocabulary P f) (structure P N x Nothing)
  is_structure N x is = record {
    filled = λ s. some_element (elements N s) (is.some s);
    named = λ s t h.
        elim (name_is s t h) [
          | inl a ↦ (
              let z : 0 + a.0 ≡ a.0 = omega arith in
              let here : IsIn (slice_index N.constants a.0) (elements N a.1.sort) = contains_in (elements N a.1.sort) (slice_index N.constants a.0) (is.sorted a.0 a.1 a.2) in
              subst (λ u. IsIn (value (structure P N x Nothing) no_values u) (elements N s)) (sym a.4)
              (subst (λ y. IsIn (slice_index N.constants y) (elements N s)) (sym z) (subst (λ y. IsIn (slice_index N.constants a.0) (elements N y)) a.3 here)))
          | inr a ↦ (
              let here : IsIn a.1 N.ports = contains_in N.ports a.1 (All-contains (Contains N.ports) P.numerals a.1 is.numerals (in_contains P.numerals a.1 a.2)) in
              subst (λ u. IsIn (value (structure P N x Nothing) no_values u) (elements N s)) (sym a.3) (subst (λ y. IsIn a.1 (elements N y)) (sym a.0) here))
        ];
  }

-- the normal form is true in the structure of a network and state exactly where the sentence is
pub form_is_true : (P : Parts) (F : Formula) (N : Network) (x : State) → IsTrueIn P F N x → form_truth (structure P N x Nothing) (form_of F) no_values ≡ true
form_is_true P F N x h = form_truth-form_of (structure P N x Nothing) F no_values ∙ h
