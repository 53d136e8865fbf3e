-- The clauses of whole copies, from those of their nodes.
use Rattle.std.proofs.Common.{◌≡◌, ℕ, zero, suc, ◌+◌, Bool, true, false, Option, Some, None, List, [], ◌∷◌, ◌++◌, map, length, refl, ap, ap₂, ◌∙◌, append_assoc}
use mathlib.Core.Path.{fun_ext}
use Rattle.csdn_core.specs.declared.terms.Sort.{Sort}
use Rattle.csdn_core.specs.declared.terms.Sort.TheVariants.{Sw, Ho, Pr}
use Rattle.csdn_core.specs.declared.terms.Term.{Term}
use Rattle.csdn_core.specs.declared.terms.Term.TheVariants.{Var, Const, Port}
use Rattle.csdn_core.specs.declared.terms.Pred.{Pred}
use Rattle.csdn_core.specs.declared.program.Parts.{Parts}
use Rattle.clause_log.specs.Literals.{Literal}
use Rattle.fol_forms.specs.Forms.{Form, Fixed, Atom, Same, And, Or, ForAll, ForSome}
use Rattle.fol_forms.specs.Constants.{names_of, need, one_if}
use Rattle.fol_forms.specs.Counts.{count_of}
use Rattle.decision_laws.specs.Vocabulary.{Vocabulary, vocabulary, sort_of_constant}
use Rattle.decision_laws.specs.Copies.{Fact, Tuple, Equation, Copy, Known, Leaf, Both, Either, Each, each, Scope, copies, known, place, place_sort}
use Rattle.decision_laws.specs.Clauses.{node_clauses, top, whole_clauses}
use Rattle.ground_inst.specs.Copies.{copies_over}
use Rattle.ground_inst.specs.Facts.{vocabulary_of}
use Rattle.ground_inst.specs.declared.facts.Facts.{Facts}
use Rattle.ground_inst.specs.Walk.{Ways, State, AddsCopies, copied_value, copies_at, named_clauses, value_by}

-- Copies look at the names and the sorts of constants alone.

module _ (P : Parts) (rs us : List Pred) (cs ds : Pred → List Sort) where
  abbrev one : Vocabulary
  one = record { names = names_of P; constant_sort = sort_of_constant P; numerals = P.numerals; relations = rs; columns = cs }

  abbrev two : Vocabulary
  two = record { names = names_of P; constant_sort = sort_of_constant P; numerals = P.numerals; relations = us; columns = ds }

  same_place : (env : Scope) (t : Term) → place one env t ≡ place two env t
  same_place env (Var v) = refl
  same_place env (Const c) = refl
  same_place env (Port k) = refl

  same_sort_there : (env : Scope) (t : Term) → place_sort one env t ≡ place_sort two env t
  same_sort_there env (Var v) = refl
  same_sort_there env (Const c) = refl
  same_sort_there env (Port k) = refl

  same_copies : (n : Sort → ℕ) (f : Form) (env : Scope) (base : Sort → ℕ) → copies one n f env base ≡ copies two n f env base
  same_copies n (Fixed b) env base = refl
  same_copies n (Atom sign r ts) env base = ap (λ p. Leaf sign (Tuple r (map p ts))) (fun_ext (same_place env))
  same_copies n (Same sign t u) env base =
      ap₂ (λ s p. Leaf sign (Equation s (p t) (p u))) (same_sort_there env t) (fun_ext (same_place env))
  same_copies n (And p q) env base = ap₂ (λ x y. Both x y) (same_copies n p env base) (same_copies n q env (λ t. base t + need p t))
  same_copies n (Or p q) env base = ap₂ (λ x y. Either x y) (same_copies n p env base) (same_copies n q env base)
  same_copies n (ForAll v s p) env base = ap (each (n s)) (fun_ext (λ a. same_copies n p ((v.0, (s, a)) ∷ env) base))
  same_copies n (ForSome v s p) env base = same_copies n p ((v.0, (s, base s)) ∷ env) (λ t. base t + one_if s t)

pub copies_same : (P : Parts) (f g : Form) (n : Sort → ℕ) (h : Form) (env : Scope) (base : Sort → ℕ) → copies (vocabulary P f) n h env base ≡ copies (vocabulary P g) n h env base
copies_same P f g n h env base = same_copies P (vocabulary P f).relations (vocabulary P g).relations (vocabulary P f).columns (vocabulary P g).columns n h env base

pub copies_of_facts : (P : Parts) (facts : Facts) (f : Form) (n : Sort → ℕ) (h : Form) (env : Scope) (base : Sort → ℕ) → copies (vocabulary_of P facts) n h env base ≡ copies (vocabulary P f) n h env base
copies_of_facts P facts f n h env base = same_copies P (vocabulary_of P facts).relations (vocabulary P f).relations (vocabulary_of P facts).columns (vocabulary P f).columns n h env base

-- Whether copies are a truth value.

abbrev pub value_in : Copy → Option Bool
value_in (Known b) = Some b
value_in (Leaf sign fact) = None
value_in (Both p q) = None
value_in (Either p q) = None
value_in (Each n c) = None

value-each : (k : ℕ) (c : ℕ → Copy) (o : Option Bool) → value_in (c 0) ≡ o → value_in (each k c) ≡ value_by k o
value-each zero c o h = refl
value-each (suc zero) c o h = h
value-each (suc (suc k)) c o h = refl

value-copies : (voc : Vocabulary) (n : Sort → ℕ) (f : Form) (env : Scope) (base : Sort → ℕ) → value_in (copies voc n f env base) ≡ copied_value n f
value-copies voc n (Fixed b) env base = refl
value-copies voc n (Atom sign r ts) env base = refl
value-copies voc n (Same sign t u) env base = refl
value-copies voc n (And p q) env base = refl
value-copies voc n (Or p q) env base = refl
value-copies voc n (ForAll v s p) env base = value-each (n s) (λ a. copies voc n p ((v.0, (s, a)) ∷ env) base) (copied_value n p) (value-copies voc n p ((v.0, (s, 0)) ∷ env) base)
value-copies voc n (ForSome v s p) env base = value-copies voc n p ((v.0, (s, base s)) ∷ env) (λ t. base t + one_if s t)

whole-true : (num : Fact → ℕ) (k : ℕ) (c : Copy) → value_in c ≡ Some true → whole_clauses num k c ≡ []
whole-true num k (Known true) h = refl
whole-true num k (Known false) h = cc
whole-true num k (Leaf sign fact) h = cc
whole-true num k (Both p q) h = cc
whole-true num k (Either p q) h = cc
whole-true num k (Each n c) h = cc

whole-false : (num : Fact → ℕ) (k : ℕ) (c : Copy) → value_in c ≡ Some false → whole_clauses num k c ≡ [] ∷ []
whole-false num k (Known true) h = cc
whole-false num k (Known false) h = refl
whole-false num k (Leaf sign fact) h = cc
whole-false num k (Both p q) h = cc
whole-false num k (Either p q) h = cc
whole-false num k (Each n c) h = cc

whole-named : (num : Fact → ℕ) (k : ℕ) (c : Copy) → value_in c ≡ None → whole_clauses num k c ≡ named_clauses num k c
whole-named num k (Known b) h = cc
whole-named num k (Leaf sign fact) h = refl
whole-named num k (Both p q) h = refl
whole-named num k (Either p q) h = refl
whole-named num k (Each n c) h = refl

module _ (P : Parts) (n : Sort → ℕ) (num : Fact → ℕ) (k : ℕ) (f : Form) where
  pub value_over : value_in (copies_over P n f) ≡ copied_value n f
  value_over = value-copies (vocabulary P f) n f [] (known (vocabulary P f))

  pub whole_true : copied_value n f ≡ Some true → whole_clauses num k (copies_over P n f) ≡ []
  whole_true h = whole-true num k (copies_over P n f) (value_over ∙ h)

  pub whole_false : copied_value n f ≡ Some false → whole_clauses num k (copies_over P n f) ≡ [] ∷ []
  whole_false h = whole-false num k (copies_over P n f) (value_over ∙ h)

  pub whole_named : copied_value n f ≡ None → whole_clauses num k (copies_over P n f) ≡ named_clauses num k (copies_over P n f)
  whole_named h = whole-named num k (copies_over P n f) (value_over ∙ h)

-- what a walk over the whole formula adds
pub whole_added : (P : Parts) (facts : Facts) (m : Ways) (f : Form) (old new : State) (l : Literal) → m.voc ≡ vocabulary_of P facts → old.env ≡ [] → ((t : Sort) → old.base t ≡ length (names_of P t)) → AddsCopies m f old new l → new.out ++ (l ∷ []) ∷ [] ≡ old.out ++ named_clauses m.num old.next (copies_over P m.count f)
whole_added P facts m f old new l v e b h =
    let c : copies_at m f old ≡ copies_over P m.count f =
    ap (λ z. copies z m.count f old.env old.base) v ∙ ap₂ (λ x y. copies (vocabulary_of P facts) m.count f x y) e (fun_ext b) ∙ copies_of_facts P facts f m.count f [] (known (vocabulary P f)) in
    ap₂ (λ x y. x ++ (y ∷ []) ∷ []) h.clauses h.lit ∙ append_assoc old.out (node_clauses m.num old.next (copies_at m f old)) ((top m.num old.next (copies_at m f old) ∷ []) ∷ []) ∙ ap (λ z. old.out ++ named_clauses m.num old.next z) c

pub known_counts : (P : Parts) (a b c : ℕ) → a ≡ length (names_of P Sw) → b ≡ length (names_of P Ho) → c ≡ length (names_of P Pr) → (t : Sort) → count_of (record { sw = a; ho = b; pr = c }) t ≡ length (names_of P t)
unfolding count_of
known_counts P a b c d e f Sw = d
known_counts P a b c d e f Ho = e
known_counts P a b c d e f Pr = f
