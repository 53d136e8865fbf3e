-- The clauses of whole copies that stand under no `forall`.
use Rattle.std.proofs.Common.{◌≡◌, ◌∙◌, ℕ, true, false, None, Some, [], ◌∷◌, ◌++◌, length, refl, ap, ap₂, append_assoc}
use mathlib.Core.Path.{fun_ext}
use Rattle.csdn_core.specs.declared.terms.Sort.{Sort}
use Rattle.csdn_core.specs.declared.program.Parts.{Parts}
use Rattle.clause_log.specs.Literals.{Literal}
use Rattle.fol_forms.specs.Constants.{names_of}
use Rattle.fol_forms.specs.Forms.{Form}
use Rattle.decision_laws.specs.Vocabulary.{vocabulary}
use Rattle.decision_laws.specs.Copies.{Both, Copy, Each, Either, Fact, Known, Leaf, copies, known}
use Rattle.decision_laws.specs.Clauses.{top}
use Rattle.ground_inst.specs.Copies.{copies_over}
use Rattle.ground_inst.specs.Facts.{vocabulary_of}
use Rattle.ground_inst.specs.declared.facts.Facts.{Facts}
use Rattle.ground_inst.specs.Walk.{State, Ways, copied_value, copies_at}
use Rattle.ground_inst.proofs.Wholes.{copies_of_facts, value_in, value_over}
use Rattle.lazy_ground.specs.First.{open_clauses, open_named, open_whole}
use Rattle.lazy_ground.specs.Opened.{AddsOpen}

by_true : (num : Fact → ℕ) (k : ℕ) (c : Copy) → value_in c ≡ Some true → open_whole num k c ≡ []
by_true num k (Known true) h = refl
by_true num k (Known false) h = cc
by_true num k (Leaf sign fact) h = cc
by_true num k (Both p q) h = cc
by_true num k (Either p q) h = cc
by_true num k (Each n c) h = cc

by_false : (num : Fact → ℕ) (k : ℕ) (c : Copy) → value_in c ≡ Some false → open_whole num k c ≡ [] ∷ []
by_false num k (Known true) h = cc
by_false num k (Known false) h = refl
by_false num k (Leaf sign fact) h = cc
by_false num k (Both p q) h = cc
by_false num k (Either p q) h = cc
by_false num k (Each n c) h = cc

by_nodes : (num : Fact → ℕ) (k : ℕ) (c : Copy) → value_in c ≡ None → open_whole num k c ≡ open_named num k c
by_nodes num k (Known b) h = cc
by_nodes num k (Leaf sign fact) h = refl
by_nodes num k (Both p q) h = refl
by_nodes num k (Either p q) h = refl
by_nodes num k (Each n c) h = refl

module _ (P : Parts) (n : Sort → ℕ) (num : Fact → ℕ) (k : ℕ) (f : Form) where
  pub open_true : copied_value n f ≡ Some true → open_whole num k (copies_over P n f) ≡ []
  open_true h = by_true num k (copies_over P n f) (value_over P n num k f ∙ h)

  pub open_false : copied_value n f ≡ Some false → open_whole num k (copies_over P n f) ≡ [] ∷ []
  open_false h = by_false num k (copies_over P n f) (value_over P n num k f ∙ h)

  pub open_nodes : copied_value n f ≡ None → open_whole num k (copies_over P n f) ≡ open_named num k (copies_over P n f)
  open_nodes h = by_nodes num k (copies_over P n f) (value_over P n num k f ∙ h)

-- what a walk over the whole formula adds
pub whole_opened : (P : Parts) (facts : Facts) (m : Ways) (f : Form) (old new : State) (l : Literal) → m.voc ≡ vocabulary_of P facts → old.env ≡ [] → ((t : Sort) → old.base t ≡ length (names_of P t)) → AddsOpen m f old new l → new.out ++ (l ∷ []) ∷ [] ≡ old.out ++ open_named m.num old.next (copies_over P m.count f)
whole_opened P facts m f old new l v e b h =
    let c : copies_at m f old ≡ copies_over P m.count f =
    ap (λ z. copies z m.count f old.env old.base) v ∙ ap₂ (λ x y. copies (vocabulary_of P facts) m.count f x y) e (fun_ext b) ∙ copies_of_facts P facts f m.count f [] (known (vocabulary P f)) in
    ap₂ (λ x y. x ++ (y ∷ []) ∷ []) h.clauses h.lit ∙ append_assoc old.out (open_clauses m.num old.next (copies_at m f old)) ((top m.num old.next (copies_at m f old) ∷ []) ∷ []) ∙ ap (λ z. old.out ++ open_named m.num old.next z) c
