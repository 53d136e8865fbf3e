-- The rows that are made of a sentence are its clauses.
use Rattle.std.proofs.Common.{◌≡◌, ℕ, suc, ◌+◌, ◌++◌, [], ap, ap₂, ◌∙◌, true, List}
use mathlib.Core.Path.{fun_ext}
use Rattle.std.specs.List.{list_all}
use Rattle.csdn_core.specs.declared.program.Parts.{Parts}
use Rattle.csdn_core.specs.declared.syntax.Formula.{Formula}
use Rattle.clause_log.specs.Literals.{Literal, is_clause}
use Rattle.fol_forms.specs.Forms.{Form, form_of}
use Rattle.fol_forms.specs.Constants.{counts}
use Rattle.fol_forms.specs.Counts.{count_of}
use Rattle.decision_laws.specs.Clauses.{equality_clauses, whole_clauses}
use Rattle.decision_laws.specs.Copies.{known}
use Rattle.decision_laws.specs.Laws.{IsSentence, atoms, clauses, naming, sentence_copies, words}
use Rattle.decision_laws.specs.Simplified.{simplified}
use Rattle.decision_laws.specs.Weights.{weight}
use Rattle.decision_laws.proofs.Bridge.{clauses_bounded}
use Rattle.ground_inst.specs.Copies.{copies_over}
use Rattle.ground_inst.specs.Facts.{AreFactsOf, num_of, vocabulary_of}
use Rattle.ground_inst.specs.declared.facts.Facts.{Facts}
use Rattle.ground_inst.proofs.FactLaws.{facts_equality, facts_number}
use Rattle.ground_inst.proofs.Wholes.{copies_same}

module _ (P : Parts) (F : Formula) (facts : Facts) (are : AreFactsOf P F facts) (simple : Form) (is_simple : simple ≡ simplified (form_of F)) where
  -- the copies of the simplified form are those of the sentence
  pub copies_are : copies_over P (count_of facts.counts) simple ≡ sentence_copies P F
  copies_are =
      ap₂ (λ n f. copies_over P n f) (fun_ext are.constants) is_simple
      ∙ copies_same P (simplified (form_of F)) (form_of F) (counts P F) (simplified (form_of F)) [] (known (words P F))

  whole_are : whole_clauses (num_of facts) (suc facts.count) (copies_over P (count_of facts.counts) simple) ≡ whole_clauses (naming P F).num (naming P F).first (sentence_copies P F)
  whole_are =
      ap₂ (λ num c. whole_clauses num (suc facts.count) c) (fun_ext (facts_number P F facts are)) copies_are
      ∙ ap (λ k. whole_clauses (naming P F).num (suc k) (sentence_copies P F)) are.count

  pub rows_are : (rows : List (List Literal)) → rows ≡ whole_clauses (num_of facts) (suc facts.count) (copies_over P (count_of facts.counts) simple) ++ equality_clauses (num_of facts) (count_of facts.counts) (vocabulary_of P facts) → rows ≡ clauses P F
  rows_are rows e = e ∙ ap₂ (λ x y. x ++ y) whole_are (facts_equality P F facts are)

  pub atoms_are : (k : ℕ) → k ≡ facts.count + weight (count_of facts.counts) simple → k ≡ atoms P F
  atoms_are k e = e ∙ ap₂ (λ a b. a + b) are.count (ap₂ (λ n f. weight n f) (fun_ext are.constants) is_simple)

  pub rows_pass : IsSentence P F → (rows : List (List Literal)) (k : ℕ) → rows ≡ clauses P F → k ≡ atoms P F → list_all (is_clause k) rows ≡ true
  rows_pass is rows k e q = ap₂ (λ a z. list_all (is_clause a) z) q e ∙ clauses_bounded P F is
