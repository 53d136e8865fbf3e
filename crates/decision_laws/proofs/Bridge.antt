-- The clauses of a program's sentence.
use Rattle.std.proofs.Common.{Bool, true, List, [], arith, refl, ℕ, suc, ◌+◌, ◌<◌, max, ◌≤◌, ◌≡◌, ◌↔◌}
use Rattle.std.specs.List.{list_all}
use Rattle.std.proofs.lemmas.Bool.{and_from}
use Rattle.csdn_core.specs.declared.program.Parts.{Parts}
use Rattle.csdn_core.specs.declared.syntax.Formula.{Formula}
use Rattle.clause_log.specs.Literals.{IsModel, Literal, clause_true, has_distinct_atoms, is_clause, is_within}
use Rattle.clause_log.specs.Refutations.{Step, is_refutation}
use Rattle.clause_log.proofs.Sound.{refutation_sound}
use Rattle.decision_laws.proofs.Basics.{all_at, all_from}
use Rattle.decision_laws.proofs.Complete.{judged_model, sentence_tied}
use Rattle.decision_laws.proofs.Differing.{clauses_differ}
use Rattle.decision_laws.proofs.Facts.{numbers_name}
use Rattle.decision_laws.proofs.Made.{copies_simple}
use Rattle.decision_laws.proofs.Networks.{law_network}
use Rattle.decision_laws.proofs.Read.{AllTrue, fair_read, left_true, right_true, whole_read}
use Rattle.decision_laws.proofs.Tied.{tied_true}
use Rattle.decision_laws.proofs.Weights.{few_nodes, size-copies}
use Rattle.decision_laws.proofs.Within.{tied_within}
use Rattle.decision_laws.specs.Classes.{network_of, state_of}
use Rattle.decision_laws.specs.Clauses.{IsNaming, equality_clauses, size, whole_clauses}
use Rattle.decision_laws.specs.Copies.{Fact, judge, known}
use Rattle.csdn_core.specs.Satisfied.{HasNetwork}
use Rattle.decision_laws.specs.Laws.{AreTied, AreTiedBy, HasModel, IsJudgement, IsSentence, atoms, clauses, judged, name, naming, sentence_copies, words}
use Rattle.decision_laws.specs.Sublists.{ArePart}
use Rattle.fol_forms.specs.Forms.{form_of}
use Rattle.fol_forms.specs.Constants.{counts, instances}
use Rattle.decision_laws.specs.Simplified.{simplified}
use Rattle.decision_laws.proofs.Fitting.{is_closed}
use Rattle.decision_laws.proofs.Upward.{law_up}
use Rattle.decision_laws.specs.Weights.{weight}

pub numbers_named : (P : Parts) (F : Formula) → IsNaming (words P F) (counts P F) (naming P F)
numbers_named P F = numbers_name (counts P F) (words P F)

copies_weigh : (P : Parts) (F : Formula) → size (sentence_copies P F) ≡ weight (counts P F) (simplified (form_of F))
copies_weigh P F = size-copies (words P F) (counts P F) (simplified (form_of F)) [] (known (words P F))

pub few_copies : (P : Parts) (F : Formula) → size (sentence_copies P F) < max 1 (instances (counts P F) (form_of F))
few_copies P F = omega (arith, copies_weigh P F, few_nodes P F)

module _ (P : Parts) (F : Formula) (is : IsSentence P F) where
  pub model_judged : (v : ℕ → Bool) → IsModel v (clauses P F) → IsJudgement P F (judged P F v)
  model_judged v h =
      let voc = words P F in
      let n = counts P F in
      let num = (naming P F).num in
      let first = (naming P F).first in
      let whole = sentence_copies P F in
      let all : AllTrue v (clauses P F) = λ c i. all_at (clause_true v) (clauses P F) c i h in
      record {
        fair = fair_read num n voc v (numbers_named P F).turned (right_true v (whole_clauses num first whole) (equality_clauses num n voc) all);
        agrees = whole_read num v first whole (copies_simple voc n (λ s. omega arith) (form_of F) [] (known voc)) (left_true v (whole_clauses num first whole) (equality_clauses num n voc) all);
      }

  pub judgement_models : (j : Fact → Bool) → IsJudgement P F j → IsModel (λ x. judge j (name P F x)) (clauses P F)
  judgement_models j h =
      all_from (clause_true (λ x. judge j (name P F x))) (clauses P F)
      (judged_model (words P F) (form_of F) (naming P F) (is_closed P F is) (numbers_named P F) j h.fair h.agrees)

  pub clauses_tied : AreTiedBy P F (name P F) (clauses P F)
  clauses_tied = sentence_tied (words P F) (form_of F) (naming P F) (is_closed P F is) (numbers_named P F)

  pub clauses_bounded : list_all (is_clause (atoms P F)) (clauses P F) ≡ true
  clauses_bounded =
      let few : (naming P F).first + size (sentence_copies P F) ≤ suc (atoms P F) = omega (arith, copies_weigh P F) in
      all_from (is_clause (atoms P F)) (clauses P F) (λ c i.
      and_from (has_distinct_atoms c) (list_all (is_within (atoms P F)) c)
      (clauses_differ P F (naming P F) is (numbers_named P F) c i)
      (tied_within (words P F) (counts P F) (sentence_copies P F) (naming P F) (atoms P F) few c (clauses_tied c i)))

  network_models : HasNetwork P F → HasModel (clauses P F)
  network_models (N, x, net, h) =
      let w = law_up P F is N x net h in
      ((λ y. judge w.0 (name P F y)), judgement_models w.0 w.1)

  model_network : HasModel (clauses P F) → HasNetwork P F
  model_network (v, h) =
      let j = judged P F v in
      let w = law_network P F j is (model_judged v h) in
      (network_of P (form_of F) j, state_of P (form_of F) j, w.0, w.1)

  pub models_networks : HasModel (clauses P F) ↔ HasNetwork P F
  models_networks = (model_network, network_models)

  pub part_tied : (cs : List (List Literal)) → ArePart (clauses P F) cs → AreTiedBy P F (name P F) cs
  part_tied cs p c i = clauses_tied c (p.within c i)

  pub part_models : (cs : List (List Literal)) → ArePart (clauses P F) cs → HasNetwork P F → HasModel cs
  part_models cs p h =
      let w = network_models h in
      (w.0, all_from (clause_true w.0) cs (λ c i. all_at (clause_true w.0) (clauses P F) c (p.within c i) w.1))

  pub tied_models : (cs : List (List Literal)) → AreTied P F cs → HasNetwork P F → HasModel cs
  tied_models cs (names, tied) (N, x, net, h) =
      let w = law_up P F is N x net h in
      let v : ℕ → Bool = λ y. judge w.0 (names y) in
      (v, all_from (clause_true v) cs (λ c i. tied_true (words P F) (counts P F) w.0 w.1.fair (sentence_copies P F) w.1.agrees names v (λ y. refl) c (tied c i)))

  pub refuted_networks : (cs : List (List Literal)) (steps : List Step) → AreTied P F cs → is_refutation cs steps ≡ true → HasNetwork P F → ⊥
  refuted_networks cs steps tied refuted h = (let w = tied_models cs tied h in refutation_sound cs steps refuted w.0 w.1)
