-- What connects networks and states with judgements, and judgements with clauses.
use Rattle.std.specs.Prelude.{◌≡◌, ℕ, suc, ◌+◌, ◌-◌, ◌==◌, Bool, List, IsTrue}
use Rattle.csdn_core.specs.declared.terms.Sort.{Sort}
use Rattle.csdn_core.specs.declared.terms.Term.{Term}
use Rattle.csdn_core.specs.declared.event.Packet.TheVariants.{Nothing}
use Rattle.csdn_core.specs.declared.program.Parts.{Parts}
use Rattle.csdn_core.specs.declared.syntax.Formula.{Formula}
use Rattle.csdn_core.specs.Truth.{value}
use Rattle.csdn_core.specs.Network.{Network, State, structure}
use Rattle.csdn_core.specs.Run.{no_values}
use Rattle.csdn_core.specs.SortedIn.{IsSortedIn, no_rcv_this, no_scope}
use Rattle.csdn_core.specs.WellSorted.{signature}
use Rattle.decision_laws.specs.Vocabulary.{Vocabulary, vocabulary, has_term}
use Rattle.decision_laws.specs.Copies.{Fact, Equation, Copy, index_of, copies_of, judge, IsFair}
use Rattle.decision_laws.specs.Clauses.{all_clauses, Naming}
use Rattle.clause_log.specs.Literals.{IsModel, Literal}
use Rattle.decision_laws.specs.Numbers.{fact_count, fact_number, numbered_fact}
use Rattle.decision_laws.specs.Weights.{weight}
use Rattle.decision_laws.specs.Tied.{IsTied, name_of}
use Rattle.fol_forms.specs.Forms.{form_of, in_fragment}
use Rattle.fol_forms.specs.Constants.{counts}
use Rattle.decision_laws.specs.Simplified.{simplified}
use Rattle.csdn_core.specs.Members.{IsIn}

module _ (P : Parts) (F : Formula) where
  abbrev pub words : Vocabulary
  words = vocabulary P (form_of F)

  abbrev pub sentence_copies : Copy
  sentence_copies = copies_of words (form_of F)

  -- a sentence of the program in the fragment: well-sorted, with no free variable and without `rcv_this`, and in its normal
  -- form no `exists` stands under a `forall`
  pub record IsSentence : Type 0 where
    pub closed : IsSortedIn (signature P) no_rcv_this no_scope F
    pub inside : IsTrue (in_fragment (form_of F))

  -- a fair judgement that makes its copies true
  pub record IsJudgement (j : Fact → Bool) : Type 0 where
    pub fair : IsFair words (counts P F) j
    pub agrees : IsTrue (judge j sentence_copies)

  -- it judges equations of declared constants and numerals as the network does
  abbrev pub AgreesOnNames : Network → State → (Fact → Bool) → Type 0
  AgreesOnNames N x j =
      (s : Sort) (t u : Term) → IsTrue (has_term t (words.names s)) → IsTrue (has_term u (words.names s))
      → j (Equation s (index_of t (words.names s)) (index_of u (words.names s))) ≡ (value (structure P N x Nothing) no_values t == value (structure P N x Nothing) no_values u)

  -- the numbers of atoms: from 1 on those of facts, and then those of the nodes of the copies
  abbrev pub naming : Naming
  naming = record { num = λ f. suc (fact_number (counts P F) words f); first = suc (fact_count (counts P F) words); fact_at = λ x. numbered_fact (counts P F) words (x - 1) }

  -- how many atoms there are
  abbrev pub atoms : ℕ
  atoms = fact_count (counts P F) words + weight (counts P F) (simplified (form_of F))

  -- what each atom names
  abbrev pub name : ℕ → Copy
  name = name_of naming sentence_copies

  -- what a valuation of the atoms says of facts
  abbrev pub judged : (ℕ → Bool) → Fact → Bool
  judged v f = v (naming.num f)

  -- all clauses of the sentence
  abbrev pub clauses : List (List Literal)
  clauses = all_clauses naming (counts P F) words sentence_copies

  -- each of the clauses is tied to the sentence by these names of the atoms
  abbrev pub AreTiedBy : (ℕ → Copy) → List (List Literal) → Type 0
  AreTiedBy names cs = (c : List Literal) → IsIn c cs → IsTied (counts P F) words sentence_copies names c

  -- clauses are tied to the sentence
  abbrev pub AreTied : List (List Literal) → Type 0
  AreTied cs = (names : ℕ → Copy) × AreTiedBy names cs

-- some valuation makes each of the clauses true
abbrev pub HasModel : List (List Literal) → Type 0
HasModel cs = (v : ℕ → Bool) × IsModel v cs
