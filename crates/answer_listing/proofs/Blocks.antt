-- One block more of a log.
use Rattle.std.proofs.Common.{◌≡◌, ◌∙◌, ap, sym, subst, refl, ℕ, ◌+◌, ◌<◌, ◌≤◌, true, ◌&&◌, List, [], ◌∷◌, ◌++◌, length, drop, get_or, Some, None, ◌⊎◌, inl, inr, arith, append_assoc, append-nil}
use Rattle.std.specs.Prelude.{slice_get}
use Rattle.std.proofs.lemmas.Bool.{and_from, and_parts}
use Rattle.std.proofs.lemmas.List.Folds.{list_all-append}
use Rattle.std.proofs.lemmas.Option.{same_Some, slice_get_cases}
use Rattle.csdn_core.specs.declared.program.Parts.{Parts}
use Rattle.csdn_conditions.specs.declared.sentence.Condition.{Condition}
use Rattle.csdn_conditions.specs.Conditions.{conditions, sentence}
use Rattle.csdn_conditions.specs.Answers.{OfCondition}
use Rattle.clause_log.specs.Literals.{ClauseList}
use Rattle.clause_log.specs.Refutations.{Step, steps_hold, ends_empty}
use Rattle.clause_search.specs.Outcomes.{IsRefutationOf}
use Rattle.condition_listing.proofs.Listed.{drop_is}
use Rattle.log_text.specs.declared.block.Block.{Block}
use Rattle.log_text.specs.LogText.{are_blocks, is_block, is_log, is_clause_list, is_bare_name}
use Rattle.vericon_decide.specs.declared.verdict.Proof.{Proof}
use Rattle.vericon_decide.specs.Levels.{AreProofsOf}
use Rattle.vericon_decide.specs.Verdicts.{IsProofOf}
use Rattle.answer_listing.specs.Words.{condition_text}
use Rattle.answer_listing.specs.Logs.{IsBlockOf, AreBlocksOf}

-- ---- a block within the limits of texts

-- a log that refutes something has a step
log_fits : (c : ClauseList) (log : List Step) → IsRefutationOf c log → is_log c.atoms (Some log) ≡ true
log_fits c [] refutes = absurd (let p = and_parts (steps_hold c.clauses []) (ends_empty []) refutes.accepted in cc)
log_fits c (s ∷ ss) refutes = refutes.within

pub fits : (name : List ℕ) (c : ClauseList) (log : List Step) → is_bare_name name ≡ true → is_clause_list c ≡ true → IsRefutationOf c log → is_block (record { name = name; clauses = c; log = Some log }) ≡ true
fits name c log bare clauses refutes =
    and_from (is_bare_name name) (is_clause_list c && is_log c.atoms (Some log)) bare (and_from (is_clause_list c) (is_log c.atoms (Some log)) clauses (log_fits c log refutes))

-- ---- the proofs that are left

module _ (P : Parts) (n i : ℕ) (below : i < length (conditions P n)) where
  abbrev cs : List Condition
  cs = conditions P n

  -- the condition of this number
  there_is : (c : Condition) × (slice_get cs i ≡ Some c)
  there_is = by (slice_get_cases cs i).1
    where
      by : ((c : Condition) × (i < length cs) × (slice_get cs i ≡ Some c) × (get_or cs i c ≡ c)) ⊎ ((length cs ≤ i) × (slice_get cs i ≡ None)) → (c : Condition) × (slice_get cs i ≡ Some c)
      by (inl (c, within, there, at)) = (c, there)
      by (inr (past, none)) = absurd (omega (arith, past, below))

  at_condition : (proofs : List Proof) → AreProofsOf P (drop i cs) proofs → AreProofsOf P (there_is.0 ∷ drop (i + 1) cs) proofs
  at_condition proofs are = subst (λ ds. AreProofsOf P ds proofs) (drop_is cs i there_is.0 there_is.1) are

  -- there is a proof for it
  pub some_proof : (proofs : List Proof) → AreProofsOf P (drop i cs) proofs → proofs ≡ [] → ⊥
  some_proof proofs are none = subst (λ ps. AreProofsOf P (there_is.0 ∷ drop (i + 1) cs) ps) none (at_condition proofs are)

  -- which is the one that comes next
  pub next_proof : (proofs more : List Proof) (proof : Proof) → AreProofsOf P (drop i cs) proofs → proofs ≡ proof ∷ more → OfCondition P n i (λ c. IsProofOf P (sentence c) proof)
  next_proof proofs more proof are is = record {
    condition = there_is.0;
    there = there_is.1;
    holds = (subst (λ ps. AreProofsOf P (there_is.0 ∷ drop (i + 1) cs) ps) is (at_condition proofs are)).0;
  }

  pub later_proofs : (proofs more : List Proof) (proof : Proof) → AreProofsOf P (drop i cs) proofs → proofs ≡ proof ∷ more → AreProofsOf P (drop (i + 1) cs) more
  later_proofs proofs more proof are is = (subst (λ ps. AreProofsOf P (there_is.0 ∷ drop (i + 1) cs) ps) is (at_condition proofs are)).1

-- ---- what was made, and then the blocks of the rest, are the blocks of all

abbrev pub GoesOn : Parts → List Condition → ℕ → List Block → Type 0
GoesOn P ds i blocks = (rest : List Block) → AreBlocksOf P i (drop i ds) rest → AreBlocksOf P 1 (drop 1 ds) (blocks ++ rest)

pub goes_on : (P : Parts) (n i : ℕ) (block : Block) (blocks new : List Block) → OfCondition P n i (λ c. IsBlockOf P i c block) → new ≡ blocks ++ block ∷ [] → GoesOn P (conditions P n) i blocks → GoesOn P (conditions P n) (i + 1) new
goes_on P n i block blocks new found is before = λ rest are.
    let front : AreBlocksOf P i (drop i (conditions P n)) (block ∷ rest) = subst (λ ds. AreBlocksOf P i ds (block ∷ rest)) (sym (drop_is (conditions P n) i found.condition found.there)) (found.holds, are) in
    subst (λ bs. AreBlocksOf P 1 (drop 1 (conditions P n)) bs) (sym (append_assoc blocks (block ∷ []) rest) ∙ sym (ap (λ bs. bs ++ rest) is)) (before (block ∷ rest) front)

pub ends : (P : Parts) (ds : List Condition) (i : ℕ) (blocks : List Block) → drop i ds ≡ [] → GoesOn P ds i blocks → AreBlocksOf P 1 (drop 1 ds) blocks
ends P ds i blocks none before = subst (λ bs. AreBlocksOf P 1 (drop 1 ds) bs) (append-nil blocks) (before [] (subst (λ es. AreBlocksOf P i es []) (sym none) tt))

pub one_more : (blocks new : List Block) (block : Block) → are_blocks blocks ≡ true → is_block block ≡ true → new ≡ blocks ++ block ∷ [] → are_blocks new ≡ true
one_more blocks new block all one is = ap are_blocks is ∙ list_all-append is_block blocks (block ∷ []) ∙ and_from (are_blocks blocks) (are_blocks (block ∷ [])) all (and_from (is_block block) true one refl)

pub nothing_left : {X : Type 0} (xs : List X) → length xs ≡ 0 → xs ≡ []
nothing_left [] h = refl
nothing_left (x ∷ xs) h = absurd (omega arith)

-- the block of a condition from its name and its proof
pub block_found : (P : Parts) (n i : ℕ) (name : List ℕ) (proof : Proof) (block : Block) → OfCondition P n i (λ c. name ≡ condition_text P i c.kind) → OfCondition P n i (λ c. IsProofOf P (sentence c) proof)
    → block ≡ record { name = name; clauses = proof.clauses; log = Some proof.log } → OfCondition P n i (λ c. IsBlockOf P i c block)
block_found P n i name proof block named proven is = record {
  condition = proven.condition;
  there = proven.there;
  holds = subst (λ (b : Block). IsBlockOf P i proven.condition b) (sym is) (record {
    name = named.holds ∙ ap (λ (c : Condition). condition_text P i c.kind) (same_Some named.condition proven.condition (sym named.there ∙ proven.there));
    log = proof.log;
    has_log = refl;
    proof_of = proven.holds;
  });
}
