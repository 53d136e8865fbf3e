-- The log of a yes.
use Rattle.std.specs.Prelude.{◌≡◌, ℕ, ◌+◌, List, [], ◌∷◌, drop, Some, Ok}
use Rattle.text_lines.specs.Machine.{reading}
use Rattle.csdn_core.specs.declared.program.Parts.{Parts}
use Rattle.csdn_conditions.specs.declared.sentence.Condition.{Condition}
use Rattle.csdn_conditions.specs.Conditions.{conditions, sentence}
use Rattle.clause_log.specs.Refutations.{Step}
use Rattle.log_text.specs.declared.block.Block.{Block}
use Rattle.log_text.specs.LogText.{log_format, log_text}
use Rattle.vericon_decide.specs.Verdicts.{IsProofOf}
use Rattle.answer_listing.specs.Words.{condition_text}

-- the block of a condition: named by its number and its kind, with clauses that are tied to its sentence, and a log that refutes them
pub record IsBlockOf (P : Parts) (i : ℕ) (c : Condition) (block : Block) : Type 0 where
  pub name : block.name ≡ condition_text P i c.kind
  pub log : List Step
  pub has_log : block.log ≡ Some log
  pub proof_of : IsProofOf P (sentence c) (record { clauses = block.clauses; log = log })

-- a block for each of these conditions, the first with the number i
abbrev pub AreBlocksOf : Parts → ℕ → List Condition → List Block → Type 0
AreBlocksOf P i [] [] = Unit {0}
AreBlocksOf P i [] (block ∷ blocks) = ⊥
AreBlocksOf P i (c ∷ cs) [] = ⊥
AreBlocksOf P i (c ∷ cs) (block ∷ blocks) = IsBlockOf P i c block × AreBlocksOf P (i + 1) cs blocks

-- the text of a block for each condition of level n but the network condition; reading it gives the blocks again
pub record IsLogOf (P : Parts) (n : ℕ) (text : List ℕ) : Type 0 where
  pub blocks : List Block
  pub blocks_of : AreBlocksOf P 1 (drop 1 (conditions P n)) blocks
  pub text_is : text ≡ log_text blocks
  pub again : reading log_format text ≡ Ok blocks
