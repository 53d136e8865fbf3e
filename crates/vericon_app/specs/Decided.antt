-- What `check` answers by the program alone.
use Rattle.std.specs.Prelude.{◌≡◌, ℕ, ◌<◌, List, length}
use Rattle.csdn_core.specs.declared.program.Parts.{Parts}
use Rattle.net_structs.specs.declared.case.Case.{Case}
use Rattle.vericon_decide.specs.declared.answer.UnknownWhy.{UnknownWhy}
use Rattle.vericon_decide.specs.declared.verdict.Proof.{Proof}
use Rattle.vericon_decide.specs.Levels.{IsUnmet}
use Rattle.vericon_decide.specs.Answers.{IsYes, IsCounter, IsUnknown}
use Rattle.file_loads.specs.declared.read.FileKind.TheVariants.{Program}
use Rattle.csdn_read.specs.Programs.{Spells}
use Rattle.file_loads.specs.Answers.{longest}

-- The status of a check of these bytes by the size and at the levels up to `most`, by what they are. The cases exclude one another.
pub data IsDecided (size most : ℕ) (bytes : List ℕ) (status : ℕ) : Type 0 where
  is_yes : (P : Parts) (level : ℕ) (proofs : List Proof) → Spells bytes P → IsYes P size most level proofs → status ≡ 0 → IsDecided size most bytes status
  is_counterexample : (P : Parts) (level index : ℕ) (case : Case) → Spells bytes P → IsCounter P size most level index case → status ≡ 1 → IsDecided size most bytes status
  is_unknown : (P : Parts) (level index : ℕ) (why : UnknownWhy) → Spells bytes P → IsUnknown P size most level index why → status ≡ 2 → IsDecided size most bytes status
  has_no_network : (P : Parts) (proof : Proof) → Spells bytes P → IsUnmet P size proof → status ≡ 4 → IsDecided size most bytes status
  spells_none : ((P : Parts) → Spells bytes P → ⊥) → status ≡ 3 → IsDecided size most bytes status
  is_too_long : longest Program < length bytes → status ≡ 3 → IsDecided size most bytes status
