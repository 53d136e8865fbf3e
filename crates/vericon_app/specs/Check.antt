-- The output of `check`.
use Rattle.std.specs.Prelude.{◌≡◌, ℕ, List, Option, Some, None}
use Rattle.csdn_core.specs.declared.program.Parts.{Parts}
use Rattle.net_structs.specs.declared.case.Case.{Case}
use Rattle.vericon_decide.specs.declared.answer.UnknownWhy.{UnknownWhy}
use Rattle.vericon_decide.specs.declared.verdict.Proof.{Proof}
use Rattle.vericon_decide.specs.Levels.{IsUnmet}
use Rattle.vericon_decide.specs.Answers.{IsYes, IsCounter, IsUnknown}
use Rattle.answer_listing.specs.Words.{IsUnprovenLine, yes_text, no_network_text}
use Rattle.answer_listing.specs.Counterexamples.{IsCounterexampleText}
use Rattle.answer_listing.specs.Logs.{IsLogOf}
use Rattle.file_loads.specs.Status.{code_of}
use Rattle.file_loads.specs.Answers.{Answer}
use Rattle.file_loads.specs.Writes.{Write}
use Rattle.file_loads.specs.Outputs.{Then, Writing}
use Rattle.file_loads.specs.Loads.{WithProgram}
use Rattle.vericon_app.specs.declared.check.Finding.{Finding}
use Rattle.vericon_app.specs.declared.check.Finding.TheVariants.{Proven, Told}

-- `yes level N`, with status 0
abbrev pub IsYesLine : ℕ → List ℕ → ℕ → Type 0
IsYesLine level text status = (text ≡ yes_text level) × (status ≡ 0)

-- The output for a program that is proven at this level, with the name of the log that was asked for: the log is written before the yes is printed, and nothing is printed where it wasn't written.
pub data YesOutput (log : Option (List ℕ)) (P : Parts) (level : ℕ) (answers : List Answer) (write : Option Write) (text : List ℕ) (status : ℕ) : Type 0 where
  wants_no_log : log ≡ None → Then (IsYesLine level) answers write text status → YesOutput log P level answers write text status
  wants_log : (name bytes : List ℕ) → log ≡ Some name → IsLogOf P level bytes → Writing name bytes (IsYesLine level) answers write text status → YesOutput log P level answers write text status

-- The text and status for a program that is not proven, by the size. The cases exclude one another.
pub data IsNotProven (size most : ℕ) (P : Parts) (text : List ℕ) (status : ℕ) : Type 0 where
  is_broken : (level index : ℕ) (case : Case) → IsCounter P size most level index case → IsCounterexampleText P level index case text → status ≡ 1 → IsNotProven size most P text status
  is_not_decided : (level index : ℕ) (why : UnknownWhy) → IsUnknown P size most level index why → IsUnprovenLine P level index why text → status ≡ 2 → IsNotProven size most P text status
  has_no_network : (proof : Proof) → IsUnmet P size proof → text ≡ no_network_text → status ≡ 4 → IsNotProven size most P text status

-- what is found of a program: proofs of a yes; or what is said where it is not proven
abbrev pub IsFinding : ℕ → ℕ → Parts → Finding → Type 0
IsFinding size most P (Proven level proofs) = IsYes P size most level proofs.items
IsFinding size most P (Told outcome) = IsNotProven size most P outcome.text.items (code_of outcome.status)

-- The output for a program, by the size and at the levels up to `most`.
pub data ProgramOutput (size most : ℕ) (log : Option (List ℕ)) (P : Parts) (answers : List Answer) (write : Option Write) (text : List ℕ) (status : ℕ) : Type 0 where
  is_proven : (level : ℕ) (proofs : List Proof) → IsYes P size most level proofs → YesOutput log P level answers write text status → ProgramOutput size most log P answers write text status
  is_not_proven : Then (IsNotProven size most P) answers write text status → ProgramOutput size most log P answers write text status

-- `check PROGRAM`, with the size by which conditions are decided and the highest level that is tried; and with the name of a log, `check --log FILE PROGRAM`
abbrev pub CheckOutput : ℕ → ℕ → Option (List ℕ) → List ℕ → List Answer → Option Write → List ℕ → ℕ → Type 0
CheckOutput size most log name = WithProgram name (ProgramOutput size most log)
