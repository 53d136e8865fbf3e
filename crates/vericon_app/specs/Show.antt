-- The output of `show`.
use Rattle.std.specs.Prelude.{◌≡◌, ℕ, List, Option}
use Rattle.csdn_tree.specs.declared.syntax.RawProgram.{RawProgram}
use Rattle.csdn_print.specs.Programs.{program_text}
use Rattle.file_loads.specs.Answers.{Answer}
use Rattle.file_loads.specs.Writes.{Write}
use Rattle.file_loads.specs.Outputs.{Then}
use Rattle.file_loads.specs.Loads.{WithTree}

-- the printed text of a program
abbrev pub PrintedOutput : RawProgram → List ℕ → ℕ → Type 0
PrintedOutput tree text status = (text ≡ program_text tree) × (status ≡ 0)

-- `show PROGRAM`
abbrev pub ShowOutput : List ℕ → List Answer → Option Write → List ℕ → ℕ → Type 0
ShowOutput name = WithTree name (λ tree. Then (PrintedOutput tree))
