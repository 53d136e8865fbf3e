-- What is said of a yes.
use Rattle.std.proofs.Common.{◌≡◌, ℕ, List, [], Some, refl}
use Rattle.csdn_core.specs.declared.program.Parts.{Parts}
use Rattle.answer_listing.specs.Logs.{IsLogOf}
use Rattle.file_loads.specs.declared.outcome.Outcome.{Outcome}
use Rattle.file_loads.specs.Status.{code_of}
use Rattle.file_loads.specs.Lines.{IsSaid}
use Rattle.file_loads.specs.Views.{Change}
use Rattle.file_loads.specs.Explained.{IsExplained}
use Rattle.file_loads.specs.Outputs.{Writing}
use Rattle.file_loads.proofs.Explaining.{said_so}
use Rattle.file_loads.proofs.Writings.{writing_so}
use Rattle.vericon_app.specs.Check.{IsYesLine, YesOutput, wants_log}

-- a yes behind the write of a log
pub logged_first : (change : Change) (P : Parts) (level : ℕ) (name log found : List ℕ) (outcome : Outcome) (text : List ℕ) (status : ℕ) → IsLogOf P level log → found ≡ log → IsYesLine level outcome.text.items (code_of outcome.status)
    → IsExplained change [] (Writing name found (IsSaid outcome)) text status → IsExplained change [] (YesOutput (Some name) P level) text status
logged_first change P level name log found outcome text status log_of is said_yes out =
    said_so change [] (Writing name log (IsYesLine level)) (YesOutput (Some name) P level) text status (λ answers write said. wants_log name log refl log_of said) (writing_so change name found log outcome (IsYesLine level) text status is said_yes out)
