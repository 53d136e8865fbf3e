-- The output of `clauses`.
use Rattle.std.specs.Prelude.{◌≡◌, ℕ, Bool, List, Option, Err, if◌then◌else◌}
use Rattle.text_lines.specs.Machine.{reading}
use Rattle.log_text.specs.LogText.{log_format}
use Rattle.clause_listing.specs.Listings.{IsListing}
use Rattle.file_loads.specs.declared.read.FileKind.TheVariants.{Logs}
use Rattle.file_loads.specs.Lines.{refused_line_text}
use Rattle.file_loads.specs.Answers.{Answer}
use Rattle.file_loads.specs.Writes.{Write}
use Rattle.file_loads.specs.Outputs.{Then}
use Rattle.file_loads.specs.Loads.{WithBytes}

-- What is said of a log text, and the status: the listing of its blocks, and whether every log is accepted; or its first bad line.
pub data BlocksOutput (name bytes text : List ℕ) (status : ℕ) : Type 0 where
  is_listing : (good : Bool) → IsListing bytes text good → status ≡ (if good then 0 else 1) → BlocksOutput name bytes text status
  is_refused : (line : ℕ) → reading log_format bytes ≡ Err (record { number = line; reason = tt }) → text ≡ refused_line_text name line → status ≡ 3 → BlocksOutput name bytes text status

-- `clauses FILE`
abbrev pub ClausesOutput : List ℕ → List Answer → Option Write → List ℕ → ℕ → Type 0
ClausesOutput name = WithBytes Logs name (λ bytes. Then (BlocksOutput name bytes))
