-- The output of `eval`.
use Rattle.std.specs.Prelude.{◌≡◌, ℕ, ◌≤◌, Bool, List, ◌++◌, length, if◌then◌else◌, Option, Some, None}
use Rattle.csdn_core.specs.declared.program.Parts.{Parts}
use Rattle.net_structs.specs.declared.row.Row.{Row}
use Rattle.net_structs.specs.declared.case.Case.{Case}
use Rattle.net_structs.specs.Rows.{held}
use Rattle.net_listing.specs.Listings.{listing}
use Rattle.csdn_conditions.specs.Kinds.{kinds}
use Rattle.csdn_conditions.specs.Answers.{OfCondition}
use Rattle.condition_listing.specs.Judgements.{IsJudged}
use Rattle.file_loads.specs.Lines.{usage_text}
use Rattle.file_loads.specs.Answers.{Answer}
use Rattle.file_loads.specs.Writes.{Write}
use Rattle.file_loads.specs.Outputs.{Then}
use Rattle.file_loads.specs.Loads.{WithProgram, WithCase}

-- the truth of a program's invariants in a case
abbrev pub TruthOutput : Parts → Case → List ℕ → ℕ → Type 0
TruthOutput P kase text status = (text ≡ listing P kase) × (status ≡ 0)

-- Behind the truth of the invariants that of the condition's hypothesis and goal, or that it is too large, with status 2.
pub record IsTold (P : Parts) (level index : ℕ) (kase : Case) (rows : List Row) (text : List ℕ) (status : ℕ) : Type 0 where
  pub told : List ℕ
  pub is_small : Bool
  pub judged : OfCondition P level index (λ c. IsJudged P kase.network (held rows) index c told is_small)
  pub text_is : text ≡ listing P kase ++ told
  pub status_is : status ≡ (if is_small then 0 else 2)

-- What is told of the condition in the state of the case; or `usage` alone, where the case has no state or there is no such condition.
pub data ConditionOutput (P : Parts) (level index : ℕ) (kase : Case) (text : List ℕ) (status : ℕ) : Type 0 where
  has_both : (rows : List Row) → kase.state ≡ Some rows → IsTold P level index kase rows text status → ConditionOutput P level index kase text status
  has_no_state : kase.state ≡ None → text ≡ usage_text → status ≡ 6 → ConditionOutput P level index kase text status
  has_no_condition : length (kinds P level) ≤ index → text ≡ usage_text → status ≡ 6 → ConditionOutput P level index kase text status

-- what is said of a case: the truth of the invariants, and that of a condition, where its number is given
abbrev pub CaseOutput : ℕ → Option ℕ → Parts → Case → List ℕ → ℕ → Type 0
CaseOutput level None P kase text status = TruthOutput P kase text status
CaseOutput level (Some index) P kase text status = ConditionOutput P level index kase text status

-- `eval PROGRAM NET`; and with the number of a condition, `eval PROGRAM NET LEVEL INDEX`
abbrev pub EvalOutput : ℕ → Option ℕ → List ℕ → List ℕ → List Answer → Option Write → List ℕ → ℕ → Type 0
EvalOutput level index name net = WithProgram name (λ P. WithCase P net (λ kase. Then (CaseOutput level index P kase)))
