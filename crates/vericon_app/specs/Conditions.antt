-- The output of `conditions`.
use Rattle.std.specs.Prelude.{◌≡◌, ℕ, List, Option}
use Rattle.csdn_core.specs.declared.program.Parts.{Parts}
use Rattle.csdn_conditions.specs.Conditions.{conditions}
use Rattle.condition_listing.specs.Listings.{IsListed}
use Rattle.file_loads.specs.Answers.{Answer}
use Rattle.file_loads.specs.Writes.{Write}
use Rattle.file_loads.specs.Outputs.{Then}
use Rattle.file_loads.specs.Loads.{WithProgram}

-- the classes of the conditions of this level, by the size
abbrev pub ClassesOutput : ℕ → ℕ → Parts → List ℕ → ℕ → Type 0
ClassesOutput size level P text status = IsListed P size 0 (conditions P level) text × (status ≡ 0)

-- `conditions PROGRAM`, by a size and at a level
abbrev pub ConditionsOutput : ℕ → ℕ → List ℕ → List Answer → Option Write → List ℕ → ℕ → Type 0
ConditionsOutput size level name = WithProgram name (λ P. Then (ClassesOutput size level P))
