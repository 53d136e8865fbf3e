-- The members of a `forall` that may be false.
use Rattle.std.specs.Prelude.{◌≡◌, ℕ, ◌<◌, Bool, true, false, Option, Some, None}
use Rattle.csdn_core.specs.declared.terms.Sort.{Sort}
use Rattle.csdn_core.specs.declared.terms.VarId.{VarId}
use Rattle.fol_forms.specs.Forms.{Form}
use Rattle.decision_laws.specs.Copies.{Scope}
use Rattle.ground_inst.specs.Walk.{ways_of}
use Rattle.copy_truth.specs.Candidates.{has_place}
use Rattle.copy_truth.specs.Judged.{judged_bound}
use Rattle.copy_truth.specs.declared.candidates.Candidates.{Candidates}
use Rattle.copy_truth.specs.declared.reading.Reading.{Reading}

-- whether that of the constant at a place may be; each one, where no candidates are given
abbrev pub may_be_false : Option Candidates → ℕ → Bool
may_be_false None place = true
may_be_false (Some c) place = has_place c place

-- each other one is true
abbrev pub HasAllFalse : Reading → Form → VarId → Sort → Scope → Option Candidates → Type 0
HasAllFalse r f v s env cs =
    (place : ℕ) → place < (ways_of r.names).count s → may_be_false cs place ≡ false → (base : Sort → ℕ) → judged_bound r f (record { var = v; sort = s; place = place }) env base ≡ true
