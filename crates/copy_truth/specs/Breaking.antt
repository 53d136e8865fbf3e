-- The members of a `forall` that may be false.
use Rattle.std.specs.Prelude.{◌≡◌, ℕ, ◌<◌, true, false}
use Rattle.csdn_core.specs.declared.terms.Sort.{Sort}
use Rattle.csdn_core.specs.declared.terms.VarId.{VarId}
use Rattle.fol_forms.specs.Forms.{Form}
use Rattle.decision_laws.specs.Copies.{Scope}
use Rattle.ground_inst.specs.Walk.{ways_of}
use Rattle.copy_truth.specs.declared.candidates.Candidates.{Candidates}
use Rattle.copy_truth.specs.declared.reading.Reading.{Reading}
use Rattle.copy_truth.specs.Candidates.{has_place}
use Rattle.copy_truth.specs.Judged.{judged_bound}

-- where its variable stands for another constant, the copies of a body are true
abbrev pub AreCandidates : Reading → Form → VarId → Sort → Scope → Candidates → Type 0
AreCandidates r f v s env c =
    (place : ℕ) → place < (ways_of r.names).count s → has_place c place ≡ false → (base : Sort → ℕ) → judged_bound r f (record { var = v; sort = s; place = place }) env base ≡ true
