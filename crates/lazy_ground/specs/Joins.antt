-- Of which sorts two constants are equal.
use Rattle.std.specs.Prelude.{◌≡◌, ℕ, ◌<◌, ◌==◌, Bool, false, true, not}
use Rattle.csdn_core.specs.declared.terms.Sort.{Sort}
use Rattle.csdn_core.specs.declared.terms.Sort.TheVariants.{Sw, Ho, Pr}
use Rattle.fol_forms.specs.Counts.{count_of}
use Rattle.decision_laws.specs.Copies.{Equation}
use Rattle.ground_inst.specs.Facts.{num_of}
use Rattle.ground_inst.specs.declared.facts.Facts.{Facts}
use Rattle.lazy_ground.specs.declared.joining.Joined.{Joined}

abbrev pub joined_in : Joined → Sort → Bool
joined_in j Sw = j.sw
joined_in j Ho = j.ho
joined_in j Pr = j.pr

-- of each other sort all equations of two different constants are false
abbrev pub AreJoined : Facts → (ℕ → Bool) → Joined → Type 0
AreJoined facts v j =
    (s : Sort) (a b : ℕ) → joined_in j s ≡ false → a < count_of facts.counts s → b < count_of facts.counts s → not (a == b) ≡ true → v (num_of facts (Equation s a b)) ≡ false
