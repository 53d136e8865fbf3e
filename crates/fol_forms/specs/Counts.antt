-- A number for each sort.
use Rattle.std.specs.Prelude.{ℕ}
use Rattle.csdn_core.specs.declared.terms.Sort.{Sort}
use Rattle.csdn_core.specs.declared.terms.Sort.TheVariants.{Sw, Ho, Pr}
use Rattle.fol_forms.specs.declared.instances.Counts.{Counts}

unfoldable pub count_of : Counts → Sort → ℕ
count_of c Sw = c.sw
count_of c Ho = c.ho
count_of c Pr = c.pr
