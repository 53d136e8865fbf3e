-- Well-sorted sentences bind few variables at once.
use Rattle.std.proofs.Common.{◌≤◌, List, All}
use Rattle.std.proofs.lemmas.List.Elements.{All-weaker}
use Rattle.csdn_core.specs.declared.terms.FormulaPlace.{FormulaPlace}
use Rattle.csdn_core.specs.declared.program.Invariant.{Invariant}
use Rattle.csdn_core.specs.Sorted.{Signature}
use Rattle.csdn_core.specs.WellSorted.{IsSorted}
use Rattle.csdn_core.specs.Depth.{depth}

pub all_shallow : (S : Signature) (place : FormulaPlace) (vs : List Invariant) → All (λ v. IsSorted S place v.formula) vs → All (λ v. depth v.formula ≤ 24) vs
all_shallow S place vs = All-weaker (λ v. IsSorted S place v.formula) (λ v. depth v.formula ≤ 24) (λ v is. is.few) vs
