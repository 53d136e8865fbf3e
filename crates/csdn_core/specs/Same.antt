-- Whether two sorts, two terms are the same.
use Rattle.std.specs.Prelude.{◌==◌, Bool, true, false}
use Rattle.csdn_core.specs.declared.terms.Sort.{Sort}
use Rattle.csdn_core.specs.declared.terms.Sort.TheVariants.{Sw, Ho, Pr}
use Rattle.csdn_core.specs.declared.terms.Term.{Term}
use Rattle.csdn_core.specs.declared.terms.Term.TheVariants.{Var, Const, Port}

abbrev pub same_sort : Sort → Sort → Bool
same_sort Sw Sw = true
same_sort Ho Ho = true
same_sort Pr Pr = true
same_sort _ _ = false

abbrev pub same_term : Term → Term → Bool
same_term (Var v) (Var w) = v.0 == w.0
same_term (Const c) (Const d) = c.0 == d.0
same_term (Port k) (Port m) = k == m
same_term _ _ = false
