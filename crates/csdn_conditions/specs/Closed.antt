-- Sentences of a program.
use Rattle.csdn_core.specs.declared.program.Parts.{Parts}
use Rattle.csdn_core.specs.declared.syntax.Formula.{Formula}
use Rattle.csdn_core.specs.WellSorted.{signature}
use Rattle.csdn_core.specs.SortedIn.{no_scope, no_rcv_this, IsSortedIn}

-- well-sorted, without free variables and without `rcv_this`
abbrev pub IsClosed : Parts → Formula → Type 0
IsClosed P p = IsSortedIn (signature P) no_rcv_this no_scope p
