-- Words in which the worked examples write terms, formulas, commands and parts.
use Rattle.std.proofs.Common.{ℕ, false, List, [], Option}
use Rattle.csdn_core.specs.declared.terms.VarId.{VarId}
use Rattle.csdn_core.specs.declared.terms.RelId.{RelId}
use Rattle.csdn_core.specs.declared.terms.Sort.{Sort}
use Rattle.csdn_core.specs.declared.terms.Term.{Term}
use Rattle.csdn_core.specs.declared.terms.Term.TheVariants.{Var, Port}
use Rattle.csdn_core.specs.declared.terms.Pred.TheVariants.{Stored}
use Rattle.csdn_core.specs.declared.program.Relation.{Relation}
use Rattle.csdn_core.specs.declared.program.Invariant.{Invariant}
use Rattle.csdn_core.specs.declared.program.Handler.{Handler}
use Rattle.csdn_core.specs.declared.syntax.Formula.{Formula}
use Rattle.csdn_core.specs.declared.syntax.Formula.TheVariants.{Atom}
use Rattle.csdn_core.specs.declared.syntax.Command.{Command}

abbrev pub var : ℕ → VarId
var k = record { 0 = k }

abbrev pub rel : ℕ → RelId
rel k = record { 0 = k }

-- the variable of this number, as a term
abbrev pub x : ℕ → Term
x k = Var (var k)

-- `prt(k)`
abbrev pub prt : ℕ → Term
prt k = Port k

-- the declared relation of this number holds of the terms
abbrev pub holds : ℕ → List Term → Formula
holds k ts = Atom (Stored (rel k)) ts

-- a `rel` of these sorts; no example looks at names
abbrev pub relation : List Sort → Relation
relation sorts = record { name = []; sorts = sorts; fixed = false }

abbrev pub invariant : Formula → Invariant
invariant p = record { name = []; formula = p }

-- a handler whose variables s, a, b and i have the numbers 0, 1, 2 and 3
abbrev pub handler : Option ℕ → Command → Handler
handler port body = record { port = port; s = var 0; a = var 1; b = var 2; i = var 3; body = body }
