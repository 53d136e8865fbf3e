-- What holds of two formulas whichever word joins them holds of `joined`, and so with `quantified`.
use Rattle.csdn_core.proofs.Shapes.{And-is, Or-is, Implies-is, Iff-is, Forall-is, Exists-is}
use Rattle.csdn_core.specs.declared.terms.Sort.{Sort}
use Rattle.csdn_core.specs.declared.terms.VarId.{VarId}
use Rattle.csdn_core.specs.declared.syntax.Formula.{Formula}
use Rattle.csdn_core.specs.Tree.{conjunction, disjunction, implication, equivalence, universal, existential}
use Rattle.csdn_tree.specs.declared.syntax.Connective.{Connective}
use Rattle.csdn_tree.specs.declared.syntax.Connective.TheVariants as k
use Rattle.csdn_tree.specs.declared.syntax.Quantifier.{Quantifier}
use Rattle.csdn_tree.specs.declared.syntax.Quantifier.TheVariants as q
use Rattle.csdn_types.specs.Typed.{joined, quantified}

pub joined_by : (Q : Formula → Type 0) (word : Connective) (p r : Formula) → Q (conjunction p r) → Q (disjunction p r) → Q (implication p r) → Q (equivalence p r) → Q (joined word p r)
joined_by Q k.And p r a o i e = rw And-is a
joined_by Q k.Or p r a o i e = rw Or-is o
joined_by Q k.Implies p r a o i e = rw Implies-is i
joined_by Q k.Iff p r a o i e = rw Iff-is e

pub quantified_by : (Q : Formula → Type 0) (which : Quantifier) (x : VarId) (s : Sort) (p : Formula) → Q (universal x s p) → Q (existential x s p) → Q (quantified which x s p)
quantified_by Q q.All x s p all some = rw Forall-is all
quantified_by Q q.Some x s p all some = rw Exists-is some
