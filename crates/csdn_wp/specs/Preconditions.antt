-- Weakest preconditions of commands.
use Rattle.csdn_core.specs.declared.terms.Pred.TheVariants.{Stored, Ft, Sent}
use Rattle.csdn_core.specs.declared.syntax.Formula.{Formula}
use Rattle.csdn_core.specs.declared.syntax.Command.{Command}
use Rattle.csdn_core.specs.declared.syntax.Command.TheVariants.{Skip, Insert, Remove, Install, Uninstall, Forward, Flood}
use Rattle.csdn_core.specs.Tree.{negation, conjunction, implication, universal, existential, sequence, conditional, choice}
use Rattle.fol_forms.specs.Replace.{add_row, drop_row, add_flood}

-- what is true exactly where every execution of the command ends where the formula is true
unfoldable pub wp : Command → Formula → Formula
wp Skip q = q
wp (sequence a b) q = wp a (wp b q)
wp (conditional p a b) q = conjunction (implication p (wp a q)) (implication (negation p) (wp b q))
wp (choice v s p a b) q = conjunction (universal v s (implication p (wp a q))) (implication (negation (existential v s p)) (wp b q))
wp (Insert r ts) q = add_row q (Stored r) ts
wp (Remove r ts) q = drop_row q (Stored r) ts
wp (Install ts) q = add_row q Ft ts
wp (Uninstall ts) q = drop_row q Ft ts
wp (Forward ts) q = add_row q Sent ts
wp (Flood ts) q = add_flood q ts
