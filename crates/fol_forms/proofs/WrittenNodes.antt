-- The nodes of normal forms.
use Rattle.std.proofs.Common.{◌≡◌, ◌+◌, Bool, true, false, List, refl, if◌then◌else◌}
use Rattle.csdn_core.specs.declared.terms.VarId.{VarId}
use Rattle.csdn_core.specs.declared.terms.Sort.{Sort}
use Rattle.csdn_core.specs.declared.terms.Term.{Term}
use Rattle.csdn_core.specs.declared.terms.Pred.{Pred}
use Rattle.csdn_core.specs.declared.syntax.Formula.{Formula}
use Rattle.csdn_core.specs.declared.syntax.Formula.TheVariants as f
use Rattle.csdn_core.specs.Nodes.{nodes}
use Rattle.csdn_core.specs.Tree.{conjunction, disjunction, universal, existential}
use Rattle.fol_forms.specs.Limits.{capped}
use Rattle.fol_forms.specs.Written.{literal, truth_value}

pub truth_nodes : (b : Bool) → 1 ≡ capped (nodes (truth_value b))
unfolding nodes capped
truth_nodes true = refl
truth_nodes false = refl

pub atom_nodes : (sign : Bool) (r : Pred) (ts : List Term) → (if sign then 1 else 2) ≡ capped (nodes (literal sign (f.Atom r ts)))
unfolding nodes capped
atom_nodes true r ts = refl
atom_nodes false r ts = refl

pub equation_nodes : (sign : Bool) (t u : Term) → (if sign then 1 else 2) ≡ capped (nodes (literal sign (f.Same t u)))
unfolding nodes capped
equation_nodes true t u = refl
equation_nodes false t u = refl

pub both_nodes : (p q : Formula) → nodes (conjunction p q) ≡ nodes p + nodes q + 1
unfolding nodes
both_nodes p q = refl

pub either_nodes : (p q : Formula) → nodes (disjunction p q) ≡ nodes p + nodes q + 1
unfolding nodes
either_nodes p q = refl

pub forall_nodes : (v : VarId) (s : Sort) (p : Formula) → nodes (universal v s p) ≡ nodes p + 1
unfolding nodes
forall_nodes v s p = refl

pub exists_nodes : (v : VarId) (s : Sort) (p : Formula) → nodes (existential v s p) ≡ nodes p + 1
unfolding nodes
exists_nodes v s p = refl

pub ruleset written_nodes = (truth_nodes, atom_nodes, equation_nodes, both_nodes, either_nodes, forall_nodes, exists_nodes)
