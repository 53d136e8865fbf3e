-- The nodes of formulas that have one.
use Rattle.std.proofs.Common.{◌≡◌, List, refl}
use Rattle.csdn_core.specs.declared.terms.Term.{Term}
use Rattle.csdn_core.specs.declared.terms.Pred.{Pred}
use Rattle.csdn_core.specs.declared.syntax.Formula.TheVariants as f
use Rattle.csdn_core.specs.Nodes.{nodes}

pub nodes-True : nodes f.True ≡ 1
unfolding nodes
nodes-True = refl

pub nodes-False : nodes f.False ≡ 1
unfolding nodes
nodes-False = refl

pub nodes-Atom : (r : Pred) (us : List Term) → nodes (f.Atom r us) ≡ 1
unfolding nodes
nodes-Atom r us = refl

pub nodes-Same : (t u : Term) → nodes (f.Same t u) ≡ 1
unfolding nodes
nodes-Same t u = refl

pub ruleset leaf_nodes = (nodes-True, nodes-False, nodes-Atom, nodes-Same)
