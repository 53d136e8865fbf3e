-- Formulas that bind nothing.
use Rattle.std.specs.Prelude.{◌≡◌, List, refl}
use Rattle.csdn_core.specs.declared.terms.Pred.{Pred}
use Rattle.csdn_core.specs.declared.terms.Term.{Term}
use Rattle.csdn_core.specs.declared.syntax.Formula.TheVariants as f
use Rattle.csdn_core.specs.Depth.{depth}

pub depth-True : depth f.True ≡ 0
unfolding depth
depth-True = refl

pub depth-False : depth f.False ≡ 0
unfolding depth
depth-False = refl

pub depth-Atom : (r : Pred) (ts : List Term) → depth (f.Atom r ts) ≡ 0
unfolding depth
depth-Atom r ts = refl

pub depth-Same : (t u : Term) → depth (f.Same t u) ≡ 0
unfolding depth
depth-Same t u = refl

pub ruleset leaf_depths = (depth-True, depth-False, depth-Atom, depth-Same)
