-- Conjunctions and disjunctions of lists of formulas.
use Rattle.std.specs.Prelude.{List, [], ◌∷◌}
use Rattle.csdn_core.specs.declared.syntax.Formula.{Formula}
use Rattle.csdn_core.specs.declared.syntax.Formula.TheVariants.{True, False}
use Rattle.csdn_core.specs.Tree.{conjunction, disjunction}
use Rattle.csdn_conditions.specs.declared.lists.Join.{Join}
use Rattle.csdn_conditions.specs.declared.lists.Join.TheVariants.{And, Or}

abbrev pub none_joined : Join → Formula
none_joined And = True
none_joined Or = False

abbrev pub two_joined : Join → Formula → Formula → Formula
two_joined And p q = conjunction p q
two_joined Or p q = disjunction p q

-- nested to the right
abbrev pub joined : Join → List Formula → Formula
joined join [] = none_joined join
joined join (p ∷ []) = p
joined join (p ∷ q ∷ ps) = two_joined join p (joined join (q ∷ ps))

abbrev pub conjunction_of : List Formula → Formula
conjunction_of ps = joined And ps

abbrev pub disjunction_of : List Formula → Formula
disjunction_of ps = joined Or ps
