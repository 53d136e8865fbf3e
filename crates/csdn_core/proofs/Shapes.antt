-- What the code writes has the shapes of Tree.
use Rattle.std.proofs.Common.{◌≡◌, refl}
use Rattle.csdn_core.specs.declared.terms.VarId.{VarId}
use Rattle.csdn_core.specs.declared.terms.Sort.{Sort}
use Rattle.csdn_core.specs.declared.syntax.Formula.{Formula}
use Rattle.csdn_core.specs.declared.syntax.Formula.TheVariants as f
use Rattle.csdn_core.specs.declared.syntax.Command.{Command}
use Rattle.csdn_core.specs.declared.syntax.Command.TheVariants as c
use Rattle.csdn_core.specs.Tree.{negation, conjunction, disjunction, implication, equivalence, universal, existential, sequence, conditional, choice}

pub Not-is : (p : Formula) → f.Not p ≡ negation p
unfolding Rattle.csdn_core.specs.declared.syntax.Formula.TheBlock.hidden-the_row-Formula-0 denote.Hole.Carrier.hidden
Not-is p = refl

pub And-is : (p q : Formula) → f.And p q ≡ conjunction p q
unfolding Rattle.csdn_core.specs.declared.syntax.Formula.TheBlock.hidden-the_row-Formula-0 denote.Hole.Carrier.hidden
And-is p q = refl

pub Or-is : (p q : Formula) → f.Or p q ≡ disjunction p q
unfolding Rattle.csdn_core.specs.declared.syntax.Formula.TheBlock.hidden-the_row-Formula-0 denote.Hole.Carrier.hidden
Or-is p q = refl

pub Implies-is : (p q : Formula) → f.Implies p q ≡ implication p q
unfolding Rattle.csdn_core.specs.declared.syntax.Formula.TheBlock.hidden-the_row-Formula-0 denote.Hole.Carrier.hidden
Implies-is p q = refl

pub Iff-is : (p q : Formula) → f.Iff p q ≡ equivalence p q
unfolding Rattle.csdn_core.specs.declared.syntax.Formula.TheBlock.hidden-the_row-Formula-0 denote.Hole.Carrier.hidden
Iff-is p q = refl

pub Forall-is : (v : VarId) (s : Sort) (p : Formula) → f.Forall v s p ≡ universal v s p
unfolding Rattle.csdn_core.specs.declared.syntax.Formula.TheBlock.hidden-the_row-Formula-0 denote.Hole.Carrier.hidden
Forall-is v s p = refl

pub Exists-is : (v : VarId) (s : Sort) (p : Formula) → f.Exists v s p ≡ existential v s p
unfolding Rattle.csdn_core.specs.declared.syntax.Formula.TheBlock.hidden-the_row-Formula-0 denote.Hole.Carrier.hidden
Exists-is v s p = refl

pub Seq-is : (a b : Command) → c.Seq a b ≡ sequence a b
unfolding Rattle.csdn_core.specs.declared.syntax.Command.TheBlock.hidden-the_row-Command-0 denote.Hole.Carrier.hidden
Seq-is a b = refl

pub If-is : (p : Formula) (a b : Command) → c.If p a b ≡ conditional p a b
unfolding Rattle.csdn_core.specs.declared.syntax.Command.TheBlock.hidden-the_row-Command-0 denote.Hole.Carrier.hidden
If-is p a b = refl

pub Pick-is : (v : VarId) (s : Sort) (p : Formula) (a b : Command) → c.Pick v s p a b ≡ choice v s p a b
unfolding Rattle.csdn_core.specs.declared.syntax.Command.TheBlock.hidden-the_row-Command-0 denote.Hole.Carrier.hidden
Pick-is v s p a b = refl

pub ruleset shapes = (Not-is, And-is, Or-is, Implies-is, Iff-is, Forall-is, Exists-is, Seq-is, If-is, Pick-is)
