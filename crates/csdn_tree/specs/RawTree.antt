-- Names for the shapes of raw formulas and commands.
use Rattle.std.specs.Prelude.{◌≡◌, refl}
use Rattle.csdn_core.specs.declared.terms.Sort.{Sort}
use Rattle.csdn_tree.specs.declared.names.RawName.{RawName}
use Rattle.csdn_tree.specs.declared.syntax.Connective.{Connective}
use Rattle.csdn_tree.specs.declared.syntax.Quantifier.{Quantifier}
use Rattle.csdn_tree.specs.declared.syntax.RawFormula.{RawFormula, end_of-RawFormula, more_of-RawFormula}
use Rattle.csdn_tree.specs.declared.syntax.RawFormula.TheVariants as f
use Rattle.csdn_tree.specs.declared.syntax.RawCommand.{RawCommand, end_of-RawCommand, more_of-RawCommand}
use Rattle.csdn_tree.specs.declared.syntax.RawCommand.TheVariants as c

pattern abbrev pub raw_not : RawFormula → RawFormula
raw_not p = f.Not' tt (more_of-RawFormula p end_of-RawFormula)

pattern abbrev pub raw_two : Connective → RawFormula → RawFormula → RawFormula
raw_two k p q = f.Two' k tt (more_of-RawFormula p end_of-RawFormula) tt (more_of-RawFormula q end_of-RawFormula)

pattern abbrev pub raw_bind : Quantifier → RawName → Sort → RawFormula → RawFormula
raw_bind q n s p = f.Bind' q n s tt (more_of-RawFormula p end_of-RawFormula)

pattern abbrev pub raw_seq : RawCommand → RawCommand → RawCommand
raw_seq a b = c.Seq' tt (more_of-RawCommand a end_of-RawCommand) tt (more_of-RawCommand b end_of-RawCommand)

pattern abbrev pub raw_if : RawFormula → RawCommand → RawCommand → RawCommand
raw_if p a b = c.If' p tt (more_of-RawCommand a end_of-RawCommand) tt (more_of-RawCommand b end_of-RawCommand)

pattern abbrev pub raw_pick : RawName → Sort → RawFormula → RawCommand → RawCommand → RawCommand
raw_pick n s p a b = c.Pick' n s p tt (more_of-RawCommand a end_of-RawCommand) tt (more_of-RawCommand b end_of-RawCommand)

pub Not-is : (p : RawFormula) → f.Not p ≡ raw_not p
unfolding Rattle.csdn_tree.specs.declared.syntax.RawFormula.TheBlock.hidden-the_row-RawFormula-0 denote.Hole.Carrier.hidden
Not-is p = refl

pub Two-is : (k : Connective) (p : RawFormula) (q : RawFormula) → f.Two k p q ≡ raw_two k p q
unfolding Rattle.csdn_tree.specs.declared.syntax.RawFormula.TheBlock.hidden-the_row-RawFormula-0 denote.Hole.Carrier.hidden
Two-is k p q = refl

pub Bind-is : (q : Quantifier) (n : RawName) (s : Sort) (p : RawFormula) → f.Bind q n s p ≡ raw_bind q n s p
unfolding Rattle.csdn_tree.specs.declared.syntax.RawFormula.TheBlock.hidden-the_row-RawFormula-0 denote.Hole.Carrier.hidden
Bind-is q n s p = refl

pub Seq-is : (a : RawCommand) (b : RawCommand) → c.Seq a b ≡ raw_seq a b
unfolding Rattle.csdn_tree.specs.declared.syntax.RawCommand.TheBlock.hidden-the_row-RawCommand-0 denote.Hole.Carrier.hidden
Seq-is a b = refl

pub If-is : (p : RawFormula) (a : RawCommand) (b : RawCommand) → c.If p a b ≡ raw_if p a b
unfolding Rattle.csdn_tree.specs.declared.syntax.RawCommand.TheBlock.hidden-the_row-RawCommand-0 denote.Hole.Carrier.hidden
If-is p a b = refl

pub Pick-is : (n : RawName) (s : Sort) (p : RawFormula) (a : RawCommand) (b : RawCommand) → c.Pick n s p a b ≡ raw_pick n s p a b
unfolding Rattle.csdn_tree.specs.declared.syntax.RawCommand.TheBlock.hidden-the_row-RawCommand-0 denote.Hole.Carrier.hidden
Pick-is n s p a b = refl

pub ruleset raw_shapes = (Not-is, Two-is, Bind-is, Seq-is, If-is, Pick-is)
