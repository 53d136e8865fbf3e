-- Normal forms as formulas.
use Rattle.std.specs.Prelude.{Bool, true, false}
use Rattle.csdn_core.specs.declared.syntax.Formula.{Formula}
use Rattle.csdn_core.specs.declared.syntax.Formula.TheVariants as f
use Rattle.csdn_core.specs.Tree.{negation, conjunction, disjunction, universal, existential}
use Rattle.fol_forms.specs.Forms.{Form, Fixed, Atom, Same, And, Or, ForAll, ForSome}

abbrev pub truth_value : Bool → Formula
truth_value true = f.True
truth_value false = f.False

-- the formula, or for the sign `false` its negation
abbrev pub literal : Bool → Formula → Formula
literal true p = p
literal false p = negation p

-- the formula that a normal form is
abbrev pub written : Form → Formula
written (Fixed b) = truth_value b
written (Atom sign r ts) = literal sign (f.Atom r ts)
written (Same sign t u) = literal sign (f.Same t u)
written (And p q) = conjunction (written p) (written q)
written (Or p q) = disjunction (written p) (written q)
written (ForAll v s p) = universal v s (written p)
written (ForSome v s p) = existential v s (written p)
