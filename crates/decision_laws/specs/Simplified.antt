-- Truth values simplified away.
use Rattle.std.specs.Prelude.{Bool, true, false, Option, Some, None}
use Rattle.csdn_core.specs.declared.terms.VarId.{VarId}
use Rattle.csdn_core.specs.declared.terms.Sort.{Sort}
use Rattle.fol_forms.specs.Forms.{Form, Fixed, Atom, Same, And, Or, ForAll, ForSome}

-- which truth value a form is, if it is one
abbrev pub fixed_of : Form → Option Bool
fixed_of (Fixed b) = Some b
fixed_of (Atom sign r ts) = None
fixed_of (Same sign t u) = None
fixed_of (And p q) = None
fixed_of (Or p q) = None
fixed_of (ForAll v s p) = None
fixed_of (ForSome v s p) = None

abbrev pub and_by : Option Bool → Option Bool → Form → Form → Form
and_by (Some true) o p q = q
and_by (Some false) o p q = Fixed false
and_by None (Some true) p q = p
and_by None (Some false) p q = Fixed false
and_by None None p q = And p q

abbrev pub or_by : Option Bool → Option Bool → Form → Form → Form
or_by (Some true) o p q = Fixed true
or_by (Some false) o p q = q
or_by None (Some true) p q = Fixed true
or_by None (Some false) p q = p
or_by None None p q = Or p q

abbrev pub all_by : Option Bool → VarId → Sort → Form → Form
all_by (Some b) v s p = Fixed b
all_by None v s p = ForAll v s p

abbrev pub some_by : Option Bool → VarId → Sort → Form → Form
some_by (Some b) v s p = Fixed b
some_by None v s p = ForSome v s p

-- a connective or quantifier over a truth value is replaced by what it equals, since no sort is empty
abbrev pub simplified : Form → Form
simplified (Fixed b) = Fixed b
simplified (Atom sign r ts) = Atom sign r ts
simplified (Same sign t u) = Same sign t u
simplified (And p q) = and_by (fixed_of (simplified p)) (fixed_of (simplified q)) (simplified p) (simplified q)
simplified (Or p q) = or_by (fixed_of (simplified p)) (fixed_of (simplified q)) (simplified p) (simplified q)
simplified (ForAll v s p) = all_by (fixed_of (simplified p)) v s (simplified p)
simplified (ForSome v s p) = some_by (fixed_of (simplified p)) v s (simplified p)
