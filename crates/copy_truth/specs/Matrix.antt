-- What stands under the quantifiers of a form, each variable standing for its constant in one scope.
use Rattle.std.specs.Prelude.{Bool, ◌&&◌, ◌||◌, List, [], ◌∷◌, ◌++◌}
use Rattle.fol_forms.specs.Forms.{Form, Fixed, Atom, Same, And, Or, ForAll, ForSome}
use Rattle.decision_laws.specs.Copies.{Scope}
use Rattle.ground_inst.specs.Walk.{equation_fact, scope, tuple_fact, ways_of}
use Rattle.ground_inst.specs.declared.places.Binding.{Binding}
use Rattle.copy_truth.specs.declared.opened.TheConstants.{OPEN}
use Rattle.copy_truth.specs.declared.reading.Reading.{Reading}
use Rattle.copy_truth.specs.Judged.{said_signed}

abbrev pub matrix : Reading → Form → Scope → Bool
matrix r (Fixed b) full = b
matrix r (Atom sign p ts) full = said_signed r sign (tuple_fact (ways_of r.names) full p ts)
matrix r (Same sign t u) full = said_signed r sign (equation_fact (ways_of r.names) full t u)
matrix r (And p q) full = matrix r p full && matrix r q full
matrix r (Or p q) full = matrix r p full || matrix r q full
matrix r (ForAll v s p) full = matrix r p full
matrix r (ForSome v s p) full = matrix r p full

-- the variables that a form binds, each left open, in the order in which they stand
abbrev pub binders : Form → List Binding
binders (Fixed b) = []
binders (Atom sign r ts) = []
binders (Same sign t u) = []
binders (And p q) = binders p ++ binders q
binders (Or p q) = binders p ++ binders q
binders (ForAll v s p) = record { var = v; sort = s; place = OPEN } ∷ binders p
binders (ForSome v s p) = record { var = v; sort = s; place = OPEN } ∷ binders p

-- the scope of bindings with all those left open
abbrev pub opened : List Binding → Form → Scope
opened bs f = scope (bs ++ binders f)
