-- A formula with a sign, as its normal form begins.
use Rattle.std.specs.Prelude.{ℕ, max, Bool, true, false, not}
use Rattle.csdn_core.specs.declared.terms.VarId.{VarId}
use Rattle.csdn_core.specs.declared.terms.Sort.{Sort}
use Rattle.csdn_core.specs.Nodes.{nodes}
use Rattle.fol_forms.specs.declared.signed.Side.{Side}
use Rattle.fol_forms.specs.declared.signed.Signed.{Signed}
use Rattle.fol_forms.specs.declared.signed.Signed.TheVariants as seen
use Rattle.fol_forms.specs.Forms.{Form, Fixed, Atom, Same, And, Or, ForAll, ForSome, normal_form}

abbrev pub side_form : Side → Form
side_form p = normal_form p.sign p.formula.now

abbrev pub opposite : Side → Side
opposite p = record { formula = p.formula; sign = not p.sign }

-- the normal form that begins so
abbrev pub form_seen : Signed → Form
form_seen (seen.Truth b) = Fixed b
form_seen (seen.Atom sign r ts) = Atom sign r ts.now
form_seen (seen.Equal sign t u) = Same sign t u
form_seen (seen.Both p q) = And (side_form p) (side_form q)
form_seen (seen.Either p q) = Or (side_form p) (side_form q)
form_seen (seen.Cases p q) = Or (And (side_form p) (side_form q)) (And (side_form (opposite p)) (side_form (opposite q)))
form_seen (seen.Forall v s p) = ForAll v s (side_form p)
form_seen (seen.Exists v s p) = ForSome v s (side_form p)

-- .. and that of the negation
abbrev pub opposite_seen : Signed → Form
opposite_seen (seen.Truth b) = Fixed (not b)
opposite_seen (seen.Atom sign r ts) = Atom (not sign) r ts.now
opposite_seen (seen.Equal sign t u) = Same (not sign) t u
opposite_seen (seen.Both p q) = Or (side_form (opposite p)) (side_form (opposite q))
opposite_seen (seen.Either p q) = And (side_form (opposite p)) (side_form (opposite q))
opposite_seen (seen.Cases p q) = Or (And (side_form p) (side_form (opposite q))) (And (side_form (opposite p)) (side_form q))
opposite_seen (seen.Forall v s p) = ForSome v s (side_form (opposite p))
opposite_seen (seen.Exists v s p) = ForAll v s (side_form (opposite p))

-- a conjunction or a disjunction
abbrev pub joined_form : Bool → Form → Form → Form
joined_form true p q = And p q
joined_form false p q = Or p q

abbrev pub quantified_form : Bool → VarId → Sort → Form → Form
quantified_form true v s p = ForAll v s p
quantified_form false v s p = ForSome v s p

-- how many nodes the largest side has
abbrev pub largest : Signed → ℕ
largest (seen.Truth b) = 0
largest (seen.Atom sign r ts) = 0
largest (seen.Equal sign t u) = 0
largest (seen.Both p q) = max (nodes p.formula.now) (nodes q.formula.now)
largest (seen.Either p q) = max (nodes p.formula.now) (nodes q.formula.now)
largest (seen.Cases p q) = max (nodes p.formula.now) (nodes q.formula.now)
largest (seen.Forall v s p) = nodes p.formula.now
largest (seen.Exists v s p) = nodes p.formula.now
