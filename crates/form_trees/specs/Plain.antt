-- Normal forms whose quantifiers may be brought before them.
use Rattle.std.specs.Prelude.{◌≡◌, ℕ, ◌==◌, Bool, true, false, ◌||◌}
use Rattle.std.specs.List.{list_any}
use Rattle.csdn_core.specs.declared.terms.Term.{Term}
use Rattle.csdn_core.specs.declared.terms.Term.TheVariants.{Const, Port, Var}
use Rattle.fol_forms.specs.Forms.{Form, Fixed, Atom, Same, And, Or, ForAll, ForSome, is_universal}

abbrev pub is_variable : ℕ → Term → Bool
is_variable v (Var u) = u.0 == v
is_variable v (Const c) = false
is_variable v (Port k) = false

-- whether an atom or an equation of a form names a variable
abbrev pub names_variable : Form → ℕ → Bool
names_variable (Fixed b) v = false
names_variable (Atom sign r ts) v = list_any (is_variable v) ts
names_variable (Same sign t u) v = is_variable v t || is_variable v u
names_variable (And p q) v = names_variable p v || names_variable q v
names_variable (Or p q) v = names_variable p v || names_variable q v
names_variable (ForAll u s p) v = names_variable p v
names_variable (ForSome u s p) v = names_variable p v

-- whether a quantifier of a form binds a variable
abbrev pub binds_variable : Form → ℕ → Bool
binds_variable (Fixed b) v = false
binds_variable (Atom sign r ts) v = false
binds_variable (Same sign t u) v = false
binds_variable (And p q) v = binds_variable p v || binds_variable q v
binds_variable (Or p q) v = binds_variable p v || binds_variable q v
binds_variable (ForAll u s p) v = u.0 == v || binds_variable p v
binds_variable (ForSome u s p) v = u.0 == v || binds_variable p v

-- no variable that the first binds is named or bound in the second
pub record IsApartFrom (p q : Form) : Type 0 where
  pub unnamed : (v : ℕ) → binds_variable p v ≡ true → names_variable q v ≡ false
  pub unbound : (v : ℕ) → binds_variable p v ≡ true → binds_variable q v ≡ false

-- each variable is bound once, and none that is bound in one part is named in another
abbrev pub IsRectified : Form → Type 0
IsRectified (Fixed b) = Unit {0}
IsRectified (Atom sign r ts) = Unit {0}
IsRectified (Same sign t u) = Unit {0}
IsRectified (And p q) = IsRectified p × IsRectified q × IsApartFrom p q × IsApartFrom q p
IsRectified (Or p q) = IsRectified p × IsRectified q × IsApartFrom p q × IsApartFrom q p
IsRectified (ForAll v s p) = IsRectified p × (binds_variable p v.0 ≡ false)
IsRectified (ForSome v s p) = IsRectified p × (binds_variable p v.0 ≡ false)

-- rectified, and all its quantifiers are `forall`s
pub record IsPlain (f : Form) : Type 0 where
  pub rectified : IsRectified f
  pub universal : is_universal f ≡ true
