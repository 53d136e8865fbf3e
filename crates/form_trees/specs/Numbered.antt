-- Normal forms whose variables are numbered anew.
use Rattle.std.specs.Prelude.{ℕ, suc, ◌+◌, map}
use Rattle.csdn_core.specs.Truth.{with_var}
use Rattle.fol_forms.specs.Forms.{Form, Fixed, Atom, Same, And, Or, ForAll, ForSome}
use Rattle.fol_forms.specs.Renumber.{renamed}

-- how many quantifiers a normal form has
abbrev pub quantifiers : Form → ℕ
quantifiers (Fixed b) = 0
quantifiers (Atom sign r ts) = 0
quantifiers (Same sign t u) = 0
quantifiers (And p q) = quantifiers p + quantifiers q
quantifiers (Or p q) = quantifiers p + quantifiers q
quantifiers (ForAll v s p) = suc (quantifiers p)
quantifiers (ForSome v s p) = suc (quantifiers p)

-- its quantifiers bind the variables from k on, each its own, in the order of the text; other variables have their new numbers
abbrev pub numbered_from : (ℕ → ℕ) → ℕ → Form → Form
numbered_from new k (Fixed b) = Fixed b
numbered_from new k (Atom sign r ts) = Atom sign r (map (renamed new) ts)
numbered_from new k (Same sign t u) = Same sign (renamed new t) (renamed new u)
numbered_from new k (And p q) = And (numbered_from new k p) (numbered_from new (k + quantifiers p) q)
numbered_from new k (Or p q) = Or (numbered_from new k p) (numbered_from new (k + quantifiers p) q)
numbered_from new k (ForAll v s p) = ForAll (record { 0 = k }) s (numbered_from (with_var new v k) (suc k) p)
numbered_from new k (ForSome v s p) = ForSome (record { 0 = k }) s (numbered_from (with_var new v k) (suc k) p)

-- all its quantifiers bind variables of their own
abbrev pub numbered : Form → Form
numbered f = numbered_from (λ v. v) 0 f
