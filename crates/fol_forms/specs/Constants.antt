-- The constants over which a formula is decided, and how often it is copied for them.
use Rattle.std.specs.Prelude.{ℕ, suc, ◌+◌, ◌*◌, max, List, [], ◌∷◌, ◌++◌, map, length, if◌then◌else◌}
use Rattle.csdn_core.specs.Same.{same_sort}
use Rattle.csdn_core.specs.declared.terms.Sort.{Sort}
use Rattle.csdn_core.specs.declared.terms.Sort.TheVariants.{Sw, Ho, Pr}
use Rattle.csdn_core.specs.declared.terms.Term.{Term}
use Rattle.csdn_core.specs.declared.terms.Term.TheVariants.{Const, Port}
use Rattle.csdn_core.specs.declared.program.Parts.{Parts}
use Rattle.csdn_core.specs.declared.program.Constant.{Constant}
use Rattle.csdn_core.specs.declared.syntax.Formula.{Formula}
use Rattle.fol_forms.specs.Forms.{Form, Fixed, Atom, Same, And, Or, ForAll, ForSome, form_of}

-- the constants of a sort among these, which are numbered from k on
abbrev pub constants_from : Sort → ℕ → List Constant → List Term
constants_from s k [] = []
constants_from s k (c ∷ cs) = if same_sort c.sort s then Const (record { 0 = k }) ∷ constants_from s (suc k) cs else constants_from s (suc k) cs

abbrev pub numerals_of : Sort → List ℕ → List Term
numerals_of Sw ks = []
numerals_of Ho ks = []
numerals_of Pr ks = map Port ks

-- the names of a sort of a program
abbrev pub names_of : Parts → Sort → List Term
names_of P s = constants_from s 0 P.constants ++ numerals_of s P.numerals

-- one where the sorts are the same
abbrev pub one_if : Sort → Sort → ℕ
one_if s t = if same_sort s t then 1 else 0

-- how many constants of a sort the `exists` of a normal form need: the two sides of an `or` share theirs
abbrev pub need : Form → Sort → ℕ
need (Fixed b) t = 0
need (Atom sign r ts) t = 0
need (Same sign a b) t = 0
need (And p q) t = need p t + need q t
need (Or p q) t = max (need p t) (need q t)
need (ForAll v s p) t = 0
need (ForSome v s p) t = need p t + one_if s t

-- how many constants a sort has for a formula: its names and those that the normal form needs, and at least one
abbrev pub counts : Parts → Formula → Sort → ℕ
counts P F s = max 1 (length (names_of P s) + need (form_of F) s)

-- how many atoms and equations a normal form has when each `forall` is replaced by one copy per constant of its sort
abbrev pub instances : (Sort → ℕ) → Form → ℕ
instances n (Fixed b) = 0
instances n (Atom sign r ts) = 1
instances n (Same sign t u) = 1
instances n (And p q) = instances n p + instances n q
instances n (Or p q) = instances n p + instances n q
instances n (ForAll v s p) = n s * instances n p
instances n (ForSome v s p) = instances n p
