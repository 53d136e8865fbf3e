-- Formulas under a row of universal quantifiers.
use Rattle.std.specs.Prelude.{◌≡◌, ℕ, List, [], ◌∷◌, IsTrue, Contains}
use Rattle.csdn_core.specs.declared.syntax.Formula.{Formula}
use Rattle.csdn_core.specs.Tree.{universal}
use Rattle.csdn_core.specs.Truth.{Structure, Assignment, truth, with_var}
use Rattle.fol_forms.specs.declared.close.Bind.{Bind}

-- the formula with a `forall` for each bind, the first one outermost
abbrev pub closed : List Bind → Formula → Formula
closed [] p = p
closed (b ∷ bs) p = universal b.var b.sort (closed bs p)

-- e with elements of their sorts given to the binds, one after another, is d
abbrev pub GivesBinds : Structure → List Bind → Assignment → Assignment → Type 0
GivesBinds M [] e d = d ≡ e
GivesBinds M (b ∷ bs) e d = (m : ℕ) × Contains (M.elements b.sort) m × GivesBinds M bs (with_var e b.var m) d

-- the formula is true for all values of the binds
abbrev pub IsTrueForAll : Structure → List Bind → Formula → Assignment → Type 0
IsTrueForAll M bs p e = (d : Assignment) → GivesBinds M bs e d → IsTrue (truth M p d)
