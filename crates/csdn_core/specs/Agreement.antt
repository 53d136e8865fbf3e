-- What truth looks at: structures, assignments and states that agree on it.
use Rattle.std.specs.Prelude.{◌≡◌, ℕ, List, [], ◌∷◌, Some, Contains, option_map, slice_get}
use Rattle.csdn_core.specs.declared.terms.Sort.{Sort}
use Rattle.csdn_core.specs.declared.terms.Sort.TheVariants.{Pr}
use Rattle.csdn_core.specs.declared.terms.Pred.{Pred}
use Rattle.csdn_core.specs.declared.program.Parts.{Parts}
use Rattle.csdn_core.specs.Truth.{Structure, Assignment}
use Rattle.csdn_core.specs.Network.{Network, State, HaveElements}
use Rattle.csdn_core.specs.Sorted.{Signature, sorts_of}
use Rattle.csdn_core.specs.SortedIn.{Relations, Scope}
use Rattle.csdn_core.specs.WellSorted.{signature}

-- each cell is an element of its sort
unfoldable pub AreElements : Structure → List Sort → List ℕ → Type 0
AreElements M [] [] = Unit {0}
AreElements M (s ∷ ss) (m ∷ ms) = Contains (M.elements s) m × AreElements M ss ms
AreElements M [] (m ∷ ms) = ⊥
AreElements M (s ∷ ss) [] = ⊥

module _ (S : Signature) where
  -- constants and numerals stand for elements of their sorts
  pub record IsStructureOf (M : Structure) : Type 0 where
    pub constants : (k : ℕ) (s : Sort) → option_map (λ d. d.sort) (slice_get S.constants k) ≡ Some s → Contains (M.elements s) (M.constant k)
    pub numerals : (k : ℕ) → Contains S.numerals k → Contains (M.elements Pr) k

  -- two structures have the same elements and constants, and in these relations the same tuples of elements of their sorts
  pub record AgreeOn (R : Relations) (M K : Structure) : Type 0 where
    pub elements : (s : Sort) → M.elements s ≡ K.elements s
    pub constants : (k : ℕ) → M.constant k ≡ K.constant k
    pub tuples : (r : Pred) (sorts : List Sort) (cells : List ℕ) → R r → sorts_of S r ≡ Some sorts → AreElements M sorts cells → M.holds r cells ≡ K.holds r cells

-- both assignments give each variable in scope one element of its sort
pub record AgreeInScope (M : Structure) (Γ : Scope) (e d : Assignment) : Type 0 where
  pub there : (v : ℕ) (s : Sort) → Γ v ≡ Some s → Contains (M.elements s) (e v)
  pub same : (v : ℕ) (s : Sort) → Γ v ≡ Some s → e v ≡ d v

-- two states have in each relation the same tuples of elements of its sorts
abbrev pub AgreeOnElements : Parts → Network → State → State → Type 0
AgreeOnElements P N x y =
    (r : Pred) (sorts : List Sort) (cells : List ℕ) → sorts_of (signature P) r ≡ Some sorts → HaveElements N sorts cells → x r cells ≡ y r cells
