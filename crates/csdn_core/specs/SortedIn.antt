-- Formulas that are well-sorted in a scope, however many variables are in it.
use Rattle.std.specs.Prelude.{◌≡◌, ℕ, ◌==◌, List, [], ◌∷◌, Option, Some, None, option_map, slice_get, Contains, IsFalse, if◌then◌else◌}
use Rattle.csdn_core.specs.declared.terms.VarId.{VarId}
use Rattle.csdn_core.specs.declared.terms.Sort.{Sort}
use Rattle.csdn_core.specs.declared.terms.Sort.TheVariants.{Pr}
use Rattle.csdn_core.specs.declared.terms.Term.{Term}
use Rattle.csdn_core.specs.declared.terms.Term.TheVariants.{Var, Const, Port}
use Rattle.csdn_core.specs.declared.terms.Pred.{Pred}
use Rattle.csdn_core.specs.declared.terms.Pred.TheVariants.{RcvThis}
use Rattle.csdn_core.specs.declared.syntax.Formula.{Formula}
use Rattle.csdn_core.specs.declared.syntax.Formula.TheVariants as f
use Rattle.csdn_core.specs.Tree.{negation, conjunction, disjunction, implication, equivalence, universal, existential}
use Rattle.csdn_core.specs.Network.{same_pred}
use Rattle.csdn_core.specs.Sorted.{Signature, Bind, sorts_of}

-- the sorts of the variables in scope, by their numbers
abbrev pub Scope : Type 0
Scope = ℕ → Option Sort

abbrev pub no_scope : Scope
no_scope = λ v. None

abbrev pub with_sort : Scope → VarId → Sort → Scope
with_sort Γ v s = λ w. if w == v.0 then Some s else Γ w

-- these variables, with their sorts, put into a scope one after another
abbrev pub with_binds : Scope → List Bind → Scope
with_binds Γ [] = Γ
with_binds Γ (b ∷ bs) = with_binds (with_sort Γ b.var b.sort) bs

abbrev pub scope_of : List Bind → Scope
scope_of bs = with_binds no_scope bs

-- the relations that a formula may name
abbrev pub Relations : Type 1
Relations = Pred → Type 0

abbrev pub any_relation : Relations
any_relation r = Unit {0}

-- all but `rcv_this`
abbrev pub no_rcv_this : Relations
no_rcv_this r = IsFalse (same_pred r RcvThis)

module _ (S : Signature) where
  abbrev pub HasSortIn : Scope → Sort → Term → Type 0
  HasSortIn Γ s (Var v) = Γ v.0 ≡ Some s
  HasSortIn Γ s (Const k) = option_map (λ d. d.sort) (slice_get S.constants k.0) ≡ Some s
  HasSortIn Γ s (Port k) = (s ≡ Pr) × Contains S.numerals k

  -- one after another, and as many
  unfoldable pub HaveSortsIn : Scope → List Sort → List Term → Type 0
  HaveSortsIn Γ [] [] = Unit {0}
  HaveSortsIn Γ (s ∷ ss) (t ∷ ts) = HasSortIn Γ s t × HaveSortsIn Γ ss ts
  HaveSortsIn Γ [] (t ∷ ts) = ⊥
  HaveSortsIn Γ (s ∷ ss) [] = ⊥

  pub record IsAtomIn (Γ : Scope) (r : Pred) (ts : List Term) : Type 0 where
    pub sorts : List Sort
    pub declared : sorts_of S r ≡ Some sorts
    pub terms : HaveSortsIn Γ sorts ts

  -- terms have the sorts that their places ask for, and the atoms are of these relations
  unfoldable pub IsSortedIn : Relations → Scope → Formula → Type 0
  IsSortedIn R Γ f.True = Unit {0}
  IsSortedIn R Γ f.False = Unit {0}
  IsSortedIn R Γ (f.Atom r ts) = IsAtomIn Γ r ts × R r
  IsSortedIn R Γ (f.Same t u) = (s : Sort) × HasSortIn Γ s t × HasSortIn Γ s u
  IsSortedIn R Γ (negation p) = IsSortedIn R Γ p
  IsSortedIn R Γ (conjunction p q) = IsSortedIn R Γ p × IsSortedIn R Γ q
  IsSortedIn R Γ (disjunction p q) = IsSortedIn R Γ p × IsSortedIn R Γ q
  IsSortedIn R Γ (implication p q) = IsSortedIn R Γ p × IsSortedIn R Γ q
  IsSortedIn R Γ (equivalence p q) = IsSortedIn R Γ p × IsSortedIn R Γ q
  IsSortedIn R Γ (universal v s p) = IsSortedIn R (with_sort Γ v s) p
  IsSortedIn R Γ (existential v s p) = IsSortedIn R (with_sort Γ v s) p
