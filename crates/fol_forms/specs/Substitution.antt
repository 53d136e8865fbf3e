-- Truth of a formula in which atoms were replaced.
use Rattle.std.specs.Prelude.{◌≡◌, ℕ, Bool, false, not, ◌&&◌, ◌||◌, List, [], ◌∷◌, length, Some, if◌then◌else◌, IsTrue, Contains}
use Rattle.csdn_core.specs.declared.terms.Sort.{Sort}
use Rattle.csdn_core.specs.declared.terms.Sort.TheVariants.{Pr}
use Rattle.csdn_core.specs.declared.terms.Term.{Term}
use Rattle.csdn_core.specs.declared.terms.Term.TheVariants.{Var, Const, Port}
use Rattle.csdn_core.specs.declared.terms.Pred.{Pred}
use Rattle.csdn_core.specs.declared.terms.Pred.TheVariants.{Ft, Sent, RcvThis}
use Rattle.csdn_core.specs.declared.syntax.Formula.{Formula}
use Rattle.csdn_core.specs.declared.syntax.Formula.TheVariants as f
use Rattle.csdn_core.specs.Tree.{negation, conjunction, disjunction, implication, equivalence, universal, existential}
use Rattle.csdn_core.specs.Truth.{Structure, Assignment}
use Rattle.csdn_core.specs.SortedIn.{Scope, no_scope, with_sort}
use Rattle.csdn_core.specs.Network.{same_pred, same_cells}
use Rattle.csdn_core.specs.Execution.{is_flood, is_rule_of}
use Rattle.csdn_core.specs.Variables.{Variables}

-- the structure with other relations
abbrev pub with_relations : Structure → (Pred → List ℕ → Bool) → Structure
with_relations M h = record { elements = M.elements; constant = M.constant; holds = h }

-- the structure with a tuple put into a relation
abbrev pub with_row : Structure → Pred → List ℕ → Structure
with_row M r cells = with_relations M (λ q ds. M.holds q ds || (same_pred q r && same_cells ds cells))

-- .. with it taken out
abbrev pub without_row : Structure → Pred → List ℕ → Structure
without_row M r cells = with_relations M (λ q ds. M.holds q ds && not (same_pred q r && same_cells ds cells))

-- .. with every rule of a match of four elements taken out of `ft`
abbrev pub without_match : Structure → List ℕ → Structure
without_match M cells = with_relations M (λ q ds. M.holds q ds && not (same_pred q Ft && is_rule_of cells ds))

-- .. with a packet of four elements sent from every port but its own
abbrev pub with_flood : Structure → List ℕ → Structure
with_flood M cells = with_relations M (λ q ds. M.holds q ds || (same_pred q Sent && is_flood (M.elements Pr) cells ds))

-- .. and in which the packet is a tuple
abbrev pub with_packet : Structure → List ℕ → Structure
with_packet M cells = with_relations M (λ q ds. if same_pred q RcvThis then same_cells ds cells else M.holds q ds)

-- .. and in which there is no packet
abbrev pub without_packet : Structure → Structure
without_packet M = with_relations M (λ q ds. if same_pred q RcvThis then false else M.holds q ds)

-- each atom of the formula meets a fact, which may depend on the sorts in scope
unfoldable pub AllAtoms : (Scope → Pred → List Term → Type 0) → Scope → Formula → Type 0
AllAtoms A Γ f.True = Unit {0}
AllAtoms A Γ f.False = Unit {0}
AllAtoms A Γ (f.Atom r us) = A Γ r us
AllAtoms A Γ (f.Same t u) = Unit {0}
AllAtoms A Γ (negation p) = AllAtoms A Γ p
AllAtoms A Γ (conjunction p q) = AllAtoms A Γ p × AllAtoms A Γ q
AllAtoms A Γ (disjunction p q) = AllAtoms A Γ p × AllAtoms A Γ q
AllAtoms A Γ (implication p q) = AllAtoms A Γ p × AllAtoms A Γ q
AllAtoms A Γ (equivalence p q) = AllAtoms A Γ p × AllAtoms A Γ q
AllAtoms A Γ (universal v s p) = AllAtoms A (with_sort Γ v s) p
AllAtoms A Γ (existential v s p) = AllAtoms A (with_sort Γ v s) p

-- the atoms of the relation have as many terms as the tuple
abbrev pub FitsRow : Pred → ℕ → Pred → List Term → Type 0
FitsRow r n q us = IsTrue (same_pred q r) → length us ≡ n

-- each atom of the relation, in the whole formula
abbrev pub AllFit : Pred → ℕ → Formula → Type 0
AllFit r n p = AllAtoms (λ Γ. FitsRow r n) no_scope p

-- two assignments give the same to the variables of a set
abbrev pub Agrees : Variables → Assignment → Assignment → Type 0
Agrees s e d = (v : ℕ) → IsTrue (s v) → d v ≡ e v

module _ (M : Structure) where
  -- each variable in scope has an element of its sort
  abbrev pub KeepsSorts : Scope → Assignment → Type 0
  KeepsSorts Γ e = (v : ℕ) (s : Sort) → Γ v ≡ Some s → Contains (M.elements s) (e v)

  -- a term that stands for a port
  abbrev pub IsPort : Scope → Term → Type 0
  IsPort Γ (Var v) = Γ v.0 ≡ Some Pr
  IsPort Γ (Const c) = Contains (M.elements Pr) (M.constant c.0)
  IsPort Γ (Port k) = Contains (M.elements Pr) k

  -- five terms, of which the last stands for a port
  abbrev pub HasEgress : Scope → List Term → Type 0
  HasEgress Γ (u ∷ v ∷ w ∷ j ∷ o ∷ []) = IsPort Γ o
  HasEgress Γ us = ⊥

  -- each atom of `sent` has five terms, of which the last stands for a port
  abbrev pub SendsToPorts : Scope → Formula → Type 0
  SendsToPorts Γ p = AllAtoms (λ Δ q us. IsTrue (same_pred q Sent) → HasEgress Δ us) Γ p
