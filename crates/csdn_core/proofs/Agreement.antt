-- Truth of a well-sorted formula looks at tuples of elements alone, and at the variables in scope.
use Rattle.std.proofs.Common.{◌≡◌, ◌∙◌, sym, ap, ap₂, subst, refl, ℕ, ◌==◌, Bool, true, false, not, ◌&&◌, ◌||◌, cond, List, [], ◌∷◌, Option, Some, None, Contains, if◌then◌else◌}
use Rattle.std.specs.Prelude.{option_map, slice_get, slice_index}
use Rattle.std.specs.List.{list_all, list_any}
use Rattle.std.proofs.lemmas.List.Elements.{All-contains}
use Rattle.std.proofs.lemmas.Option.{none-some}
use Rattle.general_facts.proofs.Lists.{list_all-same, list_any-same}
use Rattle.csdn_core.specs.declared.terms.Sort.{Sort}
use Rattle.csdn_core.specs.declared.terms.Term.{Term}
use Rattle.csdn_core.specs.declared.terms.Term.TheVariants.{Var, Const, Port}
use Rattle.csdn_core.specs.declared.terms.VarId.{VarId}
use Rattle.csdn_core.specs.declared.terms.Pred.{Pred}
use Rattle.csdn_core.specs.declared.terms.Pred.TheVariants.{Stored, Ft, Sent, RcvThis}
use Rattle.csdn_core.specs.declared.event.Packet.{Packet}
use Rattle.csdn_core.specs.declared.program.Constant.{Constant}
use Rattle.csdn_core.specs.declared.program.Parts.{Parts}
use Rattle.csdn_core.specs.declared.syntax.Formula.{Formula}
use Rattle.csdn_core.specs.declared.syntax.Formula.TheVariants as f
use Rattle.csdn_core.specs.Tree.{negation, conjunction, disjunction, implication, equivalence, universal, existential}
use Rattle.csdn_core.specs.Truth.{Structure, Assignment, with_var, truth, value, values, same_truth}
use Rattle.csdn_core.specs.Network.{Network, State, elements, structure, holds_in, is_fixed, HaveElements, IsNetwork}
use Rattle.csdn_core.specs.Run.{no_values}
use Rattle.csdn_core.specs.Sorted.{Signature, sorts_of}
use Rattle.csdn_core.specs.SortedIn.{Scope, no_scope, with_sort, Relations, HasSortIn, HaveSortsIn, IsSortedIn}
use Rattle.csdn_core.specs.WellSorted.{signature}
use Rattle.csdn_core.specs.Agreement.{AreElements, IsStructureOf, AgreeOn, AgreeInScope, AgreeOnElements}

if_same : (b u x y : Bool) → x ≡ y → (if b then u else x) ≡ (if b then u else y)
if_same true u x y same = refl
if_same false u x y same = same

-- terms of a scope stand for elements of their sorts

module _ (S : Signature) (M : Structure) (fits : IsStructureOf S M) (Γ : Scope) (e : Assignment) (has : (v : ℕ) (s : Sort) → Γ v ≡ Some s → Contains (M.elements s) (e v)) where
  pub value_there : (s : Sort) (t : Term) → HasSortIn S Γ s t → Contains (M.elements s) (value M e t)
  value_there s (Var v) is = has v.0 s is
  value_there s (Const k) is = fits.constants k.0 s is
  value_there s (Port k) (is, there) = subst (λ (t : Sort). Contains (M.elements t) k) (sym is) (fits.numerals k there)

  pub values_there : (ss : List Sort) (ts : List Term) → HaveSortsIn S Γ ss ts → AreElements M ss (values M e ts)
  unfolding HaveSortsIn AreElements
  values_there [] [] sorted = tt
  values_there [] (t ∷ ts) sorted = absurd sorted
  values_there (s ∷ ss) [] sorted = absurd sorted
  values_there (s ∷ ss) (t ∷ ts) sorted = (value_there s t sorted.0, values_there ss ts sorted.1)

-- one variable more

more : (Γ : Scope) (v : VarId) (s : Sort) (w : ℕ) (t : Sort) (b : Bool) → (Q : Bool → Type 0) → (Γ w ≡ Some t → Q false) → (s ≡ t → Q true) → cond b (Some s) (Γ w) ≡ Some t → Q b
more Γ v s w t true Q before here is = here (let e : s ≡ t = some-is s t is in e)
  where
    some-is : (a b : Sort) → Some a ≡ Some b → a ≡ b
    some-is a b is = cc
more Γ v s w t false Q before here is = before is

module _ (S : Signature) (R : Relations) (M K : Structure) (fits : IsStructureOf S M) (agree : AgreeOn S R M K) where
  AgreeInScope-more : (Γ : Scope) (e d : Assignment) (v : VarId) (s : Sort) (m : ℕ) → AgreeInScope M Γ e d → Contains (M.elements s) m → AgreeInScope M (with_sort Γ v s) (with_var e v m) (with_var d v m)
  AgreeInScope-more Γ e d v s m both there = record {
    there = λ w t is. more Γ v s w t (w == v.0) (λ b. Contains (M.elements t) (if b then m else e w)) (both.there w t) (λ same. subst (λ (u : Sort). Contains (M.elements u) m) same there) is;
    same = λ w t is. more Γ v s w t (w == v.0) (λ b. (if b then m else e w) ≡ (if b then m else d w)) (both.same w t) (λ same. refl) is;
  }

  value-same : (Γ : Scope) (e d : Assignment) → AgreeInScope M Γ e d → (s : Sort) (t : Term) → HasSortIn S Γ s t → value M e t ≡ value K d t
  value-same Γ e d both s (Var v) is = both.same v.0 s is
  value-same Γ e d both s (Const k) is = agree.constants k.0
  value-same Γ e d both s (Port k) is = refl

  values-same : (Γ : Scope) (e d : Assignment) → AgreeInScope M Γ e d → (ss : List Sort) (ts : List Term) → HaveSortsIn S Γ ss ts → values M e ts ≡ values K d ts
  unfolding HaveSortsIn
  values-same Γ e d both [] [] sorted = refl
  values-same Γ e d both [] (t ∷ ts) sorted = absurd sorted
  values-same Γ e d both (s ∷ ss) [] sorted = absurd sorted
  values-same Γ e d both (s ∷ ss) (t ∷ ts) sorted = ap₂ (λ m ms. m ∷ ms) (value-same Γ e d both s t sorted.0) (values-same Γ e d both ss ts sorted.1)

  -- in structures that agree on what a formula names, under assignments that agree on its scope, the formula has one truth
  pub truth_sees : (Γ : Scope) (p : Formula) (e d : Assignment) → IsSortedIn S R Γ p → AgreeInScope M Γ e d → truth M p e ≡ truth K p d
  unfolding truth IsSortedIn
  truth_sees Γ f.True e d sorted both = refl
  truth_sees Γ f.False e d sorted both = refl
  truth_sees Γ (f.Atom r ts) e d sorted both =
      agree.tuples r sorted.0.sorts (values M e ts) sorted.1 sorted.0.declared (values_there S M fits Γ e both.there sorted.0.sorts ts sorted.0.terms)
      ∙ ap (K.holds r) (values-same Γ e d both sorted.0.sorts ts sorted.0.terms)
  truth_sees Γ (f.Same t u) e d sorted both = ap₂ (λ m n. m == n) (value-same Γ e d both sorted.0 t sorted.1) (value-same Γ e d both sorted.0 u sorted.2)
  truth_sees Γ (negation p) e d sorted both = ap not (truth_sees Γ p e d sorted both)
  truth_sees Γ (conjunction p q) e d sorted both = ap₂ (λ a b. a && b) (truth_sees Γ p e d sorted.0 both) (truth_sees Γ q e d sorted.1 both)
  truth_sees Γ (disjunction p q) e d sorted both = ap₂ (λ a b. a || b) (truth_sees Γ p e d sorted.0 both) (truth_sees Γ q e d sorted.1 both)
  truth_sees Γ (implication p q) e d sorted both = ap₂ (λ a b. not a || b) (truth_sees Γ p e d sorted.0 both) (truth_sees Γ q e d sorted.1 both)
  truth_sees Γ (equivalence p q) e d sorted both = ap₂ same_truth (truth_sees Γ p e d sorted.0 both) (truth_sees Γ q e d sorted.1 both)
  truth_sees Γ (universal v s p) e d sorted both =
      list_all-same (λ m. truth M p (with_var e v m)) (λ m. truth K p (with_var d v m)) (M.elements s)
      (λ m there. truth_sees (with_sort Γ v s) p (with_var e v m) (with_var d v m) sorted (AgreeInScope-more Γ e d v s m both there))
      ∙ ap (list_all (λ m. truth K p (with_var d v m))) (agree.elements s)
  truth_sees Γ (existential v s p) e d sorted both =
      list_any-same (λ m. truth M p (with_var e v m)) (λ m. truth K p (with_var d v m)) (M.elements s)
      (λ m there. truth_sees (with_sort Γ v s) p (with_var e v m) (with_var d v m) sorted (AgreeInScope-more Γ e d v s m both there))
      ∙ ap (list_any (λ m. truth K p (with_var d v m))) (agree.elements s)

-- networks and states

module _ (P : Parts) (N : Network) (network : IsNetwork P N) where
  pub constant_there : (k : ℕ) (s : Sort) → option_map (λ (d : Constant). d.sort) (slice_get P.constants k) ≡ Some s → Contains (elements N s) (slice_index N.constants k)
  constant_there k s is = at (slice_get P.constants k) refl is
    where
      at : (o : Option Constant) → slice_get P.constants k ≡ o → option_map (λ (d : Constant). d.sort) o ≡ Some s → Contains (elements N s) (slice_index N.constants k)
      at None here is = absurd (cc)
      at (Some d) here is =
          let same : d.sort ≡ s = cc in
          subst (λ (t : Sort). Contains (elements N t) (slice_index N.constants k)) same (network.sorted k d here)

  pub structure_of : (x : State) (packet : Packet) → IsStructureOf (signature P) (structure P N x packet)
  structure_of x packet = record { constants = constant_there; numerals = λ k there. All-contains (Contains N.ports) P.numerals k network.numerals there }

  pub elements_there : (x : State) (packet : Packet) (ss : List Sort) (cells : List ℕ) → AreElements (structure P N x packet) ss cells → HaveElements N ss cells
  unfolding AreElements HaveElements
  elements_there x packet [] [] there = tt
  elements_there x packet [] (m ∷ ms) there = absurd there
  elements_there x packet (s ∷ ss) [] there = absurd there
  elements_there x packet (s ∷ ss) (m ∷ ms) there = (there.0, elements_there x packet ss ms there.1)

  module _ (x y : State) (agree : AgreeOnElements P N x y) (packet : Packet) where
    pub holds-same : (r : Pred) (sorts : List Sort) (cells : List ℕ) → sorts_of (signature P) r ≡ Some sorts → HaveElements N sorts cells → holds_in P N x packet r cells ≡ holds_in P N y packet r cells
    holds-same (Stored r) sorts cells declared there = if_same (is_fixed P r.0) _ _ _ (agree (Stored r) sorts cells declared there)
    holds-same Ft sorts cells declared there = agree Ft sorts cells declared there
    holds-same Sent sorts cells declared there = agree Sent sorts cells declared there
    holds-same RcvThis sorts cells declared there = refl

    pub structures_agree : (R : Relations) → AgreeOn (signature P) R (structure P N x packet) (structure P N y packet)
    structures_agree R = record {
      elements = λ s. refl;
      constants = λ k. refl;
      tuples = λ r sorts cells named declared there. holds-same r sorts cells declared (elements_there x packet sorts cells there);
    }

    pub sentence-same : (R : Relations) (p : Formula) → IsSortedIn (signature P) R no_scope p → truth (structure P N x packet) p no_values ≡ truth (structure P N y packet) p no_values
    sentence-same R p sorted =
        truth_sees (signature P) R (structure P N x packet) (structure P N y packet) (structure_of x packet) (structures_agree R) no_scope p no_values no_values sorted
        (record { there = λ v s is. absurd (none-some s is); same = λ v s is. absurd (none-some s is) })
