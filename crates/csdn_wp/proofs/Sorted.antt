-- Preconditions are well-sorted.
use Rattle.std.proofs.Common.{◌≡◌, ℕ, ◌==◌, Bool, true, false, List, [], ◌∷◌, Option, Some, None, refl, ap, sym, subst, ◌∙◌, IsFalse, arith, if◌then◌else◌}
use Rattle.std.proofs.lemmas.Bool.{or_parts}
use Rattle.csdn_core.proofs.Same.{same_pred-is}
use Rattle.csdn_core.specs.declared.terms.VarId.{VarId}
use Rattle.csdn_core.specs.declared.terms.Sort.{Sort}
use Rattle.csdn_core.specs.declared.terms.Sort.TheVariants.{Sw, Ho, Pr}
use Rattle.csdn_core.specs.declared.terms.Term.{Term}
use Rattle.csdn_core.specs.declared.terms.Term.TheVariants.{Var, Const, Port}
use Rattle.csdn_core.specs.declared.terms.Pred.{Pred}
use Rattle.csdn_core.specs.declared.terms.Pred.TheVariants.{Ft, Sent, RcvThis}
use Rattle.csdn_core.specs.declared.syntax.Formula.{Formula}
use Rattle.csdn_core.specs.declared.syntax.Formula.TheVariants as f
use Rattle.csdn_core.specs.Tree.{negation, conjunction, disjunction, implication, equivalence, universal, existential}
use Rattle.csdn_core.specs.Network.{same_pred}
use Rattle.csdn_core.specs.Variables.{is_var, vars_of, BindsOutside}
use Rattle.csdn_core.specs.Sorted.{Signature, sorts_of, flow_sorts, packet_sorts}
use Rattle.fol_forms.specs.Replace.{replace, same, or_row, not_row, not_match, or_flood, is_row, no_row, floods, rule_of, add_row, drop_row, drop_match, add_flood, fix_packet, no_packet}
use Rattle.csdn_core.specs.SortedIn.{Scope, with_sort, Relations, no_rcv_this, HasSortIn, HaveSortsIn, IsAtomIn, IsSortedIn}
use Rattle.fol_forms.proofs.Expired.{binds_outside}

module _ (S : Signature) where
  -- a term keeps its sort under a binder of another variable
  HasSortIn-under : (Γ : Scope) (v : VarId) (k : Sort) (s : Sort) (t : Term) → IsFalse (is_var t v.0) → HasSortIn S Γ s t → HasSortIn S (with_sort Γ v k) s t
  HasSortIn-under Γ v k s (Var w) other has =
      let apart : (w.0 == v.0) ≡ false = flipped v.0 w.0 other in rw apart has
    where
      flipped : (m n : ℕ) → (m == n) ≡ false → (n == m) ≡ false
      flipped m n h = grind arith
  HasSortIn-under Γ v k s (Const c) other has = has
  HasSortIn-under Γ v k s (Port p) other has = has

  HaveSortsIn-under : (Γ : Scope) (v : VarId) (k : Sort) (ss : List Sort) (ts : List Term) → IsFalse (vars_of ts v.0) → HaveSortsIn S Γ ss ts → HaveSortsIn S (with_sort Γ v k) ss ts
  unfolding HaveSortsIn
  HaveSortsIn-under Γ v k [] [] other have = tt
  HaveSortsIn-under Γ v k [] (t ∷ ts) other have = have
  HaveSortsIn-under Γ v k (s ∷ ss) [] other have = have
  HaveSortsIn-under Γ v k (s ∷ ss) (t ∷ ts) other have =
      (HasSortIn-under Γ v k s t (or_parts (is_var t v.0) (vars_of ts v.0) other).0 have.0, HaveSortsIn-under Γ v k ss ts (or_parts (is_var t v.0) (vars_of ts v.0) other).1 have.1)

  module _ (R Q : Relations) (ss : List Sort) (ts : List Term) (g : Pred → List Term → Formula)
      (right : (Γ : Scope) (r : Pred) (us : List Term) → HaveSortsIn S Γ ss ts → IsAtomIn S Γ r us → R r → IsSortedIn S Q Γ (g r us)) where
    pub IsSortedIn-replace : (Γ : Scope) (p : Formula) → HaveSortsIn S Γ ss ts → BindsOutside (vars_of ts) p → IsSortedIn S R Γ p → IsSortedIn S Q Γ (replace g p)
    unfolding IsSortedIn replace BindsOutside
    IsSortedIn-replace Γ f.True have out sorted = tt
    IsSortedIn-replace Γ f.False have out sorted = tt
    IsSortedIn-replace Γ (f.Atom r us) have out sorted = right Γ r us have sorted.0 sorted.1
    IsSortedIn-replace Γ (f.Same t u) have out sorted = sorted
    IsSortedIn-replace Γ (negation p) have out sorted = IsSortedIn-replace Γ p have out sorted
    IsSortedIn-replace Γ (conjunction p q) have out sorted = (IsSortedIn-replace Γ p have out.0 sorted.0, IsSortedIn-replace Γ q have out.1 sorted.1)
    IsSortedIn-replace Γ (disjunction p q) have out sorted = (IsSortedIn-replace Γ p have out.0 sorted.0, IsSortedIn-replace Γ q have out.1 sorted.1)
    IsSortedIn-replace Γ (implication p q) have out sorted = (IsSortedIn-replace Γ p have out.0 sorted.0, IsSortedIn-replace Γ q have out.1 sorted.1)
    IsSortedIn-replace Γ (equivalence p q) have out sorted = (IsSortedIn-replace Γ p have out.0 sorted.0, IsSortedIn-replace Γ q have out.1 sorted.1)
    IsSortedIn-replace Γ (universal v s p) have out sorted = IsSortedIn-replace (with_sort Γ v s) p (HaveSortsIn-under Γ v s ss ts out.0 have) out.1 sorted
    IsSortedIn-replace Γ (existential v s p) have out sorted = IsSortedIn-replace (with_sort Γ v s) p (HaveSortsIn-under Γ v s ss ts out.0 have) out.1 sorted

  -- equations of terms of the same sorts
  pub IsSortedIn-same : (Q : Relations) (Γ : Scope) (ss : List Sort) (us ts : List Term) → HaveSortsIn S Γ ss us → HaveSortsIn S Γ ss ts → IsSortedIn S Q Γ (same us ts)
  unfolding IsSortedIn HaveSortsIn
  IsSortedIn-same Q Γ [] [] [] have have_too = tt
  IsSortedIn-same Q Γ [] [] (t ∷ ts) have have_too = absurd have_too
  IsSortedIn-same Q Γ [] (u ∷ us) ts have have_too = absurd have
  IsSortedIn-same Q Γ (s ∷ ss) [] ts have have_too = absurd have
  IsSortedIn-same Q Γ (s ∷ ss) (u ∷ us) [] have have_too = absurd have_too
  IsSortedIn-same Q Γ (s ∷ ss) (u ∷ []) (t ∷ []) have have_too = (s, have.0, have_too.0)
  IsSortedIn-same Q Γ (s ∷ ss) (u ∷ []) (t ∷ w ∷ ts) have have_too = ((s, have.0, have_too.0), IsSortedIn-same Q Γ ss [] (w ∷ ts) have.1 have_too.1)
  IsSortedIn-same Q Γ (s ∷ ss) (u ∷ v ∷ us) (t ∷ ts) have have_too = ((s, have.0, have_too.0), IsSortedIn-same Q Γ ss (v ∷ us) ts have.1 have_too.1)

  some_is : {X : Type 0} (x y : X) → Some x ≡ Some y → x ≡ y
  some_is x y is = ap (λ o. value_or x o) is
    where
      value_or : {X : Type 0} → X → Option X → X
      value_or x None = x
      value_or x (Some y) = y

  -- atoms of a relation have its sorts
  pub atom_sorts : (Γ : Scope) (r q : Pred) (ss : List Sort) (us : List Term) → same_pred q r ≡ true → sorts_of S r ≡ Some ss → IsAtomIn S Γ q us → HaveSortsIn S Γ ss us
  atom_sorts Γ r q ss us is declared atom =
      subst (λ zs. HaveSortsIn S Γ zs us) (some_is atom.sorts ss (sym atom.declared ∙ ap (sorts_of S) (same_pred-is q r is) ∙ declared)) atom.terms

  either_way : (F : Formula → Type 0) (b : Bool) (p q : Formula) → (b ≡ true → F p) → (b ≡ false → F q) → F (if b then p else q)
  either_way F true p q first second = first refl
  either_way F false p q first second = second refl

  module _ (R : Relations) (r : Pred) (ss : List Sort) (ts : List Term) (declared : sorts_of S r ≡ Some ss) where
    pub IsSortedIn-add_row : (Γ : Scope) (p : Formula) → HaveSortsIn S Γ ss ts → BindsOutside (vars_of ts) p → IsSortedIn S R Γ p → IsSortedIn S R Γ (add_row p r ts)
    unfolding IsSortedIn
    IsSortedIn-add_row = IsSortedIn-replace R R ss ts (or_row r ts) (λ Γ q us have atom named.
        either_way (IsSortedIn S R Γ) (same_pred q r) (disjunction (f.Atom q us) (same us ts)) (f.Atom q us)
        (λ is. ((atom, named), IsSortedIn-same R Γ ss us ts (atom_sorts Γ r q ss us is declared atom) have)) (λ isnt. (atom, named)))

    pub IsSortedIn-drop_row : (Γ : Scope) (p : Formula) → HaveSortsIn S Γ ss ts → BindsOutside (vars_of ts) p → IsSortedIn S R Γ p → IsSortedIn S R Γ (drop_row p r ts)
    unfolding IsSortedIn
    IsSortedIn-drop_row = IsSortedIn-replace R R ss ts (not_row r ts) (λ Γ q us have atom named.
        either_way (IsSortedIn S R Γ) (same_pred q r) (conjunction (f.Atom q us) (negation (same us ts))) (f.Atom q us)
        (λ is. ((atom, named), IsSortedIn-same R Γ ss us ts (atom_sorts Γ r q ss us is declared atom) have)) (λ isnt. (atom, named)))

  module _ (R : Relations) (ts : List Term) where
    IsSortedIn-floods : (Γ : Scope) (us : List Term) → HaveSortsIn S Γ packet_sorts ts → HaveSortsIn S Γ flow_sorts us → IsSortedIn S R Γ (floods ts us)
    unfolding IsSortedIn HaveSortsIn
    IsSortedIn-floods Γ us have have_too = go ts us have have_too
      where
        go : (ts us : List Term) → HaveSortsIn S Γ packet_sorts ts → HaveSortsIn S Γ flow_sorts us → IsSortedIn S R Γ (floods ts us)
        go (s ∷ a ∷ b ∷ i ∷ []) (u ∷ v ∷ w ∷ j ∷ o ∷ []) (has_s, (has_a, (has_b, (has_i, end)))) (has_u, (has_v, (has_w, (has_j, (has_o, end_too))))) =
            (((Sw, has_u, has_s), ((Ho, has_v, has_a), ((Ho, has_w, has_b), (Pr, has_j, has_i)))), (Pr, has_o, has_i))
        go _ _ have have_too = tt

    pub IsSortedIn-add_flood : (Γ : Scope) (p : Formula) → HaveSortsIn S Γ packet_sorts ts → BindsOutside (vars_of ts) p → IsSortedIn S R Γ p → IsSortedIn S R Γ (add_flood p ts)
    unfolding IsSortedIn
    IsSortedIn-add_flood = IsSortedIn-replace R R packet_sorts ts (or_flood ts) (λ Γ q us have atom named.
        either_way (IsSortedIn S R Γ) (same_pred q Sent) (disjunction (f.Atom q us) (floods ts us)) (f.Atom q us)
        (λ is. ((atom, named), IsSortedIn-floods Γ us have (atom_sorts Γ Sent q flow_sorts us is refl atom))) (λ isnt. (atom, named)))

    IsSortedIn-rule_of : (Γ : Scope) (us : List Term) → HaveSortsIn S Γ packet_sorts ts → HaveSortsIn S Γ flow_sorts us → IsSortedIn S R Γ (rule_of ts us)
    unfolding IsSortedIn HaveSortsIn
    IsSortedIn-rule_of Γ us have have_too = go ts us have have_too
      where
        go : (ts us : List Term) → HaveSortsIn S Γ packet_sorts ts → HaveSortsIn S Γ flow_sorts us → IsSortedIn S R Γ (rule_of ts us)
        go (s ∷ a ∷ b ∷ i ∷ []) (u ∷ v ∷ w ∷ j ∷ o ∷ []) (has_s, (has_a, (has_b, (has_i, end)))) (has_u, (has_v, (has_w, (has_j, (has_o, end_too))))) =
            ((Sw, has_u, has_s), ((Ho, has_v, has_a), ((Ho, has_w, has_b), (Pr, has_j, has_i))))
        go _ _ have have_too = tt

    pub IsSortedIn-drop_match : (Γ : Scope) (p : Formula) → HaveSortsIn S Γ packet_sorts ts → BindsOutside (vars_of ts) p → IsSortedIn S R Γ p → IsSortedIn S R Γ (drop_match p ts)
    unfolding IsSortedIn
    IsSortedIn-drop_match = IsSortedIn-replace R R packet_sorts ts (not_match ts) (λ Γ q us have atom named.
        either_way (IsSortedIn S R Γ) (same_pred q Ft) (conjunction (f.Atom q us) (negation (rule_of ts us))) (f.Atom q us)
        (λ is. ((atom, named), IsSortedIn-rule_of Γ us have (atom_sorts Γ Ft q flow_sorts us is refl atom))) (λ isnt. (atom, named)))

    -- and no atom is of the packet any more
    pub IsSortedIn-fix_packet : (Γ : Scope) (p : Formula) → HaveSortsIn S Γ packet_sorts ts → BindsOutside (vars_of ts) p → IsSortedIn S R Γ p → IsSortedIn S no_rcv_this Γ (fix_packet p ts)
    unfolding IsSortedIn
    IsSortedIn-fix_packet = IsSortedIn-replace R no_rcv_this packet_sorts ts (is_row ts) (λ Γ q us have atom named.
        either_way (IsSortedIn S no_rcv_this Γ) (same_pred q RcvThis) (same us ts) (f.Atom q us)
        (λ is. IsSortedIn-same no_rcv_this Γ packet_sorts us ts (atom_sorts Γ RcvThis q packet_sorts us is refl atom) have) (λ isnt. (atom, isnt)))

  pub IsSortedIn-no_packet : (R : Relations) (Γ : Scope) (p : Formula) → IsSortedIn S R Γ p → IsSortedIn S no_rcv_this Γ (no_packet p)
  unfolding IsSortedIn HaveSortsIn
  IsSortedIn-no_packet R Γ p sorted = IsSortedIn-replace R no_rcv_this [] [] no_row (λ Γ q us have atom named.
      either_way (IsSortedIn S no_rcv_this Γ) (same_pred q RcvThis) f.False (f.Atom q us) (λ is. tt) (λ isnt. (atom, isnt))) Γ p tt (binds_outside (λ v. false) p (λ n i. refl)) sorted
