-- Truth of a formula in which atoms were replaced, by induction.
use Rattle.std.proofs.Common.{◌≡◌, ℕ, ◌==◌, Bool, true, false, not, ◌&&◌, ◌||◌, cond, List, [], ◌∷◌, length, Some, Contains, refl, ap, ap₂, sym, subst, ◌∙◌, IsFalse, arith, true≢false}
use Rattle.std.proofs.Math.Bool.{and-true, or-false}
use Rattle.std.proofs.lemmas.Bool.{or_left, or_right}
use Rattle.general_facts.proofs.Lists.{list_all-same, list_any-same}
use Rattle.general_facts.proofs.Numbers.{self_equal}
use Rattle.std.proofs.lemmas.Option.{same_Some, none-some}
use Rattle.csdn_core.specs.declared.terms.VarId.{VarId}
use Rattle.csdn_core.specs.declared.terms.Sort.{Sort}
use Rattle.csdn_core.specs.declared.terms.Term.{Term}
use Rattle.csdn_core.specs.declared.terms.Term.TheVariants.{Var, Const, Port}
use Rattle.csdn_core.specs.declared.terms.Pred.{Pred}
use Rattle.csdn_core.specs.declared.terms.Pred.TheVariants.{RcvThis}
use Rattle.csdn_core.specs.declared.syntax.Formula.{Formula}
use Rattle.csdn_core.specs.declared.syntax.Formula.TheVariants as f
use Rattle.csdn_core.specs.Tree.{negation, conjunction, disjunction, implication, equivalence, universal, existential}
use Rattle.csdn_core.specs.Truth.{Structure, Assignment, truth, value, values, with_var, same_truth}
use Rattle.csdn_core.specs.Network.{same_pred, same_cells}
use Rattle.csdn_core.specs.Variables.{Variables, vars_of, is_var, BindsOutside}
use Rattle.csdn_core.specs.SortedIn.{Scope, no_scope, with_sort}
use Rattle.fol_forms.specs.Replace.{replace, same, or_row, add_row, not_row, drop_row, is_row, fix_packet}
use Rattle.fol_forms.specs.Substitution.{with_relations, with_row, without_row, with_packet, AllAtoms, AllFit, Agrees, FitsRow, KeepsSorts}

-- a variable that is bound outside the set may stand for anything
pub Agrees-with_var : (s : Variables) (e d : Assignment) (v : VarId) (m : ℕ) → IsFalse (s v.0) → Agrees s e d → Agrees s e (with_var d v m)
Agrees-with_var s e d v m out same w in_s = go (w == v.0) refl
  where
    go : (b : Bool) → (w == v.0) ≡ b → cond b m (d w) ≡ e w
    go true same_var = absurd (true≢false (sym in_s ∙ ap s (grind arith) ∙ out))
    go false other = same w in_s

pub value-with_relations : (M : Structure) (h : Pred → List ℕ → Bool) (d : Assignment) (t : Term) → value M d t ≡ value (with_relations M h) d t
value-with_relations M h d (Var v) = refl
value-with_relations M h d (Const c) = refl
value-with_relations M h d (Port k) = refl

pub values-with_relations : (M : Structure) (h : Pred → List ℕ → Bool) (d : Assignment) (ts : List Term) → values M d ts ≡ values (with_relations M h) d ts
values-with_relations M h d [] = refl
values-with_relations M h d (t ∷ ts) = ap₂ (λ a b. a ∷ b) (value-with_relations M h d t) (values-with_relations M h d ts)

-- the value of a term depends on its variables alone
pub value-Agrees : (M : Structure) (e d : Assignment) (t : Term) → Agrees (is_var t) e d → value M d t ≡ value M e t
value-Agrees M e d (Var v) same = same v.0 (self_equal v.0)
value-Agrees M e d (Const c) same = refl
value-Agrees M e d (Port k) same = refl

pub values-Agrees : (M : Structure) (e d : Assignment) (ts : List Term) → Agrees (vars_of ts) e d → values M d ts ≡ values M e ts
values-Agrees M e d [] same = refl
values-Agrees M e d (t ∷ ts) same =
    ap₂ (λ a b. a ∷ b) (value-Agrees M e d t (λ v in_t. same v (or_left _ _ in_t))) (values-Agrees M e d ts (λ v in_ts. same v (or_right _ _ in_ts)))

-- an element of its sort keeps the sorts in scope
pub KeepsSorts-with : (M : Structure) (Γ : Scope) (d : Assignment) (v : VarId) (s : Sort) (m : ℕ) → KeepsSorts M Γ d → Contains (M.elements s) m → KeepsSorts M (with_sort Γ v s) (with_var d v m)
KeepsSorts-with M Γ d v s m keeps there w k = go (w == v.0)
  where
    go : (b : Bool) → cond b (Some s) (Γ w) ≡ Some k → Contains (M.elements k) (cond b m (d w))
    go true is = subst (λ z. Contains (M.elements z) m) (same_Some s k is) there
    go false is = keeps w k is

pub KeepsSorts-none : (M : Structure) (e : Assignment) → KeepsSorts M no_scope e
KeepsSorts-none M e v s is = absurd (none-some s is)

module _ (M : Structure) (g : Pred → List Term → Formula) (h : Pred → List ℕ → Bool) (s : Variables) (e : Assignment) where
  -- what g gives for an atom is true where h holds of its tuple
  abbrev pub IsRight : Scope → Pred → List Term → Type 0
  IsRight Γ r us = (d : Assignment) → Agrees s e d → KeepsSorts M Γ d → truth M (g r us) d ≡ h r (values M d us)

  pub truth-replace : (p : Formula) (Γ : Scope) → AllAtoms IsRight Γ p → BindsOutside s p → (d : Assignment) → Agrees s e d → KeepsSorts M Γ d → truth M (replace g p) d ≡ truth (with_relations M h) p d
  unfolding truth replace AllAtoms BindsOutside
  truth-replace f.True Γ right out d same keeps = refl
  truth-replace f.False Γ right out d same keeps = refl
  truth-replace (f.Atom r us) Γ right out d same keeps = right d same keeps ∙ ap (h r) (values-with_relations M h d us)
  truth-replace (f.Same t u) Γ right out d same keeps = ap₂ (λ a b. a == b) (value-with_relations M h d t) (value-with_relations M h d u)
  truth-replace (negation p) Γ right out d same keeps = ap not (truth-replace p Γ right out d same keeps)
  truth-replace (conjunction p q) Γ right out d same keeps = ap₂ (λ a b. a && b) (truth-replace p Γ right.0 out.0 d same keeps) (truth-replace q Γ right.1 out.1 d same keeps)
  truth-replace (disjunction p q) Γ right out d same keeps = ap₂ (λ a b. a || b) (truth-replace p Γ right.0 out.0 d same keeps) (truth-replace q Γ right.1 out.1 d same keeps)
  truth-replace (implication p q) Γ right out d same keeps = ap₂ (λ a b. not a || b) (truth-replace p Γ right.0 out.0 d same keeps) (truth-replace q Γ right.1 out.1 d same keeps)
  truth-replace (equivalence p q) Γ right out d same keeps = ap₂ same_truth (truth-replace p Γ right.0 out.0 d same keeps) (truth-replace q Γ right.1 out.1 d same keeps)
  truth-replace (universal v sort p) Γ right out d same keeps =
      list_all-same _ _ (M.elements sort) (λ m there. truth-replace p (with_sort Γ v sort) right out.1 (with_var d v m) (Agrees-with_var s e d v m out.0 same) (KeepsSorts-with M Γ d v sort m keeps there))
  truth-replace (existential v sort p) Γ right out d same keeps =
      list_any-same _ _ (M.elements sort) (λ m there. truth-replace p (with_sort Γ v sort) right out.1 (with_var d v m) (Agrees-with_var s e d v m out.0 same) (KeepsSorts-with M Γ d v sort m keeps there))

-- the equations of two lists of terms say that the tuples are the same
pub truth-same : (M : Structure) (d : Assignment) (us ts : List Term) → length us ≡ length ts → truth M (same us ts) d ≡ same_cells (values M d us) (values M d ts)
unfolding truth
truth-same M d [] [] long = refl
truth-same M d (u ∷ []) (t ∷ []) long = sym (and-true _)
truth-same M d (u ∷ v ∷ us) (t ∷ w ∷ ts) long = ap (λ b. (value M d u == value M d t) && b) (truth-same M d (v ∷ us) (w ∷ ts) (omega arith))
truth-same M d [] (t ∷ ts) long = absurd (omega arith)
truth-same M d (u ∷ us) [] long = absurd (omega arith)
truth-same M d (u ∷ []) (t ∷ w ∷ ts) long = absurd (omega arith)
truth-same M d (u ∷ v ∷ us) (t ∷ []) long = absurd (omega arith)

pub AllAtoms-map : (A B : Scope → Pred → List Term → Type 0) → ((Γ : Scope) (r : Pred) (us : List Term) → A Γ r us → B Γ r us) → (Γ : Scope) (p : Formula) → AllAtoms A Γ p → AllAtoms B Γ p
unfolding AllAtoms
AllAtoms-map A B to Γ f.True all = tt
AllAtoms-map A B to Γ f.False all = tt
AllAtoms-map A B to Γ (f.Atom r us) all = to Γ r us all
AllAtoms-map A B to Γ (f.Same t u) all = tt
AllAtoms-map A B to Γ (negation p) all = AllAtoms-map A B to Γ p all
AllAtoms-map A B to Γ (conjunction p q) all = (AllAtoms-map A B to Γ p all.0, AllAtoms-map A B to Γ q all.1)
AllAtoms-map A B to Γ (disjunction p q) all = (AllAtoms-map A B to Γ p all.0, AllAtoms-map A B to Γ q all.1)
AllAtoms-map A B to Γ (implication p q) all = (AllAtoms-map A B to Γ p all.0, AllAtoms-map A B to Γ q all.1)
AllAtoms-map A B to Γ (equivalence p q) all = (AllAtoms-map A B to Γ p all.0, AllAtoms-map A B to Γ q all.1)
AllAtoms-map A B to Γ (universal v s p) all = AllAtoms-map A B to (with_sort Γ v s) p all
AllAtoms-map A B to Γ (existential v s p) all = AllAtoms-map A B to (with_sort Γ v s) p all

module _ (M : Structure) (r : Pred) (ts : List Term) (e : Assignment) where
  abbrev with_it : Pred → List ℕ → Bool
  with_it q ds = M.holds q ds || (same_pred q r && same_cells ds (values M e ts))

  or_row_right : (Γ : Scope) (q : Pred) (us : List Term) → FitsRow r (length ts) q us → IsRight M (or_row r ts) with_it (vars_of ts) e Γ q us
  unfolding truth
  or_row_right Γ q us fits d same_vars keeps = go (same_pred q r) refl
    where
      go : (b : Bool) → same_pred q r ≡ b → truth M (or_row r ts q us) d ≡ with_it q (values M d us)
      go true is = rw (is, truth-same M d us ts (fits is), values-Agrees M e d ts same_vars)
      go false isnt = rw isnt (sym (or-false _))

  -- once the tuple is in the relation
  pub truth-add_row : (p : Formula) → AllFit r (length ts) p → BindsOutside (vars_of ts) p → truth M (add_row p r ts) e ≡ truth (with_row M r (values M e ts)) p e
  truth-add_row p fits out =
      truth-replace M (or_row r ts) with_it (vars_of ts) e p no_scope (AllAtoms-map (λ Γ. FitsRow r (length ts)) (IsRight M (or_row r ts) with_it (vars_of ts) e) or_row_right no_scope p fits) out e (λ v in_s. refl) (KeepsSorts-none M e)

module _ (M : Structure) (r : Pred) (ts : List Term) (e : Assignment) where
  abbrev without_it : Pred → List ℕ → Bool
  without_it q ds = M.holds q ds && not (same_pred q r && same_cells ds (values M e ts))

  not_row_right : (Γ : Scope) (q : Pred) (us : List Term) → FitsRow r (length ts) q us → IsRight M (not_row r ts) without_it (vars_of ts) e Γ q us
  unfolding truth
  not_row_right Γ q us fits d same_vars keeps = go (same_pred q r) refl
    where
      go : (b : Bool) → same_pred q r ≡ b → truth M (not_row r ts q us) d ≡ without_it q (values M d us)
      go true is = rw (is, truth-same M d us ts (fits is), values-Agrees M e d ts same_vars)
      go false isnt = rw isnt (sym (and-true _))

  -- once the tuple is out of the relation
  pub truth-drop_row : (p : Formula) → AllFit r (length ts) p → BindsOutside (vars_of ts) p → truth M (drop_row p r ts) e ≡ truth (without_row M r (values M e ts)) p e
  truth-drop_row p fits out =
      truth-replace M (not_row r ts) without_it (vars_of ts) e p no_scope (AllAtoms-map (λ Γ. FitsRow r (length ts)) (IsRight M (not_row r ts) without_it (vars_of ts) e) not_row_right no_scope p fits) out e (λ v in_s. refl) (KeepsSorts-none M e)

module _ (M : Structure) (ts : List Term) (e : Assignment) where
  abbrev as_packet : Pred → List ℕ → Bool
  as_packet q ds = cond (same_pred q RcvThis) (same_cells ds (values M e ts)) (M.holds q ds)

  is_row_right : (Γ : Scope) (q : Pred) (us : List Term) → FitsRow RcvThis (length ts) q us → IsRight M (is_row ts) as_packet (vars_of ts) e Γ q us
  unfolding truth
  is_row_right Γ q us fits d same_vars keeps = go (same_pred q RcvThis) refl
    where
      go : (b : Bool) → same_pred q RcvThis ≡ b → truth M (is_row ts q us) d ≡ as_packet q (values M d us)
      go true is = rw (is, truth-same M d us ts (fits is), values-Agrees M e d ts same_vars)
      go false isnt = rw isnt

  -- when the packet is the tuple
  pub truth-fix_packet : (p : Formula) → AllFit RcvThis (length ts) p → BindsOutside (vars_of ts) p → truth M (fix_packet p ts) e ≡ truth (with_packet M (values M e ts)) p e
  truth-fix_packet p fits out =
      truth-replace M (is_row ts) as_packet (vars_of ts) e p no_scope (AllAtoms-map (λ Γ. FitsRow RcvThis (length ts)) (IsRight M (is_row ts) as_packet (vars_of ts) e) is_row_right no_scope p fits) out e (λ v in_s. refl) (KeepsSorts-none M e)
