-- Truth once a packet was flooded, where the fifth terms of `sent` are ports.
use Rattle.std.proofs.Common.{◌≡◌, ℕ, ◌==◌, Bool, true, false, not, ◌&&◌, ◌||◌, List, [], ◌∷◌, refl, ap, sym, ◌∙◌, IsTrue, Contains, arith}
use Rattle.std.proofs.Math.Bool.{or-false}
use Rattle.std.specs.List.{list_any}
use Rattle.std.specs.Cmp.{both_ways}
use Rattle.std.proofs.lemmas.List.Folds.{list_any_at, Any-from_list_any}
use Rattle.csdn_core.specs.declared.terms.Sort.TheVariants.{Pr}
use Rattle.csdn_core.specs.declared.terms.Term.{Term}
use Rattle.csdn_core.specs.declared.terms.Term.TheVariants.{Var, Const, Port}
use Rattle.csdn_core.specs.declared.terms.Pred.{Pred}
use Rattle.csdn_core.specs.declared.terms.Pred.TheVariants.{Sent}
use Rattle.csdn_core.specs.declared.syntax.Formula.{Formula}
use Rattle.csdn_core.specs.Truth.{Structure, Assignment, truth, value, values}
use Rattle.csdn_core.specs.Network.{same_pred, same_cells}
use Rattle.csdn_core.specs.Execution.{is_flood}
use Rattle.csdn_core.specs.Variables.{vars_of, BindsOutside}
use Rattle.csdn_core.specs.SortedIn.{Scope}
use Rattle.fol_forms.specs.Replace.{floods, or_flood, add_flood}
use Rattle.fol_forms.specs.Substitution.{Agrees, KeepsSorts, IsPort, HasEgress, SendsToPorts, with_flood}
use Rattle.fol_forms.proofs.Replaced.{values-Agrees, AllAtoms-map, IsRight, truth-replace}

module _ (u v w j o s a b i : ℕ) where
  test_of : ℕ → Bool
  test_of p = not (p == i) && same_cells (u ∷ v ∷ w ∷ j ∷ o ∷ []) (s ∷ a ∷ b ∷ i ∷ p ∷ [])

  its_own : Bool
  its_own = ((u == s) && ((v == a) && ((w == b) && (j == i)))) && not (o == i)

  at_own : its_own ≡ true → test_of o ≡ true
  unfolding its_own test_of
  at_own h = grind arith

  from_test : (p : ℕ) → test_of p ≡ true → its_own ≡ true
  unfolding its_own test_of
  from_test p h = grind arith

  flood_test : (ports : List ℕ) → Contains ports o → its_own ≡ list_any test_of ports
  flood_test ports there = both_ways its_own (list_any test_of ports)
      (λ h. list_any_at test_of ports there.0 o there.1 (ap test_of there.2 ∙ at_own h))
      (λ h. let m = Any-from_list_any test_of ports h in from_test m.1 m.4)

port_value : (M : Structure) (Γ : Scope) (d : Assignment) (t : Term) → KeepsSorts M Γ d → IsPort M Γ t → Contains (M.elements Pr) (value M d t)
port_value M Γ d (Var v) keeps ported = keeps v.0 Pr ported
port_value M Γ d (Const c) keeps ported = ported
port_value M Γ d (Port k) keeps ported = ported

module _ (M : Structure) (e : Assignment) (s a b i : Term) where
  abbrev terms : List Term
  terms = s ∷ a ∷ b ∷ i ∷ []

  abbrev with_it : Pred → List ℕ → Bool
  with_it q ds = M.holds q ds || (same_pred q Sent && is_flood (M.elements Pr) (values M e terms) ds)

  floods_is : (Γ : Scope) (us : List Term) → HasEgress M Γ us → (d : Assignment) → Agrees (vars_of terms) e d → KeepsSorts M Γ d → truth M (floods terms us) d ≡ is_flood (M.elements Pr) (values M e terms) (values M d us)
  unfolding truth its_own test_of
  floods_is Γ (u ∷ v ∷ w ∷ j ∷ o ∷ []) ported d same keeps =
      flood_test (value M d u) (value M d v) (value M d w) (value M d j) (value M d o) (value M d s) (value M d a) (value M d b) (value M d i) (M.elements Pr) (port_value M Γ d o keeps ported)
      ∙ ap (λ cells. is_flood (M.elements Pr) cells (values M d (u ∷ v ∷ w ∷ j ∷ o ∷ []))) (values-Agrees M e d terms same)
  floods_is Γ _ ported d same keeps = absurd ported

  or_flood_right : (Γ : Scope) (q : Pred) (us : List Term) → (IsTrue (same_pred q Sent) → HasEgress M Γ us) → IsRight M (or_flood terms) with_it (vars_of terms) e Γ q us
  unfolding truth
  or_flood_right Γ q us ported d same keeps = go (same_pred q Sent) refl
    where
      go : (b : Bool) → same_pred q Sent ≡ b → truth M (or_flood terms q us) d ≡ with_it q (values M d us)
      go true is = rw (is, floods_is Γ us (ported is) d same keeps)
      go false isnt = rw isnt (sym (or-false _))

  -- once the packet was flooded
  pub truth-add_flood : (Γ : Scope) (p : Formula) → SendsToPorts M Γ p → BindsOutside (vars_of terms) p → KeepsSorts M Γ e → truth M (add_flood p terms) e ≡ truth (with_flood M (values M e terms)) p e
  truth-add_flood Γ p ported out keeps =
      truth-replace M (or_flood terms) with_it (vars_of terms) e p Γ
      (AllAtoms-map (λ Δ q us. IsTrue (same_pred q Sent) → HasEgress M Δ us) (IsRight M (or_flood terms) with_it (vars_of terms) e) or_flood_right Γ p ported) out e (λ v in_s. refl) keeps
