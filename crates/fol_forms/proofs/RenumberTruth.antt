-- New numbers of bound variables keep the truth.
use Rattle.std.proofs.Common.{◌≡◌, ℕ, ◌+◌, ◌<◌, ◌==◌, Bool, true, false, not, ◌&&◌, ◌||◌, cond, List, [], ◌∷◌, map, refl, ap, ap₂, IsTrue, arith}
use Rattle.std.proofs.Math.Path.{fun_ext}
use Rattle.std.specs.List.{list_all, list_any}
use Rattle.std.proofs.lemmas.Bool.{or_left, or_right}
use Rattle.general_facts.proofs.Numbers.{self_equal}
use Rattle.csdn_core.specs.declared.terms.VarId.{VarId}
use Rattle.csdn_core.specs.declared.terms.Term.{Term}
use Rattle.csdn_core.specs.declared.terms.Term.TheVariants.{Var, Const, Port}
use Rattle.csdn_core.specs.declared.syntax.Formula.{Formula}
use Rattle.csdn_core.specs.declared.syntax.Formula.TheVariants as f
use Rattle.csdn_core.specs.Tree.{negation, conjunction, disjunction, implication, equivalence, universal, existential}
use Rattle.csdn_core.specs.Truth.{Structure, Assignment, truth, value, values, with_var, same_truth}
use Rattle.csdn_core.specs.Variables.{Variables, vars_of, is_var, free_in}
use Rattle.fol_forms.specs.Renumber.{binders, renamed, renumbered, renumber}

-- the new numbers of the variables of a set are below k, and they stand for what the old ones do
pub record Follows (s : Variables) (new : ℕ → ℕ) (k : ℕ) (e d : Assignment) : Type 0 where
  pub below : (v : ℕ) → IsTrue (s v) → new v < k
  pub same : (v : ℕ) → IsTrue (s v) → d (new v) ≡ e v

pub left_of : (s t : Variables) {new : ℕ → ℕ} {k : ℕ} {e d : Assignment} → Follows (λ v. s v || t v) new k e d → Follows s new k e d
left_of s t w = record { below = λ v h. w.below v (or_left (s v) (t v) h); same = λ v h. w.same v (or_left (s v) (t v) h) }

pub right_of : (s t : Variables) {new : ℕ → ℕ} {k : ℕ} {e d : Assignment} (more : ℕ) → Follows (λ v. s v || t v) new k e d → Follows t new (k + more) e d
right_of s t more w = record {
  below = λ v h. let b = w.below v (or_right (s v) (t v) h) in omega (arith, b);
  same = λ v h. w.same v (or_right (s v) (t v) h);
}

pub under_binder : (s : Variables) (new : ℕ → ℕ) (k : ℕ) (e d : Assignment) (v : VarId) (m : ℕ) → Follows (λ w. not (w == v.0) && s w) new k e d → Follows s (with_var new v k) (k + 1) (with_var e v m) (with_var d (record { 0 = k }) m)
under_binder s new k e d v m f = record { below = λ w h. below w h (w == v.0) refl; same = λ w h. same w h (w == v.0) refl }
  where
    below : (w : ℕ) → IsTrue (s w) → (b : Bool) → (w == v.0) ≡ b → cond b k (new w) < k + 1
    below w h true is = omega arith
    below w h false is = let b : new w < k = f.below w (rw (is, h)) in omega arith

    same : (w : ℕ) → IsTrue (s w) → (b : Bool) → (w == v.0) ≡ b → cond (cond b k (new w) == k) m (d (cond b k (new w))) ≡ cond b m (e w)
    same w h true is = rw (self_equal k)
    same w h false is = let b : new w < k = f.below w (rw (is, h)) in let other : (new w == k) ≡ false = grind arith in rw other (f.same w (rw (is, h)))

module _ (M : Structure) where
  value-renamed : (new : ℕ → ℕ) (k : ℕ) (e d : Assignment) (t : Term) → Follows (is_var t) new k e d → value M d (renamed new t) ≡ value M e t
  value-renamed new k e d (Var v) w = w.same v.0 (self_equal v.0)
  value-renamed new k e d (Const c) w = refl
  value-renamed new k e d (Port p) w = refl

  values-renamed : (new : ℕ → ℕ) (k : ℕ) (e d : Assignment) (ts : List Term) → Follows (vars_of ts) new k e d → values M d (map (renamed new) ts) ≡ values M e ts
  values-renamed new k e d [] w = refl
  values-renamed new k e d (t ∷ ts) w =
      ap₂ (λ a b. a ∷ b) (value-renamed new k e d t (left_of (is_var t) (vars_of ts) w)) (values-renamed new (k + 0) e d ts (right_of (is_var t) (vars_of ts) 0 w))

  pub truth-renumbered : (p : Formula) (new : ℕ → ℕ) (k : ℕ) (e d : Assignment) → Follows (free_in p) new k e d → truth M (renumbered new k p) d ≡ truth M p e
  unfolding truth renumbered free_in
  truth-renumbered f.True new k e d w = refl
  truth-renumbered f.False new k e d w = refl
  truth-renumbered (f.Atom r ts) new k e d w = ap (M.holds r) (values-renamed new k e d ts w)
  truth-renumbered (f.Same t u) new k e d w = ap₂ (λ a b. a == b) (value-renamed new k e d t (left_of (is_var t) (is_var u) w)) (value-renamed new (k + 0) e d u (right_of (is_var t) (is_var u) 0 w))
  truth-renumbered (negation p) new k e d w = ap not (truth-renumbered p new k e d w)
  truth-renumbered (conjunction p q) new k e d w = ap₂ (λ a b. a && b) (truth-renumbered p new k e d (left_of (free_in p) (free_in q) w)) (truth-renumbered q new (k + binders p) e d (right_of (free_in p) (free_in q) (binders p) w))
  truth-renumbered (disjunction p q) new k e d w = ap₂ (λ a b. a || b) (truth-renumbered p new k e d (left_of (free_in p) (free_in q) w)) (truth-renumbered q new (k + binders p) e d (right_of (free_in p) (free_in q) (binders p) w))
  truth-renumbered (implication p q) new k e d w = ap₂ (λ a b. not a || b) (truth-renumbered p new k e d (left_of (free_in p) (free_in q) w)) (truth-renumbered q new (k + binders p) e d (right_of (free_in p) (free_in q) (binders p) w))
  truth-renumbered (equivalence p q) new k e d w = ap₂ same_truth (truth-renumbered p new k e d (left_of (free_in p) (free_in q) w)) (truth-renumbered q new (k + binders p) e d (right_of (free_in p) (free_in q) (binders p) w))
  truth-renumbered (universal v s p) new k e d w =
      ap (λ test. list_all test (M.elements s)) (fun_ext (λ m. truth-renumbered p (with_var new v k) (k + 1) (with_var e v m) (with_var d (record { 0 = k }) m) (under_binder (free_in p) new k e d v m w)))
  truth-renumbered (existential v s p) new k e d w =
      ap (λ test. list_any test (M.elements s)) (fun_ext (λ m. truth-renumbered p (with_var new v k) (k + 1) (with_var e v m) (with_var d (record { 0 = k }) m) (under_binder (free_in p) new k e d v m w)))

  -- no free variable has a number from k on
  pub truth-renumber : (p : Formula) (k : ℕ) (e : Assignment) → ((v : ℕ) → IsTrue (free_in p v) → v < k) → truth M (renumber p k) e ≡ truth M p e
  truth-renumber p k e below = truth-renumbered p (λ v. v) k e e (record { below = below; same = λ v h. refl })
