-- Renumbering keeps the number of nodes, and gives the numbers from the first one on.
use Rattle.std.proofs.Common.{◌≡◌, ℕ, ◌+◌, ◌==◌, if◌then◌else◌, List, [], ◌∷◌, ◌++◌, refl, ap, ap₂}
use Rattle.std.proofs.Math.Path.{fun_ext}
use Rattle.csdn_core.specs.declared.syntax.Formula.{Formula}
use Rattle.csdn_core.specs.declared.syntax.Formula.TheVariants as f
use Rattle.csdn_core.specs.Tree.{negation, conjunction, disjunction, implication, equivalence, universal, existential}
use Rattle.csdn_core.specs.Truth.{with_var}
use Rattle.csdn_core.specs.Nodes.{nodes}
use Rattle.fol_forms.specs.declared.renumber.Renaming.{Renaming}
use Rattle.fol_forms.specs.Names.{last_number, new_numbers}
use Rattle.fol_forms.specs.Renumber.{binders, renumbered}

pub nodes-renumbered : (p : Formula) (new : ℕ → ℕ) (k : ℕ) → nodes (renumbered new k p) ≡ nodes p
unfolding nodes renumbered
nodes-renumbered f.True new k = refl
nodes-renumbered f.False new k = refl
nodes-renumbered (f.Atom r ts) new k = refl
nodes-renumbered (f.Same t u) new k = refl
nodes-renumbered (negation p) new k = ap (λ n. n + 1) (nodes-renumbered p new k)
nodes-renumbered (conjunction p q) new k = ap₂ (λ m n. m + n + 1) (nodes-renumbered p new k) (nodes-renumbered q new (k + binders p))
nodes-renumbered (disjunction p q) new k = ap₂ (λ m n. m + n + 1) (nodes-renumbered p new k) (nodes-renumbered q new (k + binders p))
nodes-renumbered (implication p q) new k = ap₂ (λ m n. m + n + 1) (nodes-renumbered p new k) (nodes-renumbered q new (k + binders p))
nodes-renumbered (equivalence p q) new k = ap₂ (λ m n. m + n + 1) (nodes-renumbered p new k) (nodes-renumbered q new (k + binders p))
nodes-renumbered (universal v s p) new k = ap (λ n. n + 1) (nodes-renumbered p (with_var new v k) (k + 1))
nodes-renumbered (existential v s p) new k = ap (λ n. n + 1) (nodes-renumbered p (with_var new v k) (k + 1))

last-push : (n : ℕ) (rs : List Renaming) (r : Renaming) (v : ℕ) → last_number n (rs ++ r ∷ []) v ≡ (if v == r.var.0 then r.number else last_number n rs v)
last-push n [] r v = refl
last-push n (q ∷ rs) r v = last-push (if v == q.var.0 then q.number else n) rs r v

-- one more pair gives its variable its number
pub new_numbers_push : (rs : List Renaming) (r : Renaming) → new_numbers (rs ++ r ∷ []) ≡ with_var (new_numbers rs) r.var r.number
new_numbers_push rs r = fun_ext (λ v. last-push v rs r v)
