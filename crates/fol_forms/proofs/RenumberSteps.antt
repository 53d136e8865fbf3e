-- Renumbering, at what the code writes.
use Rattle.std.specs.Prelude.{◌≡◌, ℕ, ◌+◌, List, map, refl}
use Rattle.csdn_core.specs.declared.terms.VarId.{VarId}
use Rattle.csdn_core.specs.declared.terms.Sort.{Sort}
use Rattle.csdn_core.specs.declared.terms.Term.{Term}
use Rattle.csdn_core.specs.declared.terms.Pred.{Pred}
use Rattle.csdn_core.specs.declared.syntax.Formula.{Formula}
use Rattle.csdn_core.specs.declared.syntax.Formula.TheVariants as f
use Rattle.csdn_core.proofs.Shapes.{Not-is, And-is, Or-is, Implies-is, Iff-is, Forall-is, Exists-is}
use Rattle.csdn_core.specs.Truth.{with_var}
use Rattle.fol_forms.specs.Renumber.{binders, renamed, renumbered}

module _ (new : ℕ → ℕ) (n : ℕ) where
  pub renumbered-True : renumbered new n f.True ≡ f.True
  unfolding renumbered
  renumbered-True = refl

  pub renumbered-False : renumbered new n f.False ≡ f.False
  unfolding renumbered
  renumbered-False = refl

  pub renumbered-Atom : (r : Pred) (ts : List Term) → renumbered new n (f.Atom r ts) ≡ f.Atom r (map (renamed new) ts)
  unfolding renumbered
  renumbered-Atom r ts = refl

  pub renumbered-Same : (t u : Term) → renumbered new n (f.Same t u) ≡ f.Same (renamed new t) (renamed new u)
  unfolding renumbered
  renumbered-Same t u = refl

  pub renumbered-Not : (p : Formula) → renumbered new n (f.Not p) ≡ f.Not (renumbered new n p)
  unfolding renumbered
  renumbered-Not p = rw (Not-is, Not-is)

  pub renumbered-And : (p q : Formula) → renumbered new n (f.And p q) ≡ f.And (renumbered new n p) (renumbered new (n + binders p) q)
  unfolding renumbered
  renumbered-And p q = rw (And-is, And-is)

  pub renumbered-Or : (p q : Formula) → renumbered new n (f.Or p q) ≡ f.Or (renumbered new n p) (renumbered new (n + binders p) q)
  unfolding renumbered
  renumbered-Or p q = rw (Or-is, Or-is)

  pub renumbered-Implies : (p q : Formula) → renumbered new n (f.Implies p q) ≡ f.Implies (renumbered new n p) (renumbered new (n + binders p) q)
  unfolding renumbered
  renumbered-Implies p q = rw (Implies-is, Implies-is)

  pub renumbered-Iff : (p q : Formula) → renumbered new n (f.Iff p q) ≡ f.Iff (renumbered new n p) (renumbered new (n + binders p) q)
  unfolding renumbered
  renumbered-Iff p q = rw (Iff-is, Iff-is)

  pub renumbered-Forall : (v : VarId) (k : Sort) (p : Formula) → renumbered new n (f.Forall v k p) ≡ f.Forall (record { 0 = n }) k (renumbered (with_var new v n) (n + 1) p)
  unfolding renumbered
  renumbered-Forall v k p = rw (Forall-is, Forall-is)

  pub renumbered-Exists : (v : VarId) (k : Sort) (p : Formula) → renumbered new n (f.Exists v k p) ≡ f.Exists (record { 0 = n }) k (renumbered (with_var new v n) (n + 1) p)
  unfolding renumbered
  renumbered-Exists v k p = rw (Exists-is, Exists-is)

pub binders-True : binders f.True ≡ 0
unfolding binders
binders-True = refl

pub binders-False : binders f.False ≡ 0
unfolding binders
binders-False = refl

pub binders-Atom : (r : Pred) (ts : List Term) → binders (f.Atom r ts) ≡ 0
unfolding binders
binders-Atom r ts = refl

pub binders-Same : (t u : Term) → binders (f.Same t u) ≡ 0
unfolding binders
binders-Same t u = refl

pub binders-Not : (p : Formula) → binders (f.Not p) ≡ binders p
unfolding binders
binders-Not p = rw Not-is

pub binders-And : (p q : Formula) → binders (f.And p q) ≡ binders p + binders q
unfolding binders
binders-And p q = rw And-is

pub binders-Or : (p q : Formula) → binders (f.Or p q) ≡ binders p + binders q
unfolding binders
binders-Or p q = rw Or-is

pub binders-Implies : (p q : Formula) → binders (f.Implies p q) ≡ binders p + binders q
unfolding binders
binders-Implies p q = rw Implies-is

pub binders-Iff : (p q : Formula) → binders (f.Iff p q) ≡ binders p + binders q
unfolding binders
binders-Iff p q = rw Iff-is

pub binders-Forall : (v : VarId) (k : Sort) (p : Formula) → binders (f.Forall v k p) ≡ 1 + binders p
unfolding binders
binders-Forall v k p = rw Forall-is

pub binders-Exists : (v : VarId) (k : Sort) (p : Formula) → binders (f.Exists v k p) ≡ 1 + binders p
unfolding binders
binders-Exists v k p = rw Exists-is

pub ruleset renumber_steps = (renumbered-True, renumbered-False, renumbered-Atom, renumbered-Same, renumbered-Not, renumbered-And, renumbered-Or, renumbered-Implies, renumbered-Iff, renumbered-Forall, renumbered-Exists)

pub ruleset binder_steps = (binders-True, binders-False, binders-Atom, binders-Same, binders-Not, binders-And, binders-Or, binders-Implies, binders-Iff, binders-Forall, binders-Exists)
