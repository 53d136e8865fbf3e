-- The clauses of `wp`, at what the code writes.
use Rattle.std.specs.Prelude.{◌≡◌, List, refl}
use Rattle.csdn_core.specs.declared.terms.VarId.{VarId}
use Rattle.csdn_core.specs.declared.terms.RelId.{RelId}
use Rattle.csdn_core.specs.declared.terms.Sort.{Sort}
use Rattle.csdn_core.specs.declared.terms.Term.{Term}
use Rattle.csdn_core.specs.declared.terms.Pred.TheVariants.{Stored, Ft, Sent}
use Rattle.csdn_core.specs.declared.syntax.Formula.{Formula}
use Rattle.csdn_core.specs.declared.syntax.Formula.TheVariants as f
use Rattle.csdn_core.specs.declared.syntax.Command.{Command}
use Rattle.csdn_core.specs.declared.syntax.Command.TheVariants as c
use Rattle.csdn_core.proofs.Shapes.{Seq-is, If-is, Pick-is, Not-is, And-is, Implies-is, Forall-is, Exists-is}
use Rattle.fol_forms.specs.Replace.{add_row, drop_row, add_flood}
use Rattle.csdn_wp.specs.Preconditions.{wp}

pub wp-Skip : (q : Formula) → wp c.Skip q ≡ q
unfolding wp
wp-Skip q = refl

pub wp-Seq : (a b : Command) (q : Formula) → wp (c.Seq a b) q ≡ wp a (wp b q)
unfolding wp
wp-Seq a b q = rw Seq-is

pub wp-If : (p : Formula) (a b : Command) (q : Formula) → wp (c.If p a b) q ≡ f.And (f.Implies p (wp a q)) (f.Implies (f.Not p) (wp b q))
unfolding wp
wp-If p a b q = rw (If-is, And-is, Implies-is, Implies-is, Not-is)

pub wp-Pick : (v : VarId) (s : Sort) (p : Formula) (a b : Command) (q : Formula)
    → wp (c.Pick v s p a b) q ≡ f.And (f.Forall v s (f.Implies p (wp a q))) (f.Implies (f.Not (f.Exists v s p)) (wp b q))
unfolding wp
wp-Pick v s p a b q = rw (Pick-is, And-is, Forall-is, Implies-is, Implies-is, Not-is, Exists-is)

pub wp-Insert : (r : RelId) (ts : List Term) (q : Formula) → wp (c.Insert r ts) q ≡ add_row q (Stored r) ts
unfolding wp
wp-Insert r ts q = refl

pub wp-Remove : (r : RelId) (ts : List Term) (q : Formula) → wp (c.Remove r ts) q ≡ drop_row q (Stored r) ts
unfolding wp
wp-Remove r ts q = refl

pub wp-Install : (ts : List Term) (q : Formula) → wp (c.Install ts) q ≡ add_row q Ft ts
unfolding wp
wp-Install ts q = refl

pub wp-Uninstall : (ts : List Term) (q : Formula) → wp (c.Uninstall ts) q ≡ drop_row q Ft ts
unfolding wp
wp-Uninstall ts q = refl

pub wp-Forward : (ts : List Term) (q : Formula) → wp (c.Forward ts) q ≡ add_row q Sent ts
unfolding wp
wp-Forward ts q = refl

pub wp-Flood : (ts : List Term) (q : Formula) → wp (c.Flood ts) q ≡ add_flood q ts
unfolding wp
wp-Flood ts q = refl

pub ruleset wp_steps = (wp-Skip, wp-Seq, wp-If, wp-Pick, wp-Insert, wp-Remove, wp-Install, wp-Uninstall, wp-Forward, wp-Flood)
