-- What a command comes to, at what the code writes.
use Rattle.std.specs.Prelude.{◌≡◌, List, if◌then◌else◌, refl}
use Rattle.csdn_core.specs.declared.terms.VarId.{VarId}
use Rattle.csdn_core.specs.declared.terms.RelId.{RelId}
use Rattle.csdn_core.specs.declared.terms.Sort.{Sort}
use Rattle.csdn_core.specs.declared.terms.Sort.TheVariants.{Pr}
use Rattle.csdn_core.specs.declared.terms.Term.{Term}
use Rattle.csdn_core.specs.declared.terms.Pred.TheVariants.{Stored}
use Rattle.csdn_core.specs.declared.program.Parts.{Parts}
use Rattle.csdn_core.specs.declared.syntax.Formula.{Formula}
use Rattle.csdn_core.specs.declared.syntax.Command.{Command}
use Rattle.csdn_core.specs.declared.syntax.Command.TheVariants as c
use Rattle.csdn_core.proofs.Shapes.{Seq-is, If-is, Pick-is}
use Rattle.csdn_core.specs.Truth.{Assignment, with_var}
use Rattle.csdn_core.specs.Network.{Network, elements}
use Rattle.csdn_core.specs.Execution.{put, take_out, is_true, tuple}
use Rattle.csdn_step.specs.declared.setting.Sending.{Sending}
use Rattle.csdn_step.specs.Least.{least}
use Rattle.csdn_step.specs.Courses.{Course, executed, chosen, with_state, installed, uninstalled, forwarded, flooded_on}

module _ (P : Parts) (N : Network) (sending : Sending) (e : Assignment) (w : Course) where
  pub executed-Skip : executed P N sending c.Skip e w ≡ w
  unfolding executed
  executed-Skip = refl

  pub executed-Seq : (a b : Command) → executed P N sending (c.Seq a b) e w ≡ executed P N sending b e (executed P N sending a e w)
  unfolding executed
  executed-Seq a b = rw Seq-is

  pub executed-If : (p : Formula) (a b : Command) → executed P N sending (c.If p a b) e w ≡ (if is_true P N p e w.state then executed P N sending a e w else executed P N sending b e w)
  unfolding executed
  executed-If p a b = rw If-is

  pub executed-Pick : (v : VarId) (s : Sort) (p : Formula) (a b : Command) → executed P N sending (c.Pick v s p a b) e w ≡ chosen (least (λ m. is_true P N p (with_var e v m) w.state) (elements N s)) (λ m. executed P N sending a (with_var e v m) w) (executed P N sending b e w)
  unfolding executed
  executed-Pick v s p a b = rw Pick-is

  pub executed-Insert : (r : RelId) (ts : List Term) → executed P N sending (c.Insert r ts) e w ≡ with_state w (put w.state (Stored r) (tuple P N ts e w.state))
  unfolding executed
  executed-Insert r ts = refl

  pub executed-Remove : (r : RelId) (ts : List Term) → executed P N sending (c.Remove r ts) e w ≡ with_state w (take_out w.state (Stored r) (tuple P N ts e w.state))
  unfolding executed
  executed-Remove r ts = refl

  pub executed-Install : (ts : List Term) → executed P N sending (c.Install ts) e w ≡ installed w (tuple P N ts e w.state)
  unfolding executed
  executed-Install ts = refl

  pub executed-Uninstall : (ts : List Term) → executed P N sending (c.Uninstall ts) e w ≡ uninstalled w (tuple P N ts e w.state)
  unfolding executed
  executed-Uninstall ts = refl

  pub executed-Forward : (ts : List Term) → executed P N sending (c.Forward ts) e w ≡ forwarded sending w (tuple P N ts e w.state)
  unfolding executed
  executed-Forward ts = refl

  pub executed-Flood : (ts : List Term) → executed P N sending (c.Flood ts) e w ≡ flooded_on sending (elements N Pr) w (tuple P N ts e w.state)
  unfolding executed
  executed-Flood ts = refl

pub ruleset course_steps = (executed-Skip, executed-Seq, executed-If, executed-Pick, executed-Insert, executed-Remove, executed-Install, executed-Uninstall, executed-Forward, executed-Flood)
