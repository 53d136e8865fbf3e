-- How an execution is made, at what the code writes.
use Rattle.std.specs.Prelude.{◌≡◌, ℕ, List, Contains, IsTrue, IsFalse}
use Rattle.std.proofs.Common.{inl, inr}
use Rattle.csdn_core.specs.declared.terms.VarId.{VarId}
use Rattle.csdn_core.specs.declared.terms.RelId.{RelId}
use Rattle.csdn_core.specs.declared.terms.Sort.{Sort}
use Rattle.csdn_core.specs.declared.terms.Sort.TheVariants.{Pr}
use Rattle.csdn_core.specs.declared.terms.Term.{Term}
use Rattle.csdn_core.specs.declared.terms.Pred.TheVariants.{Stored, Ft, Sent}
use Rattle.csdn_core.specs.declared.program.Parts.{Parts}
use Rattle.csdn_core.specs.declared.syntax.Formula.{Formula}
use Rattle.csdn_core.specs.declared.syntax.Command.{Command}
use Rattle.csdn_core.specs.declared.syntax.Command.TheVariants as c
use Rattle.csdn_core.proofs.Shapes.{Seq-is, If-is, Pick-is}
use Rattle.csdn_core.specs.Truth.{Assignment, with_var}
use Rattle.csdn_core.specs.Network.{Network, State, elements}
use Rattle.csdn_core.specs.Execution.{put, take_out, flooded, is_true, tuple, Executes}

module _ (P : Parts) (N : Network) (e : Assignment) (x y : State) where
  pub runs-Skip : y ≡ x → Executes P N c.Skip e x y
  unfolding Executes
  runs-Skip is = is

  pub runs-Seq : (a b : Command) (z : State) → Executes P N a e x z → Executes P N b e z y → Executes P N (c.Seq a b) e x y
  unfolding Executes
  runs-Seq a b z to_z to_y = rw Seq-is (z, to_z, to_y)

  pub runs-then : (p : Formula) (a b : Command) → IsTrue (is_true P N p e x) → Executes P N a e x y → Executes P N (c.If p a b) e x y
  unfolding Executes
  runs-then p a b is to_y = rw If-is (inl (is, to_y))

  pub runs-else : (p : Formula) (a b : Command) → IsFalse (is_true P N p e x) → Executes P N b e x y → Executes P N (c.If p a b) e x y
  unfolding Executes
  runs-else p a b isnt to_y = rw If-is (inr (isnt, to_y))

  pub runs-pick : (v : VarId) (s : Sort) (p : Formula) (a b : Command) (m : ℕ) → Contains (elements N s) m → IsTrue (is_true P N p (with_var e v m) x) → Executes P N a (with_var e v m) x y → Executes P N (c.Pick v s p a b) e x y
  unfolding Executes
  runs-pick v s p a b m there is to_y = rw Pick-is (inl (m, there, is, to_y))

  pub runs-none : (v : VarId) (s : Sort) (p : Formula) (a b : Command) → ((m : ℕ) → Contains (elements N s) m → IsFalse (is_true P N p (with_var e v m) x)) → Executes P N b e x y → Executes P N (c.Pick v s p a b) e x y
  unfolding Executes
  runs-none v s p a b none to_y = rw Pick-is (inr (none, to_y))

  pub runs-Insert : (r : RelId) (ts : List Term) → y ≡ put x (Stored r) (tuple P N ts e x) → Executes P N (c.Insert r ts) e x y
  unfolding Executes
  runs-Insert r ts is = is

  pub runs-Remove : (r : RelId) (ts : List Term) → y ≡ take_out x (Stored r) (tuple P N ts e x) → Executes P N (c.Remove r ts) e x y
  unfolding Executes
  runs-Remove r ts is = is

  pub runs-Install : (ts : List Term) → y ≡ put x Ft (tuple P N ts e x) → Executes P N (c.Install ts) e x y
  unfolding Executes
  runs-Install ts is = is

  pub runs-Uninstall : (ts : List Term) → y ≡ take_out x Ft (tuple P N ts e x) → Executes P N (c.Uninstall ts) e x y
  unfolding Executes
  runs-Uninstall ts is = is

  pub runs-Forward : (ts : List Term) → y ≡ put x Sent (tuple P N ts e x) → Executes P N (c.Forward ts) e x y
  unfolding Executes
  runs-Forward ts is = is

  pub runs-Flood : (ts : List Term) → y ≡ flooded x (elements N Pr) (tuple P N ts e x) → Executes P N (c.Flood ts) e x y
  unfolding Executes
  runs-Flood ts is = is

pub ruleset runs = (runs-Skip, runs-Seq, runs-then, runs-else, runs-pick, runs-none, runs-Insert, runs-Remove, runs-Install, runs-Uninstall, runs-Forward, runs-Flood)
