-- A command comes to what the part that is taken comes to.
use Rattle.std.proofs.Common.{◌≡◌, ◌∙◌, sym, ap, ℕ, true, false, if◌then◌else◌}
use Rattle.std.specs.Prelude.{Some, None}
use Rattle.csdn_core.specs.declared.terms.VarId.{VarId}
use Rattle.csdn_core.specs.declared.terms.Sort.{Sort}
use Rattle.csdn_core.specs.declared.program.Parts.{Parts}
use Rattle.csdn_core.specs.declared.syntax.Formula.{Formula}
use Rattle.csdn_core.specs.declared.syntax.Command.{Command}
use Rattle.csdn_core.specs.declared.syntax.Command.TheVariants as c
use Rattle.csdn_core.specs.Truth.{Assignment, with_var}
use Rattle.csdn_core.specs.Network.{Network, elements}
use Rattle.csdn_core.specs.Execution.{is_true}
use Rattle.csdn_step.specs.declared.setting.Sending.{Sending}
use Rattle.csdn_step.specs.Least.{least}
use Rattle.csdn_step.specs.Courses.{Course, executed, chosen}
use Rattle.csdn_step.specs.CourseSteps.{executed-If, executed-Pick}

module _ (P : Parts) (N : Network) (sending : Sending) (e : Assignment) (w : Course) (whole part : Command) where
  abbrev comes : Command → Assignment → Course
  comes k d = executed P N sending k d w

  pub of_then : (p : Formula) (a b : Command) → whole ≡ c.If p a b → part ≡ a → is_true P N p e w.state ≡ true → executed P N sending part e w ≡ executed P N sending whole e w
  of_then p a b is part_is holds =
      ap (λ k. comes k e) part_is ∙ sym (ap (λ k. comes k e) is ∙ executed-If P N sending e w p a b ∙ ap (λ t. if t then comes a e else comes b e) holds)

  pub of_else : (p : Formula) (a b : Command) → whole ≡ c.If p a b → part ≡ b → is_true P N p e w.state ≡ false → executed P N sending part e w ≡ executed P N sending whole e w
  of_else p a b is part_is holds =
      ap (λ k. comes k e) part_is ∙ sym (ap (λ k. comes k e) is ∙ executed-If P N sending e w p a b ∙ ap (λ t. if t then comes a e else comes b e) holds)

  pub of_pick : (v : VarId) (s : Sort) (p : Formula) (a b : Command) (m : ℕ) → whole ≡ c.Pick v s p a b → part ≡ a → least (λ n. is_true P N p (with_var e v n) w.state) (elements N s) ≡ Some m → executed P N sending part (with_var e v m) w ≡ executed P N sending whole e w
  of_pick v s p a b m is part_is found =
      ap (λ k. comes k (with_var e v m)) part_is ∙ sym (ap (λ k. comes k e) is ∙ executed-Pick P N sending e w v s p a b ∙ ap (λ f. chosen f (λ n. comes a (with_var e v n)) (comes b e)) found)

  pub of_none : (v : VarId) (s : Sort) (p : Formula) (a b : Command) → whole ≡ c.Pick v s p a b → part ≡ b → least (λ n. is_true P N p (with_var e v n) w.state) (elements N s) ≡ None → executed P N sending part e w ≡ executed P N sending whole e w
  of_none v s p a b is part_is none =
      ap (λ k. comes k e) part_is ∙ sym (ap (λ k. comes k e) is ∙ executed-Pick P N sending e w v s p a b ∙ ap (λ f. chosen f (λ n. comes a (with_var e v n)) (comes b e)) none)
