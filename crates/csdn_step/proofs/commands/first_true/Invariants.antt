use Rattle.std.proofs.Common.{◌≡◌, length}
use Rattle.csdn_core.specs.Truth.{with_var}
use Rattle.csdn_core.specs.Execution.{is_true}
use Rattle.net_structs.specs.Binds.{assignment}
use Rattle.csdn_step.specs.Drafts.{standing}
use Rattle.csdn_step.specs.Least.{first_of}
use Rattle.csdn_step.proofs.commands.first_true.Given as goal

abbrev pub invariant-elements : goal.invariant-elements
invariant-elements l =
    (l.env ≡ l.fn.env)
    × (first_of (λ m. is_true l.setting.program.now l.setting.network.now l.formula (with_var (assignment l.fn.env.pairs) l.var m) (standing l.draft)) l.rest
    ≡ first_of (λ m. is_true l.setting.program.now l.setting.network.now l.formula (with_var (assignment l.fn.env.pairs) l.var m) (standing l.draft)) l.elements)

abbrev pub decreases-elements : goal.decreases-elements
decreases-elements l = length l.rest
