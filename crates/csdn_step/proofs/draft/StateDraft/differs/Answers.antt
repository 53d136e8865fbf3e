use Rattle.std.proofs.Common.{◌∙◌, ap, ◌&&◌, List, ℕ}
use Rattle.std.specs.List.{list_any}
use Rattle.net_structs.specs.Networks.{has}
use Rattle.net_structs.specs.Rows.{held}
use Rattle.csdn_step.specs.Courses.{either_alone, sends}
use Rattle.csdn_step.proofs.Outputs.{differs_is}
use Rattle.csdn_step.proofs.draft.StateDraft.differs.Goals as goal

pub returns : goal.returns
returns c =
    c.is_any_changed.ensures
    ∙ ap (λ (ports : List ℕ). list_any (λ o. has c.args.network.now.ports o && either_alone (sends (held c.args.self.now.added) c.args.key.now o) (sends (held c.args.self.now.gone) c.args.key.now o)) ports)
    (c.as_slice.ensures ∙ c.in_ok-ports.ensures)
    ∙ differs_is c.args.key.now c.args.network.now.ports c.args.self.now.state c.args.self.now.added c.args.self.now.gone c.rises.ensures
