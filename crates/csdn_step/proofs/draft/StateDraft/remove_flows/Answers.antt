use Rattle.std.proofs.Common.{◌∙◌, ap, List, ℕ}
use Rattle.std.proofs.lemmas.Result.{on_ok_weaker}
use Rattle.csdn_step.specs.Drafts.{standing, taken_each}
use Rattle.csdn_step.proofs.Outputs.{all_taken}
use Rattle.csdn_step.proofs.draft.StateDraft.remove_flows.Goals as goal

pub returns-clause-taken : goal.returns-clause-taken
returns-clause-taken c =
    on_ok_weaker c.remove_each.result
    (λ is. is ∙ ap (λ (ports : List ℕ). taken_each c.args.key.now ports (standing c.args.self.now)) (c.as_slice.ensures ∙ c.in_ok-ports.ensures)
    ∙ all_taken c.args.key.now c.args.self.now.state c.args.self.now.gone)
    c.remove_each.ensures.taken
