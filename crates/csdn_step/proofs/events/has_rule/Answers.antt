use Rattle.std.proofs.Common.{◌∙◌, ap, List, ℕ}
use Rattle.std.specs.List.{list_any}
use Rattle.net_structs.specs.Networks.{has}
use Rattle.csdn_step.proofs.Outputs.{rule_is}
use Rattle.csdn_step.proofs.events.has_rule.Goals as goal

pub returns : goal.returns
returns c =
    c.has_port.ensures ∙ ap (λ (ports : List ℕ). list_any (λ o. has c.args.network.now.ports o) ports) (c.as_slice.ensures ∙ c.in_ok-ports.ensures)
    ∙ rule_is c.args.key.now c.args.state.now c.args.network.now.ports
