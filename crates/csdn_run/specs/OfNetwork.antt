-- What is answered names elements of the network alone.
use Rattle.std.specs.Prelude.{◌≤◌, length, All, Contains}
use Rattle.csdn_core.specs.Network.{Network}
use Rattle.csdn_step.specs.OfNetwork.{IsMatchOf, IsOutOf}
use Rattle.csdn_history.specs.declared.reply.Rule.{Rule}
use Rattle.csdn_history.specs.declared.reply.Reply.{Reply}

-- a rule has ports of the network, each at most once
pub record IsRuleOf (N : Network) (r : Rule) : Type 0 where
  pub key : IsMatchOf N r.key
  pub ports : All (Contains N.ports) r.ports
  pub few : length r.ports ≤ length N.ports

pub record IsReplyOf (N : Network) (reply : Reply) : Type 0 where
  pub rules : All (IsRuleOf N) reply.rules
  pub outs : All (IsOutOf N) reply.outs
