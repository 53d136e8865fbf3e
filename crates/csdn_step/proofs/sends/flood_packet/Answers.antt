use Rattle.std.proofs.Common.{◌∙◌, refl}
use Rattle.csdn_step.specs.Drafts.{standing}
use Rattle.csdn_step.proofs.Floods.{flood_goes, flood_ends, none_left}
use Rattle.csdn_step.proofs.sends.flood_packet.Goals as goal

pub ports-preserved : goal.ports-preserved
ports-preserved c = (
  flood_goes (standing c.ports.draft) (standing c.send_other.new.draft) _ _ _ _ _ _ _ c.ports.rest.now c.in-len1-up.len_at_least refl c.in_ok-send_other.ensures.sent c.ports.invariant.0,
  c.in_ok-send_other.ensures.start ∙ c.ports.invariant.1,
)

pub returns-clause-flooded : goal.returns-clause-flooded
returns-clause-flooded c = flood_ends (standing c.ports.draft) _ _ _ _ _ c.ports.rest.now (none_left c.ports.rest.now c.in_default.len_below) c.ports.invariant.0
