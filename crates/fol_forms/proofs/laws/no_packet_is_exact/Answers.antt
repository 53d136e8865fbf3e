use Rattle.fol_forms.proofs.Expired.{truth-no_packet}
use Rattle.fol_forms.proofs.laws.no_packet_is_exact.Goals as goal

pub returns : goal.returns
returns c = truth-no_packet
