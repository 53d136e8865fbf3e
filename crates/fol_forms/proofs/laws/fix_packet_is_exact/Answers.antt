use Rattle.fol_forms.proofs.Replaced.{truth-fix_packet}
use Rattle.fol_forms.proofs.laws.fix_packet_is_exact.Goals as goal

pub returns : goal.returns
returns c = truth-fix_packet
