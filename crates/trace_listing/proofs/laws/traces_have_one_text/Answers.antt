use Rattle.trace_listing.proofs.OneText.{one_text}
use Rattle.trace_listing.proofs.laws.traces_have_one_text.Goals as goal

pub returns : goal.returns
returns c = one_text
