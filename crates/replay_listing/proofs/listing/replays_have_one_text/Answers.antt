use Rattle.replay_listing.proofs.OneText.{one_replay}
use Rattle.replay_listing.proofs.listing.replays_have_one_text.Goals as goal

pub returns : goal.returns
returns c = one_replay
