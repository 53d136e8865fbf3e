use Rattle.vericon_app.proofs.replay.replay_bytes.Goals as goal

pub returns : goal.returns
returns c = record { ending = c.in_ok-replay.replay.ending; replay = c.in_ok-replay.ensures; status_is = c.status_of.ensures }
