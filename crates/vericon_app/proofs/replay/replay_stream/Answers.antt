use Rattle.file_loads.specs.declared.read.FileKind.TheVariants.{Frames}
use Rattle.file_loads.proofs.Explaining.{if_ok, bytes_at_last}
use Rattle.file_loads.proofs.Giving.{bytes_ended}
use Rattle.vericon_app.specs.Replay.{StreamOutput}
use Rattle.vericon_app.proofs.replay.replay_stream.Goals as goal

pub returns-in-Loaded-clause-output : goal.returns-in-Loaded-clause-output
returns-in-Loaded-clause-output g c =
    if_ok c.replay_bytes.result _ _ (λ outcome out. bytes_at_last Frames c.args.stream.now (StreamOutput c.args.program c.args.network c.args.notes.now c.args.session) _ c.in-Loaded.bytes _ _ _ c.in_ok-bytes.ensures.reads (rw c.in-Loaded.is at c.in_ok-bytes.ensures.load) c.deref.ensures.value out) c.replay_bytes.ensures

pub returns-in-Refused-clause-output : goal.returns-in-Refused-clause-output
returns-in-Refused-clause-output g c = bytes_ended _ Frames c.args.stream.now c.in_ok-bytes.ensures.reads (StreamOutput c.args.program c.args.network c.args.notes.now c.args.session) _ _ (rw c.in-Refused.is at c.in_ok-bytes.ensures.load)
