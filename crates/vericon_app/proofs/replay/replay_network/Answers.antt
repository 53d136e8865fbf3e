use Rattle.std.proofs.Common.{[], ◌∷◌}
use Rattle.file_loads.specs.declared.read.FileKind.TheVariants.{Journal, Frames}
use Rattle.file_loads.specs.Loads.{AreNotes, AreNotNotes}
use Rattle.file_loads.proofs.Explaining.{if_ok, behind, ended}
use Rattle.vericon_app.specs.Replay.{EntriesOutput}
use Rattle.vericon_app.proofs.Replayed.{of_same_notes}
use Rattle.vericon_app.proofs.replay.replay_network.Goals as goal

pub returns-in-Loaded-clause-output : goal.returns-in-Loaded-clause-output
returns-in-Loaded-clause-output g c =
    let journal = c.args.journal.now in
    let said = EntriesOutput c.args.program c.args.network c.args.session c.args.stream.now in
    if_ok c.replay_notes.result _ _ (λ outcome out. behind _ _ _ Journal journal AreNotes (AreNotNotes journal) said _ c.in-Loaded.notes _ _
    c.in_ok-notes.ensures.reads (rw c.in-Loaded.is at c.in_ok-notes.ensures.load) c.replay_notes.ensures.reads.read_faults
    (of_same_notes _ (record { kind = Frames; name = c.args.stream.now } ∷ []) said _ _ _ _ c.as_slice.ensures out)) c.replay_notes.ensures.output

pub returns-in-Refused-clause-output : goal.returns-in-Refused-clause-output
returns-in-Refused-clause-output g c =
    let journal = c.args.journal.now in
    ended Journal journal AreNotes (AreNotNotes journal) (EntriesOutput c.args.program c.args.network c.args.session c.args.stream.now) _ (record { kind = Frames; name = c.args.stream.now } ∷ []) _ _ (rw c.in-Refused.is at c.in_ok-notes.ensures.load)
