use Rattle.std.proofs.Common.{[], ◌∷◌, ◌∙◌, sym}
use Rattle.file_loads.specs.declared.read.FileKind.TheVariants.{Frames}
use Rattle.file_loads.specs.Outputs.{Then}
use Rattle.file_loads.specs.Loads.{WithBytes}
use Rattle.file_loads.proofs.Explaining.{if_ok, said_so, unread_of, untouched_reads}
use Rattle.vericon_app.specs.Replay.{EntriesOutput, IsRefusedNote, StreamOutput, has_refused, can_enter}
use Rattle.vericon_app.proofs.replay.replay_notes.Goals as goal

pub returns-in-Some-clause-output : goal.returns-in-Some-clause-output
returns-in-Some-clause-output g c =
    if_ok c.refuse.result _ _ (λ outcome said. said_so _ (record { kind = Frames; name = c.args.stream.now } ∷ []) (Then (IsRefusedNote c.in-Some.refused)) (EntriesOutput c.args.program c.args.network c.args.session c.args.stream.now c.args.notes.now) _ _
    (λ answers write out. has_refused c.in-Some.refused (sym c.first_refused.ensures ∙ c.in-Some.is) out) (unread_of _ (IsRefusedNote c.in-Some.refused) _ _ _ said)) c.refuse.ensures

pub returns-in-Some-clause-reads : goal.returns-in-Some-clause-reads
returns-in-Some-clause-reads g c = untouched_reads 1 _

pub replay_stream-requires-clause-entered : goal.replay_stream-requires-clause-entered
replay_stream-requires-clause-entered g c = sym c.first_refused.ensures ∙ c.in-None.is

pub returns-in-None-clause-output : goal.returns-in-None-clause-output
returns-in-None-clause-output g c =
    if_ok c.replay_stream.result _ _ (λ outcome out. said_so _ (record { kind = Frames; name = c.args.stream.now } ∷ []) (WithBytes Frames c.args.stream.now (λ bytes. Then (StreamOutput c.args.program c.args.network c.args.notes.now c.args.session bytes))) (EntriesOutput c.args.program c.args.network c.args.session c.args.stream.now c.args.notes.now) _ _
    (λ answers write said. can_enter (sym c.first_refused.ensures ∙ c.in-None.is) said) out) c.replay_stream.ensures.output
