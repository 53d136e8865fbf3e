use Rattle.std.proofs.Common.{[], ◌∷◌}
use Rattle.csdn_read.specs.Programs.{Spells}
use Rattle.file_loads.specs.declared.read.FileKind.TheVariants.{Program, Network, Journal, Frames}
use Rattle.file_loads.specs.Loads.{IsNotProgram, WithNotes}
use Rattle.file_loads.specs.Networks.{WithNetwork}
use Rattle.file_loads.proofs.Explaining.{if_ok, behind, ended}
use Rattle.vericon_app.specs.Replay.{EntriesOutput}
use Rattle.vericon_app.proofs.replay.replay.Goals as goal

pub returns-in-Loaded-clause-output : goal.returns-in-Loaded-clause-output
returns-in-Loaded-clause-output g c =
    let name = c.args.name.now in
    let net = c.args.net.now in
    let journal = c.args.journal.now in
    if_ok c.replay_program.result _ _ (λ outcome out. behind _ _ _ Program name Spells (IsNotProgram name) (λ P. WithNetwork P net (λ N. WithNotes journal (EntriesOutput P N c.args.session c.args.stream.now))) _ c.in-Loaded.program _ _
    c.in_ok-program.ensures.reads (rw c.in-Loaded.is at c.in_ok-program.ensures.load) c.replay_program.ensures.reads.read_faults out) c.replay_program.ensures.output

pub returns-in-Refused-clause-output : goal.returns-in-Refused-clause-output
returns-in-Refused-clause-output g c =
    let name = c.args.name.now in
    let net = c.args.net.now in
    let journal = c.args.journal.now in
    ended Program name Spells (IsNotProgram name) (λ P. WithNetwork P net (λ N. WithNotes journal (EntriesOutput P N c.args.session c.args.stream.now))) _ (record { kind = Network; name = net } ∷ record { kind = Journal; name = journal } ∷ record { kind = Frames; name = c.args.stream.now } ∷ []) _ _
    (rw c.in-Refused.is at c.in_ok-program.ensures.load)
