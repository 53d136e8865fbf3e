use Rattle.std.proofs.Common.{[], ◌∷◌, Ok}
use Rattle.file_loads.specs.declared.read.FileKind.TheVariants.{Network, Journal, Frames}
use Rattle.file_loads.specs.Gives.{IsValueOf}
use Rattle.file_loads.specs.Loads.{WithNotes}
use Rattle.file_loads.specs.Networks.{IsOpenNetwork, IsNoOpenNetwork}
use Rattle.file_loads.proofs.Explaining.{if_ok, behind, ended}
use Rattle.vericon_app.specs.Replay.{EntriesOutput}
use Rattle.vericon_app.proofs.Replayed.{network_of_text}
use Rattle.vericon_app.proofs.replay.replay_program.Goals as goal

pub replay_network-requires-clause-of_program : goal.replay_network-requires-clause-of_program
replay_network-requires-clause-of_program g c =
    let value : IsValueOf _ Network c.args.net.now (IsOpenNetwork c.args.program) c.in-Loaded.network = rw c.in-Loaded.is at c.in_ok-network.ensures.load in
    network_of_text c.args.program value.bytes c.in-Loaded.network value.is (c.texts_give_cases.ensures.case c.args.program value.bytes (Ok value.is.case) value.is.reads)

pub replay_network-requires-clause-servable : goal.replay_network-requires-clause-servable
replay_network-requires-clause-servable g c =
    let value : IsValueOf _ Network c.args.net.now (IsOpenNetwork c.args.program) c.in-Loaded.network = rw c.in-Loaded.is at c.in_ok-network.ensures.load in
    value.is.servable

pub returns-in-Loaded-clause-output : goal.returns-in-Loaded-clause-output
returns-in-Loaded-clause-output g c =
    let P = c.args.program in
    let net = c.args.net.now in
    let journal = c.args.journal.now in
    if_ok c.replay_network.result _ _ (λ outcome out. behind _ _ _ Network net (IsOpenNetwork P) (IsNoOpenNetwork P net) (λ N. WithNotes journal (EntriesOutput P N c.args.session c.args.stream.now)) _ c.in-Loaded.network _ _
    c.in_ok-network.ensures.reads (rw c.in-Loaded.is at c.in_ok-network.ensures.load) c.replay_network.ensures.reads.read_faults out) c.replay_network.ensures.output

pub returns-in-Refused-clause-output : goal.returns-in-Refused-clause-output
returns-in-Refused-clause-output g c =
    let P = c.args.program in
    let net = c.args.net.now in
    let journal = c.args.journal.now in
    ended Network net (IsOpenNetwork P) (IsNoOpenNetwork P net) (λ N. WithNotes journal (EntriesOutput P N c.args.session c.args.stream.now)) _ (record { kind = Journal; name = journal } ∷ record { kind = Frames; name = c.args.stream.now } ∷ []) _ _ (rw c.in-Refused.is at c.in_ok-network.ensures.load)
