use Rattle.std.proofs.Common.{[], ◌∷◌}
use Rattle.file_loads.specs.declared.read.FileKind.TheVariants.{Network, Journal}
use Rattle.file_loads.specs.Outputs.{Then}
use Rattle.file_loads.specs.Loads.{IsCase, IsNotCase, WithNotes}
use Rattle.file_loads.proofs.Explaining.{if_ok, behind, ended}
use Rattle.vericon_app.specs.Trace.{NotesOutput}
use Rattle.vericon_app.proofs.trace.trace_program.Goals as goal

pub returns-in-Loaded-clause-output : goal.returns-in-Loaded-clause-output
returns-in-Loaded-clause-output g c =
    let P = c.args.program.now in
    let net = c.args.net.now in
    let journal = c.args.journal.now in
    if_ok c.trace_case.result _ _ (λ outcome out. behind _ _ _ Network net (IsCase P) (IsNotCase P net) (λ kase. WithNotes journal (λ notes. Then (NotesOutput P kase notes))) _ c.in-Loaded.case _ _
    c.in_ok-case.ensures.reads (rw c.in-Loaded.is at c.in_ok-case.ensures.load) c.trace_case.ensures.reads.read_faults out) c.trace_case.ensures.output

pub returns-in-Refused-clause-output : goal.returns-in-Refused-clause-output
returns-in-Refused-clause-output g c =
    let P = c.args.program.now in
    let net = c.args.net.now in
    let journal = c.args.journal.now in
    ended Network net (IsCase P) (IsNotCase P net) (λ kase. WithNotes journal (λ notes. Then (NotesOutput P kase notes))) _ (record { kind = Journal; name = journal } ∷ []) _ _ (rw c.in-Refused.is at c.in_ok-case.ensures.load)
