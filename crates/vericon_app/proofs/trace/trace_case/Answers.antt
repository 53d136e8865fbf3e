use Rattle.std.proofs.Common.{List, [], subst}
use Rattle.journal_text.specs.declared.note.Note.{Note}
use Rattle.file_loads.specs.declared.read.FileKind.TheVariants.{Journal}
use Rattle.file_loads.specs.Status.{code_of}
use Rattle.file_loads.specs.Outputs.{Then}
use Rattle.file_loads.specs.Loads.{AreNotes, AreNotNotes}
use Rattle.file_loads.proofs.Explaining.{if_ok, at_last, ended}
use Rattle.vericon_app.specs.Trace.{NotesOutput}
use Rattle.vericon_app.proofs.trace.trace_case.Goals as goal

pub returns-in-Loaded-clause-output : goal.returns-in-Loaded-clause-output
returns-in-Loaded-clause-output g c =
    let P = c.args.program.now in
    let journal = c.args.journal.now in
    if_ok c.trace_notes.result _ _ (λ outcome out. at_last Journal journal AreNotes (AreNotNotes journal) (NotesOutput P c.args.case) _ c.in-Loaded.notes _ _ c.in_ok-notes.ensures.reads (rw c.in-Loaded.is at c.in_ok-notes.ensures.load)
    (subst (λ (notes : List Note). NotesOutput P c.args.case notes outcome.text.items (code_of outcome.status)) c.as_slice.ensures out)) c.trace_notes.ensures

pub returns-in-Refused-clause-output : goal.returns-in-Refused-clause-output
returns-in-Refused-clause-output g c =
    let journal = c.args.journal.now in
    ended Journal journal AreNotes (AreNotNotes journal) (λ notes. Then (NotesOutput c.args.program.now c.args.case notes)) _ [] _ _ (rw c.in-Refused.is at c.in_ok-notes.ensures.load)
