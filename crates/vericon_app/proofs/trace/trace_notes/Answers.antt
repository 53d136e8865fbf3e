use Rattle.vericon_app.proofs.trace.trace_notes.Goals as goal

pub returns : goal.returns
returns c = record { ending = c.in_ok-trace.trace.ending; trace = c.in_ok-trace.ensures; status_is = c.status_of.ensures }
