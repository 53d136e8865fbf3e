use Rattle.link_sessions.specs.Links.{view_by}
use Rattle.session_workers.specs.Told.{told_given}
use Rattle.session_workers.proofs.sessions.serve_sessions.Given as goal

abbrev pub ghosts-run_with-P-Ledger : goal.ghosts-run_with-P-Ledger
ghosts-run_with-P-Ledger g a = record { name = a.blank.name; parts = a.blank.parts }

abbrev pub ghosts-run_with-P-Plan : goal.ghosts-run_with-P-Plan
ghosts-run_with-P-Plan g a = record { most = a.terms.now.sessions; faults = g.N.Listener.faults a.listener; given = told_given (view_by g.N.Link.Link.taken g.N.Link.Link.written g.N.Link.Link.closed g.N.Link.Link.is_shut g.N.Link.Link.read_faults g.N.Link.Link.write_faults) (g.N.Listener.given a.listener) }
