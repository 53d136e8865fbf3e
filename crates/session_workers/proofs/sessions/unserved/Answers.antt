use Rattle.link_sessions.specs.Links.{LinkView, view_by}
use Rattle.session_workers.specs.Told.{told_given}
use Rattle.session_workers.proofs.Rows.{none_ran}
use Rattle.session_workers.proofs.sessions.unserved.Goals as goal

pub returns-clause-run : goal.returns-clause-run
returns-clause-run g c =
    let see : g.row.N-Link.Denot → LinkView = view_by g.N.Link.Link.taken g.N.Link.Link.written g.N.Link.Link.closed g.N.Link.Link.is_shut g.N.Link.Link.read_faults g.N.Link.Link.write_faults in
    none_ran c.args.terms.now c.args.runtime c.args.runtime.history c.new.result.items (told_given see (g.N.Listener.given c.args.listener)) (g.N.Listener.came c.args.listener) c.requires.new c.new.ensures.items c.requires.listener
