use Rattle.std.proofs.Common.{subst}
use Rattle.csdn_run.specs.Histories.{Running}
use Rattle.link_sessions.specs.Links.{LinkView, view_by}
use Rattle.session_workers.specs.Told.{told_given}
use Rattle.session_workers.specs.Endings.{IsRunOf}
use Rattle.session_workers.proofs.sessions.run_with.Goals as goal

pub returns-in-Err-clause-run : goal.returns-in-Err-clause-run
returns-in-Err-clause-run g c =
    let see : g.row.N-Link.Denot → LinkView = view_by g.N.Link.Link.taken g.N.Link.Link.written g.N.Link.Link.closed g.N.Link.Link.is_shut g.N.Link.Link.read_faults g.N.Link.Link.write_faults in
    let P : Running → Type 0 = λ r. IsRunOf c.args.terms.now r c.unserved-in-Err.result.runtime.history c.unserved-in-Err.result.rows.items (told_given see (g.N.Listener.given c.args.listener)) (told_given see (g.N.Listener.given c.unserved-in-Err.result.listener)) (g.N.Listener.came c.unserved-in-Err.result.listener) in
    subst P c.in-Err.ensures.err c.unserved-in-Err.ensures.run
