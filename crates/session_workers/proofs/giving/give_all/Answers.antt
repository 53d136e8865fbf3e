use Rattle.std.proofs.Common.{◌≡◌, List, [], sym, subst}
use Rattle.std.specs.Vec.Iter.{into_iter_items, into_iter_len}
use Rattle.link_sessions.specs.Links.{LinkView, view_by}
use Rattle.session_workers.specs.declared.row.Links.{Links}
use Rattle.session_workers.specs.Told.{told_given}
use Rattle.session_workers.specs.Teams.{views_of}
use Rattle.session_workers.specs.Endings.{GivenMore, numbered}
use Rattle.session_workers.proofs.Given.{given_none, none_left}
use Rattle.session_workers.proofs.giving.give_all.Goals as goal

pub returns-clause-given : goal.returns-clause-given
returns-clause-given g c =
    let see : g.row.N-Link.Denot → LinkView = view_by g.N.Link.Link.taken g.N.Link.Link.written g.N.Link.Link.closed g.N.Link.Link.is_shut g.N.Link.Link.read_faults g.N.Link.Link.write_faults in
    let now = told_given see (g.N.Listener.given c.rows.listener) in
    let nil : into_iter_items c.rows.left-iterator ≡ [] = none_left (into_iter_items c.rows.left-iterator) (into_iter_len c.rows.left-iterator) c.rows.invariant.as_many c.in-None.ensures.steps.0 in
    c.rows.invariant.given now (subst (λ (l : List (Links g.row.N-Link.Denot)). GivenMore now now (numbered c.args.terms.now c.rows.seat (views_of see l))) (sym nil) (given_none now))
