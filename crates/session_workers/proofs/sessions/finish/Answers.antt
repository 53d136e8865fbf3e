use Rattle.std.proofs.Common.{◌≡◌, ℕ, ◌<◌, ◌≤◌, List, length, sym, ◌∙◌, subst, arith}
use Rattle.std.specs.Prelude.{All, Option}
use Rattle.shared_hall.specs.Views.{seat_of}
use Rattle.link_sessions.specs.Links.{LinkView, view_by}
use Rattle.session_workers.specs.Told.{told_given}
use Rattle.session_workers.specs.Teams.{views_of}
use Rattle.session_workers.specs.Endings.{GivenMore, HasSession, numbered}
use Rattle.session_workers.proofs.SeatWork.{done_few, done_here, done_length}
use Rattle.session_workers.proofs.Given.{numbered_length, views_length}
use Rattle.session_workers.proofs.Numbers.{all_distinct}
use Rattle.session_workers.proofs.Rows.{rows_in, sessions_had}
use Rattle.session_workers.proofs.sessions.finish.Goals as goal

pub close-runtime-requires : goal.close-runtime-requires
close-runtime-requires g c =
    let see : g.row.N-Link.Denot → LinkView = view_by g.N.Link.Link.taken g.N.Link.Link.written g.N.Link.Link.closed g.N.Link.Link.is_shut g.N.Link.Link.read_faults g.N.Link.Link.write_faults in
    let b = c.gather-seats.result in (
      c.gather-seats.ensures.len ∙ sym c.requires.len.1,
      done_here c.args.hall c.args.terms.now 0 b.seats.items b.rows.items (views_of see b.links.items) c.gather-seats.ensures.done,
    )

pub give_all-requires-clause-few : goal.give_all-requires-clause-few
give_all-requires-clause-few g c κs within =
    let see : g.row.N-Link.Denot → LinkView = view_by g.N.Link.Link.taken g.N.Link.Link.written g.N.Link.Link.closed g.N.Link.Link.is_shut g.N.Link.Link.read_faults g.N.Link.Link.write_faults in
    let b = c.gather-seats.result in
    let n = done_length c.args.hall c.args.terms.now 0 b.seats.items b.rows.items (views_of see b.links.items) c.gather-seats.ensures.done in
    let links : length b.links.items ≡ c.args.terms.now.workers = sym (views_length see b.links.items) ∙ (n.1 ∙ c.gather-seats.ensures.len) in (
      (let f = c.args.terms.now.few_workers in omega arith),
      (let a = c.args.desk.came_is in let f = c.args.desk.few in let s = c.args.desk.small in omega arith),
    )

pub returns-clause-run : goal.returns-clause-run
returns-clause-run g c =
    let see : g.row.N-Link.Denot → LinkView = view_by g.N.Link.Link.taken g.N.Link.Link.written g.N.Link.Link.closed g.N.Link.Link.is_shut g.N.Link.Link.read_faults g.N.Link.Link.write_faults in
    let t = c.args.terms.now in
    let hall = c.args.hall in
    let b = c.gather-seats.result in
    let h = c.close-runtime.result.history in
    let done = c.gather-seats.ensures.done in
    let n = done_length hall t 0 b.seats.items b.rows.items (views_of see b.links.items) done in
    let rows : length b.rows.items ≡ hall.seats = n.0 ∙ (c.gather-seats.ensures.len ∙ sym c.requires.len.1) in
    let wide : length b.rows.items ≤ t.workers = let m = c.requires.len.1 in omega arith in
    let told = c.close-runtime.ensures.told in
    let numbers : All (λ e. seat_of e < length b.rows.items) h = subst (λ (k : ℕ). All (λ e. seat_of e < k) h) (sym rows) c.close-runtime.ensures.numbers in
    let had : All (HasSession t b.rows.items) h = sessions_had hall t h b.seats.items b.rows.items (views_of see b.links.items) done told numbers in
    record {
      links = views_of see b.links.items;
      sessions = rows_in hall t h b.rows.items wide had 0 b.seats.items b.rows.items (views_of see b.links.items) done told;
      given_back = subst (λ (x : Option (List (ℕ × LinkView))). GivenMore x (told_given see (g.N.Listener.given c.give_all.new.listener)) (numbered t 0 (views_of see b.links.items))) c.args.desk.given_is c.give_all.ensures.given;
      distinct =
          let links : length (views_of see b.links.items) ≡ t.workers = n.1 ∙ c.gather-seats.ensures.len in
          all_distinct t 0 (views_of see b.links.items) (omega arith);
      count =
          let whole = c.audit.ensures.whole (c.gather-seats.ensures.parts ∙ sym c.requires.len.2) in
          c.give_all.ensures.came ∙ (c.args.desk.came_is ∙ (sym c.args.desk.counted ∙ (sym whole ∙ (c.gather-seats.ensures.amount ∙ sym (numbered_length see t 0 b.links.items)))));
      entries = had;
    }

pub returns-clause-few : goal.returns-clause-few
returns-clause-few g c =
    let see : g.row.N-Link.Denot → LinkView = view_by g.N.Link.Link.taken g.N.Link.Link.written g.N.Link.Link.closed g.N.Link.Link.is_shut g.N.Link.Link.read_faults g.N.Link.Link.write_faults in
    let b = c.gather-seats.result in
    let n = done_length c.args.hall c.args.terms.now 0 b.seats.items b.rows.items (views_of see b.links.items) c.gather-seats.ensures.done in
    let m = n.0 in
    let k = c.gather-seats.ensures.len in
    ((omega arith), done_few c.args.hall c.args.terms.now 0 b.seats.items b.rows.items (views_of see b.links.items) c.gather-seats.ensures.done)
