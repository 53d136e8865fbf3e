use Rattle.std.proofs.Common.{◌≡◌, ℕ, ◌+◌, List, length}
use Rattle.std.specs.Prelude.{Option, sum_by}
use Rattle.std.specs.Vec.Iter.{into_iter_items, into_iter_len}
use Rattle.link_sessions.specs.Links.{LinkView, view_by}
use Rattle.session_workers.specs.Told.{told_given}
use Rattle.session_workers.specs.Teams.{views_of}
use Rattle.session_workers.specs.Endings.{GivenMore, numbered}
use Rattle.session_workers.proofs.giving.give_all.Given as goal

abbrev pub invariant-rows : goal.invariant-rows
invariant-rows g l = record {
  as_many : into_iter_len l.left-iterator ≡ length (into_iter_items l.left-iterator);
  first : l.seat + length (into_iter_items l.left-iterator) ≡ length l.fn.links.items;
  given : (final : Option (List (ℕ × LinkView))) → GivenMore (told_given (view_by g.N.Link.Link.taken g.N.Link.Link.written g.N.Link.Link.closed g.N.Link.Link.is_shut g.N.Link.Link.read_faults g.N.Link.Link.write_faults) (g.N.Listener.given l.listener)) final (numbered l.terms l.seat (views_of (view_by g.N.Link.Link.taken g.N.Link.Link.written g.N.Link.Link.closed g.N.Link.Link.is_shut g.N.Link.Link.read_faults g.N.Link.Link.write_faults) (into_iter_items l.left-iterator))) → GivenMore (told_given (view_by g.N.Link.Link.taken g.N.Link.Link.written g.N.Link.Link.closed g.N.Link.Link.is_shut g.N.Link.Link.read_faults g.N.Link.Link.write_faults) (g.N.Listener.given l.fn.listener)) final (numbered l.terms 0 (views_of (view_by g.N.Link.Link.taken g.N.Link.Link.written g.N.Link.Link.closed g.N.Link.Link.is_shut g.N.Link.Link.read_faults g.N.Link.Link.write_faults) l.fn.links.items));
  back : g.N.Listener.back l.listener + sum_by (λ left. length left.links.items) (into_iter_items l.left-iterator) ≡ g.N.Listener.back l.fn.listener + sum_by (λ left. length left.links.items) l.fn.links.items;
  came : g.N.Listener.came l.listener ≡ g.N.Listener.came l.fn.listener;
  ended : g.N.Listener.ended l.listener ≡ g.N.Listener.ended l.fn.listener;
  faults : g.N.Listener.faults l.listener ≡ g.N.Listener.faults l.fn.listener;
}
