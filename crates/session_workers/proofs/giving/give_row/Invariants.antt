use Rattle.std.proofs.Common.{◌≡◌, ℕ, ◌+◌, ◌*◌, List, length}
use Rattle.std.specs.Prelude.{Option, map}
use Rattle.std.specs.Vec.Iter.{into_iter_items, into_iter_len}
use Rattle.link_sessions.specs.Links.{LinkView, view_by}
use Rattle.session_workers.specs.Told.{told_given}
use Rattle.session_workers.specs.Endings.{GivenMore, numbered_from}
use Rattle.session_workers.proofs.giving.give_row.Given as goal

abbrev pub invariant-links : goal.invariant-links
invariant-links g l = record {
  as_many : into_iter_len l.link-iterator ≡ length (into_iter_items l.link-iterator);
  numbers : l.number + l.terms.workers * length (into_iter_items l.link-iterator) ≡ l.fn.first + l.terms.workers * length l.fn.left.links.items;
  given : (final : Option (List (ℕ × LinkView))) → GivenMore (told_given (view_by g.N.Link.Link.taken g.N.Link.Link.written g.N.Link.Link.closed g.N.Link.Link.is_shut g.N.Link.Link.read_faults g.N.Link.Link.write_faults) (g.N.Listener.given l.listener)) final (numbered_from l.terms l.number (map (view_by g.N.Link.Link.taken g.N.Link.Link.written g.N.Link.Link.closed g.N.Link.Link.is_shut g.N.Link.Link.read_faults g.N.Link.Link.write_faults) (into_iter_items l.link-iterator))) → GivenMore (told_given (view_by g.N.Link.Link.taken g.N.Link.Link.written g.N.Link.Link.closed g.N.Link.Link.is_shut g.N.Link.Link.read_faults g.N.Link.Link.write_faults) (g.N.Listener.given l.fn.listener)) final (numbered_from l.terms l.fn.first (map (view_by g.N.Link.Link.taken g.N.Link.Link.written g.N.Link.Link.closed g.N.Link.Link.is_shut g.N.Link.Link.read_faults g.N.Link.Link.write_faults) l.fn.left.links.items));
  back : g.N.Listener.back l.listener + length (into_iter_items l.link-iterator) ≡ g.N.Listener.back l.fn.listener + length l.fn.left.links.items;
  came : g.N.Listener.came l.listener ≡ g.N.Listener.came l.fn.listener;
  ended : g.N.Listener.ended l.listener ≡ g.N.Listener.ended l.fn.listener;
  faults : g.N.Listener.faults l.listener ≡ g.N.Listener.faults l.fn.listener;
}
