use Rattle.link_sessions.specs.Links.{LinkView, view_by}
use Rattle.session_workers.specs.Told.{told_given}
use Rattle.vericon_run.specs.Runs.{ListenerView, history_in, listener_view}
use Rattle.std.proofs.Common.{inl}
use Rattle.vericon_run.proofs.Said.{begun_so, cut_off, printed_run}
use Rattle.vericon_run.proofs.serving.serve_accepted.Goals as goal

pub returns-in-Ok-clause-run : goal.returns-in-Ok-clause-run
returns-in-Ok-clause-run g c =
    let see : g.row.L-Link.Denot → LinkView = view_by g.L.Link.Link.taken g.L.Link.Link.written g.L.Link.Link.closed g.L.Link.Link.is_shut g.L.Link.Link.read_faults g.L.Link.Link.write_faults in
    let view : g.row.L.Denot → ListenerView = listener_view (λ (l : g.row.L.Denot). told_given see (g.L.Listener.given l)) g.L.Listener.faults g.L.Listener.came g.L.Listener.back g.L.Listener.ended in
    let s = c.serve_and_print in
    printed_run c.args.terms.now c.args.first.now c.args.runtime (history_in s.result.runtime) (view c.args.listener) (view s.result.listener) (g.S.Sink.written c.args.out.now) (g.S.Sink.written c.write_piece.new.out) (g.S.Sink.written s.new.out)
    (g.S.Sink.faults c.args.out.now) (g.S.Sink.faults c.write_piece.new.out) (g.S.Sink.faults s.new.out) s.result.status c.in-Ok.ensures.ok c.in-Ok.ensures.steady s.ensures.printed

pub returns-in-Err-clause-run : goal.returns-in-Err-clause-run
returns-in-Err-clause-run g c =
    let see : g.row.L-Link.Denot → LinkView = view_by g.L.Link.Link.taken g.L.Link.Link.written g.L.Link.Link.closed g.L.Link.Link.is_shut g.L.Link.Link.read_faults g.L.Link.Link.write_faults in
    let view : g.row.L.Denot → ListenerView = listener_view (λ (l : g.row.L.Denot). told_given see (g.L.Listener.given l)) g.L.Listener.faults g.L.Listener.came g.L.Listener.back g.L.Listener.ended in
    cut_off c.args.terms.now c.args.first.now c.args.runtime c.args.runtime.history (view c.args.listener) (g.S.Sink.written c.args.out.now) (g.S.Sink.written c.write_piece.new.out) (g.S.Sink.faults c.args.out.now) (g.S.Sink.faults c.write_piece.new.out)
    c.requires.new c.requires.listener.0 c.requires.listener.1 c.in-Err.ensures.err c.in-Err.ensures.cause

pub returns-in-Ok-clause-first : goal.returns-in-Ok-clause-first
returns-in-Ok-clause-first g c =
    let see : g.row.L-Link.Denot → LinkView = view_by g.L.Link.Link.taken g.L.Link.Link.written g.L.Link.Link.closed g.L.Link.Link.is_shut g.L.Link.Link.read_faults g.L.Link.Link.write_faults in
    let view : g.row.L.Denot → ListenerView = listener_view (λ (l : g.row.L.Denot). told_given see (g.L.Listener.given l)) g.L.Listener.faults g.L.Listener.came g.L.Listener.back g.L.Listener.ended in
    let s = c.serve_and_print in
    inl (begun_so c.args.terms.now c.args.first.now c.args.runtime (history_in s.result.runtime) (view c.args.listener) (view s.result.listener) (g.S.Sink.written c.args.out.now) (g.S.Sink.written c.write_piece.new.out) (g.S.Sink.written s.new.out)
    (g.S.Sink.faults c.write_piece.new.out) (g.S.Sink.faults s.new.out) s.result.status c.in-Ok.ensures.ok s.ensures.printed)
