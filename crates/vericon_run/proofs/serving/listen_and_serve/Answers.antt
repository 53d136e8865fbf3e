use Rattle.std.proofs.Common.{◌≡◌, ℕ, ◌≤◌, List, ap, subst}
use Rattle.std.specs.Prelude.{Option}
use Rattle.link_sessions.specs.Links.{LinkView, view_by}
use Rattle.session_workers.specs.Told.{told_given}
use Rattle.session_workers.specs.Endings.{HaltsFor, IsRunOf}
use Rattle.session_workers.specs.declared.halt.Halt.TheVariants.{Fault}
use Rattle.vericon_run.specs.Runs.{ListenerView, listener_view}
use Rattle.vericon_run.proofs.Said.{none_served}
use Rattle.vericon_run.proofs.serving.listen_and_serve.Goals as goal

pub returns-in-Ok-clause-served : goal.returns-in-Ok-clause-served
returns-in-Ok-clause-served g c =
    let see : g.row.L-Link.Denot → LinkView = view_by g.L.Link.Link.taken g.L.Link.Link.written g.L.Link.Link.closed g.L.Link.Link.is_shut g.L.Link.Link.read_faults g.L.Link.Link.write_faults in
    let s = c.serve_sessions.ensures in
    let r = c.serve_sessions.result in
    let now = c.listen.new.self in
    let t = c.args.terms.now in
    let given : told_given see (g.L.Listener.given now) ≡ told_given see (g.L.Listener.given c.args.listener) = ap (told_given see) c.listen.ensures.given in
    let faults : g.L.Listener.faults now ≡ g.L.Listener.faults c.args.listener = c.in-Ok.ensures.cause in
    record {
      run = subst (λ (x : Option (List (ℕ × LinkView))). IsRunOf t c.args.runtime r.runtime.history r.rows.items x (told_given see (g.L.Listener.given r.listener)) (g.L.Listener.came r.listener)) given s.run;
      back = s.back;
      most = s.most;
      halts = subst (λ (x : ℕ). HaltsFor t r.halt x (g.L.Listener.faults r.listener) (g.L.Listener.came r.listener) (g.L.Listener.ended r.listener)) faults s.halt;
      later = subst (λ (x : ℕ). x ≤ g.L.Listener.faults r.listener) faults s.later;
    }

pub returns-in-Err-clause-served : goal.returns-in-Err-clause-served
returns-in-Err-clause-served g c =
    let see : g.row.L-Link.Denot → LinkView = view_by g.L.Link.Link.taken g.L.Link.Link.written g.L.Link.Link.closed g.L.Link.Link.is_shut g.L.Link.Link.read_faults g.L.Link.Link.write_faults in
    let view : g.row.L.Denot → ListenerView = listener_view (λ (l : g.row.L.Denot). told_given see (g.L.Listener.given l)) g.L.Listener.faults g.L.Listener.came g.L.Listener.back g.L.Listener.ended in
    none_served c.args.terms.now c.args.runtime c.args.runtime.history c.new.result.items Fault (view c.args.listener) (view c.listen.new.self) c.requires.new c.new.ensures.items c.requires.listener.0 c.requires.listener.1
    (ap (told_given see) c.listen.ensures.given) c.listen.ensures.came c.listen.ensures.back c.listen.ensures.later c.in-Err.ensures.cause
