use Rattle.std.proofs.Common.{List, [], ℕ, subst}
use Rattle.std.specs.Prelude.{map, string_bytes}
use Rattle.command_words.specs.Calls.{asked_call, if_serves}
use Rattle.link_sessions.specs.Links.{LinkView, view_by}
use Rattle.session_workers.specs.Told.{told_given}
use Rattle.file_loads.specs.Status.{code_of}
use Rattle.vericon_app.specs.Left.{Finishes}
use Rattle.vericon_run.specs.Outputs.{RunOutput}
use Rattle.vericon_run.specs.Runs.{ListenerView, history_in, listener_view}
use Rattle.vericon_run.proofs.Asked.{asks_run}
use Rattle.vericon_run.proofs.Served.{hands_back, says_yes, served_left}
use Rattle.vericon_run.proofs.Unserved.{told_cause, told_left}
use Rattle.vericon_run.proofs.Undisturbed.{answered, served_decided, told_decided}
use Rattle.vericon_run.proofs.call.run_call.Goals as goal

pub returns-in-Ok-Told-clause-output : goal.returns-in-Ok-Told-clause-output
returns-in-Ok-Told-clause-output g c =
    let see : g.row.L-Link.Denot → LinkView = view_by g.L.Link.Link.taken g.L.Link.Link.written g.L.Link.Link.closed g.L.Link.Link.is_shut g.L.Link.Link.read_faults g.L.Link.Link.write_faults in
    let view : g.row.L.Denot → ListenerView = listener_view (λ (l : g.row.L.Denot). told_given see (g.L.Listener.given l)) g.L.Listener.faults g.L.Listener.came g.L.Listener.back g.L.Listener.ended in
    let asked = if_serves (asked_call (map string_bytes c.args.words.now)) in
    let only = asks_run (asked_call (map string_bytes c.args.words.now)) in
    let F : List ℕ → Type 0 = λ text. Finishes text (code_of c.in-Ok-Told.outcome.status) (g.S.Sink.written c.args.out.now) (g.S.Sink.written c.finish.new.out) (g.S.Sink.faults c.args.out.now) (g.S.Sink.faults c.finish.new.out) c.finish.result in
    let finishes = subst F c.deref-in-Ok-Told.ensures.value c.finish.ensures.finishes in
    let told = rw c.in-Ok-Told.field-0-is at c.in-Ok-Told.ensures.prepared in
    told_left (view c.args.listener) asked _ _ _ _ _ _ _ _ told finishes

pub returns-in-Ok-Told-clause-cause : goal.returns-in-Ok-Told-clause-cause
returns-in-Ok-Told-clause-cause g c =
    let see : g.row.L-Link.Denot → LinkView = view_by g.L.Link.Link.taken g.L.Link.Link.written g.L.Link.Link.closed g.L.Link.Link.is_shut g.L.Link.Link.read_faults g.L.Link.Link.write_faults in
    let view : g.row.L.Denot → ListenerView = listener_view (λ (l : g.row.L.Denot). told_given see (g.L.Listener.given l)) g.L.Listener.faults g.L.Listener.came g.L.Listener.back g.L.Listener.ended in
    let asked = if_serves (asked_call (map string_bytes c.args.words.now)) in
    let only = asks_run (asked_call (map string_bytes c.args.words.now)) in
    let F : List ℕ → Type 0 = λ text. Finishes text (code_of c.in-Ok-Told.outcome.status) (g.S.Sink.written c.args.out.now) (g.S.Sink.written c.finish.new.out) (g.S.Sink.faults c.args.out.now) (g.S.Sink.faults c.finish.new.out) c.finish.result in
    let finishes = subst F c.deref-in-Ok-Told.ensures.value c.finish.ensures.finishes in
    let told = rw c.in-Ok-Told.field-0-is at c.in-Ok-Told.ensures.prepared in
    told_cause asked only _ (view c.args.listener) _ _ (g.S.Sink.written c.args.out.now) (g.S.Sink.written c.finish.new.out) _ _ _ told finishes

pub returns-in-Ok-Told-clause-answered : goal.returns-in-Ok-Told-clause-answered
returns-in-Ok-Told-clause-answered g c =
    let see : g.row.L-Link.Denot → LinkView = view_by g.L.Link.Link.taken g.L.Link.Link.written g.L.Link.Link.closed g.L.Link.Link.is_shut g.L.Link.Link.read_faults g.L.Link.Link.write_faults in
    let view : g.row.L.Denot → ListenerView = listener_view (λ (l : g.row.L.Denot). told_given see (g.L.Listener.given l)) g.L.Listener.faults g.L.Listener.came g.L.Listener.back g.L.Listener.ended in
    let asked = if_serves (asked_call (map string_bytes c.args.words.now)) in
    let only = asks_run (asked_call (map string_bytes c.args.words.now)) in
    let F : List ℕ → Type 0 = λ text. Finishes text (code_of c.in-Ok-Told.outcome.status) (g.S.Sink.written c.args.out.now) (g.S.Sink.written c.finish.new.out) (g.S.Sink.faults c.args.out.now) (g.S.Sink.faults c.finish.new.out) c.finish.result in
    let finishes = subst F c.deref-in-Ok-Told.ensures.value c.finish.ensures.finishes in
    let told = rw c.in-Ok-Told.field-0-is at c.in-Ok-Told.ensures.prepared in
    λ undisturbed. answered (RunOutput (view c.args.listener) (view c.args.listener) []) asked _ _ _ _ _ _ undisturbed (told_left (view c.args.listener) asked _ _ _ _ _ _ _ _ told finishes)

pub returns-in-Ok-Told-clause-decided : goal.returns-in-Ok-Told-clause-decided
returns-in-Ok-Told-clause-decided g c =
    let asked = if_serves (asked_call (map string_bytes c.args.words.now)) in
    let only = asks_run (asked_call (map string_bytes c.args.words.now)) in
    let F : List ℕ → Type 0 = λ text. Finishes text (code_of c.in-Ok-Told.outcome.status) (g.S.Sink.written c.args.out.now) (g.S.Sink.written c.finish.new.out) (g.S.Sink.faults c.args.out.now) (g.S.Sink.faults c.finish.new.out) c.finish.result in
    let finishes = subst F c.deref-in-Ok-Told.ensures.value c.finish.ensures.finishes in
    let told = rw c.in-Ok-Told.field-0-is at c.in-Ok-Told.ensures.prepared in
    λ program network bytes net run is is_net undisturbed no_fault few. told_decided asked only _ program network bytes net run is is_net _ _ _ _ _ undisturbed _ _ told finishes

pub returns-in-Ok-Ready-clause-output : goal.returns-in-Ok-Ready-clause-output
returns-in-Ok-Ready-clause-output g c =
    let see : g.row.L-Link.Denot → LinkView = view_by g.L.Link.Link.taken g.L.Link.Link.written g.L.Link.Link.closed g.L.Link.Link.is_shut g.L.Link.Link.read_faults g.L.Link.Link.write_faults in
    let view : g.row.L.Denot → ListenerView = listener_view (λ (l : g.row.L.Denot). told_given see (g.L.Listener.given l)) g.L.Listener.faults g.L.Listener.came g.L.Listener.back g.L.Listener.ended in
    let asked = if_serves (asked_call (map string_bytes c.args.words.now)) in
    let only = asks_run (asked_call (map string_bytes c.args.words.now)) in
    let start = c.in-Ok-Ready.field-0-0 in
    let ready = rw c.in-Ok-Ready.field-0-is at c.in-Ok-Ready.ensures.prepared in
    let first_is = c.deref.ensures.value in
    let s = c.serve_accepted in
    let ran = s.ensures.run in
    served_left asked only _ start ready c.deref.result.now first_is (history_in s.result.runtime) (view c.args.listener) (view s.result.listener) _ _ _ _ _ ran c.prepare.ensures.reads

pub returns-in-Ok-Ready-clause-serves : goal.returns-in-Ok-Ready-clause-serves
returns-in-Ok-Ready-clause-serves g c =
    let asked = if_serves (asked_call (map string_bytes c.args.words.now)) in
    let only = asks_run (asked_call (map string_bytes c.args.words.now)) in
    let start = c.in-Ok-Ready.field-0-0 in
    let ready = rw c.in-Ok-Ready.field-0-is at c.in-Ok-Ready.ensures.prepared in
    let first_is = c.deref.ensures.value in
    says_yes asked only _ start ready c.deref.result.now _ _ c.args.listener c.serve_accepted.result.listener first_is c.serve_accepted.ensures.first

pub returns-in-Ok-Ready-clause-runtime : goal.returns-in-Ok-Ready-clause-runtime
returns-in-Ok-Ready-clause-runtime g c =
    let asked = if_serves (asked_call (map string_bytes c.args.words.now)) in
    let only = asks_run (asked_call (map string_bytes c.args.words.now)) in
    let start = c.in-Ok-Ready.field-0-0 in
    let ready = rw c.in-Ok-Ready.field-0-is at c.in-Ok-Ready.ensures.prepared in
    hands_back asked only _ start ready c.serve_accepted.result.runtime c.args.listener c.serve_accepted.result.listener c.serve_accepted.ensures.runtime

pub returns-in-Ok-Ready-clause-answered : goal.returns-in-Ok-Ready-clause-answered
returns-in-Ok-Ready-clause-answered g c =
    let see : g.row.L-Link.Denot → LinkView = view_by g.L.Link.Link.taken g.L.Link.Link.written g.L.Link.Link.closed g.L.Link.Link.is_shut g.L.Link.Link.read_faults g.L.Link.Link.write_faults in
    let view : g.row.L.Denot → ListenerView = listener_view (λ (l : g.row.L.Denot). told_given see (g.L.Listener.given l)) g.L.Listener.faults g.L.Listener.came g.L.Listener.back g.L.Listener.ended in
    let asked = if_serves (asked_call (map string_bytes c.args.words.now)) in
    let only = asks_run (asked_call (map string_bytes c.args.words.now)) in
    let start = c.in-Ok-Ready.field-0-0 in
    let ready = rw c.in-Ok-Ready.field-0-is at c.in-Ok-Ready.ensures.prepared in
    let first_is = c.deref.ensures.value in
    let s = c.serve_accepted in
    let ran = s.ensures.run in
    λ undisturbed. answered (RunOutput (view c.args.listener) (view s.result.listener) (history_in s.result.runtime)) asked _ _ _ _ _ _ undisturbed (
    served_left asked only _ start ready c.deref.result.now first_is (history_in s.result.runtime) (view c.args.listener) (view s.result.listener) _ _ _ _ _ ran c.prepare.ensures.reads)

pub returns-in-Ok-Ready-clause-decided : goal.returns-in-Ok-Ready-clause-decided
returns-in-Ok-Ready-clause-decided g c =
    let see : g.row.L-Link.Denot → LinkView = view_by g.L.Link.Link.taken g.L.Link.Link.written g.L.Link.Link.closed g.L.Link.Link.is_shut g.L.Link.Link.read_faults g.L.Link.Link.write_faults in
    let view : g.row.L.Denot → ListenerView = listener_view (λ (l : g.row.L.Denot). told_given see (g.L.Listener.given l)) g.L.Listener.faults g.L.Listener.came g.L.Listener.back g.L.Listener.ended in
    let asked = if_serves (asked_call (map string_bytes c.args.words.now)) in
    let only = asks_run (asked_call (map string_bytes c.args.words.now)) in
    let start = c.in-Ok-Ready.field-0-0 in
    let ready = rw c.in-Ok-Ready.field-0-is at c.in-Ok-Ready.ensures.prepared in
    let s = c.serve_accepted in
    let ran = s.ensures.run in
    λ program network bytes net run is is_net undisturbed no_fault few.
    served_decided asked only _ program network bytes net run is is_net _ _ _ _ _ undisturbed start ready c.deref.result.now (history_in s.result.runtime) (view c.args.listener) (view s.result.listener) no_fault few ran
