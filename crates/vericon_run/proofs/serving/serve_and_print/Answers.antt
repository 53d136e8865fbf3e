use Rattle.std.proofs.Common.{List, subst}
use Rattle.csdn_history.specs.declared.entry.Entry.{Entry}
use Rattle.session_workers.specs.declared.row.Row.{Row}
use Rattle.run_listing.specs.Lines.{run_text}
use Rattle.vericon_run.specs.Runs.{Prints, is_fault, status_of}
use Rattle.vericon_run.proofs.serving.serve_and_print.Goals as goal

pub returns-clause-printed : goal.returns-clause-printed
returns-clause-printed g c =
    let w = c.listen_and_serve-listener.result in
    let P : List Row × List Entry → Type 0 = λ x. Prints (run_text x.0 x.1 (is_fault w.halt)) (status_of w.halt) (g.S.Sink.written c.args.out.now) (g.S.Sink.written c.print-status.new.out) (g.S.Sink.faults c.args.out.now) (g.S.Sink.faults c.print-status.new.out) c.print-status.result in
    record {
      rows = w.rows.items;
      halt = w.halt;
      served = c.listen_and_serve-listener.ensures.served;
      prints = subst P (λ i. (c.deref.ensures.value i, c.history.ensures i)) c.print-status.ensures.prints;
    }
