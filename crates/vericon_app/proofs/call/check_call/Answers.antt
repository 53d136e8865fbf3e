use Rattle.std.proofs.Common.{ℕ, List, subst}
use Rattle.file_loads.specs.Status.{code_of}
use Rattle.vericon_app.specs.Left.{Finishes}
use Rattle.vericon_app.proofs.Exact.{decided, answered}
use Rattle.vericon_app.proofs.Broken.{shown}
use Rattle.vericon_app.proofs.Logged.{logged}
use Rattle.vericon_app.proofs.Checks.{verified}
use Rattle.vericon_app.proofs.Outputs.{finished}
use Rattle.vericon_app.proofs.call.check_call.Goals as goal

pub returns-in-Ok-clause-output : goal.returns-in-Ok-clause-output
returns-in-Ok-clause-output g c =
    let F : List ℕ → Type 0 = λ text. Finishes text (code_of c.in-Ok.outcome.status) (g.S.Sink.written c.args.out.now) (g.S.Sink.written c.finish.new.out) (g.S.Sink.faults c.args.out.now) (g.S.Sink.faults c.finish.new.out) c.finish.result in
    finished _ _ _ _ _ _ _ _ c.in-Ok.ensures.output (subst F c.as_slice.ensures.value c.finish.ensures.finishes)

pub returns-in-Ok-clause-yes : goal.returns-in-Ok-clause-yes
returns-in-Ok-clause-yes g c = λ name asked zero_is.
    let F : List ℕ → Type 0 = λ text. Finishes text (code_of c.in-Ok.outcome.status) (g.S.Sink.written c.args.out.now) (g.S.Sink.written c.finish.new.out) (g.S.Sink.faults c.args.out.now) (g.S.Sink.faults c.finish.new.out) c.finish.result in
    verified _ _ _ _ _ _ _ _ _ name c.in-Ok.ensures.output (subst F c.as_slice.ensures.value c.finish.ensures.finishes) asked zero_is

pub returns-in-Ok-clause-broken : goal.returns-in-Ok-clause-broken
returns-in-Ok-clause-broken g c = λ name asked one_is.
    let F : List ℕ → Type 0 = λ text. Finishes text (code_of c.in-Ok.outcome.status) (g.S.Sink.written c.args.out.now) (g.S.Sink.written c.finish.new.out) (g.S.Sink.faults c.args.out.now) (g.S.Sink.faults c.finish.new.out) c.finish.result in
    shown c.start_is_initial.ensures _ _ _ _ _ _ _ _ _ name c.in-Ok.ensures.output (subst F c.as_slice.ensures.value c.finish.ensures.finishes) asked one_is

pub returns-in-Ok-clause-logged : goal.returns-in-Ok-clause-logged
returns-in-Ok-clause-logged g c = λ name log asked wants zero_is.
    let F : List ℕ → Type 0 = λ text. Finishes text (code_of c.in-Ok.outcome.status) (g.S.Sink.written c.args.out.now) (g.S.Sink.written c.finish.new.out) (g.S.Sink.faults c.args.out.now) (g.S.Sink.faults c.finish.new.out) c.finish.result in
    logged _ _ _ _ _ _ _ _ _ name log c.in-Ok.ensures.output (subst F c.as_slice.ensures.value c.finish.ensures.finishes) asked wants zero_is

pub returns-in-Ok-clause-answered : goal.returns-in-Ok-clause-answered
returns-in-Ok-clause-answered g c = λ quiet.
    let F : List ℕ → Type 0 = λ text. Finishes text (code_of c.in-Ok.outcome.status) (g.S.Sink.written c.args.out.now) (g.S.Sink.written c.finish.new.out) (g.S.Sink.faults c.args.out.now) (g.S.Sink.faults c.finish.new.out) c.finish.result in
    answered _ _ _ _ _ _ _ quiet (finished _ _ _ _ _ _ _ _ c.in-Ok.ensures.output (subst F c.as_slice.ensures.value c.finish.ensures.finishes))

pub returns-in-Ok-clause-decided : goal.returns-in-Ok-clause-decided
returns-in-Ok-clause-decided g c = λ name bytes asked told quiet.
    let F : List ℕ → Type 0 = λ text. Finishes text (code_of c.in-Ok.outcome.status) (g.S.Sink.written c.args.out.now) (g.S.Sink.written c.finish.new.out) (g.S.Sink.faults c.args.out.now) (g.S.Sink.faults c.finish.new.out) c.finish.result in
    decided _ _ _ _ _ _ _ quiet name bytes asked told (finished _ _ _ _ _ _ _ _ c.in-Ok.ensures.output (subst F c.as_slice.ensures.value c.finish.ensures.finishes))
