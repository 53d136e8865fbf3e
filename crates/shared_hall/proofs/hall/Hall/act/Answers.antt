use Rattle.std.proofs.Common.{◌≡◌, false, ap, ◌∙◌, sym, subst, arith}
use Rattle.std.specs.Prelude.{◌↔◌, Err, IfOk, IfErr}
use Rattle.csdn_run.specs.declared.runtime.RunRefusal.TheVariants.{Stranger}
use Rattle.csdn_run.specs.Histories.{Running}
use Rattle.csdn_run.specs.Standings.{is_declared}
use Rattle.shared_hall.specs.declared.view.Account.{Account}
use Rattle.shared_hall.specs.Halls.{CanServe, Enters, IsTurnedAway}
use Rattle.shared_hall.proofs.Answers.{strangers}
use Rattle.shared_hall.proofs.Calls.{may_pass, enters, turned_away}
use Rattle.shared_hall.proofs.hall.Hall.act.Goals as goal

pub give-requires-clause-turn : goal.give-requires-clause-turn
give-requires-clause-turn g c =
    let a = c.apply-answer.ensures in
    may_pass c.seat.inside.seat.me c.take-runtime.new.seat.me c.take-runtime.result c.apply-answer.new.self c.args.entry.now c.apply-answer.result
    (omega (arith, c.seat.invariant.2))
    c.take-runtime.ensures.took
    (record { answers = a.answer; reply = a.reply; entered = a.entered; err = a.same })
    (c.requires.number ∙ sym (ap (λ s. s.account.number) c.seat.view_is))

pub returns-clause-ok : goal.returns-clause-ok
returns-clause-ok g c =
    let a = c.apply-answer.ensures in
    let told = enters c.seat.inside.seat.me c.take-runtime.new.seat.me c.take-runtime.result c.apply-answer.new.self c.args.entry.now c.apply-answer.result
    c.take-runtime.ensures.took
    (record { answers = a.answer; reply = a.reply; entered = a.entered; err = a.same })
    (c.requires.number ∙ sym (ap (λ s. s.account.number) c.seat.view_is)) in
    let opening = ap (λ s. s.hall.opening) c.seat.view_is ∙ ap (λ h. h.opening) c.requires.hall in
    let old = ap (λ s. s.account) c.seat.view_is in
    let new = sym (ap (λ m. m.0.own) c.give.ensures.passed) in
    let P : Running × Account × Account → Type 0 = λ x. IfOk c.apply-answer.result (Enters x.0 x.1 x.2 c.args.entry.now) in
    subst P (λ z. (opening z, old z, new z)) told

pub returns-clause-err : goal.returns-clause-err
returns-clause-err g c =
    let a = c.apply-answer.ensures in
    let told = turned_away c.seat.inside.seat.me c.take-runtime.new.seat.me c.take-runtime.result c.apply-answer.new.self c.args.entry.now c.apply-answer.result
    c.take-runtime.ensures.took
    (record { answers = a.answer; reply = a.reply; entered = a.entered; err = a.same }) in
    let opening = ap (λ s. s.hall.opening) c.seat.view_is ∙ ap (λ h. h.opening) c.requires.hall in
    let old = ap (λ s. s.account) c.seat.view_is in
    let new = sym (ap (λ m. m.0.own) c.give.ensures.passed) in
    let P : Running × Account × Account → Type 0 = λ x. IfErr c.apply-answer.result (IsTurnedAway x.0 x.1 x.2) in
    subst P (λ z. (opening z, old z, new z)) told

pub returns-clause-stranger : goal.returns-clause-stranger
returns-clause-stranger g c =
    let is = strangers c.take-runtime.result c.args.entry.now c.apply-answer.result c.apply-answer.ensures.answer in
    let opening = c.take-runtime.ensures.took.runtime in
    let same = ap (λ s. s.hall.opening) c.seat.view_is ∙ ap (λ h. h.opening) c.requires.hall in
    let P : Running → Type 0 = λ r. (c.apply-answer.result ≡ Err Stranger) ↔ (is_declared r.program r.network c.args.entry.now ≡ false) in
    subst P (opening ∙ λ z. Rattle.csdn_run.specs.Histories.with_history (same z) c.take-runtime.ensures.took.history) is

pub returns-clause-stands : goal.returns-clause-stands
returns-clause-stands g c =
    let it = c.stands.ensures in
    let opening = c.take-runtime.ensures.took.runtime in
    let same = ap (λ s. s.hall.opening) c.seat.view_is ∙ ap (λ h. h.opening) c.requires.hall in
    let P : Running → Type 0 = λ r. CanServe r.program r.network in
    subst P (opening ∙ λ z. Rattle.csdn_run.specs.Histories.with_history (same z) c.take-runtime.ensures.took.history) (record { sorted = it.sorted; network = it.network; servable = it.servable })
