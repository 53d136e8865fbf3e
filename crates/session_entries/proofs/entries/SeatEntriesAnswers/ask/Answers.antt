use Rattle.std.proofs.Common.{ap, ◌∙◌, ℕ, Err, true, false, inl, arith, length}
use Rattle.session_asks.specs.Told.{entry_of}
use Rattle.session_entries.proofs.Adding.{adds_none, adds_one, after_act, declares_it, entered_declared, entered_servable, full_there}
use Rattle.session_entries.proofs.entries.SeatEntriesAnswers.ask.Goals as goal

pub invariant_of-self : goal.invariant_of-self
invariant_of-self g c = record {
  here = c.act.ensures.seat.0;
  few = omega (arith, c.act.ensures.seat.2, c.requires.left);
  keeps = after_act c.args.self.now.hall.now.opening c.args.self.now.session c.args.self.now.begun.value.account c.args.self.now.seat.now.account c.act.new.seat.account c.args.ask c.entry_of-entry.result c.act.result c.args.self.now.keeps (c.entry_of-entry.ensures ∙ ap (λ (n : ℕ). entry_of n c.args.self.now.session c.args.ask) c.number.ensures) c.act.ensures.seat.1 c.act.ensures.ok c.act.ensures.err;
}

pub returns-in-Ok-clause-reply : goal.returns-in-Ok-clause-reply
returns-in-Ok-clause-reply g c =
    let declared = entered_declared c.args.self.now.hall.now.opening.program c.args.self.now.hall.now.opening.network c.args.self.now.seat.now.account.number c.args.self.now.session c.args.ask c.entry_of-entry.result c.act.result c.in-Ok.reply (c.entry_of-entry.ensures ∙ ap (λ (n : ℕ). entry_of n c.args.self.now.session c.args.ask) c.number.ensures) c.in-Ok.is c.act.ensures.stranger in (
      declares_it c.args.self.now.hall.now.opening.program c.args.self.now.hall.now.opening.network c.args.self.now.seat.now.account.number c.args.self.now.session c.args.ask c.entry_of-entry.result true (c.entry_of-entry.ensures ∙ ap (λ (n : ℕ). entry_of n c.args.self.now.session c.args.ask) c.number.ensures) declared,
      entered_servable c.args.self.now.hall.now.opening c.args.self.now.seat.now.account c.act.new.seat.account c.entry_of-entry.result c.in-Ok.reply c.act.ensures.stands declared c.in-Ok.ensures.ok,
      (adds_one c.args.self.now.hall.now.opening c.args.self.now.session c.args.self.now.begun.value.account c.args.self.now.seat.now.account c.act.new.seat.account c.args.ask c.entry_of-entry.result c.in-Ok.reply c.args.self.now.keeps (c.entry_of-entry.ensures ∙ ap (λ (n : ℕ). entry_of n c.args.self.now.session c.args.ask) c.number.ensures) c.act.ensures.seat.1 c.in-Ok.ensures.ok).given,
    )

pub returns-in-Ok-clause-asked : goal.returns-in-Ok-clause-asked
returns-in-Ok-clause-asked g c = (adds_one c.args.self.now.hall.now.opening c.args.self.now.session c.args.self.now.begun.value.account c.args.self.now.seat.now.account c.act.new.seat.account c.args.ask c.entry_of-entry.result c.in-Ok.reply c.args.self.now.keeps (c.entry_of-entry.ensures ∙ ap (λ (n : ℕ). entry_of n c.args.self.now.session c.args.ask) c.number.ensures) c.act.ensures.seat.1 c.in-Ok.ensures.ok).asked

pub returns-in-Err-Stranger-clause-err : goal.returns-in-Err-Stranger-clause-err
returns-in-Err-Stranger-clause-err g c = (adds_none c.args.self.now.hall.now.opening c.args.self.now.session c.args.self.now.begun.value.account c.args.self.now.seat.now.account c.act.new.seat.account c.in-Err-Stranger.field-0 c.args.self.now.keeps c.act.ensures.seat.1 c.in-Err-Stranger.ensures.err).given

pub returns-in-Err-Stranger-clause-once : goal.returns-in-Err-Stranger-clause-once
returns-in-Err-Stranger-clause-once g c = inl ((adds_none c.args.self.now.hall.now.opening c.args.self.now.session c.args.self.now.begun.value.account c.args.self.now.seat.now.account c.act.new.seat.account c.in-Err-Stranger.field-0 c.args.self.now.keeps c.act.ensures.seat.1 c.in-Err-Stranger.ensures.err).asked)

pub returns-in-Err-HistoryFull-clause-err : goal.returns-in-Err-HistoryFull-clause-err
returns-in-Err-HistoryFull-clause-err g c = (adds_none c.args.self.now.hall.now.opening c.args.self.now.session c.args.self.now.begun.value.account c.args.self.now.seat.now.account c.act.new.seat.account c.in-Err-HistoryFull.field-0 c.args.self.now.keeps c.act.ensures.seat.1 c.in-Err-HistoryFull.ensures.err).given

pub returns-in-Err-HistoryFull-clause-once : goal.returns-in-Err-HistoryFull-clause-once
returns-in-Err-HistoryFull-clause-once g c = inl ((adds_none c.args.self.now.hall.now.opening c.args.self.now.session c.args.self.now.begun.value.account c.args.self.now.seat.now.account c.act.new.seat.account c.in-Err-HistoryFull.field-0 c.args.self.now.keeps c.act.ensures.seat.1 c.in-Err-HistoryFull.ensures.err).asked)

pub returns-in-Err-Memory-clause-err : goal.returns-in-Err-Memory-clause-err
returns-in-Err-Memory-clause-err g c = (adds_none c.args.self.now.hall.now.opening c.args.self.now.session c.args.self.now.begun.value.account c.args.self.now.seat.now.account c.act.new.seat.account c.in-Err-Memory.field-0 c.args.self.now.keeps c.act.ensures.seat.1 c.in-Err-Memory.ensures.err).given

pub returns-in-Err-Memory-clause-once : goal.returns-in-Err-Memory-clause-once
returns-in-Err-Memory-clause-once g c = inl ((adds_none c.args.self.now.hall.now.opening c.args.self.now.session c.args.self.now.begun.value.account c.args.self.now.seat.now.account c.act.new.seat.account c.in-Err-Memory.field-0 c.args.self.now.keeps c.act.ensures.seat.1 c.in-Err-Memory.ensures.err).asked)

pub returns-in-Err-Stranger-clause-stranger : goal.returns-in-Err-Stranger-clause-stranger
returns-in-Err-Stranger-clause-stranger g c is =
    (declares_it c.args.self.now.hall.now.opening.program c.args.self.now.hall.now.opening.network c.args.self.now.seat.now.account.number c.args.self.now.session c.args.ask c.entry_of-entry.result false (c.entry_of-entry.ensures ∙ ap (λ (n : ℕ). entry_of n c.args.self.now.session c.args.ask) c.number.ensures) (c.act.ensures.stranger.0 (c.in-Err-Stranger.is ∙ ap Err c.in-Err-Stranger.field-0-is)), (adds_none c.args.self.now.hall.now.opening c.args.self.now.session c.args.self.now.begun.value.account c.args.self.now.seat.now.account c.act.new.seat.account c.in-Err-Stranger.field-0 c.args.self.now.keeps c.act.ensures.seat.1 c.in-Err-Stranger.ensures.err).asked)

pub returns-in-Err-HistoryFull-clause-full : goal.returns-in-Err-HistoryFull-clause-full
returns-in-Err-HistoryFull-clause-full g c is = ((adds_none c.args.self.now.hall.now.opening c.args.self.now.session c.args.self.now.begun.value.account c.args.self.now.seat.now.account c.act.new.seat.account c.in-Err-HistoryFull.field-0 c.args.self.now.keeps c.act.ensures.seat.1 c.in-Err-HistoryFull.ensures.err).asked, full_there (length c.act.new.seat.account.seen) c.args.self.now.hall.now.opening.room (c.in-Err-HistoryFull.ensures.err.full c.in-Err-HistoryFull.field-0-is))
