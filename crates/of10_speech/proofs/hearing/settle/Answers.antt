use Rattle.std.proofs.Common.{refl, sym, ap, ◌∙◌, Bool, length, List, [], ◌∷◌, ◌++◌, ◌+◌, length-append, add-zero}
use Rattle.csdn_history.specs.declared.reply.Reply.{Reply}
use Rattle.std.proofs.lemmas.List.{append-nil}
use Rattle.of10_session.specs.declared.turn.Ask.{Ask}
use Rattle.of10_speech.specs.Speeches.{Said, told, on_stranger}
use Rattle.of10_speech.proofs.Asked.{broke_entered, broke_full, broke_short, says_at, on_ask_reply, on_ask_none, on_ask_stranger, let_go}
use Rattle.of10_speech.proofs.hearing.settle.Goals as goal

pub returns-in-Ok-answer-clause-said : goal.returns-in-Ok-answer-clause-said
returns-in-Ok-answer-clause-said g c =
    says_at _ _ _ _ _ _ (on_ask_reply (told g.P.Answers.declares g.P.Answers.given g.P.Answers.asked c.ask.new.self) (g.P.Answers.given c.args.program.now) c.in-Ok.reply c.args.session.now c.args.ask (ap (λ (f : Ask → Bool). f c.args.ask) c.in-Ok.ensures.same ∙ c.in-Ok.ensures.reply.0) c.in-Ok.ensures.reply.2)
    (record { stops = refl; goes_on = c.in-Ok-answer.ensures.session; bytes = c.in-Ok-answer.ensures.bytes })

pub returns-in-Join-clause-said : goal.returns-in-Join-clause-said
returns-in-Join-clause-said g c =
    says_at _ _ _ _ _ _ (on_ask_stranger (told g.P.Answers.declares g.P.Answers.given g.P.Answers.asked c.ask.new.self) (length (g.P.Answers.given c.args.program.now)) c.args.session.now c.args.ask (ap (λ (f : Ask → Bool). f c.args.ask) c.in-Err-Stranger.ensures.same ∙ (c.in-Err-Stranger.ensures.stranger (cc)).0) ∙ ap (λ (a : Ask). on_stranger a c.args.session.now) c.in-Join.is)
    (record { stops = refl; goes_on = refl; bytes = sym (append-nil c.args.out.now.items) })

pub returns-in-Err-Stranger-clause-said : goal.returns-in-Err-Stranger-clause-said
returns-in-Err-Stranger-clause-said g c =
    says_at _ _ _ _ _ _ (on_ask_stranger (told g.P.Answers.declares g.P.Answers.given g.P.Answers.asked c.ask.new.self) (length (g.P.Answers.given c.args.program.now)) c.args.session.now c.args.ask (ap (λ (f : Ask → Bool). f c.args.ask) c.in-Err-Stranger.ensures.same ∙ (c.in-Err-Stranger.ensures.stranger (cc)).0) ∙ let_go c.args.session.now c.args.ask c.in-Packet.is)
    (record { stops = refl; goes_on = c.pass.ensures; bytes = sym (append-nil c.args.out.now.items) })

pub returns-in-Err-NoEntry-clause-said : goal.returns-in-Err-NoEntry-clause-said
returns-in-Err-NoEntry-clause-said g c =
    says_at _ _ _ _ _ _ (on_ask_none (told g.P.Answers.declares g.P.Answers.given g.P.Answers.asked c.ask.new.self) (g.P.Answers.given c.args.program.now) c.args.session.now c.args.ask (ap (λ (f : Ask → Bool). f c.args.ask) c.in-Err-NoEntry.ensures.same ∙ c.in-Err-NoEntry.ensures.declared (λ h. cc)) c.in-Err-NoEntry.ensures.err)
    (record { stops = refl; goes_on = refl; bytes = sym (append-nil c.args.out.now.items) })

pub returns-in-Ok-answer-clause-counts : goal.returns-in-Ok-answer-clause-counts
returns-in-Ok-answer-clause-counts g c h =
    let e = on_ask_reply (told g.P.Answers.declares g.P.Answers.given g.P.Answers.asked c.ask.new.self) (g.P.Answers.given c.args.program.now) c.in-Ok.reply c.args.session.now c.args.ask (ap (λ (f : Ask → Bool). f c.args.ask) c.in-Ok.ensures.same ∙ c.in-Ok.ensures.reply.0) c.in-Ok.ensures.reply.2 in
    ap (λ (l : List Reply). length l) c.in-Ok.ensures.reply.2 ∙ (length-append (g.P.Answers.given c.args.program.now) (c.in-Ok.reply ∷ []) ∙ ap (λ (y : Said). length (g.P.Answers.given c.args.program.now) + length y.asks) (sym e))

pub returns-in-Err-Stranger-clause-counts : goal.returns-in-Err-Stranger-clause-counts
returns-in-Err-Stranger-clause-counts g c h =
    let e = on_ask_stranger (told g.P.Answers.declares g.P.Answers.given g.P.Answers.asked c.ask.new.self) (length (g.P.Answers.given c.args.program.now)) c.args.session.now c.args.ask (ap (λ (f : Ask → Bool). f c.args.ask) c.in-Err-Stranger.ensures.same ∙ (c.in-Err-Stranger.ensures.stranger (cc)).0) ∙ let_go c.args.session.now c.args.ask c.in-Packet.is in
    ap (λ (l : List Reply). length l) c.in-Err-Stranger.ensures.err ∙ (sym (add-zero (length (g.P.Answers.given c.args.program.now))) ∙ ap (λ (y : Said). length (g.P.Answers.given c.args.program.now) + length y.asks) (sym e))

pub returns-in-Ok-answer-clause-asked : goal.returns-in-Ok-answer-clause-asked
returns-in-Ok-answer-clause-asked g c =
    let e = on_ask_reply (told g.P.Answers.declares g.P.Answers.given g.P.Answers.asked c.ask.new.self) (g.P.Answers.given c.args.program.now) c.in-Ok.reply c.args.session.now c.args.ask (ap (λ (f : Ask → Bool). f c.args.ask) c.in-Ok.ensures.same ∙ c.in-Ok.ensures.reply.0) c.in-Ok.ensures.reply.2 in
    c.in-Ok.ensures.asked ∙ ap (λ (y : Said). g.P.Answers.asked c.args.program.now ++ y.asks) (sym e)

pub returns-in-Join-clause-asked : goal.returns-in-Join-clause-asked
returns-in-Join-clause-asked g c =
    let e = on_ask_stranger (told g.P.Answers.declares g.P.Answers.given g.P.Answers.asked c.ask.new.self) (length (g.P.Answers.given c.args.program.now)) c.args.session.now c.args.ask (ap (λ (f : Ask → Bool). f c.args.ask) c.in-Err-Stranger.ensures.same ∙ (c.in-Err-Stranger.ensures.stranger (cc)).0) ∙ ap (λ (a : Ask). on_stranger a c.args.session.now) c.in-Join.is in
    (c.in-Err-Stranger.ensures.stranger (cc)).1 ∙ (sym (append-nil (g.P.Answers.asked c.args.program.now)) ∙ ap (λ (y : Said). g.P.Answers.asked c.args.program.now ++ y.asks) (sym e))

pub returns-in-Err-Stranger-clause-asked : goal.returns-in-Err-Stranger-clause-asked
returns-in-Err-Stranger-clause-asked g c =
    let e = on_ask_stranger (told g.P.Answers.declares g.P.Answers.given g.P.Answers.asked c.ask.new.self) (length (g.P.Answers.given c.args.program.now)) c.args.session.now c.args.ask (ap (λ (f : Ask → Bool). f c.args.ask) c.in-Err-Stranger.ensures.same ∙ (c.in-Err-Stranger.ensures.stranger (cc)).0) ∙ let_go c.args.session.now c.args.ask c.in-Packet.is in
    (c.in-Err-Stranger.ensures.stranger (cc)).1 ∙ (sym (append-nil (g.P.Answers.asked c.args.program.now)) ∙ ap (λ (y : Said). g.P.Answers.asked c.args.program.now ++ y.asks) (sym e))

pub returns-in-Err-NoEntry-clause-asked : goal.returns-in-Err-NoEntry-clause-asked
returns-in-Err-NoEntry-clause-asked g c =
    let e = on_ask_none (told g.P.Answers.declares g.P.Answers.given g.P.Answers.asked c.ask.new.self) (g.P.Answers.given c.args.program.now) c.args.session.now c.args.ask (ap (λ (f : Ask → Bool). f c.args.ask) c.in-Err-NoEntry.ensures.same ∙ c.in-Err-NoEntry.ensures.declared (λ h. cc)) c.in-Err-NoEntry.ensures.err in
    (c.in-Err-NoEntry.ensures.waits (cc)).0 ∙ ap (λ (y : Said). g.P.Answers.asked c.args.program.now ++ y.asks) (sym e)

pub returns-in-Ok-clause-broken : goal.returns-in-Ok-clause-broken
returns-in-Ok-clause-broken g c =
    broke_entered (told g.P.Answers.declares g.P.Answers.given g.P.Answers.asked c.ask.new.self) (told g.P.Answers.declares g.P.Answers.given g.P.Answers.asked c.args.program.now) (g.P.Answers.given c.args.program.now) c.in-Ok.reply c.args.session.now c.args.ask (ap (λ (f : Ask → Bool). f c.args.ask) c.in-Ok.ensures.same ∙ c.in-Ok.ensures.reply.0) c.in-Ok.ensures.reply.2 c.in-Ok.ensures.asked

pub returns-in-Err-Full-clause-broken : goal.returns-in-Err-Full-clause-broken
returns-in-Err-Full-clause-broken g c =
    broke_full (told g.P.Answers.declares g.P.Answers.given g.P.Answers.asked c.ask.new.self) (told g.P.Answers.declares g.P.Answers.given g.P.Answers.asked c.args.program.now) (g.P.Answers.given c.args.program.now) c.args.session.now c.args.ask (ap (λ (f : Ask → Bool). f c.args.ask) c.in-Err-Full.ensures.same ∙ c.in-Err-Full.ensures.declared (λ h. cc)) c.in-Err-Full.ensures.err (c.in-Err-Full.ensures.full (cc)).0

pub returns-clause-broken : goal.returns-clause-broken
returns-clause-broken g c =
    broke_short (told g.P.Answers.declares g.P.Answers.given g.P.Answers.asked c.ask.new.self) (told g.P.Answers.declares g.P.Answers.given g.P.Answers.asked c.args.program.now) (g.P.Answers.given c.args.program.now) c.args.session.now c.args.ask (ap (λ (f : Ask → Bool). f c.args.ask) c.in-Err-Memory.ensures.same ∙ c.in-Err-Memory.ensures.declared (λ h. cc)) c.in-Err-Memory.ensures.err c.in-Err-Memory.ensures.once
