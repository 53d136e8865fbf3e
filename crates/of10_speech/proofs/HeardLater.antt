-- What was said stays said, whatever comes later and whatever is entered later.
use Rattle.std.proofs.Common.{◌≡◌, ◌≢◌, ℕ, ◌<◌, List, [], ◌∷◌, ◌++◌, length, refl, sym, ap, ◌∙◌, Bool, true, false, Option, Some, None, arith, length-append}
use Rattle.std.specs.Prelude.{slice_get, if◌then◌else◌}
use Rattle.std.proofs.lemmas.Option.{slice_get-get_or, slice_get_within}
use Rattle.std.proofs.lemmas.List.{get_or_append_left}
use Rattle.csdn_history.specs.declared.reply.Reply.{Reply}
use Rattle.of10_msgs.specs.declared.message.Message.{Message}
use Rattle.of10_stream.specs.Streams.{frame_width}
use Rattle.of10_session.specs.declared.turn.Ask.{Ask}
use Rattle.of10_session.specs.declared.turn.Turn.{Turn}
use Rattle.of10_session.specs.declared.turn.Turn.TheVariants.{Go, Ask as AskFor, End}
use Rattle.of10_session.specs.declared.turn.TurnEnd.TheVariants.{Incompatible, OutOfTurn}
use Rattle.of10_speech.specs.declared.stops.SpeechStop.{SpeechStop}
use Rattle.of10_speech.specs.declared.stops.SpeechStop.TheVariants.{Goes, Waits, Ends}
use Rattle.of10_session.specs.Progresses.{Progress}
use Rattle.of10_session.specs.Sessions.{turn}
use Rattle.of10_speech.specs.Speeches.{Told, Further, Said, Speech, on_ask, on_entry, on_stranger, on_turn, said_to, with_said, hear, hear_all}

pub hear_all-snoc : (t : Told) (x : Speech) (ms : List Message) (m : Message) → hear_all t x (ms ++ m ∷ []) ≡ hear t (hear_all t x ms) m
hear_all-snoc t x [] m = refl
hear_all-snoc t x (n ∷ ms) m = hear_all-snoc t (hear t x n) ms m

pub hear_all-append : (t : Told) (x : Speech) (ms ns : List Message) → hear_all t x (ms ++ ns) ≡ hear_all t (hear_all t x ms) ns
hear_all-append t x [] ns = refl
hear_all-append t x (m ∷ ms) ns = hear_all-append t (hear t x m) ms ns

-- a session that has stopped says nothing more
pub stays : (t : Told) (x : Speech) (m : Message) (stop : SpeechStop) → x.stop ≡ stop → stop ≢ Goes → hear t x m ≡ x
stays t x m Goes e stopped = absurd (stopped refl)
stays t x m Waits e stopped = rw e refl
stays t x m (Ends end) e stopped = rw e refl

pub stopped : (t : Told) (x : Speech) (ms : List Message) → x.stop ≢ Goes → hear_all t x ms ≡ x
stopped t x [] h = refl
stopped t x (m ∷ ms) h =
    let one = stays t x m x.stop refl h in
    ap (λ (y : Speech). hear_all t y ms) one ∙ stopped t x ms h

-- ---- more entries

pub reply-further : (t u : Told) (k : ℕ) → Further t u → (r : Reply) → slice_get t.replies k ≡ Some r → slice_get u.replies k ≡ Some r
reply-further t u k f r e =
    let within : k < length t.replies = slice_get_within t.replies k r e in
    let all : k < length (t.replies ++ f.more) = omega (arith, length-append t.replies f.more) in
    rw f.replies (slice_get-get_or (t.replies ++ f.more) k r all ∙ (ap (λ (x : Reply). Some x) (get_or_append_left t.replies f.more r k within) ∙ (sym (slice_get-get_or t.replies k r within) ∙ e)))

entry-further : (t u : Told) (k : ℕ) → Further t u → (o : Option Reply) → slice_get t.replies k ≡ o → (s : Progress) (ask : Ask) → (on_entry (slice_get t.replies k) s ask).stop ≢ Waits → on_entry (slice_get u.replies k) s ask ≡ on_entry (slice_get t.replies k) s ask
entry-further t u k f None e s ask goes = absurd (goes (rw e refl))
entry-further t u k f (Some r) e s ask goes = ap (λ (o : Option Reply). on_entry o s ask) (reply-further t u k f r e ∙ sym e)

ask-further : (t u : Told) (k : ℕ) → Further t u → (s : Progress) (ask : Ask) → (on_ask t k s ask).stop ≢ Waits → on_ask u k s ask ≡ on_ask t k s ask
unfolding on_ask
ask-further t u k f s ask goes = cases (t.declares ask) refl
  where
    cases : (b : Bool) → t.declares ask ≡ b → (if u.declares ask then on_entry (slice_get u.replies k) s ask else on_stranger ask s) ≡ (if t.declares ask then on_entry (slice_get t.replies k) s ask else on_stranger ask s)
    cases true e =
        let e' : u.declares ask ≡ true = ap (λ (h : Ask → Bool). h ask) f.declares ∙ e in
        let goes' : (on_entry (slice_get t.replies k) s ask).stop ≢ Waits = rw e at goes in
        rw (e, e') (entry-further t u k f (slice_get t.replies k) refl s ask goes')
    cases false e =
        let e' : u.declares ask ≡ false = ap (λ (h : Ask → Bool). h ask) f.declares ∙ e in
        rw (e, e') refl

turn-further : (t u : Told) (place k : ℕ) → Further t u → (s : Progress) (sent : List Message) (r : Turn) → (on_turn t place k s sent r).stop ≢ Waits → on_turn u place k s sent r ≡ on_turn t place k s sent r
turn-further t u place k f s sent Go h = refl
turn-further t u place k f s sent (AskFor ask) h = ask-further t u k f s ask h
turn-further t u place k f s sent (End Incompatible) h = refl
turn-further t u place k f s sent (End OutOfTurn) h = refl

pub hear-further : (t u : Told) → Further t u → (x : Speech) (m : Message) (stop : SpeechStop) → x.stop ≡ stop → (hear t x m).stop ≢ Waits → hear u x m ≡ hear t x m
hear-further t u f x m Goes e h =
    let h' : (said_to t x.place (length x.asks) x.session m).stop ≢ Waits = rw e at h in
    rw e (ap (λ (y : Said). with_said x (frame_width m) y) (turn-further t u x.place (length x.asks) f (turn x.session m).session (turn x.session m).sent (turn x.session m).turn h'))
hear-further t u f x m Waits e h = rw e refl
hear-further t u f x m (Ends end) e h = rw e refl

-- what was said without waiting is said whatever is entered later
pub said-further : (t u : Told) → Further t u → (x : Speech) (ms : List Message) → (hear_all t x ms).stop ≢ Waits → hear_all u x ms ≡ hear_all t x ms
said-further t u f x [] h = refl
said-further t u f x (m ∷ ms) h =
    let h' : (hear t x m).stop ≢ Waits = λ w. h (ap (λ (y : Speech). y.stop) (stopped t (hear t x m) ms (λ g. absurd (waits_goes (sym w ∙ g)))) ∙ w) in
    let one = hear-further t u f x m x.stop refl h' in
    ap (λ (y : Speech). hear_all u y ms) one ∙ said-further t u f (hear t x m) ms h
  where
    waits_goes : Waits ≡ Goes → ⊥
    waits_goes e = cc
