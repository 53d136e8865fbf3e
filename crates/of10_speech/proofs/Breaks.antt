-- Where a session breaks off.
use Rattle.std.proofs.Common.{◌≡◌, ◌≢◌, ℕ, List, [], ◌∷◌, ◌++◌, length, take, drop, refl, sym, ap, subst, ◌∙◌, ◌⊎◌, inl, inr}
use Rattle.std.proofs.lemmas.List.{append-nil, take-append-drop}
use Rattle.of10_msgs.specs.declared.message.Message.{Message}
use Rattle.of10_msgs.specs.Messages.{spells}
use Rattle.of10_stream.specs.Framings.{Framing, IsFrame}
use Rattle.of10_stream.specs.Streams.{frame_width}
use Rattle.of10_stream.proofs.Once.{one, stream-one}
use Rattle.of10_session.specs.declared.turn.Ask.{Ask}
use Rattle.of10_session.specs.Progresses.{Progress, IsListening}
use Rattle.of10_session.specs.Sessions.{spelled}
use Rattle.of10_speech.specs.declared.stops.Broken.{Broken as Break}
use Rattle.of10_speech.specs.declared.stops.Broken.TheVariants.{Full, Memory}
use Rattle.of10_speech.specs.declared.stops.SpeechStop.TheVariants.{Goes, Waits}
use Rattle.of10_speech.specs.Speeches.{Told, Further, Speech, said_to, with_said, hear_all, speech, opening, IsSpoken, IsBeginning}
use Rattle.of10_speech.specs.Hearings.{Follows, Following, BreaksMessage, Breaks, HasAsked, Awaits}
use Rattle.of10_speech.proofs.ReadOn.{stream_behind}
use Rattle.of10_speech.proofs.Ready.{said_ready}
use Rattle.of10_speech.proofs.HeardLater.{hear_all-append}
use Rattle.of10_speech.proofs.Following.{after_message, bytes_after, found_read, stops_said}
use Rattle.of10_speech.proofs.Beginnings.{following_begins, many_more, to_the_tail}

-- what was said so far, with what is said to a message that became whole, is a beginning of what is said in the end
message_begins : (t u : Told) (number : ℕ) (taken : List ℕ) (f : Framing) (s : Progress) (x : Speech) (piece : List ℕ) (used : ℕ) (m : Message) (y : Speech) → Further t u → Follows t number taken f s x → IsListening s
    → IsFrame (f.held ++ take used piece) → spells m (f.held ++ take used piece) → IsSpoken u number (taken ++ piece) y → IsBeginning (with_said x (frame_width m) (said_to u f.start (length t.replies) s m)) y
message_begins t u number taken f s x piece used m y further w listens frame spelled_as spoken =
    let heard : List Message = w.messages ++ m ∷ [] in
    let rest = one (drop used piece) in
    let z : Speech = with_said x (frame_width m) (said_to u f.start (length t.replies) s m) in
    let all = stream_behind heard rest.messages (taken ++ piece) (drop used piece) rest.tail (found_read taken w.messages f.held piece used m w.begins frame spelled_as) rest.is in
    let same = (stream-one (taken ++ piece) spoken.messages (heard ++ rest.messages) spoken.tail rest.tail spoken.stream all).0 in
    let said : speech u number spoken.messages ≡ hear_all u z rest.messages =
    ap (speech u number) same ∙ (hear_all-append u (opening number) heard rest.messages ∙ ap (λ (v : Speech). hear_all u v rest.messages) (after_message t u number taken f s x further w m)) in
    let ready = said_ready u f.start (length t.replies) s m listens in
    subst (λ (v : Speech). IsBeginning z v) (sym spoken.said)
    (to_the_tail z (speech u number spoken.messages) (speech u number spoken.messages).stop spoken.tail (subst (λ (v : Speech). IsBeginning z v) (sym said) (many_more u z rest.messages ready.listens)))

waits_goes : Waits ≢ Goes
waits_goes e = cc

-- the history is full: the answer waits there
pub breaks_full : (t u : Told) (number : ℕ) (bytes : List ℕ) (at : ℕ) (f : Framing) (s : Progress) (before now : List ℕ) → Further t u → Following t number bytes at f s before now → Breaks t u f s (drop at bytes) Full → Awaits u number bytes before now s.ignored
breaks_full t u number bytes at f s before now further w (inl k) =
    let full = k.breaks.full refl in
    let y = said_to u f.start (length t.replies) s k.message in
    record {
      speech_is = with_said w.speech_is (frame_width k.message) y;
      spoken = subst (λ (l : List ℕ). IsSpoken u number l (with_said w.speech_is (frame_width k.message) y)) (take-append-drop at bytes)
          (stops_said t u number (take at bytes) f s w.speech_is (drop at bytes) k.used k.message further w.follows k.frame k.spelled_as (λ h. waits_goes (sym full.waits ∙ h)));
      waits = full.waits;
      ignored = sym full.ignored;
      asked = record { left = y.asks; asks = ap (λ (l : List Ask). l ++ y.asks) (w.follows.asked ∙ sym full.asked) };
      written = bytes_after w.speech_is (frame_width k.message) y before now now w.written (sym (ap (λ (ms : List Message). now ++ spelled ms) full.nothing ∙ append-nil now));
    }
breaks_full t u number bytes at f s before now further w (inr k) = absurd (full_memory k.0)
  where
    full_memory : Full ≢ Memory
    full_memory e = cc

-- wherever it breaks off, what was asked is a beginning of what is asked in the end
pub breaks_asked : (t u : Told) (number : ℕ) (bytes : List ℕ) (at : ℕ) (f : Framing) (s : Progress) (before now : List ℕ) (why : Break) (y : Speech) → Further t u → Following t number bytes at f s before now → Breaks t u f s (drop at bytes) why → IsSpoken u number bytes y → HasAsked u y
breaks_asked t u number bytes at f s before now why y further w k spoken = by k
  where
    same : u.asks ≡ t.asks → HasAsked u y
    same e =
        let h = following_begins t u number bytes at f s before now y further w spoken in
        record { left = h.asks_behind; asks = h.asks ∙ ap (λ (l : List Ask). l ++ h.asks_behind) (w.follows.asked ∙ sym e) }

    more : (j : BreaksMessage t u f s (drop at bytes) why) → (u.asks ≡ t.asks) ⊎ (u.asks ≡ t.asks ++ (said_to u f.start (length t.replies) s j.message).asks) → HasAsked u y
    more j (inl e) = same e
    more j (inr e) =
        let h = message_begins t u number (take at bytes) f s w.speech_is (drop at bytes) j.used j.message y further w.follows w.listens j.frame j.spelled_as (subst (λ (l : List ℕ). IsSpoken u number l y) (sym (take-append-drop at bytes)) spoken) in
        record { left = h.asks_behind; asks = h.asks ∙ ap (λ (l : List Ask). l ++ h.asks_behind) (ap (λ (l : List Ask). l ++ (said_to u f.start (length t.replies) s j.message).asks) w.follows.asked ∙ sym e) }

    by : Breaks t u f s (drop at bytes) why → HasAsked u y
    by (inl j) = more j j.breaks.asked
    by (inr j) = same j.1
