-- What was said so far is a beginning of the answer.
use Rattle.std.proofs.Common.{◌≡◌, ℕ, List, [], ◌++◌, length, Result, Ok, Err, ap, sym, ◌∙◌, arith, append_assoc}
use Rattle.std.proofs.lemmas.List.{append-nil}
use Rattle.std.proofs.lemmas.Grind.{flat_map-append}
use Rattle.csdn_history.specs.declared.reply.Reply.{Reply}
use Rattle.of10_msgs.specs.Messages.{zeroed}
use Rattle.of10_stream.specs.Framings.{Framing, framing}
use Rattle.of10_session.specs.declared.turn.Ask.{Ask}
use Rattle.of10_session.specs.Progresses.{Progress}
use Rattle.of10_session.specs.Sessions.{spelled}
use Rattle.of10_speech.specs.declared.speaking.Spoken.{Spoken}
use Rattle.of10_speech.specs.declared.stops.Broken.{Broken}
use Rattle.of10_speech.specs.declared.stops.Broken.TheVariants.{Full, Memory}
use Rattle.of10_speech.specs.declared.stops.SpeechStop.{SpeechStop}
use Rattle.of10_speech.specs.declared.stops.SpeechStop.TheVariants.{Goes, Waits, Ends}
use Rattle.of10_speech.specs.Speeches.{Told, Further, Speech, opening, IsSpoken, IsBeginning}
use Rattle.of10_speech.specs.Hearings.{Following, IsAnswer, Awaits, HasAsked}
use Rattle.of10_speech.proofs.Ends.{one_spoken}
use Rattle.of10_speech.proofs.Following.{follows_nothing}
use Rattle.of10_speech.proofs.Beginnings.{following_begins}
use Rattle.link_sessions.specs.Pieces.{CutOff, AfterPiece}

pub no_further : (t : Told) → Further t t
no_further t = record { declares = λ i. t.declares; more = []; replies = sym (append-nil t.replies) }

pub still_further : (t u v : Told) → Further t u → Further u v → Further t v
still_further t u v a b = record { declares = b.declares ∙ a.declares; more = a.more ++ b.more; replies = b.replies ∙ (ap (λ (l : List Reply). l ++ b.more) a.replies ∙ append_assoc t.replies a.more b.more) }

-- two answers to the same bytes are one
pub same_answer : (t : Told) (number : ℕ) (bytes : List ℕ) (x y : Speech) → IsSpoken t number bytes x → IsSpoken t number bytes y → y ≡ x
same_answer t number bytes x y a b = let h = one_spoken t number bytes in h.only y b ∙ sym (h.only x a)

-- what is behind the bytes of a beginning
pub bytes_begin : (x y : Speech) (now : List ℕ) → IsBeginning x y → now ≡ [] ++ spelled x.sent → (left : List ℕ) × (spelled y.sent ≡ now ++ left)
bytes_begin x y now h is = (spelled h.sent_behind, ap spelled h.sent ∙ (flat_map-append zeroed x.sent h.sent_behind ∙ ap (λ (l : List ℕ). l ++ spelled h.sent_behind) (sym is)))

-- less was written
pub cut_shorter : (t : Told) (number : ℕ) (bytes now front left : List ℕ) (few : ℕ) → now ≡ front ++ left → CutOff t number bytes now few → CutOff t number bytes front few
cut_shorter t number bytes now front left few is cut y spoken =
    let h = cut y spoken in
    record { asked = h.asked; left = left ++ h.left; written = h.written ∙ (ap (λ (l : List ℕ). l ++ h.left) is ∙ append_assoc front left h.left); ignored = h.ignored }

pub cut_following : (t u : Told) (number : ℕ) (bytes : List ℕ) (at : ℕ) (f : Framing) (s : Progress) (now : List ℕ) → Further t u → Following t number bytes at f s [] now
    → ((y : Speech) → IsSpoken u number bytes y → HasAsked u y) → CutOff u number bytes now s.ignored
cut_following t u number bytes at f s now further w asked y spoken =
    let h = following_begins t u number bytes at f s [] now y further w spoken in
    let b = bytes_begin w.speech_is y now h w.written in
    record { asked = asked y spoken; left = b.0; written = b.1; ignored = omega (arith, h.ignored, ap (λ (p : Progress). p.ignored) w.follows.session) }

pub following_asked : (t : Told) (number : ℕ) (bytes : List ℕ) (at : ℕ) (f : Framing) (s : Progress) (now : List ℕ) → Following t number bytes at f s [] now → (y : Speech) → IsSpoken t number bytes y → HasAsked t y
following_asked t number bytes at f s now w y spoken =
    let h = following_begins t t number bytes at f s [] now y (no_further t) w spoken in
    record { left = h.asks_behind; asks = h.asks ∙ ap (λ (l : List Ask). l ++ h.asks_behind) w.follows.asked }

pub cut_answer : (t : Told) (number : ℕ) (bytes now : List ℕ) (r : Spoken) → IsAnswer t number bytes [] now r → CutOff t number bytes now r.ignored
cut_answer t number bytes now r h y spoken =
    let same = same_answer t number bytes h.speech_is y h.spoken spoken in
    record {
      asked = record { left = []; asks = ap (λ (x : Speech). x.asks) same ∙ (h.asked ∙ sym (append-nil t.asks)) };
      left = [];
      written = ap (λ (x : Speech). spelled x.sent) same ∙ (sym h.written ∙ sym (append-nil now));
      ignored = omega (arith, h.ignored, ap (λ (x : Speech). x.session.ignored) same);
    }

pub cut_waiting : (t : Told) (number : ℕ) (bytes now : List ℕ) (few : ℕ) → Awaits t number bytes [] now few → CutOff t number bytes now few
cut_waiting t number bytes now few h y spoken =
    let same = same_answer t number bytes h.speech_is y h.spoken spoken in
    record {
      asked = record { left = h.asked.left; asks = ap (λ (x : Speech). x.asks) same ∙ h.asked.asks };
      left = [];
      written = ap (λ (x : Speech). spelled x.sent) same ∙ (sym h.written ∙ sym (append-nil now));
      ignored = omega (arith, h.ignored, ap (λ (x : Speech). x.session.ignored) same);
    }

-- whatever came of a piece
pub cut_piece : (t : Told) (number : ℕ) (bytes : List ℕ) (f : Framing) (s : Progress) (now : List ℕ) (result : Result SpeechStop Broken) → AfterPiece t number bytes f s now result → CutOff t number bytes now s.ignored
cut_piece t number bytes f s now (Ok Goes) h = cut_following t t number bytes (length bytes) f s now (no_further t) h (following_asked t number bytes (length bytes) f s now h)
cut_piece t number bytes f s now (Ok Waits) h = cut_answer t number bytes now (record { stop = Waits; ignored = s.ignored }) h
cut_piece t number bytes f s now (Ok (Ends e)) h = cut_answer t number bytes now (record { stop = Ends e; ignored = s.ignored }) h
cut_piece t number bytes f s now (Err Full) h = cut_waiting t number bytes now s.ignored h
cut_piece t number bytes f s now (Err Memory) h = h

-- before the first byte: what was written is a beginning of the greeting
pub cut_greeting : (t : Told) (number : ℕ) (front left : List ℕ) → t.replies ≡ [] → t.asks ≡ [] → spelled (opening number).sent ≡ front ++ left → CutOff t number [] front 0
cut_greeting t number front left none no_asks is =
    let now = spelled (opening number).sent in
    let w = follows_nothing t number [] (framing 0 []) (opening number).session [] now none no_asks (λ i. framing 0 []) (λ i. (opening number).session) (λ i. now) in
    cut_shorter t number [] now front left 0 is (cut_piece t number [] (framing 0 []) (opening number).session now (Ok Goes) w)
