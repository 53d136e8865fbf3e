-- What is said in the end begins with what was said so far.
use Rattle.std.proofs.Common.{◌≡◌, ◌≢◌, ◌≤◌, ℕ, List, [], ◌∷◌, ◌++◌, length, take, drop, refl, sym, ap, subst, ◌∙◌, inl, inr, arith, length-append, append_assoc, Bool, true, false, Option, Some, None}
use Rattle.std.specs.Prelude.{slice_get, if◌then◌else◌}
use Rattle.csdn_history.specs.declared.reply.Reply.{Reply}
use Rattle.std.proofs.lemmas.List.{append-nil, take-append-drop}
use Rattle.std.proofs.Math.Seq.{take-length, take-append_seam}
use Rattle.of10_msgs.specs.declared.message.Message.{Message}
use Rattle.of10_stream.specs.declared.tail.Tail.{Tail}
use Rattle.of10_stream.specs.declared.tail.Tail.TheVariants.{Cut, Broken}
use Rattle.of10_stream.specs.Framings.{Framing}
use Rattle.of10_stream.specs.Streams.{frame_width}
use Rattle.of10_stream.proofs.ReadLaws.{read-more}
use Rattle.of10_stream.proofs.Once.{one, stream-one}
use Rattle.of10_session.specs.declared.turn.Ask.{Ask}
use Rattle.of10_session.specs.declared.turn.Turn.{Turn}
use Rattle.of10_session.specs.declared.turn.Turn.TheVariants.{Go, Ask as AskFor, End}
use Rattle.of10_session.specs.declared.turn.TurnEnd.TheVariants.{Incompatible, OutOfTurn}
use Rattle.of10_session.specs.Progresses.{Progress, IsListening}
use Rattle.of10_session.specs.Sessions.{turn}
use Rattle.of10_session.specs.Replies.{answered}
use Rattle.of10_speech.specs.declared.hearing.Hearing.{Hearing}
use Rattle.of10_speech.specs.declared.stops.SpeechStop.{SpeechStop}
use Rattle.of10_speech.specs.declared.stops.SpeechStop.TheVariants.{Goes, Waits, Ends}
use Rattle.of10_speech.specs.Speeches.{Told, Further, Said, Speech, on_ask, on_entry, on_stranger, on_turn, said_to, with_said, hear, hear_all, speech, opening, ended_by, IsSpoken, IsBeginning}
use Rattle.of10_speech.specs.Hearings.{Hears, Follows, Following}
use Rattle.of10_speech.proofs.ReadOn.{stream_behind}
use Rattle.of10_speech.proofs.Ready.{said_ready}
use Rattle.of10_speech.proofs.HeardLater.{stays, stopped, hear_all-append, hear-further, reply-further}
use Rattle.of10_speech.proofs.Following.{still}

all_said : (x : Speech) → IsBeginning x x
all_said x = record { sent_behind = []; sent = sym (append-nil x.sent); asks_behind = []; asks = sym (append-nil x.asks); ignored = omega arith }

-- a session that goes on to hear is listening
abbrev Listens : Speech → Type 0
Listens x = x.stop ≡ Goes → IsListening x.session

later : (x y z : Speech) → IsBeginning x y → IsBeginning y z → IsBeginning x z
later x y z a b = record {
  sent_behind = a.sent_behind ++ b.sent_behind;
  sent = b.sent ∙ (ap (λ (l : List _). l ++ b.sent_behind) a.sent ∙ append_assoc x.sent a.sent_behind b.sent_behind);
  asks_behind = a.asks_behind ++ b.asks_behind;
  asks = b.asks ∙ (ap (λ (l : List _). l ++ b.asks_behind) a.asks ∙ append_assoc x.asks a.asks_behind b.asks_behind);
  ignored = omega (arith, a.ignored, b.ignored);
}

stopped_says : (t : Told) (x : Speech) (m : Message) (stop : SpeechStop) → x.stop ≡ stop → stop ≢ Goes → Listens x → IsBeginning x (hear t x m) × Listens (hear t x m)
stopped_says t x m stop is off h = subst (λ (z : Speech). IsBeginning x z × Listens z) (sym (stays t x m stop is off)) (all_said x, h)

one_more : (t : Told) (x : Speech) (m : Message) (stop : SpeechStop) → x.stop ≡ stop → Listens x → IsBeginning x (hear t x m) × Listens (hear t x m)
one_more t x m Goes on h =
    let ready = said_ready t x.place (length x.asks) x.session m (h on) in
    let y : Speech = with_said x (frame_width m) (said_to t x.place (length x.asks) x.session m) in
    let next : hear t x m ≡ y = rw on refl in
    let said : IsBeginning x y = record { sent_behind = (said_to t x.place (length x.asks) x.session m).sent; sent = refl; asks_behind = (said_to t x.place (length x.asks) x.session m).asks; asks = refl; ignored = ready.later } in
    subst (λ (z : Speech). IsBeginning x z × Listens z) (sym next) (said, ready.listens)
one_more t x m Waits on h = stopped_says t x m Waits on (λ e. cc) h
one_more t x m (Ends end) on h = stopped_says t x m (Ends end) on (λ e. cc) h

pub many_more : (t : Told) (x : Speech) (ms : List Message) → Listens x → IsBeginning x (hear_all t x ms)
many_more t x [] h = all_said x
many_more t x (m ∷ ms) h =
    let first = one_more t x m x.stop refl h in
    later x (hear t x m) (hear_all t (hear t x m) ms) first.0 (many_more t (hear t x m) ms first.1)

-- the tail adds nothing
pub to_the_tail : (x y : Speech) (stop : SpeechStop) (tail : Tail) → IsBeginning x y → IsBeginning x (ended_by stop tail y)
to_the_tail x y Goes (Cut n) h = h
to_the_tail x y Goes (Broken e) h = record { sent_behind = h.sent_behind; sent = h.sent; asks_behind = h.asks_behind; asks = h.asks; ignored = h.ignored }
to_the_tail x y Waits tail h = h
to_the_tail x y (Ends end) tail h = h

pub follows_begins : (t u : Told) (number : ℕ) (taken more : List ℕ) (f : Framing) (s : Progress) (x y : Speech) → Further t u → Follows t number taken f s x → IsListening s → IsSpoken u number (taken ++ more) y → IsBeginning x y
follows_begins t u number taken more f s x y further w listens spoken =
    let rest = one (f.held ++ more) in
    let all = stream_behind w.messages rest.messages (taken ++ more) (f.held ++ more) rest.tail (read-more w.messages taken f.held more w.begins) rest.is in
    let same = (stream-one (taken ++ more) spoken.messages (w.messages ++ rest.messages) spoken.tail rest.tail spoken.stream all).0 in
    let said : speech u number spoken.messages ≡ hear_all u x rest.messages =
    ap (speech u number) same ∙ (hear_all-append u (opening number) w.messages rest.messages ∙ ap (λ (z : Speech). hear_all u z rest.messages) (still t u number taken f s x further w)) in
    subst (λ (z : Speech). IsBeginning x z) (sym spoken.said) (to_the_tail x (speech u number spoken.messages) (speech u number spoken.messages).stop spoken.tail
    (subst (λ (z : Speech). IsBeginning x z) (sym said) (many_more u x rest.messages (λ on. subst IsListening w.session listens))))

-- the next piece comes when all before it was taken
pub following_more : (t : Told) (number : ℕ) (bytes piece : List ℕ) (f : Framing) (s : Progress) (before now : List ℕ) → Following t number bytes (length bytes) f s before now → Following t number (bytes ++ piece) (length bytes) f s before now
following_more t number bytes piece f s before now w =
    let same : take (length bytes) bytes ≡ take (length bytes) (bytes ++ piece) = take-length bytes ∙ sym (take-append_seam bytes piece) in
    record {
      inside = omega (arith, length-append bytes piece);
      speech_is = w.speech_is;
      follows = subst (λ (l : List ℕ). Follows t number l f s w.speech_is) same w.follows;
      written = w.written;
      listens = w.listens;
      few = w.few;
      taken = w.taken;
    }

pub following_begins : (t u : Told) (number : ℕ) (bytes : List ℕ) (at : ℕ) (f : Framing) (s : Progress) (before now : List ℕ) (y : Speech) → Further t u → (w : Following t number bytes at f s before now) → IsSpoken u number bytes y → IsBeginning w.speech_is y
following_begins t u number bytes at f s before now y further w spoken =
    follows_begins t u number (take at bytes) (drop at bytes) f s w.speech_is y further w.follows w.listens (subst (λ (l : List ℕ). IsSpoken u number l y) (sym (take-append-drop at bytes)) spoken)

-- what was appended to nothing, behind what was written before
pub hears_behind : (o t : Told) (f : Framing) (s : Progress) (piece : List ℕ) (g : Framing) (s' : Progress) (r : Hearing) (now out : List ℕ) → Hears o t f s piece g s' r [] out → Hears o t f s piece g s' r now (now ++ out)
hears_behind o t f s piece g s' r now out (inl h) = inl (record { used = h.used; counts = h.counts; asked = h.asked; held = h.held; framer = h.framer; session = h.session; goes = h.goes; bytes = ap (λ (l : List ℕ). now ++ l) h.bytes ∙ append-nil now })
hears_behind o t f s piece g s' r now out (inr (inl h)) = inr (inl (record {
  used = h.used;
  some = h.some;
  message = h.message;
  frame = h.frame;
  spelled_as = h.spelled_as;
  says = record { stops = h.says.stops; goes_on = h.says.goes_on; bytes = ap (λ (l : List ℕ). now ++ l) h.says.bytes };
  held = h.held;
  counts = h.counts;
  asked = h.asked;
}))
hears_behind o t f s piece g s' r now out (inr (inr h)) = inr (inr (record { used = h.used; e = h.e; next = h.next; stop = h.stop; session = h.session; asked = h.asked; bytes = ap (λ (l : List ℕ). now ++ l) h.bytes ∙ append-nil now }))

-- ---- more entries

-- what is said where an ask waits, and where it is answered
record IsShort (y z : Said) : Type 0 where
  sent_behind : List Message
  sent : z.sent ≡ y.sent ++ sent_behind
  asks : z.asks ≡ y.asks
  ignored : y.session.ignored ≤ z.session.ignored

all_short : (y z : Said) → z ≡ y → IsShort y z
all_short y z same = record { sent_behind = []; sent = ap (λ (w : Said). w.sent) same ∙ sym (append-nil y.sent); asks = ap (λ (w : Said). w.asks) same; ignored = omega (arith, ap (λ (w : Said). w.session.ignored) same) }

entry_short : (s : Progress) (ask : Ask) (o p : Option Reply) → ((r : Reply) → o ≡ Some r → p ≡ Some r) → IsShort (on_entry o s ask) (on_entry p s ask)
unfolding answered
entry_short s ask None None h = all_short _ _ refl
entry_short s ask None (Some r) h = record { sent_behind = (on_entry (Some r) s ask).sent; sent = refl; asks = refl; ignored = omega arith }
entry_short s ask (Some r) p h = all_short _ _ (ap (λ (o : Option Reply). on_entry o s ask) (h r refl))

ask_by : (t u : Told) (k : ℕ) → Further t u → (s : Progress) (ask : Ask) (b : Bool) → IsShort (if b then on_entry (slice_get t.replies k) s ask else on_stranger ask s) (if b then on_entry (slice_get u.replies k) s ask else on_stranger ask s)
ask_by t u k further s ask true = entry_short s ask (slice_get t.replies k) (slice_get u.replies k) (λ r is. reply-further t u k further r is)
ask_by t u k further s ask false = all_short _ _ refl

ask_short : (t u : Told) (k : ℕ) → Further t u → (s : Progress) (ask : Ask) → IsShort (on_ask t k s ask) (on_ask u k s ask)
unfolding on_ask
ask_short t u k further s ask =
    subst (λ (b : Bool). IsShort (on_ask t k s ask) (if b then on_entry (slice_get u.replies k) s ask else on_stranger ask s)) (sym (ap (λ (h : Ask → Bool). h ask) further.declares))
    (ask_by t u k further s ask (t.declares ask))

turn_short : (t u : Told) (place k : ℕ) → Further t u → (s : Progress) (sent : List Message) (r : Turn) → IsShort (on_turn t place k s sent r) (on_turn u place k s sent r)
turn_short t u place k further s sent Go = all_short _ _ refl
turn_short t u place k further s sent (AskFor ask) = ask_short t u k further s ask
turn_short t u place k further s sent (End Incompatible) = all_short _ _ refl
turn_short t u place k further s sent (End OutOfTurn) = all_short _ _ refl

short_said : (x : Speech) (n : ℕ) (y z : Said) → IsShort y z → IsBeginning (with_said x n y) (with_said x n z)
short_said x n y z h = record {
  sent_behind = h.sent_behind;
  sent = ap (λ (l : List Message). x.sent ++ l) h.sent ∙ sym (append_assoc x.sent y.sent h.sent_behind);
  asks_behind = [];
  asks = ap (λ (l : List Ask). x.asks ++ l) h.asks ∙ sym (append-nil (x.asks ++ y.asks));
  ignored = h.ignored;
}

both_stay : (t u : Told) (x : Speech) (m : Message) (stop : SpeechStop) → x.stop ≡ stop → stop ≢ Goes → IsBeginning (hear t x m) (hear u x m)
both_stay t u x m stop is off =
    subst (λ (y : Speech). IsBeginning y (hear u x m)) (sym (stays t x m stop is off)) (subst (λ (y : Speech). IsBeginning x y) (sym (stays u x m stop is off)) (all_said x))

hear_short : (t u : Told) → Further t u → (x : Speech) (m : Message) (stop : SpeechStop) → x.stop ≡ stop → IsBeginning (hear t x m) (hear u x m)
hear_short t u further x m Goes on =
    rw on (short_said x (frame_width m) (said_to t x.place (length x.asks) x.session m) (said_to u x.place (length x.asks) x.session m)
    (turn_short t u x.place (length x.asks) further (turn x.session m).session (turn x.session m).sent (turn x.session m).turn))
hear_short t u further x m Waits on = both_stay t u x m Waits on (λ e. cc)
hear_short t u further x m (Ends end) on = both_stay t u x m (Ends end) on (λ e. cc)

hear_all_short : (t u : Told) → Further t u → (x : Speech) (ms : List Message) → Listens x → IsBeginning (hear_all t x ms) (hear_all u x ms)
hear_all_short t u further x [] h = all_said x
hear_all_short t u further x (m ∷ ms) h = by (hear t x m).stop refl (hear_all_short t u further (hear t x m) ms (one_more t x m x.stop refl h).1)
  where
    same : (hear t x m).stop ≢ Waits → IsBeginning (hear_all t (hear t x m) ms) (hear_all u (hear t x m) ms) → IsBeginning (hear_all t (hear t x m) ms) (hear_all u (hear u x m) ms)
    same off later_on = subst (λ (y : Speech). IsBeginning (hear_all t (hear t x m) ms) (hear_all u y ms)) (sym (hear-further t u further x m x.stop refl off)) later_on

    by : (stop : SpeechStop) → (hear t x m).stop ≡ stop → IsBeginning (hear_all t (hear t x m) ms) (hear_all u (hear t x m) ms) → IsBeginning (hear_all t (hear t x m) ms) (hear_all u (hear u x m) ms)
    by Goes is later_on = same (λ w. goes_wait (sym is ∙ w)) later_on
      where
        goes_wait : Goes ≡ Waits → ⊥
        goes_wait e = cc
    by (Ends end) is later_on = same (λ w. ends_wait (sym is ∙ w)) later_on
      where
        ends_wait : Ends end ≡ Waits → ⊥
        ends_wait e = cc
    by Waits is later_on =
        subst (λ (y : Speech). IsBeginning y (hear_all u (hear u x m) ms)) (sym (stopped t (hear t x m) ms (λ g. waits_go (sym is ∙ g))))
        (later (hear t x m) (hear u x m) (hear_all u (hear u x m) ms) (hear_short t u further x m x.stop refl) (many_more u (hear u x m) ms (one_more u x m x.stop refl h).1))
      where
        waits_go : Waits ≡ Goes → ⊥
        waits_go e = cc

from_the_tail : (x : Speech) (stop : SpeechStop) (tail : Tail) → IsBeginning (ended_by stop tail x) x
from_the_tail x Goes (Cut n) = all_said x
from_the_tail x Goes (Broken e) = record { sent_behind = []; sent = sym (append-nil x.sent); asks_behind = []; asks = sym (append-nil x.asks); ignored = omega arith }
from_the_tail x Waits tail = all_said x
from_the_tail x (Ends end) tail = all_said x

pub spoken_begins : (t u : Told) (number : ℕ) (bytes : List ℕ) (x y : Speech) → Further t u → IsSpoken t number bytes x → IsSpoken u number bytes y → IsBeginning x y
spoken_begins t u number bytes x y further a b =
    let same = (stream-one bytes b.messages a.messages b.tail a.tail b.stream a.stream).0 in
    let ms = a.messages in
    let ended_x = ended_by (speech t number ms).stop a.tail (speech t number ms) in
    let said : speech u number ms ≡ speech u number b.messages = ap (speech u number) (sym same) in
    let first : IsBeginning ended_x (speech t number ms) = from_the_tail (speech t number ms) (speech t number ms).stop a.tail in
    let between : IsBeginning (speech t number ms) (speech u number ms) = hear_all_short t u further (opening number) ms (λ on. record { talks = tt; free = refl }) in
    let last : IsBeginning ended_x (ended_by (speech u number b.messages).stop b.tail (speech u number b.messages)) =
    to_the_tail ended_x (speech u number b.messages) (speech u number b.messages).stop b.tail (subst (λ (z : Speech). IsBeginning ended_x z) said (later ended_x (speech t number ms) (speech u number ms) first between)) in
    subst (λ (z : Speech). IsBeginning z y) (sym a.said) (subst (λ (z : Speech). IsBeginning ended_x z) (sym b.said) last)
