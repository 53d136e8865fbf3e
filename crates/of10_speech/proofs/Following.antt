-- The steps of a loop that follows a stream.
use Rattle.std.proofs.Common.{◌≡◌, ◌≢◌, ℕ, ◌+◌, ◌<◌, ◌≤◌, List, [], ◌∷◌, ◌++◌, length, take, drop, refl, sym, ap, subst, ◌∙◌, inl, inr, arith, length-append, length-drop, take_all, append_assoc}
use Rattle.std.proofs.lemmas.List.{take-append-drop, length-take}
use Rattle.std.proofs.lemmas.Grind.{flat_map-append}
use Rattle.std.proofs.Math.Seq.{take-add, take-length}
use Rattle.csdn_history.specs.declared.reply.Reply.{Reply}
use Rattle.of10_wire.specs.declared.refusal.WireRefusal.{WireRefusal}
use Rattle.of10_wire.proofs.Openings.{wants-short}
use Rattle.of10_msgs.specs.declared.message.Message.{Message}
use Rattle.of10_msgs.specs.Messages.{spells, zeroed}
use Rattle.of10_stream.specs.declared.tail.Tail.TheVariants.{Cut, Broken}
use Rattle.of10_stream.specs.Framings.{IsFrame, Framing, framing, IsOpen}
use Rattle.of10_stream.specs.Streams.{IsRead, IsTail, frame_width}
use Rattle.of10_stream.proofs.ReadLaws.{read-more}
use Rattle.of10_stream.proofs.Once.{one}
use Rattle.of10_session.specs.Progresses.{Progress, IsListening}
use Rattle.of10_session.specs.Sessions.{spelled}
use Rattle.of10_session.specs.declared.turn.Ask.{Ask}
use Rattle.of10_speech.specs.declared.stops.SpeechStop.TheVariants.{Goes, Waits, Ends}
use Rattle.of10_speech.specs.declared.stops.SpokenEnd.TheVariants.{Wire}
use Rattle.of10_speech.specs.declared.hearing.Hearing.{Hearing}
use Rattle.of10_speech.specs.Speeches.{Told, Further, Said, Speech, said_to, with_said, hear, hear_all, speech, opening, refused_speech, ended_by, IsSpoken}
use Rattle.of10_speech.specs.Hearings.{Follows, TookAll, TookMessage, Hears, IsAnswer, Following}
use Rattle.of10_speech.proofs.ReadOn.{read_frame, stream_behind}
use Rattle.of10_speech.proofs.Ready.{said_ready}
use Rattle.of10_speech.proofs.Ends.{ended_stopped, ended_cut, ended_broken}
use Rattle.of10_speech.proofs.HeardLater.{hear_all-snoc, hear_all-append, said-further, stopped}

-- what was said so far is said with the further entries too
pub still : (t u : Told) (number : ℕ) (taken : List ℕ) (f : Framing) (s : Progress) (x : Speech) → Further t u → (w : Follows t number taken f s x) → speech u number w.messages ≡ x
still t u number taken f s x further w =
    said-further t u further (opening number) w.messages (λ h. waits_goes (sym h ∙ (ap (λ (y : Speech). y.stop) (sym w.said) ∙ w.goes))) ∙ sym w.said
  where
    waits_goes : Waits ≡ Goes → ⊥
    waits_goes e = cc

-- the speech after one more message
pub after_message : (t u : Told) (number : ℕ) (taken : List ℕ) (f : Framing) (s : Progress) (x : Speech) → Further t u → (w : Follows t number taken f s x) → (m : Message)
    → speech u number (w.messages ++ m ∷ []) ≡ with_said x (frame_width m) (said_to u f.start (length t.replies) s m)
after_message t u number taken f s x further w m =
    let goes = w.goes in
    let next : hear u x m ≡ with_said x (frame_width m) (said_to u x.place (length x.asks) x.session m) = rw goes refl in
    hear_all-snoc u (opening number) w.messages m ∙ (ap (λ (y : Speech). hear u y m) (still t u number taken f s x further w) ∙ (next
    ∙ ap (with_said x (frame_width m)) (λ i. said_to u (sym w.place i) (w.asks i) (sym w.session i) m)))

pub follows_all : (t u : Told) (number : ℕ) (taken : List ℕ) (f : Framing) (s : Progress) (x : Speech) (piece : List ℕ) (g : Framing) (s' : Progress) (r : Hearing) (before after : List ℕ) → Further t u
    → Follows t number taken f s x → TookAll t u f s piece g s' r before after → Follows u number (taken ++ piece) g s' x
follows_all t u number taken f s x piece g s' r before after further w k = record {
  messages = w.messages;
  begins = subst (λ (h : Framing). IsRead (taken ++ piece) w.messages h.held) (sym k.held) (read-more w.messages taken f.held piece w.begins);
  said = sym (still t u number taken f s x further w);
  session = k.session ∙ w.session;
  place = ap (λ (h : Framing). h.start) k.held ∙ w.place;
  goes = w.goes;
  asks = w.asks ∙ sym k.counts;
  asked = w.asked ∙ sym k.asked;
  framer = k.framer;
}

empty_open : (n : ℕ) → IsOpen (framing n [])
empty_open n = record { wanting = (8, wants-short [] (omega arith)); on = refl }

pub follows_message : (t u : Told) (number : ℕ) (taken : List ℕ) (f : Framing) (s : Progress) (x : Speech) (piece : List ℕ) (g : Framing) (s' : Progress) (r : Hearing) (before after : List ℕ) → Further t u
    → Follows t number taken f s x → (k : TookMessage t u f s piece g s' r before after) → r.stop ≡ Goes
    → Follows u number (taken ++ take r.used piece) g s' (with_said x (frame_width k.message) (said_to u f.start (length t.replies) s k.message))
follows_message t u number taken f s x piece g s' r before after further w k on = record {
  messages = w.messages ++ k.message ∷ [];
  begins = subst (λ (h : Framing). IsRead (taken ++ take r.used piece) (w.messages ++ k.message ∷ []) h.held) (sym k.held) (read_frame taken w.messages f.held (take r.used piece) k.message w.begins k.frame k.spelled_as);
  said = sym (after_message t u number taken f s x further w k.message);
  session = k.says.goes_on;
  place = ap (λ (h : Framing). h.start) k.held ∙ (λ i. w.place i + sym k.spelled_as.whole i);
  goes = sym k.says.stops ∙ on;
  asks = length-append x.asks (said_to u f.start (length t.replies) s k.message).asks ∙ (ap (λ (n : ℕ). n + length (said_to u f.start (length t.replies) s k.message).asks) w.asks ∙ sym (k.counts on));
  asked = ap (λ (l : List Ask). l ++ (said_to u f.start (length t.replies) s k.message).asks) w.asked ∙ sym k.asked;
  framer = subst IsOpen (sym k.held) (empty_open (f.start + length (f.held ++ take r.used piece)));
}

-- what was written, and what was said
pub bytes_after : (x : Speech) (n : ℕ) (y : Said) (start before after : List ℕ) → before ≡ start ++ spelled x.sent → after ≡ before ++ spelled y.sent → after ≡ start ++ spelled (with_said x n y).sent
bytes_after x n y start before after b a = a ∙ (ap (λ (l : List ℕ). l ++ spelled y.sent) b ∙ (append_assoc start (spelled x.sent) (spelled y.sent) ∙ ap (λ (l : List ℕ). start ++ l) (sym (flat_map-append zeroed x.sent y.sent))))

-- a message that became whole in a piece was read
pub found_read : (taken : List ℕ) (ms : List Message) (held piece : List ℕ) (used : ℕ) (m : Message) → IsRead taken ms held → IsFrame (held ++ take used piece) → spells m (held ++ take used piece) → IsRead (taken ++ piece) (ms ++ m ∷ []) (drop used piece)
found_read taken ms held piece used m h frame spelled =
    let all : (taken ++ take used piece) ++ drop used piece ≡ taken ++ piece = append_assoc taken (take used piece) (drop used piece) ∙ ap (λ (l : List ℕ). taken ++ l) (take-append-drop used piece) in
    subst (λ (l : List ℕ). IsRead l (ms ++ m ∷ []) (drop used piece)) all (read-more (ms ++ m ∷ []) (taken ++ take used piece) [] (drop used piece) (read_frame taken ms held (take used piece) m h frame spelled))

-- a message at which the session stops
pub stops_said : (t u : Told) (number : ℕ) (taken : List ℕ) (f : Framing) (s : Progress) (x : Speech) (piece : List ℕ) (used : ℕ) (m : Message) → Further t u → Follows t number taken f s x
    → IsFrame (f.held ++ take used piece) → spells m (f.held ++ take used piece) → (said_to u f.start (length t.replies) s m).stop ≢ Goes
    → IsSpoken u number (taken ++ piece) (with_said x (frame_width m) (said_to u f.start (length t.replies) s m))
stops_said t u number taken f s x piece used m further w frame spelled off =
    let heard : List Message = w.messages ++ m ∷ [] in
    let later = one (drop used piece) in
    let y : Speech = with_said x (frame_width m) (said_to u f.start (length t.replies) s m) in
    let longer : speech u number (heard ++ later.messages) ≡ y =
    hear_all-append u (opening number) heard later.messages ∙ (ap (λ (z : Speech). hear_all u z later.messages) (after_message t u number taken f s x further w m) ∙ stopped u y later.messages off) in
    record {
      messages = heard ++ later.messages;
      tail = later.tail;
      stream = stream_behind heard later.messages (taken ++ piece) (drop used piece) later.tail (found_read taken w.messages f.held piece used m w.begins frame spelled) later.is;
      said = sym (ap (λ (z : Speech). ended_by z.stop later.tail z) longer ∙ ended_stopped y.stop later.tail y off);
    }

pub stops_message : (t u : Told) (number : ℕ) (taken : List ℕ) (f : Framing) (s : Progress) (x : Speech) (piece : List ℕ) (g : Framing) (s' : Progress) (r : Hearing) (before after : List ℕ) → Further t u
    → Follows t number taken f s x → (k : TookMessage t u f s piece g s' r before after) → r.stop ≢ Goes
    → IsSpoken u number (taken ++ piece) (with_said x (frame_width k.message) (said_to u f.start (length t.replies) s k.message))
stops_message t u number taken f s x piece g s' r before after further w k off =
    stops_said t u number taken f s x piece r.used k.message further w k.frame k.spelled_as (λ h. off (k.says.stops ∙ h))

pub stops_refused : (t u : Told) (number : ℕ) (taken : List ℕ) (f : Framing) (s : Progress) (x : Speech) (piece : List ℕ) (e : WireRefusal) → Further t u → Follows t number taken f s x → IsTail (f.held ++ piece) (Broken e) → IsSpoken u number (taken ++ piece) (refused_speech x e)
stops_refused t u number taken f s x piece e further w tail = record {
  messages = w.messages;
  tail = Broken e;
  stream = (f.held ++ piece, read-more w.messages taken f.held piece w.begins, tail);
  said = sym (ap (λ (z : Speech). ended_by z.stop (Broken e) z) (still t u number taken f s x further w) ∙ ended_broken x.stop e x w.goes);
}

-- the stream is over
pub stops_closed : (t : Told) (number : ℕ) (taken : List ℕ) (f : Framing) (s : Progress) (x : Speech) → Follows t number taken f s x → IsSpoken t number taken x
stops_closed t number taken f s x w = record {
  messages = w.messages;
  tail = Cut (length f.held);
  stream = (f.held, w.begins, (w.framer.wanting, refl));
  said = sym (ap (λ (z : Speech). ended_by z.stop (Cut (length f.held)) z) (sym w.said) ∙ ended_cut x.stop (length f.held) x);
}

nothing_read : (held : List ℕ) → held ≡ [] → IsRead [] [] held
unfolding IsRead
nothing_read held e = sym e

pub follows_nothing : (t : Told) (number : ℕ) (bytes : List ℕ) (f : Framing) (s : Progress) (before now : List ℕ) → t.replies ≡ [] → t.asks ≡ [] → f ≡ framing 0 [] → s ≡ (opening number).session → now ≡ before ++ spelled (opening number).sent → Following t number bytes 0 f s before now
follows_nothing t number bytes f s before now none no_asks f_is s_is now_is = record {
  inside = omega arith;
  speech_is = opening number;
  follows = record {
    messages = [];
    begins = nothing_read f.held (ap (λ (h : Framing). h.held) f_is);
    said = refl;
    session = s_is;
    place = ap (λ (h : Framing). h.start) f_is;
    goes = refl;
    asks = sym (ap (λ (l : List Reply). length l) none);
    asked = sym no_asks;
    framer = subst IsOpen (sym f_is) (empty_open 0);
  };
  written = now_is;
  listens = subst IsListening (sym s_is) (record { talks = tt; free = refl });
  few = omega (arith, ap (λ (x : Progress). x.ignored) s_is);
  taken = omega (arith, ap (λ (h : Framing). h.start + length h.held) f_is);
}

taken_more : (bytes : List ℕ) (at n : ℕ) → take at bytes ++ take n (drop at bytes) ≡ take (at + n) bytes
taken_more bytes at n = sym (take-add at n bytes)

pub following_all : (t u : Told) (number : ℕ) (bytes : List ℕ) (at : ℕ) (f : Framing) (s : Progress) (g : Framing) (s' : Progress) (r : Hearing) (before now after : List ℕ) → Further t u
    → Following t number bytes at f s before now → TookAll t u f s (drop at bytes) g s' r now after → Following u number bytes (at + r.used) g s' before after
following_all t u number bytes at f s g s' r before now after further w k =
    let n = length-drop at bytes in
    let whole : take at bytes ++ drop at bytes ≡ take (at + r.used) bytes = rw (k.used) (ap (λ (l : List ℕ). take at bytes ++ l) (sym (take-length (drop at bytes))) ∙ taken_more bytes at (length (drop at bytes))) in
    record {
      inside = omega (arith, n, k.used, w.inside);
      speech_is = w.speech_is;
      follows = subst (λ (l : List ℕ). Follows u number l g s' w.speech_is) whole (follows_all t u number (take at bytes) f s w.speech_is (drop at bytes) g s' r now after further w.follows k);
      written = k.bytes ∙ w.written;
      listens = subst IsListening (sym k.session) w.listens;
      few = omega (arith, ap (λ (x : Progress). x.ignored) k.session, w.few);
      taken = omega (arith, ap (λ (h : Framing). h.start + length h.held) k.held, length-append f.held (drop at bytes), k.used, w.taken);
    }

pub following_message : (t u : Told) (number : ℕ) (bytes : List ℕ) (at : ℕ) (f : Framing) (s : Progress) (g : Framing) (s' : Progress) (r : Hearing) (before now after : List ℕ) → Further t u
    → Following t number bytes at f s before now → TookMessage t u f s (drop at bytes) g s' r now after → r.stop ≡ Goes → Following u number bytes (at + r.used) g s' before after
following_message t u number bytes at f s g s' r before now after further w k on =
    let n = length-drop at bytes in
    let y = said_to u f.start (length t.replies) s k.message in
    let ready = said_ready u f.start (length t.replies) s k.message w.listens in
    record {
      inside = omega (arith, n, k.used, w.inside);
      speech_is = with_said w.speech_is (frame_width k.message) (said_to u f.start (length t.replies) s k.message);
      follows = subst (λ (l : List ℕ). Follows u number l g s' (with_said w.speech_is (frame_width k.message) (said_to u f.start (length t.replies) s k.message))) (taken_more bytes at r.used)
          (follows_message t u number (take at bytes) f s w.speech_is (drop at bytes) g s' r now after further w.follows k on);
      written = bytes_after w.speech_is (frame_width k.message) (said_to u f.start (length t.replies) s k.message) before now after w.written k.says.bytes;
      listens = subst IsListening (sym k.says.goes_on) (ready.listens (sym k.says.stops ∙ on));
      few = omega (arith, ap (λ (x : Progress). x.ignored) k.says.goes_on, ready.count, k.some, w.few);
      taken = omega (arith, ap (λ (h : Framing). h.start + length h.held) k.held, length-append f.held (take r.used (drop at bytes)), length-take r.used (drop at bytes), k.used, w.taken);
    }

pub following_next : (t u : Told) (number : ℕ) (bytes : List ℕ) (at : ℕ) (f : Framing) (s : Progress) (g : Framing) (s' : Progress) (r : Hearing) (before now after : List ℕ) → Further t u
    → Following t number bytes at f s before now → Hears t u f s (drop at bytes) g s' r now after → r.stop ≡ Goes → Following u number bytes (at + r.used) g s' before after
following_next t u number bytes at f s g s' r before now after further w (inl k) on = following_all t u number bytes at f s g s' r before now after further w k
following_next t u number bytes at f s g s' r before now after further w (inr (inl k)) on = following_message t u number bytes at f s g s' r before now after further w k on
following_next t u number bytes at f s g s' r before now after further w (inr (inr k)) on = absurd (ends_go (sym k.stop ∙ on))
  where
    ends_go : Ends (Wire (f.start + k.e.at) k.e.why) ≡ Goes → ⊥
    ends_go e = cc

pub hears_some : (o u : Told) (at : ℕ) (bytes : List ℕ) (f : Framing) (s : Progress) (g : Framing) (s' : Progress) (r : Hearing) (now after : List ℕ) → at < length bytes → Hears o u f s (drop at bytes) g s' r now after → r.stop ≡ Goes → 0 < r.used
hears_some o u at bytes f s g s' r now after more (inl h) on = omega (arith, h.used, length-drop at bytes)
hears_some o u at bytes f s g s' r now after more (inr (inl h)) on = h.some
hears_some o u at bytes f s g s' r now after more (inr (inr h)) on = absurd (ends_go (sym h.stop ∙ on))
  where
    ends_go : Ends (Wire (f.start + h.e.at) h.e.why) ≡ Goes → ⊥
    ends_go e = cc

pub following_stops : (t u : Told) (number : ℕ) (bytes : List ℕ) (at : ℕ) (f : Framing) (s : Progress) (g : Framing) (s' : Progress) (r : Hearing) (before now after : List ℕ) → Further t u
    → Following t number bytes at f s before now → Hears t u f s (drop at bytes) g s' r now after → r.stop ≢ Goes → IsAnswer u number bytes before after (record { stop = r.stop; ignored = s'.ignored })
following_stops t u number bytes at f s g s' r before now after further w (inl k) off = absurd (off k.goes)
following_stops t u number bytes at f s g s' r before now after further w (inr (inl k)) off = record {
  speech_is = with_said w.speech_is (frame_width k.message) (said_to u f.start (length t.replies) s k.message);
  spoken = subst (λ (l : List ℕ). IsSpoken u number l (with_said w.speech_is (frame_width k.message) (said_to u f.start (length t.replies) s k.message))) (take-append-drop at bytes)
      (stops_message t u number (take at bytes) f s w.speech_is (drop at bytes) g s' r now after further w.follows k off);
  stop = k.says.stops;
  ignored = ap (λ (x : Progress). x.ignored) k.says.goes_on;
  asked = ap (λ (l : List Ask). l ++ (said_to u f.start (length t.replies) s k.message).asks) w.follows.asked ∙ sym k.asked;
  written = bytes_after w.speech_is (frame_width k.message) (said_to u f.start (length t.replies) s k.message) before now after w.written k.says.bytes;
}
following_stops t u number bytes at f s g s' r before now after further w (inr (inr k)) off = record {
  speech_is = refused_speech w.speech_is k.e;
  spoken = subst (λ (l : List ℕ). IsSpoken u number l (refused_speech w.speech_is k.e)) (take-append-drop at bytes) (stops_refused t u number (take at bytes) f s w.speech_is (drop at bytes) k.e further w.follows k.next);
  stop = k.stop ∙ ap (λ (n : ℕ). Ends (Wire (n + k.e.at) k.e.why)) w.follows.place;
  ignored = ap (λ (x : Progress). x.ignored) (k.session ∙ w.follows.session);
  asked = w.follows.asked ∙ sym k.asked;
  written = k.bytes ∙ w.written;
}

pub following_closed : (t : Told) (number : ℕ) (bytes : List ℕ) (at : ℕ) (f : Framing) (s : Progress) (before now : List ℕ) → Following t number bytes at f s before now → length bytes ≤ at → IsAnswer t number bytes before now (record { stop = Goes; ignored = s.ignored })
following_closed t number bytes at f s before now w all = record {
  speech_is = w.speech_is;
  spoken = subst (λ (l : List ℕ). IsSpoken t number l w.speech_is) (take_all at bytes all) (stops_closed t number (take at bytes) f s w.speech_is w.follows);
  stop = sym w.follows.goes;
  ignored = ap (λ (x : Progress). x.ignored) w.follows.session;
  asked = w.follows.asked;
  written = w.written;
}

pub hears_inside : (o u : Told) (at : ℕ) (bytes : List ℕ) (f : Framing) (s : Progress) (g : Framing) (s' : Progress) (r : Hearing) (now after : List ℕ) → at ≤ length bytes → Hears o u f s (drop at bytes) g s' r now after → at + r.used ≤ length bytes
hears_inside o u at bytes f s g s' r now after h (inl x) = omega (arith, x.used, length-drop at bytes)
hears_inside o u at bytes f s g s' r now after h (inr (inl x)) = omega (arith, x.used, length-drop at bytes)
hears_inside o u at bytes f s g s' r now after h (inr (inr x)) = omega (arith, x.used, length-drop at bytes)
