-- How a session over a link ends.
use Rattle.std.proofs.Common.{◌≡◌, ◌≢◌, ℕ, ◌+◌, ◌*◌, ◌≤◌, Bool, true, false, List, [], length, Result, Ok, Err, refl, sym, subst, ◌∙◌, arith}
use Rattle.std.proofs.lemmas.List.{append-nil}
use Rattle.of10_stream.specs.Framings.{Framing}
use Rattle.of10_session.specs.Progresses.{Progress}
use Rattle.of10_speech.specs.declared.stops.Broken.{Broken}
use Rattle.of10_speech.specs.declared.stops.Broken.TheVariants.{Full}
use Rattle.of10_speech.specs.declared.stops.Broken.TheVariants as broken
use Rattle.of10_speech.specs.declared.stops.SpeechStop.{SpeechStop}
use Rattle.of10_speech.specs.declared.stops.SpeechStop.TheVariants.{Goes, Waits, Ends}
use Rattle.of10_speech.specs.declared.stops.SpokenEnd.{SpokenEnd}
use Rattle.of10_speech.specs.declared.stops.SpokenEnd.TheVariants as spoken
use Rattle.of10_speech.specs.Speeches.{Told}
use Rattle.of10_speech.specs.Hearings.{Following, IsAnswer, Awaits}
use Rattle.of10_speech.proofs.Ends.{one_spoken}
use Rattle.of10_speech.proofs.Following.{following_closed}
use Rattle.vericon_edge.specs.Counts.{Rose}
use Rattle.link_sessions.specs.declared.ends.Ended.{Ended}
use Rattle.link_sessions.specs.declared.ends.SessionEnd.{SessionEnd}
use Rattle.link_sessions.specs.declared.ends.SessionEnd.TheVariants.{Closed, ReadFault, WriteFault, Wire, Incompatible, OutOfTurn, UnknownSwitch, HistoryFull, StreamFull, Memory}
use Rattle.link_sessions.specs.Links.{LinkView, Tells}
use Rattle.link_sessions.specs.Said.{IsCauseOf, CountsEnd, cuts_bytes, cuts_entries}
use Rattle.link_sessions.specs.Pieces.{AfterPiece, CutOff, IsEndOf, IsOver as Over, end_of}
use Rattle.link_sessions.proofs.Named.{spoken_named}

true_false : true ≢ false
true_false e = cc

-- ---- what a link counts

-- a link after a session that it did not end
pub record IsSteady (link link' : LinkView) : Type 0 where
  pub closed : link'.closed ≡ false
  pub read_faults : link'.read_faults ≡ link.read_faults
  pub write_faults : link'.write_faults ≡ link.write_faults

pub counts_steady : (link link' : LinkView) (end : SessionEnd) → end ≢ Closed → IsSteady link link' → CountsEnd link link' end
counts_steady link link' end off h = record { closed = (λ is. absurd (true_false (sym is ∙ h.closed)), λ is. absurd (off is)); read_faults = λ off. h.read_faults; write_faults = λ off. h.write_faults }

pub counts_closed : (link link' : LinkView) → link'.closed ≡ true → link'.read_faults ≡ link.read_faults → link'.write_faults ≡ link.write_faults → CountsEnd link link' Closed
counts_closed link link' closed reads writes = record { closed = (λ is. refl, λ is. closed); read_faults = λ off. reads; write_faults = λ off. writes }

pub counts_read_fault : (link link' : LinkView) → link'.closed ≡ false → link'.write_faults ≡ link.write_faults → CountsEnd link link' ReadFault
counts_read_fault link link' unclosed writes = record { closed = (λ is. absurd (true_false (sym is ∙ unclosed)), λ is. absurd (other is)); read_faults = λ off. absurd (off refl); write_faults = λ off. writes }
  where
    other : ReadFault ≢ Closed
    other e = cc

pub counts_write_fault : (link link' : LinkView) → link'.closed ≡ false → link'.read_faults ≡ link.read_faults → CountsEnd link link' WriteFault
counts_write_fault link link' unclosed reads = record { closed = (λ is. absurd (true_false (sym is ∙ unclosed)), λ is. absurd (other is)); read_faults = λ off. reads; write_faults = λ off. absurd (off refl) }
  where
    other : WriteFault ≢ Closed
    other e = cc

-- ---- what was said

-- the session was cut off
pub over_cut : (t : Told) (full : Bool) (number most reach left few : ℕ) (link link' : LinkView) (end : SessionEnd) (bytes front : List ℕ) → cuts_bytes end ≡ true → cuts_entries end ≡ true → CutOff t number bytes front few
    → Tells link'.taken bytes → Tells link'.written front → length bytes ≤ most → ((stop : SpeechStop) → IsCauseOf stop full most (length bytes) link link' end) → CountsEnd link link' end → reach ≤ 16 * left + length bytes
    → Over t full number most reach left link link' (record { end = end; ignored = few })
over_cut t full number most reach left few link link' end bytes front cuts_b cuts_e cut took wrote within cause counts reached =
    let a = one_spoken t number bytes in
    let c = cut a.answer a.is in (
      record {
        taken = bytes;
        took = took;
        few = within;
        written = front;
        wrote = wrote;
        answer = a.answer;
        spoken = a.is;
        asks_left = c.asked.left;
        asks = c.asked.asks;
        entered = λ off. absurd (true_false (sym cuts_e ∙ off));
        bytes_left = c.left;
        bytes = c.written;
        whole = λ off. absurd (true_false (sym cuts_b ∙ off));
        ignored = c.ignored;
        counted = λ off. absurd (true_false (sym cuts_b ∙ off));
        cause = cause a.answer.stop;
        counts = counts;
      },
      reached,
    )

-- the session said its whole answer
pub over_answer : (t : Told) (full : Bool) (number most reach left few : ℕ) (link link' : LinkView) (end : SessionEnd) (stop : SpeechStop) (bytes now : List ℕ) → IsAnswer t number bytes [] now (record { stop = stop; ignored = few })
    → Tells link'.taken bytes → Tells link'.written now → length bytes ≤ most → IsCauseOf stop full most (length bytes) link link' end → CountsEnd link link' end → reach ≤ 16 * left + length bytes
    → Over t full number most reach left link link' (record { end = end; ignored = few })
over_answer t full number most reach left few link link' end stop bytes now h took wrote within cause counts reached = (
  record {
    taken = bytes;
    took = took;
    few = within;
    written = now;
    wrote = wrote;
    answer = h.speech_is;
    spoken = h.spoken;
    asks_left = [];
    asks = h.asked ∙ sym (append-nil t.asks);
    entered = λ off. refl;
    bytes_left = [];
    bytes = sym h.written ∙ sym (append-nil now);
    whole = λ off. refl;
    ignored = omega (arith, h.ignored);
    counted = λ off. h.ignored;
    cause = subst (λ (s : SpeechStop). IsCauseOf s full most (length bytes) link link' end) h.stop cause;
    counts = counts;
  },
  reached,
)

-- the history is full
pub over_waiting : (t : Told) (number most reach left few : ℕ) (link link' : LinkView) (bytes now : List ℕ) → Awaits t number bytes [] now few
    → Tells link'.taken bytes → Tells link'.written now → length bytes ≤ most → CountsEnd link link' HistoryFull → reach ≤ 16 * left + length bytes
    → Over t true number most reach left link link' (record { end = HistoryFull; ignored = few })
over_waiting t number most reach left few link link' bytes now h took wrote within counts reached = (
  record {
    taken = bytes;
    took = took;
    few = within;
    written = now;
    wrote = wrote;
    answer = h.speech_is;
    spoken = h.spoken;
    asks_left = h.asked.left;
    asks = h.asked.asks;
    entered = λ off. absurd (true_false off);
    bytes_left = [];
    bytes = sym h.written ∙ sym (append-nil now);
    whole = λ off. refl;
    ignored = omega (arith, h.ignored);
    counted = λ off. h.ignored;
    cause = (h.waits, refl);
    counts = counts;
  },
  reached,
)

-- ---- after a piece

-- a session that was told its end
told_end : (t : Told) (full : Bool) (number most reach left few : ℕ) (link link' : LinkView) (e : SpokenEnd) (bytes now : List ℕ) → IsAnswer t number bytes [] now (record { stop = Ends e; ignored = few })
    → Tells link'.taken bytes → Tells link'.written now → length bytes ≤ most → IsSteady link link' → reach ≤ 16 * left + length bytes
    → Over t full number most reach left link link' (record { end = end_of e; ignored = few })
told_end t full number most reach left few link link' (spoken.Wire at why) bytes now h took wrote within steady reached =
    over_answer t full number most reach left few link link' (Wire at why) (Ends (spoken.Wire at why)) bytes now h took wrote within (refl, spoken_named t number bytes h.speech_is at why h.spoken (sym h.stop)) (counts_steady link link' (Wire at why) (λ e. cc) steady) reached
told_end t full number most reach left few link link' spoken.Incompatible bytes now h took wrote within steady reached =
    over_answer t full number most reach left few link link' Incompatible (Ends spoken.Incompatible) bytes now h took wrote within refl (counts_steady link link' Incompatible (λ e. cc) steady) reached
told_end t full number most reach left few link link' (spoken.OutOfTurn at) bytes now h took wrote within steady reached =
    over_answer t full number most reach left few link link' (OutOfTurn at) (Ends (spoken.OutOfTurn at)) bytes now h took wrote within refl (counts_steady link link' (OutOfTurn at) (λ e. cc) steady) reached
told_end t full number most reach left few link link' (spoken.UnknownSwitch s) bytes now h took wrote within steady reached =
    over_answer t full number most reach left few link link' (UnknownSwitch s) (Ends (spoken.UnknownSwitch s)) bytes now h took wrote within refl (counts_steady link link' (UnknownSwitch s) (λ e. cc) steady) reached

pub piece_ends : (t : Told) (full : Bool) (number most reach left : ℕ) (link link' : LinkView) (result : Result SpeechStop Broken) (bytes now : List ℕ) (f : Framing) (s : Progress) (end : SessionEnd) → AfterPiece t number bytes f s now result → IsEndOf result end
    → (result ≡ Err Full → full ≡ true) → (result ≡ Ok Waits → full ≡ true) → Tells link'.taken bytes → Tells link'.written now → length bytes ≤ most → IsSteady link link' → reach ≤ 16 * left + length bytes
    → Over t full number most reach left link link' (record { end = end; ignored = s.ignored })
piece_ends t full number most reach left link link' (Ok Goes) bytes now f s end h is out_full out_waits took wrote within steady reached = absurd is
piece_ends t full number most reach left link link' (Ok Waits) bytes now f s end h is out_full out_waits took wrote within steady reached =
    subst (λ (e : SessionEnd). Over t full number most reach left link link' (record { end = e; ignored = s.ignored })) (sym is)
    (over_answer t full number most reach left s.ignored link link' HistoryFull Waits bytes now h took wrote within (refl, out_waits refl) (counts_steady link link' HistoryFull (λ e. cc) steady) reached)
piece_ends t full number most reach left link link' (Ok (Ends e)) bytes now f s end h is out_full out_waits took wrote within steady reached =
    subst (λ (x : SessionEnd). Over t full number most reach left link link' (record { end = x; ignored = s.ignored })) (sym is) (told_end t full number most reach left s.ignored link link' e bytes now h took wrote within steady reached)
piece_ends t full number most reach left link link' (Err Full) bytes now f s end h is out_full out_waits took wrote within steady reached =
    subst (λ (e : SessionEnd). Over t full number most reach left link link' (record { end = e; ignored = s.ignored })) (sym is)
    (subst (λ (b : Bool). Over t b number most reach left link link' (record { end = HistoryFull; ignored = s.ignored })) (sym (out_full refl))
    (over_waiting t number most reach left s.ignored link link' bytes now h took wrote within (counts_steady link link' HistoryFull (λ e. cc) steady) reached))
piece_ends t full number most reach left link link' (Err broken.Memory) bytes now f s end h is out_full out_waits took wrote within steady reached =
    subst (λ (e : SessionEnd). Over t full number most reach left link link' (record { end = e; ignored = s.ignored })) (sym is)
    (over_cut t full number most reach left s.ignored link link' Memory bytes now refl refl h took wrote within (λ stop. tt) (counts_steady link link' Memory (λ e. cc) steady) reached)

-- a session of which all bytes were heard
pub over_heard : (t : Told) (full : Bool) (number most reach left : ℕ) (link link' : LinkView) (end : SessionEnd) (bytes now : List ℕ) (f : Framing) (s : Progress) → Following t number bytes (length bytes) f s [] now
    → Tells link'.taken bytes → Tells link'.written now → length bytes ≤ most → IsCauseOf Goes full most (length bytes) link link' end → CountsEnd link link' end → reach ≤ 16 * left + length bytes
    → Over t full number most reach left link link' (record { end = end; ignored = s.ignored })
over_heard t full number most reach left link link' end bytes now f s w took wrote within cause counts reached =
    over_answer t full number most reach left s.ignored link link' end Goes bytes now (following_closed t number bytes (length bytes) f s [] now w (omega arith)) took wrote within cause counts reached

-- ---- from an earlier link

cause_from : (stop : SpeechStop) (full : Bool) (most n : ℕ) (before link link' : LinkView) (end : SessionEnd) → link.read_faults ≡ before.read_faults → link.write_faults ≡ before.write_faults → IsCauseOf stop full most n link link' end → IsCauseOf stop full most n before link' end
cause_from stop full most n before link link' Closed r w h = h
cause_from stop full most n before link link' ReadFault r w h = (h.0, h.1, subst (λ (k : ℕ). Rose k link'.read_faults) r h.2)
cause_from stop full most n before link link' WriteFault r w h = subst (λ (k : ℕ). Rose k link'.write_faults) w h
cause_from stop full most n before link link' (Wire at why) r w h = h
cause_from stop full most n before link link' Incompatible r w h = h
cause_from stop full most n before link link' (OutOfTurn at) r w h = h
cause_from stop full most n before link link' (UnknownSwitch s) r w h = h
cause_from stop full most n before link link' HistoryFull r w h = h
cause_from stop full most n before link link' StreamFull r w h = h
cause_from stop full most n before link link' Memory r w h = h

pub over_from : (t : Told) (full : Bool) (number most reach reach' left : ℕ) (before link link' : LinkView) (ended : Ended) → link.read_faults ≡ before.read_faults → link.write_faults ≡ before.write_faults → reach ≤ reach'
    → Over t full number most reach' left link link' ended → Over t full number most reach left before link' ended
over_from t full number most reach reach' left before link link' ended r w less (h, reached) = (
  record {
    taken = h.taken;
    took = h.took;
    few = h.few;
    written = h.written;
    wrote = h.wrote;
    answer = h.answer;
    spoken = h.spoken;
    asks_left = h.asks_left;
    asks = h.asks;
    entered = h.entered;
    bytes_left = h.bytes_left;
    bytes = h.bytes;
    whole = h.whole;
    ignored = h.ignored;
    counted = h.counted;
    cause = cause_from h.answer.stop full most (length h.taken) before link link' ended.end r w h.cause;
    counts = record { closed = h.counts.closed; read_faults = λ off. h.counts.read_faults off ∙ r; write_faults = λ off. h.counts.write_faults off ∙ w };
  },
  omega (arith, reached, less),
)
