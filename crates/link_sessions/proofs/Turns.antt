-- The turns of a session over a link.
use Rattle.std.proofs.Common.{◌≡◌, ℕ, ◌+◌, ◌*◌, ◌≤◌, ◌<◌, Bool, true, false, List, [], ◌++◌, length, take, drop, Option, Result, Ok, Err, IfOk, refl, ap, sym, subst, ◌∙◌, arith, append_assoc, length-append}
use Rattle.std.specs.Prelude.{IfErr}
use Rattle.std.proofs.lemmas.List.{take-append-drop}
use Rattle.of10_stream.specs.Framings.{Framing, framing}
use Rattle.of10_session.specs.Progresses.{Progress}
use Rattle.of10_session.specs.Sessions.{spelled}
use Rattle.of10_speech.specs.declared.stops.Broken.{Broken}
use Rattle.of10_speech.specs.declared.stops.Broken.TheVariants.{Full}
use Rattle.of10_speech.specs.declared.stops.SpeechStop.{SpeechStop}
use Rattle.of10_speech.specs.declared.stops.SpeechStop.TheVariants.{Goes, Waits}
use Rattle.of10_speech.specs.Speeches.{Told, opening}
use Rattle.of10_speech.proofs.Following.{follows_nothing}
use Rattle.vericon_edge.specs.Counts.{Rose}
use Rattle.vericon_edge.specs.Written.{Grown, GrownByFront}
use Rattle.vericon_links.specs.Links.{IsEmptyWhereTold}
use Rattle.link_sessions.specs.declared.ends.Ended.{Ended}
use Rattle.link_sessions.specs.declared.ends.SessionEnd.{SessionEnd}
use Rattle.link_sessions.specs.declared.ends.SessionEnd.TheVariants.{Closed, ReadFault, WriteFault, StreamFull, Memory}
use Rattle.link_sessions.specs.Links.{LinkView}
use Rattle.link_sessions.specs.Pieces.{HasTaken, HearsPiece, IsEndOf, IsOver, IsOverAt, Stands, StandsSomewhere}
use Rattle.link_sessions.proofs.Telling.{tells_grown, tells_same, tells_nothing}
use Rattle.link_sessions.proofs.Cuts.{cut_greeting, cut_piece, cut_shorter}
use Rattle.link_sessions.proofs.Over.{IsSteady, counts_closed, counts_read_fault, counts_steady, counts_write_fault, over_cut, over_from, over_heard, piece_ends}

-- ---- a piece that was taken

pub stands_somewhere : (t : Told) (number : ℕ) (f : Framing) (s : Progress) (count : ℕ) (piece : List ℕ) (taken written : Option (List ℕ)) → HasTaken t number f s count piece taken written → StandsSomewhere t f s
stands_somewhere t number f s count piece taken written h = record { number = number; bytes = h.bytes; now = h.now; follows = h.follows }

-- it is answered whole
pub answered_whole : (o t : Told) (number : ℕ) (f : Framing) (s : Progress) (count : ℕ) (piece : List ℕ) (g : Framing) (s' : Progress) (said : List ℕ) (link link' : LinkView) → HasTaken o number f s count piece link.taken link.written
    → HearsPiece o t f s piece g s' said (Ok Goes) → Grown link.written link'.written said → link'.taken ≡ link.taken → Stands t number g s' (count + length piece) link'.taken link'.written
answered_whole o t number f s count piece g s' said link link' h hears grown same = record {
  bytes = h.bytes ++ piece;
  took = tells_same link.taken link'.taken (h.bytes ++ piece) same h.took;
  counted = omega (arith, length-append h.bytes piece, h.counted);
  now = h.now ++ said;
  wrote = tells_grown link.written link'.written h.now said h.wrote grown;
  follows = hears number h.bytes h.now h.follows;
}

-- .. or its answer ends the session
pub answered_end : (o t : Told) (full : Bool) (number : ℕ) (f : Framing) (s : Progress) (count : ℕ) (piece : List ℕ) (g : Framing) (s' : Progress) (said : List ℕ) (result : Result SpeechStop Broken) (end : SessionEnd) (reach left : ℕ) (link link' : LinkView)
    → HasTaken o number f s count piece link.taken link.written → HearsPiece o t f s piece g s' said result → IsEndOf result end → (result ≡ Err Full → full ≡ true) → (result ≡ Ok Waits → full ≡ true)
    → Grown link.written link'.written said → link'.taken ≡ link.taken → IsSteady link link' → reach ≤ 16 * left + ((f.start + length f.held) + length piece) → IsOverAt t full number (count + length piece) reach left link link' (record { end = end; ignored = s'.ignored })
answered_end o t full number f s count piece g s' said result end reach left link link' h hears is out_full out_waits grown same steady reached most within =
    piece_ends t full number most reach left link link' result (h.bytes ++ piece) (h.now ++ said) g s' end (hears number h.bytes h.now h.follows) is out_full out_waits
    (tells_same link.taken link'.taken (h.bytes ++ piece) same h.took) (tells_grown link.written link'.written h.now said h.wrote grown)
    (omega (arith, within, length-append h.bytes piece, h.counted)) steady (omega (arith, reached, length-append h.bytes piece, h.follows.taken))

-- .. or a write failed
pub answered_fault : (o t : Told) (full : Bool) (number : ℕ) (f : Framing) (s : Progress) (count : ℕ) (piece : List ℕ) (g : Framing) (s' : Progress) (said : List ℕ) (result : Result SpeechStop Broken) (reach left : ℕ) (link link' : LinkView)
    → HasTaken o number f s count piece link.taken link.written → HearsPiece o t f s piece g s' said result → GrownByFront link.written link'.written said → Rose link.write_faults link'.write_faults
    → link'.taken ≡ link.taken → link'.closed ≡ false → link'.read_faults ≡ link.read_faults → reach ≤ 16 * left + ((f.start + length f.held) + length piece) → IsOverAt t full number (count + length piece) reach left link link' (record { end = WriteFault; ignored = s'.ignored })
answered_fault o t full number f s count piece g s' said result reach left link link' h hears (n, less, grown) rose same unclosed reads reached most within =
    let now = h.now ++ said in
    let front = h.now ++ take n said in
    let split : now ≡ front ++ drop n said = ap (λ (l : List ℕ). h.now ++ l) (sym (take-append-drop n said)) ∙ sym (append_assoc h.now (take n said) (drop n said)) in
    over_cut t full number most reach left s'.ignored link link' WriteFault (h.bytes ++ piece) front refl refl
    (cut_shorter t number (h.bytes ++ piece) now front (drop n said) s'.ignored split (cut_piece t number (h.bytes ++ piece) g s' now result (hears number h.bytes h.now h.follows)))
    (tells_same link.taken link'.taken (h.bytes ++ piece) same h.took) (tells_grown link.written link'.written h.now (take n said) h.wrote grown)
    (omega (arith, within, length-append h.bytes piece, h.counted)) (λ stop. rose) (counts_write_fault link link' unclosed reads) (omega (arith, reached, length-append h.bytes piece, h.follows.taken))

-- what is so where nothing more can come
pub full_at : (X : Type 0) (result : Result SpeechStop Broken) → IfErr result (λ why. why ≡ Full → X) → result ≡ Err Full → X
full_at X result h is = (subst (λ (r : Result SpeechStop Broken). IfErr r (λ why. why ≡ Full → X)) is h) refl

pub waits_at : (X : Type 0) (result : Result SpeechStop Broken) → IfOk result (λ stop. stop ≡ Waits → X) → result ≡ Ok Waits → X
waits_at X result h is = (subst (λ (r : Result SpeechStop Broken). IfOk r (λ stop. stop ≡ Waits → X)) is h) refl

-- .. from an earlier link, where more may have been taken
pub over_later : (t : Told) (full : Bool) (number count count' reach left : ℕ) (before link link' : LinkView) (ended : Ended) → link.read_faults ≡ before.read_faults → link.write_faults ≡ before.write_faults → count' ≤ count
    → IsOverAt t full number count' reach left link link' ended → IsOverAt t full number count reach left before link' ended
over_later t full number count count' reach left before link link' ended r w less h most within = over_from t full number most reach reach left before link link' ended r w (omega arith) (h most (omega (arith, less, within)))

-- ---- reads

pub read_piece : (t : Told) (number : ℕ) (f : Framing) (s : Progress) (count : ℕ) (piece : List ℕ) (link link' : LinkView) → Stands t number f s count link.taken link.written → Grown link.taken link'.taken piece → link'.written ≡ link.written
    → HasTaken t number f s count piece link'.taken link'.written
read_piece t number f s count piece link link' h grown same = record {
  bytes = h.bytes;
  took = tells_grown link.taken link'.taken h.bytes piece h.took grown;
  counted = h.counted;
  now = h.now;
  wrote = tells_same link.written link'.written h.now same h.wrote;
  follows = h.follows;
}

module _ (t : Told) (full : Bool) (number : ℕ) (f : Framing) (s : Progress) (count left : ℕ) (link link' : LinkView) (h : Stands t number f s count link.taken link.written) (taken : link'.taken ≡ link.taken) (written : link'.written ≡ link.written) where
  reached : 16 * left + f.start ≤ 16 * left + length h.bytes
  reached = omega (arith, h.follows.taken)

  pub read_closed : (room : ℕ) → 0 < room → link'.closed ≡ true → link'.read_faults ≡ link.read_faults → link'.write_faults ≡ link.write_faults → IsOverAt t full number (count + room) (16 * left + f.start) left link link' (record { end = Closed; ignored = s.ignored })
  read_closed room some closed reads writes most within =
      over_heard t full number most (16 * left + f.start) left link link' Closed h.bytes h.now f s h.follows (tells_same link.taken link'.taken h.bytes taken h.took) (tells_same link.written link'.written h.now written h.wrote)
      (omega (arith, within, h.counted)) (refl, omega (arith, within, h.counted, some)) (counts_closed link link' closed reads writes) reached

  pub read_failed : (room : ℕ) → 0 < room → link'.closed ≡ false → Rose link.read_faults link'.read_faults → link'.write_faults ≡ link.write_faults → IsOverAt t full number (count + room) (16 * left + f.start) left link link' (record { end = ReadFault; ignored = s.ignored })
  read_failed room some unclosed rose writes most within =
      over_heard t full number most (16 * left + f.start) left link link' ReadFault h.bytes h.now f s h.follows (tells_same link.taken link'.taken h.bytes taken h.took) (tells_same link.written link'.written h.now written h.wrote)
      (omega (arith, within, h.counted)) (refl, omega (arith, within, h.counted, some), rose) (counts_read_fault link link' unclosed writes) reached

-- as many bytes were taken as may be
pub stream_full : (t : Told) (full : Bool) (number : ℕ) (f : Framing) (s : Progress) (most reach left : ℕ) (before link : LinkView) → Stands t number f s most link.taken link.written → IsSteady before link → reach ≤ 16 * left + f.start
    → IsOver t full number most reach left before link (record { end = StreamFull; ignored = s.ignored })
stream_full t full number f s most reach left before link h steady reached =
    over_heard t full number most reach left before link StreamFull h.bytes h.now f s h.follows h.took h.wrote (omega (arith, h.counted)) (refl, h.counted) (counts_steady before link StreamFull (λ e. cc) steady) (omega (arith, reached, h.follows.taken))

-- ---- the greeting

pub greeted : (t : Told) (number : ℕ) (f : Framing) (s : Progress) (said : List ℕ) (link link' : LinkView) → t.replies ≡ [] → t.asks ≡ [] → f ≡ framing 0 [] → s ≡ (opening number).session → said ≡ spelled (opening number).sent
    → IsEmptyWhereTold link.taken → IsEmptyWhereTold link.written → link'.taken ≡ link.taken → Grown link.written link'.written said → Stands t number f s 0 link'.taken link'.written
greeted t number f s said link link' none no_asks f_is s_is said_is no_taken no_written same grown = record {
  bytes = [];
  took = tells_same link.taken link'.taken [] same (tells_nothing link.taken no_taken);
  counted = refl;
  now = said;
  wrote = tells_grown link.written link'.written [] said (tells_nothing link.written no_written) grown;
  follows = follows_nothing t number [] f s [] said none no_asks f_is s_is said_is;
}

-- no memory for a session
pub no_session : (t : Told) (full : Bool) (number most left : ℕ) (link link' : LinkView) → t.replies ≡ [] → t.asks ≡ [] → IsEmptyWhereTold link.taken → IsEmptyWhereTold link.written → link' ≡ link → link.closed ≡ false
    → IsOver t full number most (16 * left) left link link' (record { end = Memory; ignored = 0 })
no_session t full number most left link link' none no_asks no_taken no_written same unclosed =
    let steady : IsSteady link link' = record { closed = ap (λ (v : LinkView). v.closed) same ∙ unclosed; read_faults = ap (λ (v : LinkView). v.read_faults) same; write_faults = ap (λ (v : LinkView). v.write_faults) same } in
    over_cut t full number most (16 * left) left 0 link link' Memory [] [] refl refl (cut_greeting t number [] (spelled (opening number).sent) none no_asks refl)
    (tells_same link.taken link'.taken [] (ap (λ (v : LinkView). v.taken) same) (tells_nothing link.taken no_taken)) (tells_same link.written link'.written [] (ap (λ (v : LinkView). v.written) same) (tells_nothing link.written no_written))
    (omega arith) (λ stop. tt) (counts_steady link link' Memory (λ e. cc) steady) (omega arith)

-- the greeting was not written whole
pub greeting_fault : (t : Told) (full : Bool) (number most left few : ℕ) (said : List ℕ) (link link' : LinkView) → few ≡ 0 → t.replies ≡ [] → t.asks ≡ [] → said ≡ spelled (opening number).sent → IsEmptyWhereTold link.taken → IsEmptyWhereTold link.written
    → link'.taken ≡ link.taken → GrownByFront link.written link'.written said → Rose link.write_faults link'.write_faults → link'.closed ≡ false → link'.read_faults ≡ link.read_faults
    → IsOver t full number most (16 * left) left link link' (record { end = WriteFault; ignored = few })
greeting_fault t full number most left few said link link' zero none no_asks said_is no_taken no_written same (n, less, grown) rose unclosed reads =
    subst (λ (k : ℕ). IsOver t full number most (16 * left) left link link' (record { end = WriteFault; ignored = k })) (sym zero)
    (over_cut t full number most (16 * left) left 0 link link' WriteFault [] (take n said) refl refl
    (cut_greeting t number (take n said) (drop n said) none no_asks (sym said_is ∙ sym (take-append-drop n said)))
    (tells_same link.taken link'.taken [] same (tells_nothing link.taken no_taken)) (tells_grown link.written link'.written [] (take n said) (tells_nothing link.written no_written) grown)
    (omega arith) (λ stop. rose) (counts_write_fault link link' unclosed reads) (omega arith))
