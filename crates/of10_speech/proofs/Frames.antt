-- A frame that became whole is heard, or is the tail.
use Rattle.std.proofs.Common.{◌≡◌, ℕ, zero, suc, ◌+◌, ◌^◌, ◌<◌, ◌≤◌, List, [], ◌++◌, length, take, drop, Bool, true, false, not, Result, Ok, Err, IfErr, IsErrAnd, refl, sym, ap, subst, ◌∙◌, inl, inr, arith, append_assoc}
use Rattle.std.proofs.lemmas.List.{append-nil, take-append-drop, length-take-le}
use Rattle.std.proofs.Math.Seq.{take-append_seam}
use Rattle.of10_wire.specs.declared.rules.Opening.TheVariants.{Wants, Frame}
use Rattle.of10_wire.specs.Headers.{opening_of}
use Rattle.of10_wire.proofs.Openings.{framed, frame-stays, frame-alone}
use Rattle.of10_wire.specs.declared.refusal.WireRefusal.{WireRefusal}
use Rattle.of10_msgs.specs.Messages.{spells}
use Rattle.of10_msgs.specs.Refused.{Refuses}
use Rattle.of10_msgs.proofs.Readings.{refused-place}
use Rattle.of10_stream.specs.declared.framer.Fed.{Fed}
use Rattle.of10_stream.specs.Framings.{Framing, framing, IsFrame, IsOpen, Takes}
use Rattle.of10_session.specs.Progresses.{Progress}
use Rattle.of10_speech.specs.declared.stops.SpeechStop.{SpeechStop}
use Rattle.of10_speech.specs.Speeches.{Told, said_to}
use Rattle.of10_speech.specs.declared.stops.Broken.{Broken as Break}
use Rattle.of10_speech.specs.declared.hearing.Hearing.{Hearing}
use Rattle.of10_speech.specs.Hearings.{BreaksAtFrame, BreaksOff, Breaks, HearsFrame, Hears}

-- a refusal of a frame stands inside of it
pub refused_room : (start : ℕ) (held frame : List ℕ) (e : WireRefusal) → IsFrame held → frame ≡ held → Refuses frame e → start + length held < 2 ^ 64 → start + e.at < 2 ^ 64
refused_room start held frame e whole same refused room =
    let f = framed held (length held) whole in
    omega (arith, (refused-place frame e refused).near, ap (λ (l : List ℕ). length l) same, f.long, room)

-- a frame that was not there before takes bytes
some_taken : (f : Framing) (piece : List ℕ) (used : ℕ) → IsOpen f → IsFrame (f.held ++ take used piece) → 0 < used
some_taken f piece zero is_open frame =
    let no : Wants is_open.wanting.0 ≡ Frame (length (f.held ++ [])) = sym is_open.wanting.1 ∙ (ap opening_of (sym (append-nil f.held)) ∙ frame) in absurd cc
some_taken f piece (suc used) is_open frame = omega arith

frame_heard : (o t : Told) (f : Framing) (s : Progress) (piece : List ℕ) (used : ℕ) (g : Framing) (s' : Progress) (stop : SpeechStop) (before after : List ℕ) → IsOpen f → used ≤ length piece → IsFrame (f.held ++ take used piece)
    → HearsFrame o t (framing f.start (f.held ++ take used piece)) s g s' stop before after → Hears o t f s piece g s' (record { used = used; stop = stop }) before after
frame_heard o t f s piece used g s' stop before after is_open within frame (inl h) = inr (inl (record {
  used = within;
  some = some_taken f piece used is_open frame;
  message = h.message;
  frame = frame;
  spelled_as = h.spelled_as;
  says = h.says;
  held = h.held;
  counts = h.counts;
  asked = h.asked;
}))
frame_heard o t f s piece used g s' stop before after is_open within frame (inr h) =
    let all : (f.held ++ take used piece) ++ drop used piece ≡ f.held ++ piece = append_assoc f.held (take used piece) (drop used piece) ∙ ap (λ (l : List ℕ). f.held ++ l) (take-append-drop used piece) in
    let n : ℕ = length (f.held ++ take used piece) in
    let whole : take n (f.held ++ piece) ≡ f.held ++ take used piece = ap (λ (l : List ℕ). take n l) (sym all) ∙ take-append_seam (f.held ++ take used piece) (drop used piece) in
    inr (inr (record {
      used = within;
      e = h.refusal;
      next = inr (record { len = n; frame = ap opening_of (sym all) ∙ frame-stays (f.held ++ take used piece) (drop used piece) n frame; refused = subst (λ (l : List ℕ). Refuses l h.refusal) (sym whole) h.refused });
      stop = h.stops;
      session = h.session;
      bytes = h.bytes;
      asked = h.asked;
    }))

pub fed_frame : (o t : Told) (f : Framing) (s : Progress) (piece : List ℕ) (mid : Framing) (fed : Fed) (g : Framing) (s' : Progress) (stop : SpeechStop) (before after : List ℕ) → IsOpen f → Takes f piece mid fed → fed.ready ≡ true
    → HearsFrame o t mid s g s' stop before after → Hears o t f s piece g s' (record { used = fed.used; stop = stop }) before after
fed_frame o t f s piece mid fed g s' stop before after is_open takes ready h =
    frame_heard o t f s piece fed.used g s' stop before after is_open takes.used (subst (λ (m : Framing). IsFrame m.held) takes.came (takes.ready ready)) (subst (λ (m : Framing). HearsFrame o t m s g s' stop before after) takes.came h)

-- a frame that was ready was heard from its bytes
pub ready_heard : (o t : Told) (f : Framing) (start : ℕ) (frame : List ℕ) (s : Progress) (g : Framing) (s' : Progress) (stop : SpeechStop) (before after : List ℕ) → f.ended ≡ false → start ≡ f.start → frame ≡ f.held → g ≡ framing (f.start + length f.held) []
    → HearsFrame o t (framing start frame) s (framing (start + length frame) []) s' stop before after → HearsFrame o t f s g s' stop before after
ready_heard o t f start frame s g s' stop before after on start_is frame_is gone h =
    let is : framing start frame ≡ f = λ i. record { start = start_is i; held = frame_is i; ended = sym on i } in
    subst (λ (x : Framing). HearsFrame o t f s x s' stop before after) (sym gone) (subst (λ (x : Framing). HearsFrame o t x s (framing (x.start + length x.held) []) s' stop before after) is h)

-- the first frame of the piece is one alone
pub whole_alone : (piece : List ℕ) (len : ℕ) → opening_of piece ≡ Frame len → IsFrame (take len piece)
whole_alone piece len whole = frame-alone piece len whole ∙ ap (λ (n : ℕ). Frame n) (sym (length-take-le len piece (framed piece len whole).within))

-- a frame that was whole in the piece was heard where it stands
pub whole_heard : (o t : Told) (f : Framing) (s : Progress) (piece : List ℕ) (len start : ℕ) (frame : List ℕ) (g : Framing) (s' : Progress) (stop : SpeechStop) (before after : List ℕ) → IsOpen f → f.held ≡ [] → opening_of piece ≡ Frame len → start ≡ f.start → frame ≡ take len piece
    → g ≡ framing (f.start + len) [] → HearsFrame o t (framing start frame) s (framing (start + length frame) []) s' stop before after → Hears o t f s piece g s' (record { used = len; stop = stop }) before after
whole_heard o t f s piece len start frame g s' stop before after is_open none whole start_is frame_is gone h =
    let within = (framed piece len whole).within in
    let size : length (take len piece) ≡ len = length-take-le len piece within in
    let all : take len piece ≡ f.held ++ take len piece = ap (λ (l : List ℕ). l ++ take len piece) (sym none) in
    let mid : Framing = framing f.start (f.held ++ take len piece) in
    let behind : g ≡ framing (mid.start + length mid.held) [] = gone ∙ ap (λ (n : ℕ). framing (f.start + n) []) (sym size ∙ ap (λ (l : List ℕ). length l) all) in
    frame_heard o t f s piece len g s' stop before after is_open within (subst IsFrame all (whole_alone piece len whole)) (ready_heard o t mid start frame s g s' stop before after refl start_is (frame_is ∙ all) behind h)

-- .. or the session broke off there
pub whole_breaks : (o t : Told) (f : Framing) (s : Progress) (piece : List ℕ) (len start : ℕ) (frame : List ℕ) (why : Break) → f.held ≡ [] → opening_of piece ≡ Frame len → start ≡ f.start → frame ≡ take len piece
    → BreaksAtFrame o t (framing start frame) s why → Breaks o t f s piece why
whole_breaks o t f s piece len start frame why none whole start_is frame_is (inl k) =
    let all : take len piece ≡ f.held ++ take len piece = ap (λ (l : List ℕ). l ++ take len piece) (sym none) in
    inl (record {
      used = len;
      inside = (framed piece len whole).within;
      message = k.message;
      frame = subst IsFrame all (whole_alone piece len whole);
      spelled_as = subst (spells k.message) (frame_is ∙ all) k.spelled_as;
      breaks = subst (λ (n : ℕ). BreaksOff (said_to t n (length o.replies) s k.message) o t s why) start_is k.breaks;
    })
whole_breaks o t f s piece len start frame why none whole start_is frame_is (inr k) = inr k

-- what an error that is handed on says
pub handed_on : (r : Result Hearing Break) (why : Break) (P : Break → Type 0) → IsErrAnd r (λ x. x ≡ why) → P why → IfErr r P
handed_on (Ok heard) why P is h = tt
handed_on (Err x) why P is h = subst P (sym is) h

pub was_true : (b : Bool) → not b ≡ false → b ≡ true
was_true true h = refl
was_true false h = absurd cc
