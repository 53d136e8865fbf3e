-- The steps of a loop that hears a piece.
use Rattle.std.proofs.Common.{◌≡◌, ◌≢◌, ℕ, ◌+◌, ◌≤◌, List, [], ◌++◌, length, drop, Result, Ok, Err, refl, ap, sym, subst, ◌∙◌, inl, inr, arith, append_assoc, length-append, add-zero}
use Rattle.std.specs.Result.{IsErrAnd}
use Rattle.std.proofs.lemmas.List.{append-nil}
use Rattle.std.proofs.Math.Seq.{drop-append-add}
use Rattle.of10_stream.specs.Framings.{Framing, IsOpen}
use Rattle.of10_session.specs.Progresses.{Progress, IsListening}
use Rattle.of10_speech.specs.declared.hearing.Hearing.{Hearing}
use Rattle.of10_speech.specs.declared.stops.Broken.{Broken}
use Rattle.of10_speech.specs.declared.stops.Broken.TheVariants.{Full, Memory}
use Rattle.of10_speech.specs.declared.stops.SpeechStop.{SpeechStop}
use Rattle.of10_speech.specs.declared.stops.SpeechStop.TheVariants.{Goes, Waits, Ends}
use Rattle.of10_speech.specs.Speeches.{Told, Further}
use Rattle.of10_speech.specs.Hearings.{Following, Hears, IsAnswer, Awaits, Breaks}
use Rattle.of10_speech.proofs.Following.{following_next, following_stops}
use Rattle.of10_speech.proofs.Beginnings.{following_more}
use Rattle.of10_speech.proofs.Breaks.{breaks_asked, breaks_full}
use Rattle.link_sessions.specs.Pieces.{AfterPiece, CutOff, HearsPiece, HearsSome, StandsSomewhere}
use Rattle.link_sessions.proofs.Cuts.{cut_following}

-- what a step appended, behind what was said before
hears_after : (o t : Told) (f : Framing) (s : Progress) (piece : List ℕ) (g : Framing) (s' : Progress) (r : Hearing) (now before after : List ℕ) → Hears o t f s piece g s' r before after → Hears o t f s piece g s' r (now ++ before) (now ++ after)
hears_after o t f s piece g s' r now before after (inl h) =
    inl (record { used = h.used; counts = h.counts; asked = h.asked; held = h.held; framer = h.framer; session = h.session; goes = h.goes; bytes = ap (λ (l : List ℕ). now ++ l) h.bytes })
hears_after o t f s piece g s' r now before after (inr (inl h)) = inr (inl (record {
  used = h.used;
  some = h.some;
  message = h.message;
  frame = h.frame;
  spelled_as = h.spelled_as;
  says = record { stops = h.says.stops; goes_on = h.says.goes_on; bytes = ap (λ (l : List ℕ). now ++ l) h.says.bytes ∙ sym (append_assoc now before _) };
  held = h.held;
  counts = h.counts;
  asked = h.asked;
}))
hears_after o t f s piece g s' r now before after (inr (inr h)) =
    inr (inr (record { used = h.used; e = h.e; next = h.next; stop = h.stop; session = h.session; asked = h.asked; bytes = ap (λ (l : List ℕ). now ++ l) h.bytes }))

-- a step in a piece, behind other bytes
hears_behind : (o t : Told) (f : Framing) (s : Progress) (bytes piece : List ℕ) (at : ℕ) (g : Framing) (s' : Progress) (r : Hearing) (now before after : List ℕ) → Hears o t f s (drop at piece) g s' r before after
    → Hears o t f s (drop (length bytes + at) (bytes ++ piece)) g s' r (now ++ before) (now ++ after)
hears_behind o t f s bytes piece at g s' r now before after h =
    subst (λ (l : List ℕ). Hears o t f s l g s' r (now ++ before) (now ++ after)) (sym (drop-append-add bytes piece at)) (hears_after o t f s (drop at piece) g s' r now before after h)

pub some_nothing : (o : Told) (f : Framing) (s : Progress) (piece said : List ℕ) → said ≡ [] → HearsSome o o f s piece 0 f s said
some_nothing o f s piece said none number bytes now w =
    let all : Following o number (bytes ++ piece) (length bytes) f s [] now = following_more o number bytes piece f s [] now w in
    subst (λ (l : List ℕ). Following o number (bytes ++ piece) (length bytes + 0) f s [] l) (sym (ap (λ (l : List ℕ). now ++ l) none ∙ append-nil now))
    (subst (λ (n : ℕ). Following o number (bytes ++ piece) n f s [] now) (sym (add-zero (length bytes))) all)

pub some_next : (o t u : Told) (f0 : Framing) (s0 : Progress) (piece : List ℕ) (at : ℕ) (f : Framing) (s : Progress) (g : Framing) (s' : Progress) (r : Hearing) (before after : List ℕ) → Further t u
    → HearsSome o t f0 s0 piece at f s before → Hears t u f s (drop at piece) g s' r before after → r.stop ≡ Goes → HearsSome o u f0 s0 piece (at + r.used) g s' after
some_next o t u f0 s0 piece at f s g s' r before after further some h on number bytes now w =
    let there = following_next t u number (bytes ++ piece) (length bytes + at) f s g s' r [] (now ++ before) (now ++ after) further (some number bytes now w) (hears_behind t u f s bytes piece at g s' r now before after h) on in
    let same : (length bytes + at) + r.used ≡ length bytes + (at + r.used) = omega arith in
    subst (λ (n : ℕ). Following u number (bytes ++ piece) n g s' [] (now ++ after)) same there

after_stop : (t : Told) (number : ℕ) (bytes : List ℕ) (f : Framing) (s : Progress) (now : List ℕ) (stop : SpeechStop) → stop ≢ Goes → IsAnswer t number bytes [] now (record { stop = stop; ignored = s.ignored }) → AfterPiece t number bytes f s now (Ok stop)
after_stop t number bytes f s now Goes off h = absurd (off refl)
after_stop t number bytes f s now Waits off h = h
after_stop t number bytes f s now (Ends e) off h = h

pub some_stops : (o t u : Told) (f0 : Framing) (s0 : Progress) (piece : List ℕ) (at : ℕ) (f : Framing) (s : Progress) (g : Framing) (s' : Progress) (r : Hearing) (before after : List ℕ) → Further t u
    → HearsSome o t f0 s0 piece at f s before → Hears t u f s (drop at piece) g s' r before after → r.stop ≢ Goes → HearsPiece o u f0 s0 piece g s' after (Ok r.stop)
some_stops o t u f0 s0 piece at f s g s' r before after further some h off number bytes now w =
    after_stop u number (bytes ++ piece) g s' (now ++ after) r.stop off
    (following_stops t u number (bytes ++ piece) (length bytes + at) f s g s' r [] (now ++ before) (now ++ after) further (some number bytes now w) (hears_behind t u f s bytes piece at g s' r now before after h) off)

pub some_all : (o t : Told) (f0 : Framing) (s0 : Progress) (piece : List ℕ) (at : ℕ) (f : Framing) (s : Progress) (said : List ℕ) → HearsSome o t f0 s0 piece at f s said → length piece ≤ at → HearsPiece o t f0 s0 piece f s said (Ok Goes)
some_all o t f0 s0 piece at f s said some over number bytes now w =
    let h = some number bytes now w in
    let all : length bytes + at ≡ length (bytes ++ piece) = omega (arith, h.inside, over, length-append bytes piece) in
    subst (λ (n : ℕ). Following t number (bytes ++ piece) n f s [] (now ++ said)) all h

breaks_behind : (t u : Told) (f : Framing) (s : Progress) (bytes piece : List ℕ) (at : ℕ) (why : Broken) → Breaks t u f s (drop at piece) why → Breaks t u f s (drop (length bytes + at) (bytes ++ piece)) why
breaks_behind t u f s bytes piece at why h = subst (λ (l : List ℕ). Breaks t u f s l why) (sym (drop-append-add bytes piece at)) h

pub some_breaks : (o t u : Told) (f0 : Framing) (s0 : Progress) (piece : List ℕ) (at : ℕ) (f : Framing) (s : Progress) (g : Framing) (s' : Progress) (before after : List ℕ) (why : Broken) → Further t u
    → HearsSome o t f0 s0 piece at f s before → Breaks t u f s (drop at piece) why → s'.ignored ≡ s.ignored → after ≡ before → HearsPiece o u f0 s0 piece g s' after (Err why)
some_breaks o t u f0 s0 piece at f s g s' before after Full further some h same none number bytes now w =
    let there = breaks_full t u number (bytes ++ piece) (length bytes + at) f s [] (now ++ before) further (some number bytes now w) (breaks_behind t u f s bytes piece at Full h) in
    subst (λ (l : List ℕ). Awaits u number (bytes ++ piece) [] (now ++ l) s'.ignored) (sym none) (subst (λ (n : ℕ). Awaits u number (bytes ++ piece) [] (now ++ before) n) (sym same) there)
some_breaks o t u f0 s0 piece at f s g s' before after Memory further some h same none number bytes now w =
    let follows = some number bytes now w in
    let there = cut_following t u number (bytes ++ piece) (length bytes + at) f s (now ++ before) further follows
    (λ y spoken. breaks_asked t u number (bytes ++ piece) (length bytes + at) f s [] (now ++ before) Memory y further follows (breaks_behind t u f s bytes piece at Memory h) spoken) in
    subst (λ (l : List ℕ). CutOff u number (bytes ++ piece) (now ++ l) s'.ignored) (sym none) (subst (λ (n : ℕ). CutOff u number (bytes ++ piece) (now ++ before) n) (sym same) there)

-- where a session stands in a piece
pub record IsThere (f : Framing) (s : Progress) (piece : List ℕ) (count at : ℕ) : Type 0 where
  pub framer : IsOpen f
  pub listens : IsListening s
  pub few : s.ignored ≤ count + at
  pub place : f.start + length f.held ≡ count + at
  pub inside : at ≤ length piece

pub is_there : (o t : Told) (f0 : Framing) (s0 : Progress) (piece : List ℕ) (at : ℕ) (f : Framing) (s : Progress) (said : List ℕ) → StandsSomewhere o f0 s0 → HearsSome o t f0 s0 piece at f s said → IsThere f s piece (f0.start + length f0.held) at
is_there o t f0 s0 piece at f s said h some =
    let w = some h.number h.bytes h.now h.follows in
    record {
      framer = w.follows.framer;
      listens = w.listens;
      few = omega (arith, w.few, h.follows.taken);
      place = omega (arith, w.taken, h.follows.taken);
      inside = omega (arith, w.inside, length-append h.bytes piece);
    }

-- what a `?` hands on
pub err_is : (P : Result SpeechStop Broken → Type 0) (r : Result SpeechStop Broken) (e : Broken) → IsErrAnd r (λ x. x ≡ e) → P (Err e) → P r
err_is P (Ok stop) e is h = elim is [ ]
err_is P (Err x) e is h = subst (λ (y : Broken). P (Err y)) (sym is) h
