-- What a framer does with a piece.
use Rattle.std.proofs.Common.{◌≡◌, ℕ, ◌+◌, ◌-◌, ◌<◌, ◌≤◌, List, [], ◌++◌, length, take, drop, min, true, false, refl, sym, ap, ◌∙◌, inl, inr, arith, length-append, length-drop, append_assoc}
use Rattle.std.specs.Prelude.{nat_eq}
use Rattle.std.proofs.lemmas.Bool.{cases_lt, eqb-true, eqb-false}
use Rattle.std.proofs.lemmas.List.{length-take, take-append-drop, append-nil}
use Rattle.std.proofs.Math.Seq.{take-add}
use Rattle.of10_wire.specs.declared.refusal.WireRefusal.{WireRefusal}
use Rattle.of10_wire.specs.declared.rules.Opening.TheVariants.{Wants, Frame, Refused}
use Rattle.of10_wire.specs.Headers.{opening_of}
use Rattle.of10_wire.specs.Layout.{number}
use Rattle.of10_wire.proofs.Openings.{framed, refused-stays, wants-short, wants-headed, wants-more, frame-full, wants-still}
use Rattle.of10_stream.specs.declared.framer.Fed.{Fed}
use Rattle.of10_stream.specs.Framings.{Framing, framing, IsOpen, Takes}

framing_is : (f : Framing) (start : ℕ) (held : List ℕ) → f.start ≡ start → f.held ≡ held → f.ended ≡ false → f ≡ framing start held
framing_is f start held a b e = λ i. record { start = a i; held = b i; ended = e i }

-- behind a frame, or at the stream's first byte, bytes may be fed
pub open_new : (f : Framing) → f.held ≡ [] → f.ended ≡ false → IsOpen f
open_new f none on = record { wanting = (8, ap opening_of none ∙ wants-short [] (omega arith)); on = on }

-- at first, as many bytes are taken as a header lacks
module _ (old mid : Framing) (piece : List ℕ) (head : ℕ) (free : IsOpen old) (is : head ≡ min (length piece) (8 - length old.held)) (held : mid.held ≡ old.held ++ take head piece) (start : mid.start ≡ old.start) (ended : mid.ended ≡ old.ended) where
  size : length mid.held ≡ length old.held + head
  size = omega (arith, ap (λ (l : List ℕ). length l) held, length-append old.held (take head piece), length-take head piece, is)

  -- where that was nothing, nothing has changed
  nothing : head ≡ 0 → mid.held ≡ old.held
  nothing none = held ∙ (rw (none, append-nil) refl)

  pub takes_frame : (n : ℕ) → opening_of mid.held ≡ Frame n → Takes old piece mid (record { used = head; ready = true })
  takes_frame n frame =
      let f = framed mid.held n frame in
      record {
        used = omega (arith, is);
        came = framing_is mid old.start (old.held ++ take head piece) start held (ended ∙ free.on);
        ready = λ e. elim (cases_lt (length old.held) 8) [
          | inl short ↦ frame ∙ ap (λ (k : ℕ). Frame k) (omega (arith, f.long, f.within, size, is, short))
          | inr long ↦
              let same : mid.held ≡ old.held = nothing (omega (arith, is, long)) in
              let no : Wants free.wanting.0 ≡ Frame n = sym free.wanting.1 ∙ (ap opening_of (sym same) ∙ frame) in absurd cc
        ];
        waits = λ e. absurd cc;
      }

  pub refused_first : (e : WireRefusal) → opening_of mid.held ≡ Refused e → opening_of (old.held ++ piece) ≡ Refused e
  refused_first e refused =
      let all : mid.held ++ drop head piece ≡ old.held ++ piece = ap (λ (l : List ℕ). l ++ drop head piece) held ∙ (append_assoc old.held (take head piece) (drop head piece) ∙ ap (λ (l : List ℕ). old.held ++ l) (take-append-drop head piece)) in
      ap opening_of (sym all) ∙ refused-stays mid.held (drop head piece) e refused

  -- less than a header has come
  pub takes_short : length mid.held < 8 → Takes old piece mid (record { used = head; ready = false })
  takes_short short = record {
    used = omega (arith, is);
    came = framing_is mid old.start (old.held ++ take head piece) start held (ended ∙ free.on);
    ready = λ e. absurd cc;
    waits = λ e. (omega (arith, is, size, short), (8, wants-short mid.held short));
  }

  -- the header has come, and more of the piece is taken
  pub takes_on : (now : Framing) (fed : Fed) → Takes mid (drop head piece) now fed → Takes old piece now (record { used = head + fed.used; ready = fed.ready })
  takes_on now fed t =
      let all : mid.held ++ take fed.used (drop head piece) ≡ old.held ++ take (head + fed.used) piece = rw (held, take-add head fed.used piece, append_assoc) refl in
      record {
        used = omega (arith, is, t.used, length-drop head piece);
        came = t.came ∙ (λ i. framing (start i) (all i));
        ready = t.ready;
        waits = λ e. let w = t.waits e in (omega (arith, w.0, is, length-drop head piece), w.1);
      }

-- bytes are taken of a frame whose header has come
pub takes_body : (old now : Framing) (piece : List ℕ) (len used size : ℕ) → IsOpen old → 8 ≤ length old.held → len ≡ number 2 2 old.held → used ≡ min (length piece) (len - length old.held) → now.held ≡ old.held ++ take used piece
    → now.start ≡ old.start → now.ended ≡ old.ended → size ≡ length now.held → Takes old piece now (record { used = used; ready = nat_eq size len })
takes_body old now piece len used size free long len_is used_is held start ended size_is =
    let w = wants-headed old.held free.wanting.0 long free.wanting.1 in
    let wants : opening_of old.held ≡ Wants len = free.wanting.1 ∙ ap (λ (n : ℕ). Wants n) (sym w.1 ∙ sym len_is) in
    let grown : length now.held ≡ length old.held + used = omega (arith, ap (λ (l : List ℕ). length l) held, length-append old.held (take used piece), length-take used piece, used_is) in
    record {
      used = omega (arith, used_is);
      came = framing_is now old.start (old.held ++ take used piece) start held (ended ∙ free.on);
      ready = λ e.
          let full : length now.held ≡ len = sym size_is ∙ eqb-true size len e in
          ap opening_of held ∙ (frame-full old.held (take used piece) len long wants (ap (λ (l : List ℕ). length l) (sym held) ∙ full) ∙ ap (λ (k : ℕ). Frame k) (sym full));
      waits = λ e.
          let less : length now.held < len = omega (arith, eqb-false size len e, size_is, grown, used_is, wants-more old.held len wants) in (
            omega (arith, grown, less, used_is),
            (len, ap opening_of held ∙ wants-still old.held (take used piece) len long wants (omega (arith, less, ap (λ (l : List ℕ). length l) held))),
          );
    }
