-- The lines of messages that were sent.
use Rattle.std.proofs.Common.{◌≡◌, ◌≢◌, ◌≤◌, ◌∙◌, ap, sym, refl, ℕ, List, [], ◌∷◌, ◌++◌, length, take, drop, append_assoc}
use Rattle.std.proofs.lemmas.List.{append-nil, length-take-le, take-append-drop}
use Rattle.std.proofs.lemmas.Grind.{flat_map-append}
use Rattle.std.specs.List.{AllByRecursion, flat_map}
use Rattle.of10_wire.specs.declared.rules.Opening.TheVariants.{Frame}
use Rattle.of10_wire.specs.Headers.{opening_of}
use Rattle.of10_wire.proofs.Openings.{frame-alone}
use Rattle.of10_stream.specs.Cuttings.{joined}
use Rattle.of10_stream.specs.Framings.{IsFrame}
use Rattle.replay_listing.specs.Replays.{AreListed, AreOutLines, IsBehind, out_line, rest_line}

each_snoc : (fs : List (List ℕ)) (f : List ℕ) → AllByRecursion IsFrame fs → IsFrame f → AllByRecursion IsFrame (fs ++ f ∷ [])
each_snoc [] f h k = (k, tt)
each_snoc (g ∷ fs) f h k = (h.0, each_snoc fs f h.1 k)

pub listed_none : (bytes out : List ℕ) → AreListed bytes bytes out out
listed_none bytes out = record { messages = []; whole = refl; each = tt; lines = sym (append-nil out) }

a_frame : (rest : List ℕ) (n : ℕ) → opening_of rest ≡ Frame n → n ≤ length rest → IsFrame (take n rest)
a_frame rest n is within = frame-alone rest n is ∙ ap (λ (k : ℕ). Frame k) (sym (length-take-le n rest within))

pub listed_next : (bytes rest before text more : List ℕ) (n : ℕ) → AreListed bytes rest before text → opening_of rest ≡ Frame n → n ≤ length rest → more ≡ text ++ out_line (take n rest) → AreListed bytes (drop n rest) before more
listed_next bytes rest before text more n h is within put = record {
  messages = h.messages ++ take n rest ∷ [];
  whole =
      h.whole ∙ ap (λ (l : List ℕ). joined h.messages ++ l) (sym (take-append-drop n rest))
      ∙ sym (append_assoc (joined h.messages) (take n rest) (drop n rest))
      ∙ ap (λ (l : List ℕ). l ++ drop n rest) (ap (λ (l : List ℕ). joined h.messages ++ l) (sym (append-nil (take n rest))) ∙ sym (flat_map-append (λ (f : List ℕ). f) h.messages (take n rest ∷ [])));
  each = each_snoc h.messages (take n rest) h.each (a_frame rest n is within);
  lines =
      put ∙ ap (λ (l : List ℕ). l ++ out_line (take n rest)) h.lines
      ∙ append_assoc before (flat_map out_line h.messages) (out_line (take n rest))
      ∙ ap (λ (l : List ℕ). before ++ l) (ap (λ (l : List ℕ). flat_map out_line h.messages ++ l) (sym (append-nil (out_line (take n rest)))) ∙ sym (flat_map-append out_line h.messages (take n rest ∷ [])));
}

pub listed_all : (bytes rest before text more : List ℕ) → AreListed bytes rest before text → ((n : ℕ) → opening_of rest ≢ Frame n) → more ≡ text ++ rest_line rest → IsBehind before more (AreOutLines bytes)
listed_all bytes rest before text more h last put = record {
  more = flat_map out_line h.messages ++ rest_line rest;
  appended = put ∙ ap (λ (l : List ℕ). l ++ rest_line rest) h.lines ∙ append_assoc before (flat_map out_line h.messages) (rest_line rest);
  holds = record { messages = h.messages; rest = rest; cut = record { whole = h.whole; each = h.each; last = last }; lines = refl };
}
