-- What a whole frame's header shows.
use Rattle.std.proofs.Common.{◌≡◌, ℕ, List, length, true, false, not, ◌&&◌, eqb, ltb, None, refl, subst, ◌∙◌, inl, inr, arith}
use Rattle.std.proofs.Math.Bool.{and-false}
use Rattle.std.proofs.lemmas.Bool.{le-ltb, eq-eqb, eqb-true, not-false, and_cases, and_parts}
use Rattle.of10_wire.specs.declared.refusal.WireWhy.TheVariants.{BadVersion, BadType, BadLength}
use Rattle.of10_wire.specs.Refusals.{refusal}
use Rattle.of10_wire.specs.Layout.{Slot, number, Stand, Spells}
use Rattle.of10_wire.specs.declared.rules.Opening.{Opening}
use Rattle.of10_wire.specs.declared.rules.Opening.TheVariants.{Wants, Frame, Refused}
use Rattle.of10_wire.specs.Headers.{frame, is_kind, header_refusal, opening_of}
use Rattle.of10_wire.proofs.Tests.{passes, unless-none}
use Rattle.of10_wire.proofs.Openings.{framed, framing_of}
use Rattle.of10_msgs.specs.Lengths.{allows_length}
use Rattle.of10_msgs.specs.Messages.{Opens}
use Rattle.of10_msgs.specs.Refused.{IsTypedFrame, early, early_by}

-- ---- no refusal, test by test

-- a header that its own rules don't refuse
header_kept : (bytes : List ℕ) → header_refusal bytes ≡ None → ((not (eqb (number 1 0 bytes) 1) && not (eqb (number 1 1 bytes) 0)) ≡ false) × (is_kind (number 1 1 bytes) ≡ true)
unfolding header_refusal
header_kept bytes h =
    let version = passes (not (eqb (number 1 0 bytes) 1) && not (eqb (number 1 1 bytes) 0)) (refusal 0 BadVersion) _ h in
    let known = passes (not (is_kind (number 1 1 bytes))) (refusal 1 BadType) _ version.1 in
    (version.0, not-false (is_kind (number 1 1 bytes)) known.0)

pub frame_shown : (bytes : List ℕ) (n : ℕ) → opening_of bytes ≡ Frame n → n ≡ length bytes → allows_length (number 1 1 bytes) n ≡ true → IsTypedFrame bytes
frame_shown bytes n is len allowed =
    let f = framed bytes n is in
    let k = header_kept bytes f.kept in
    record {
      long = omega (arith, f.long, f.within);
      version = k.0;
      known = k.1;
      len = f.told ∙ len;
      allowed = subst (λ (l : ℕ). allows_length (number 1 1 bytes) l ≡ true) len allowed;
    }

frame_by : (bytes : List ℕ) (o : Opening) → opening_of bytes ≡ o → early_by o bytes ≡ None → IsTypedFrame bytes
frame_by bytes (Wants n) is h = absurd cc
frame_by bytes (Refused e) is h = absurd cc
frame_by bytes (Frame n) is h =
    let both = and_parts (eqb n (length bytes)) (allows_length (number 1 1 bytes) n) (unless-none _ (refusal 2 BadLength) h) in
    frame_shown bytes n is (eqb-true n (length bytes) both.0) both.1

pub frame_of : (bytes : List ℕ) → early bytes ≡ None → IsTypedFrame bytes
unfolding early
frame_of bytes h = frame_by bytes (opening_of bytes) refl h

-- a whole frame is the first that its bytes show
pub frame_opens : (bytes : List ℕ) → IsTypedFrame bytes → opening_of bytes ≡ Frame (length bytes)
unfolding header_refusal
frame_opens bytes f =
    let short : ltb (number 2 2 bytes) 8 ≡ false = le-ltb (number 2 2 bytes) 8 (omega (arith, f.len, f.long)) in
    let kept : header_refusal bytes ≡ None = rw (f.version, f.known, short) refl in
    framing_of bytes (length bytes) f.long kept f.len (omega arith)

pub early_of : (bytes : List ℕ) → IsTypedFrame bytes → early bytes ≡ None
unfolding early
early_of bytes f = rw (frame_opens bytes f, eq-eqb (length bytes) (length bytes) refl, f.allowed) refl

-- the length is one that the layout of the type allows
pub allowed : (kind : ℕ) (bytes : List ℕ) → IsTypedFrame bytes → number 1 1 bytes ≡ kind → allows_length kind (length bytes) ≡ true
allowed kind bytes f is = rw (← is) f.allowed

-- ---- types

-- a frame of another type than HELLO has version 1
pub opens : (kind : ℕ) (bytes : List ℕ) → IsTypedFrame bytes → number 1 1 bytes ≡ kind → eqb kind 0 ≡ false → Opens kind bytes
opens kind bytes f is other =
    let no_hello : eqb (number 1 1 bytes) 0 ≡ false = rw is other in
    record {
      version = elim (and_cases (not (eqb (number 1 0 bytes) 1)) (not (eqb (number 1 1 bytes) 0)) f.version) [
        | inl one ↦ eqb-true (number 1 0 bytes) 1 (not-false (eqb (number 1 0 bytes) 1) one)
        | inr hello ↦ let yes = not-false (eqb (number 1 1 bytes) 0) hello in absurd cc
      ];
      kind = is;
      len = f.len;
    }

-- ---- what stands in a header

-- HELLO has any version
pub version_zero : (n : ℕ) → (not (eqb n 1) && not (eqb 0 0)) ≡ false
version_zero n = and-false (not (eqb n 1))

-- a spelling of a frame is one, where its version, type and length may be so
pub spelled_frame : (version kind xid : ℕ) (fields : List Slot) (bytes : List ℕ) → Spells (frame version kind xid fields) bytes → (not (eqb version 1) && not (eqb kind 0)) ≡ false
    → is_kind kind ≡ true → allows_length kind (length bytes) ≡ true → IsTypedFrame bytes
unfolding Stand
spelled_frame version kind xid fields bytes h v known allowed = record {
  long = omega (arith, h.whole);
  version = rw (h.stand.0, h.stand.1.0) v;
  known = rw h.stand.1.0 known;
  len = omega (arith, h.whole, h.stand.1.1.0);
  allowed = rw h.stand.1.0 allowed;
}
