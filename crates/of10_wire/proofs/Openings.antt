-- What bytes show of their first frame stays so when more bytes come.
use Rattle.std.proofs.Common.{◌≡◌, ℕ, ◌+◌, ◌<◌, ◌≤◌, List, ◌++◌, length, take, refl, sym, ap, ◌∙◌, inl, inr, arith, length-append, Option, Some, None, not, ◌&&◌, cond, eqb, ltb}
use Rattle.std.specs.Prelude.{IfSome}
use Rattle.std.proofs.lemmas.Bool.{lt-ltb, le-ltb, ltb-false, cases_lt}
use Rattle.std.proofs.lemmas.List.{length-take-le, take-append-drop}
use Rattle.std.proofs.Math.Seq.{take-append_seam}
use Rattle.of10_wire.specs.declared.refusal.WireRefusal.{WireRefusal}
use Rattle.of10_wire.specs.declared.refusal.WireWhy.TheVariants.{BadVersion, BadType, BadLength}
use Rattle.of10_wire.specs.declared.rules.Opening.TheVariants.{Wants, Frame, Refused}
use Rattle.of10_wire.specs.Refusals.{refusal, IsOfBytes}
use Rattle.of10_wire.specs.Layout.{number}
use Rattle.of10_wire.specs.Headers.{is_kind, header_refusal, opened, opening_of}
use Rattle.of10_wire.proofs.Standing.{number-take}
use Rattle.of10_wire.proofs.Tests.{near_front, passes}

-- ---- a header

pub header-place : (bytes : List ℕ) → IfSome (header_refusal bytes) (IsOfBytes 2)
unfolding header_refusal
header-place bytes =
    let last = cond (ltb (number 2 2 bytes) 8) (Some (refusal 2 BadLength)) None in
    let next = cond (not (is_kind (number 1 1 bytes))) (Some (refusal 1 BadType)) last in
    near_front 2 (not (eqb (number 1 0 bytes) 1) && not (eqb (number 1 1 bytes) 0)) (refusal 0 BadVersion) next (record { near = omega arith; named = λ is. absurd cc }) (
    near_front 2 (not (is_kind (number 1 1 bytes))) (refusal 1 BadType) last (record { near = omega arith; named = λ is. absurd cc }) (
    near_front 2 (ltb (number 2 2 bytes) 8) (refusal 2 BadLength) None (record { near = omega arith; named = λ is. absurd cc }) tt
    )
    )

pub counts_header : (bytes : List ℕ) → header_refusal bytes ≡ None → 8 ≤ number 2 2 bytes
unfolding header_refusal
counts_header bytes h =
    let version = passes (not (eqb (number 1 0 bytes) 1) && not (eqb (number 1 1 bytes) 0)) (refusal 0 BadVersion) (cond (not (is_kind (number 1 1 bytes))) (Some (refusal 1 BadType)) (cond (ltb (number 2 2 bytes) 8) (Some (refusal 2 BadLength)) None)) h in
    let known = passes (not (is_kind (number 1 1 bytes))) (refusal 1 BadType) (cond (ltb (number 2 2 bytes) 8) (Some (refusal 2 BadLength)) None) version.1 in
    ltb-false (number 2 2 bytes) 8 (passes (ltb (number 2 2 bytes) 8) (refusal 2 BadLength) None known.1).0

-- ---- what is seen

-- the ways in which bytes open a frame
pub record IsFramed (bytes : List ℕ) (n : ℕ) : Type 0 where
  pub kept : header_refusal bytes ≡ None
  pub told : number 2 2 bytes ≡ n
  pub long : 8 ≤ n
  pub within : n ≤ length bytes

opened_frame : (o : Option WireRefusal) (told have n : ℕ) → opened o told have ≡ Frame n → (o ≡ None) × (told ≡ n) × (n ≤ have)
opened_frame (Some e) told have n is = absurd cc
opened_frame None told have n is = elim (cases_lt have told) [
  | inl lt ↦ let k : Wants told ≡ Frame n = rw (lt-ltb have told lt) at is in absurd cc
  | inr le ↦ let k : Frame told ≡ Frame n = rw (le-ltb have told le) at is in let same : told ≡ n = cc in (refl, same, omega (arith, same, le))
]

pub framed : (bytes : List ℕ) (n : ℕ) → opening_of bytes ≡ Frame n → IsFramed bytes n
unfolding opening_of
framed bytes n is = elim (cases_lt (length bytes) 8) [
  | inl short ↦ let k : Wants 8 ≡ Frame n = rw (lt-ltb (length bytes) 8 short) at is in absurd cc
  | inr long ↦
      let k = rw (le-ltb (length bytes) 8 long) at is in
      let o = opened_frame (header_refusal bytes) (number 2 2 bytes) (length bytes) n k in
      record { kept = o.0; told = o.1; long = omega (arith, counts_header bytes o.0, o.1); within = o.2 }
]

pub framing_of : (bytes : List ℕ) (n : ℕ) → 8 ≤ length bytes → header_refusal bytes ≡ None → number 2 2 bytes ≡ n → n ≤ length bytes → opening_of bytes ≡ Frame n
unfolding opening_of
framing_of bytes n long kept told within =
    rw (le-ltb (length bytes) 8 long, kept, told, le-ltb (length bytes) n within) refl

opened_refused : (o : Option WireRefusal) (told have : ℕ) (e : WireRefusal) → opened o told have ≡ Refused e → o ≡ Some e
opened_refused (Some d) told have e is = let same : d ≡ e = cc in ap (λ (d : WireRefusal). Some d) same
opened_refused None told have e is = elim (cases_lt have told) [
  | inl lt ↦ let k : Wants told ≡ Refused e = rw (lt-ltb have told lt) at is in absurd cc
  | inr le ↦ let k : Frame told ≡ Refused e = rw (le-ltb have told le) at is in absurd cc
]

pub record IsBadHeader (bytes : List ℕ) (e : WireRefusal) : Type 0 where
  pub whole : 8 ≤ length bytes
  pub refused : header_refusal bytes ≡ Some e

pub bad_header : (bytes : List ℕ) (e : WireRefusal) → opening_of bytes ≡ Refused e → IsBadHeader bytes e
unfolding opening_of
bad_header bytes e is = elim (cases_lt (length bytes) 8) [
  | inl short ↦ let k : Wants 8 ≡ Refused e = rw (lt-ltb (length bytes) 8 short) at is in absurd cc
  | inr long ↦
      let k = rw (le-ltb (length bytes) 8 long) at is in
      record { whole = long; refused = opened_refused (header_refusal bytes) (number 2 2 bytes) (length bytes) e k }
]

pub refused_near : (bytes : List ℕ) (e : WireRefusal) → opening_of bytes ≡ Refused e → IsOfBytes 2 e × (8 ≤ length bytes)
refused_near bytes e is =
    let bad = bad_header bytes e is in
    let low = header-place bytes in
    let near : IsOfBytes 2 e = rw bad.refused at low in
    (near, bad.whole)

-- ---- more bytes

pub number-front : (n i : ℕ) (s t : List ℕ) → i + n ≤ length s → number n i (s ++ t) ≡ number n i s
number-front n i s t h = sym (number-take n i (length s) (s ++ t) h) ∙ ap (number n i) (take-append_seam s t)

header-front : (s t : List ℕ) → 8 ≤ length s → header_refusal (s ++ t) ≡ header_refusal s
unfolding header_refusal
header-front s t h = rw (number-front 1 0 s t (omega (arith, h)), number-front 1 1 s t (omega (arith, h)), number-front 2 2 s t (omega (arith, h))) refl

-- a whole frame stays the first when more bytes come
pub frame-stays : (s t : List ℕ) (n : ℕ) → opening_of s ≡ Frame n → opening_of (s ++ t) ≡ Frame n
frame-stays s t n is =
    let f = framed s n is in
    let long : 8 ≤ length s = omega (arith, f.long, f.within) in
    framing_of (s ++ t) n (omega (arith, long, length-append s t)) (header-front s t long ∙ f.kept) (number-front 2 2 s t (omega (arith, long)) ∙ f.told) (omega (arith, f.within, length-append s t))

-- and so does a header that is refused
pub refused-stays : (s t : List ℕ) (e : WireRefusal) → opening_of s ≡ Refused e → opening_of (s ++ t) ≡ Refused e
unfolding opening_of
refused-stays s t e is =
    let bad = bad_header s e is in
    rw (le-ltb (length (s ++ t)) 8 (omega (arith, bad.whole, length-append s t)), header-front s t bad.whole, bad.refused) refl

-- the first frame alone is a whole frame
pub frame-alone : (s : List ℕ) (n : ℕ) → opening_of s ≡ Frame n → opening_of (take n s) ≡ Frame n
frame-alone s n is =
    let f = framed s n is in
    let len : length (take n s) ≡ n = length-take-le n s f.within in
    let kept : header_refusal (take n s) ≡ None = sym (header-front (take n s) _ (omega (arith, len, f.long))) ∙ (ap header_refusal (take-append-drop n s) ∙ f.kept) in
    let told : number 2 2 (take n s) ≡ n = number-take 2 2 n s (omega (arith, f.long)) ∙ f.told in
    framing_of (take n s) n (omega (arith, len, f.long)) kept told (omega (arith, len))

-- ---- less than a frame

pub wants-short : (s : List ℕ) → length s < 8 → opening_of s ≡ Wants 8
unfolding opening_of
wants-short s short = rw (lt-ltb (length s) 8 short) refl

opened_wants : (o : Option WireRefusal) (told have n : ℕ) → opened o told have ≡ Wants n → (o ≡ None) × (told ≡ n) × (have < n)
opened_wants (Some e) told have n is = absurd cc
opened_wants None told have n is = elim (cases_lt have told) [
  | inl lt ↦ let k : Wants told ≡ Wants n = rw (lt-ltb have told lt) at is in let same : told ≡ n = cc in (refl, same, omega (arith, same, lt))
  | inr le ↦ let k : Frame told ≡ Wants n = rw (le-ltb have told le) at is in absurd cc
]

-- a header that isn't refused tells how many bytes its frame wants
pub wants-headed : (s : List ℕ) (n : ℕ) → 8 ≤ length s → opening_of s ≡ Wants n → (header_refusal s ≡ None) × (number 2 2 s ≡ n) × (length s < n)
unfolding opening_of
wants-headed s n long is = let k = rw (le-ltb (length s) 8 long) at is in opened_wants (header_refusal s) (number 2 2 s) (length s) n k

pub wants-more : (s : List ℕ) (n : ℕ) → opening_of s ≡ Wants n → length s < n
wants-more s n is = elim (cases_lt (length s) 8) [
  | inl short ↦ let k : Wants n ≡ Wants 8 = sym is ∙ wants-short s short in let same : n ≡ 8 = cc in omega (arith, same, short)
  | inr long ↦ (wants-headed s n long is).2
]

-- as many bytes as the header tells are a frame
pub frame-full : (s t : List ℕ) (n : ℕ) → 8 ≤ length s → opening_of s ≡ Wants n → length (s ++ t) ≡ n → opening_of (s ++ t) ≡ Frame n
frame-full s t n long is full =
    let w = wants-headed s n long is in
    framing_of (s ++ t) n (omega (arith, long, length-append s t)) (header-front s t long ∙ w.0) (number-front 2 2 s t (omega (arith, long)) ∙ w.1) (omega (arith, full))

pub wants-still : (s t : List ℕ) (n : ℕ) → 8 ≤ length s → opening_of s ≡ Wants n → length (s ++ t) < n → opening_of (s ++ t) ≡ Wants n
unfolding opening_of
wants-still s t n long is less =
    let w = wants-headed s n long is in
    rw (le-ltb (length (s ++ t)) 8 (omega (arith, long, length-append s t)), header-front s t long, w.0, number-front 2 2 s t (omega (arith, long)), w.1, lt-ltb (length (s ++ t)) n less) refl
