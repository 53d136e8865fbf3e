-- Each list of bytes is one stream.
use Rattle.std.proofs.Common.{◌≡◌, ℕ, zero, suc, ◌≤◌, List, [], ◌∷◌, length, take, drop, refl, sym, ap, ap₂, subst, ◌∙◌, inl, inr, arith, length-drop}
use Rattle.std.proofs.lemmas.List.{length-take-le}
use Rattle.of10_wire.specs.declared.refusal.WireRefusal.{WireRefusal}
use Rattle.of10_wire.specs.declared.rules.Opening.{Opening}
use Rattle.of10_wire.specs.declared.rules.Opening.TheVariants as opening
use Rattle.of10_wire.specs.Headers.{opening_of}
use Rattle.of10_wire.proofs.Openings.{framed, refused_near}
use Rattle.of10_msgs.specs.declared.message.Message.{Message}
use Rattle.of10_msgs.specs.Readings.{Reading, Spelled, Refused, Reads}
use Rattle.of10_msgs.proofs.Readings.{reading-once, one-reading, refused-place}
use Rattle.of10_stream.specs.declared.tail.Tail.{Tail}
use Rattle.of10_stream.specs.declared.tail.Tail.TheVariants.{Cut, Broken}
use Rattle.of10_stream.specs.Streams.{Begins, IsTail, IsRead, IsStream, HasOneStream}

-- ---- at most one

same_length : (bytes : List ℕ) (m n : ℕ) → opening_of bytes ≡ opening.Frame m → opening_of bytes ≡ opening.Frame n → m ≡ n
same_length bytes m n h k = let same : opening.Frame m ≡ opening.Frame n = sym h ∙ k in cc

-- two readings of the first frame are one
reads_alike : (bytes : List ℕ) (m n : ℕ) (x y : Reading) → opening_of bytes ≡ opening.Frame m → opening_of bytes ≡ opening.Frame n → Reads (take m bytes) x → Reads (take n bytes) y → x ≡ y
reads_alike bytes m n x y h k p q =
    reading-once (take m bytes) x y p (subst (λ (l : ℕ). Reads (take l bytes) y) (sym (same_length bytes m n h k)) q)

pub message_once : (bytes : List ℕ) (m n : Message) (a b : ℕ) → Begins m a bytes → Begins n b bytes → (m ≡ n) × (a ≡ b)
message_once bytes m n a b h k =
    let same : Spelled m ≡ Spelled n = reads_alike bytes a b (Spelled m) (Spelled n) h.frame k.frame h.spelled k.spelled in
    (cc, same_length bytes a b h.frame k.frame)

pub tail_has_no_message : (bytes : List ℕ) (t : Tail) (m : Message) (n : ℕ) → IsTail bytes t → Begins m n bytes → ⊥
tail_has_no_message bytes (Cut len) m n h b = let e : opening.Wants h.0.0 ≡ opening.Frame n = sym h.0.1 ∙ b.frame in absurd cc
tail_has_no_message bytes (Broken e) m n (inl h) b = let e : opening.Refused e ≡ opening.Frame n = sym h ∙ b.frame in absurd cc
tail_has_no_message bytes (Broken e) m n (inr h) b =
    let same : Spelled m ≡ Refused e = reads_alike bytes n h.len (Spelled m) (Refused e) b.frame h.frame b.spelled h.refused in absurd cc

broken_once : (bytes : List ℕ) (d e : WireRefusal) → IsTail bytes (Broken d) → IsTail bytes (Broken e) → d ≡ e
broken_once bytes d e (inl h) (inl k) = let same : opening.Refused d ≡ opening.Refused e = sym h ∙ k in cc
broken_once bytes d e (inl h) (inr k) = let same : opening.Refused d ≡ opening.Frame k.len = sym h ∙ k.frame in absurd cc
broken_once bytes d e (inr h) (inl k) = let same : opening.Refused e ≡ opening.Frame h.len = sym k ∙ h.frame in absurd cc
broken_once bytes d e (inr h) (inr k) =
    let same : Refused d ≡ Refused e = reads_alike bytes h.len k.len (Refused d) (Refused e) h.frame k.frame h.refused k.refused in cc

cut_isnt_broken : (bytes : List ℕ) (n : ℕ) (e : WireRefusal) → opening_of bytes ≡ opening.Wants n → IsTail bytes (Broken e) → ⊥
cut_isnt_broken bytes n e h (inl k) = let same : opening.Wants n ≡ opening.Refused e = sym h ∙ k in absurd cc
cut_isnt_broken bytes n e h (inr k) = let same : opening.Wants n ≡ opening.Frame k.len = sym h ∙ k.frame in absurd cc

tail_once : (bytes : List ℕ) (t u : Tail) → IsTail bytes t → IsTail bytes u → t ≡ u
tail_once bytes (Cut m) (Cut n) h k = ap (λ (n : ℕ). Cut n) (h.1 ∙ sym k.1)
tail_once bytes (Cut m) (Broken e) h k = absurd (cut_isnt_broken bytes h.0.0 e h.0.1 k)
tail_once bytes (Broken e) (Cut m) h k = absurd (cut_isnt_broken bytes k.0.0 e k.0.1 h)
tail_once bytes (Broken d) (Broken e) h k = ap (λ (e : WireRefusal). Broken e) (broken_once bytes d e h k)

both_longer : (m n : Message) (ms ns : List Message) (t u : Tail) → m ≡ n → (ms ≡ ns) × (t ≡ u) → (m ∷ ms ≡ n ∷ ns) × (t ≡ u)
both_longer m n ms ns t u e h = (ap₂ (λ (m : Message) (ms : List Message). m ∷ ms) e h.0, h.1)

stream_once : (ms ns : List Message) (t u : Tail) (bytes q r : List ℕ) → IsRead bytes ms q → IsTail q t → IsRead bytes ns r → IsTail r u → (ms ≡ ns) × (t ≡ u)
unfolding IsRead
stream_once [] [] t u bytes q r h p k s = (refl, tail_once bytes t u (subst (λ (l : List ℕ). IsTail l t) (sym h) p) (subst (λ (l : List ℕ). IsTail l u) (sym k) s))
stream_once [] (n ∷ ns) t u bytes q r h p k s = absurd (tail_has_no_message bytes t n k.0 (subst (λ (l : List ℕ). IsTail l t) (sym h) p) k.1)
stream_once (m ∷ ms) [] t u bytes q r h p k s = absurd (tail_has_no_message bytes u m h.0 (subst (λ (l : List ℕ). IsTail l u) (sym k) s) h.1)
stream_once (m ∷ ms) (n ∷ ns) t u bytes q r h p k s =
    let first = message_once bytes m n h.0 k.0 h.1 k.1 in
    both_longer m n ms ns t u first.0 (stream_once ms ns t u (drop h.0 bytes) q r h.2 p (subst (λ (l : ℕ). IsRead (drop l bytes) ns r) (sym first.1) k.2) s)

pub stream-one : (bytes : List ℕ) (ms ns : List Message) (t u : Tail) → IsStream bytes ms t → IsStream bytes ns u → (ms ≡ ns) × (t ≡ u)
stream-one bytes ms ns t u (q, h, p) (r, k, s) = stream_once ms ns t u bytes q r h p k s

-- ---- at least one

abbrev HasStream : List ℕ → Type 0
HasStream bytes = (ms : List Message) × (t : Tail) × IsStream bytes ms t

tail_found : (bytes : List ℕ) (t : Tail) → IsTail bytes t → HasStream bytes
unfolding IsRead
tail_found bytes t h = ([], t, (bytes, refl, h))

message_found : (bytes : List ℕ) (m : Message) (n : ℕ) → Begins m n bytes → HasStream (drop n bytes) → HasStream bytes
unfolding IsRead
message_found bytes m n h (ms, t, (rest, k, s)) = (m ∷ ms, t, (rest, (n, h, k), s))

frame_found : (bytes : List ℕ) (n : ℕ) → opening_of bytes ≡ opening.Frame n → (r : Reading) → Reads (take n bytes) r → HasStream (drop n bytes) → HasStream bytes
frame_found bytes n f (Spelled m) reads rest = message_found bytes m n (record { frame = f; spelled = reads }) rest
frame_found bytes n f (Refused e) reads rest = tail_found bytes (Broken e) (inr (record { len = n; frame = f; refused = reads }))

found_by : (bytes : List ℕ) (o : Opening) → opening_of bytes ≡ o → ((n : ℕ) → opening_of bytes ≡ opening.Frame n → HasStream (drop n bytes)) → HasStream bytes
found_by bytes (opening.Wants n) is rest = tail_found bytes (Cut (length bytes)) ((n, is), refl)
found_by bytes (opening.Refused e) is rest = tail_found bytes (Broken e) (inl is)
found_by bytes (opening.Frame n) is rest = frame_found bytes n is (one-reading (take n bytes)).reading (one-reading (take n bytes)).reads (rest n is)

found_within : (k : ℕ) (bytes : List ℕ) → length bytes ≤ k → HasStream bytes
found_within zero bytes h = found_by bytes (opening_of bytes) refl (λ n is. let f = framed bytes n is in absurd (omega (arith, f.long, f.within, h)))
found_within (suc k) bytes h = found_by bytes (opening_of bytes) refl (λ n is. let f = framed bytes n is in found_within k (drop n bytes) (omega (arith, f.long, f.within, length-drop n bytes, h)))

one_by : (bytes : List ℕ) → HasStream bytes → HasOneStream bytes
one_by bytes (ms, t, (rest, h, s)) = record { messages = ms; tail = t; is = (rest, h, s); only = λ ns u (r, k, p). stream_once ns ms u t bytes r rest k p h s }

pub one : (bytes : List ℕ) → HasOneStream bytes
one bytes = one_by bytes (found_within (length bytes) bytes (omega arith))

-- ---- where a refusal stands

pub refused_within : (bytes : List ℕ) (e : WireRefusal) → IsTail bytes (Broken e) → e.at ≤ length bytes
refused_within bytes e (inl h) = omega (arith, (refused_near bytes e h).0.near, (refused_near bytes e h).1)
refused_within bytes e (inr h) =
    let f = framed bytes h.len h.frame in
    omega (arith, (refused-place (take h.len bytes) e h.refused).near, length-take-le h.len bytes f.within, f.within, f.long)
