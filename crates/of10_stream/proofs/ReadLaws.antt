-- What was read stays so: more bytes may come, and one more message may be read.
use Rattle.std.proofs.Common.{◌≡◌, ℕ, ◌+◌, List, [], ◌∷◌, ◌++◌, length, drop, sym, ap, subst, arith, length-drop}
use Rattle.std.proofs.lemmas.List.{length-take-le, take-append-le, drop-append-le}
use Rattle.of10_wire.proofs.Openings.{framed, frame-stays}
use Rattle.of10_msgs.specs.declared.message.Message.{Message}
use Rattle.of10_msgs.specs.Messages.{spells}
use Rattle.of10_stream.specs.Streams.{Begins, IsRead, frame_width, widths}

-- the first message stays the first
pub begins-more : (m : Message) (n : ℕ) (bytes more : List ℕ) → Begins m n bytes → Begins m n (bytes ++ more)
begins-more m n bytes more h =
    let f = framed bytes n h.frame in
    record { frame = frame-stays bytes more n h.frame; spelled = subst (λ (l : List ℕ). spells m l) (sym (take-append-le n bytes more f.within)) h.spelled }

pub read-more : (ms : List Message) (bytes rest more : List ℕ) → IsRead bytes ms rest → IsRead (bytes ++ more) ms (rest ++ more)
unfolding IsRead
read-more [] bytes rest more h = ap (λ (l : List ℕ). l ++ more) h
read-more (m ∷ ms) bytes rest more (n, first, others) =
    (n, begins-more m n bytes more first, subst (λ (l : List ℕ). IsRead l ms (rest ++ more)) (sym (drop-append-le n bytes more (framed bytes n first.frame).within)) (read-more ms (drop n bytes) rest more others))

pub read-next : (ms : List Message) (m : Message) (n : ℕ) (bytes rest : List ℕ) → IsRead bytes ms rest → Begins m n rest → IsRead bytes (ms ++ m ∷ []) (drop n rest)
unfolding IsRead
read-next [] m n bytes rest h next = (n, subst (λ (l : List ℕ). Begins m n l) (sym h) next, ap (λ (l : List ℕ). drop n l) h)
read-next (k ∷ ms) m n bytes rest (len, first, others) next = (len, first, read-next ms m n (drop len bytes) rest others next)

-- the messages, and then the rest, are all bytes
pub read-width : (ms : List Message) (bytes rest : List ℕ) → IsRead bytes ms rest → length bytes ≡ widths ms + length rest
unfolding IsRead
read-width [] bytes rest h = omega (arith, ap (λ (l : List ℕ). length l) h)
read-width (m ∷ ms) bytes rest (n, first, others) =
    let f = framed bytes n first.frame in
    omega (arith, read-width ms (drop n bytes) rest others, first.spelled.whole, length-take-le n bytes f.within, length-drop n bytes, f.within)

pub widths-next : (ms : List Message) (m : Message) → widths (ms ++ m ∷ []) ≡ widths ms + frame_width m
widths-next [] m = omega arith
widths-next (k ∷ ms) m = omega (arith, widths-next ms m)
