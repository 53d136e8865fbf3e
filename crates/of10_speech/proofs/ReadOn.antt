-- What a stream's front was read as, and what comes behind it.
use Rattle.std.proofs.Common.{ℕ, List, [], ◌∷◌, ◌++◌, length, drop, sym, subst, arith}
use Rattle.std.proofs.Math.Seq.{take-length}
use Rattle.std.proofs.lemmas.List.{drop_all}
use Rattle.of10_msgs.specs.declared.message.Message.{Message}
use Rattle.of10_msgs.specs.Messages.{spells}
use Rattle.of10_stream.specs.declared.tail.Tail.{Tail}
use Rattle.of10_stream.specs.Framings.{IsFrame}
use Rattle.of10_stream.specs.Streams.{IsRead, IsStream}
use Rattle.of10_stream.proofs.ReadLaws.{read-more, read-next}

-- a frame became whole, and is a message
pub read_frame : (taken : List ℕ) (ms : List Message) (held more : List ℕ) (m : Message) → IsRead taken ms held → IsFrame (held ++ more) → spells m (held ++ more) → IsRead (taken ++ more) (ms ++ m ∷ []) []
read_frame taken ms held more m h frame spelled =
    subst (λ (l : List ℕ). IsRead (taken ++ more) (ms ++ m ∷ []) l) (drop_all (length (held ++ more)) (held ++ more) (omega arith))
    (read-next ms m (length (held ++ more)) (taken ++ more) (held ++ more) (read-more ms taken held more h) (record { frame = frame; spelled = subst (λ (l : List ℕ). spells m l) (sym (take-length (held ++ more))) spelled }))

read_behind : (ms ns : List Message) (bytes rest last : List ℕ) → IsRead bytes ms rest → IsRead rest ns last → IsRead bytes (ms ++ ns) last
unfolding IsRead
read_behind [] ns bytes rest last h k = subst (λ (l : List ℕ). IsRead l ns last) (sym h) k
read_behind (m ∷ ms) ns bytes rest last (n, first, others) k = (n, first, read_behind ms ns (drop n bytes) rest last others k)

-- the stream of the rest goes on where the front ends
pub stream_behind : (ms ns : List Message) (bytes rest : List ℕ) (tail : Tail) → IsRead bytes ms rest → IsStream rest ns tail → IsStream bytes (ms ++ ns) tail
stream_behind ms ns bytes rest tail h (last, k, is) = (last, read_behind ms ns bytes rest last h k, is)
