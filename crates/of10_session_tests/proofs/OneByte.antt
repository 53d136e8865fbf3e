-- A framer that takes one byte.
use Rattle.std.proofs.Common.{◌≡◌, ℕ, ◌+◌, List, length, take, false, ap, ◌∙◌, arith, length-append}
use Rattle.std.proofs.lemmas.List.{length-take}
use Rattle.of10_stream.specs.declared.framer.Fed.{Fed}
use Rattle.of10_stream.specs.Framings.{Framing, IsOpen, Takes}

-- a framer at the stream's first frame, of which so many bytes have come
pub record IsWaiting (f : Framing) (n : ℕ) : Type 0 where
  pub is_open : IsOpen f
  pub first : f.start ≡ 0
  pub come : length f.held ≡ n

pub takes_one : (f g : Framing) (n : ℕ) (piece : List ℕ) (fed : Fed) → length piece ≡ 1 → IsWaiting f n → Takes f piece g fed → fed.ready ≡ false → IsWaiting g (n + 1)
takes_one f g n piece fed one h t waits =
    let w = t.waits waits in
    record {
      is_open = record { wanting = w.1; on = ap (λ (x : Framing). x.ended) t.came };
      first = ap (λ (x : Framing). x.start) t.came ∙ h.first;
      come = omega (arith, ap (λ (x : Framing). length x.held) t.came, length-append f.held (take fed.used piece), length-take fed.used piece, w.0, one, h.come);
    }
