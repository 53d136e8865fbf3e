-- Lists of one and of none.
use Rattle.std.proofs.Common.{ℕ, zero, suc, ◌<◌, ◌^◌, [], ◌∷◌, arith}
use Rattle.std.specs.Prelude.{All}
use Rattle.of10_session.specs.Replies.{IsServableRule}

pub all_none : {X : Type 0} (P : X → Type 0) → All P []
all_none P k d less = absurd (omega (arith, less))

pub all_one : {X : Type 0} (P : X → Type 0) (x : X) → P x → All P (x ∷ [])
all_one P x h zero d less = h
all_one P x h (suc k) d less = absurd (omega (arith, less))

pub servable_has : (a b i port cookie idle : ℕ) → a < 2 ^ 32 → b < 2 ^ 32 → i < 2 ^ 16 → port < 2 ^ 16 → IsServableRule (record { key = record { s = 1; a = a; b = b; i = i }; ports = port ∷ []; cookie = cookie; idle = idle })
servable_has a b i port cookie idle first second third fourth = record {
  source = omega (arith, first);
  destination = omega (arith, second);
  port = third;
  ports = all_one (λ p. p < 2 ^ 16) port fourth;
  few = omega arith;
}

pub servable_gone : (a b i cookie : ℕ) → a < 2 ^ 32 → b < 2 ^ 32 → i < 2 ^ 16 → IsServableRule (record { key = record { s = 1; a = a; b = b; i = i }; ports = []; cookie = cookie; idle = 0 })
servable_gone a b i cookie first second third = record {
  source = omega (arith, first);
  destination = omega (arith, second);
  port = third;
  ports = all_none (λ p. p < 2 ^ 16);
  few = omega arith;
}
