-- Lists of asks that begin alike.
use Rattle.std.proofs.Common.{◌≡◌, ◌∙◌, ap, ℕ, ◌+◌, Bool, if◌then◌else◌, List, [], ◌∷◌, ◌++◌, length, Some, arith}
use Rattle.of10_session.specs.declared.turn.Ask.{Ask}
use Rattle.session_asks.proofs.SameAsks.{same_itself}
use Rattle.replay_listing.specs.Replays.{first_difference}

-- lists that begin alike differ where they go on
pub differ_later : (n : ℕ) (own xs ys : List Ask) → first_difference n (own ++ xs) (own ++ ys) ≡ first_difference (length own + n) xs ys
differ_later n [] xs ys = ap (λ (k : ℕ). first_difference k xs ys) (let e : n ≡ length {A = Ask} [] + n = omega arith in e)
differ_later n (a ∷ own) xs ys =
    ap (λ (b : Bool). if b then first_difference (n + 1) (own ++ xs) (own ++ ys) else Some n) (same_itself a)
    ∙ differ_later (n + 1) own xs ys
    ∙ ap (λ (k : ℕ). first_difference k xs ys) (let e : length own + (n + 1) ≡ length (a ∷ own) + n = omega arith in e)
