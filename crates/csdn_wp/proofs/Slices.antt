-- A list as its first item and the rest, as slice patterns give them.
use Rattle.std.proofs.Common.{◌≡◌, ◌-◌, ◌≤◌, List, [], ◌∷◌, length, take, drop, get_or, ap, arith}
use Rattle.general_facts.proofs.Lists.{rest_is}

pub whole : {X : Type 0} (xs : List X) (d : X) → 1 ≤ length xs → get_or xs 0 d ∷ take (length xs - 1) (drop 1 xs) ≡ xs
whole [] d some = absurd (omega arith)
whole (x ∷ xs) d some = ap (λ ys. x ∷ ys) (rest_is x xs)
