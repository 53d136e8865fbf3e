-- What a listener tells of the links given back.
use Rattle.std.specs.Prelude.{ℕ, List, map, Option, Some, None}
use Rattle.link_sessions.specs.Links.{LinkView}

-- what is told of links given back, each with its number
abbrev pub told_given : {K : Type 0} → (K → LinkView) → Option (List (ℕ × K)) → Option (List (ℕ × LinkView))
told_given see None = None
told_given see (Some given) = Some (map (λ pair. (pair.0, see pair.1)) given)
