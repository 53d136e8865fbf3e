-- What a link tells, where it takes and writes more.
use Rattle.std.proofs.Common.{◌≡◌, ℕ, List, [], ◌++◌, Option, Some, None, ap, sym, subst}
use Rattle.vericon_edge.specs.Written.{Grown}
use Rattle.vericon_links.specs.Links.{IsEmptyWhereTold}
use Rattle.link_sessions.specs.Links.{Tells}

pub tells_grown : (old new : Option (List ℕ)) (xs ys : List ℕ) → Tells old xs → Grown old new ys → Tells new (xs ++ ys)
tells_grown None new xs ys told grown = subst (λ (o : Option (List ℕ)). Tells o (xs ++ ys)) (sym grown) tt
tells_grown (Some old) new xs ys told grown = subst (λ (o : Option (List ℕ)). Tells o (xs ++ ys)) (sym grown) (ap (λ (l : List ℕ). l ++ ys) told)

pub tells_same : (old new : Option (List ℕ)) (xs : List ℕ) → new ≡ old → Tells old xs → Tells new xs
tells_same old new xs same told = subst (λ (o : Option (List ℕ)). Tells o xs) (sym same) told

pub tells_nothing : (o : Option (List ℕ)) → IsEmptyWhereTold o → Tells o []
tells_nothing None empty = tt
tells_nothing (Some told) empty = empty
