-- What a listener tells of the links that came and of those given back.
use Rattle.std.specs.Prelude.{◌≡◌, ℕ, ◌+◌, Bool, true, List, [], ◌∷◌, ◌++◌, Option, Some, None, Result, Ok, Err}
use Rattle.vericon_edge.specs.declared.fault.Failed.{Failed}
use Rattle.vericon_links.specs.declared.listener.Arrival.{Arrival}
use Rattle.vericon_links.specs.declared.listener.Arrival.TheVariants.{Came, Closed}

-- Of an accept: how many links had come before and after, and whether the listener had ended before and has after. One more came exactly
-- where a link is answered.
abbrev pub AcceptAnswers : {K : Type 0} → ℕ → ℕ → Bool → Bool → Result (Arrival K) Failed → Type 0
AcceptAnswers came came' ended ended' (Ok (Came link)) = (came' ≡ came + 1) × (ended' ≡ ended)
AcceptAnswers came came' ended ended' (Ok Closed) = (came' ≡ came) × (ended' ≡ true)
AcceptAnswers came came' ended ended' (Err fault) = (came' ≡ came) × (ended' ≡ ended)

-- where a link came, this holds of it
abbrev pub IfCame : {K : Type 0} → Result (Arrival K) Failed → (K → Type 0) → Type 0
IfCame (Ok (Came link)) P = P link
IfCame (Ok Closed) P = Unit {0}
IfCame (Err fault) P = Unit {0}

-- the links given back, where they are told, are those before and this one with its number
abbrev pub GivenOneMore : {K : Type 0} → Option (List (ℕ × K)) → Option (List (ℕ × K)) → ℕ → K → Type 0
GivenOneMore None new number link = new ≡ None
GivenOneMore (Some given) new number link = new ≡ Some (given ++ (number, link) ∷ [])
