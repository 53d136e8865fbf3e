-- The kinds of the conditions of a level, in their order.
use Rattle.std.specs.Prelude.{ℕ, Bool, true, false, is_some, ◌+◌, ◌<◌, ◌≤◌, List, [], ◌∷◌, ◌++◌, map, length}
use Rattle.std.specs.List.{flat_map, range_with_len}
use Rattle.csdn_core.specs.declared.program.Parts.{Parts}
use Rattle.csdn_conditions.specs.declared.kinds.EventKind.{EventKind}
use Rattle.csdn_conditions.specs.declared.kinds.EventKind.TheVariants.{PktIn, PktFlow, Expire}
use Rattle.csdn_conditions.specs.declared.kinds.CondKind.{CondKind}
use Rattle.csdn_conditions.specs.declared.kinds.CondKind.TheVariants.{Network, Init, Step, Trans}

-- the numbers below n
abbrev pub below : ℕ → List ℕ
below n = range_with_len 0 n

-- after k events, each of s safety invariants
abbrev pub inits_after : ℕ → ℕ → List CondKind
inits_after s k = map (λ v. Init k v) (below s)

-- the events of flow rules, in their order; the last where rules end by themselves
abbrev pub rule_events : Bool → List EventKind
rule_events false = PktFlow ∷ []
rule_events true = PktFlow ∷ Expire ∷ []

abbrev pub events_where : Bool → List EventKind
events_where timed = PktIn ∷ rule_events timed

-- the events of a program
abbrev pub events : Parts → List EventKind
events P = events_where (is_some P.timeout)

-- an invariant and each of these events
abbrev pub steps_of : List EventKind → ℕ → List CondKind
steps_of es v = map (λ event. Step v event) es

abbrev pub trans_of : List EventKind → ℕ → List CondKind
trans_of es t = map (λ event. Trans t event) es

-- of level n, with s safety and t transition invariants
abbrev pub kinds_of : List EventKind → ℕ → ℕ → ℕ → List CondKind
kinds_of es n s t =
    Network ∷ (flat_map (inits_after s) (below (n + 1)) ++ (flat_map (steps_of es) (below s) ++ flat_map (trans_of es) (below t)))

abbrev pub kinds : Parts → ℕ → List CondKind
kinds P n = kinds_of (events P) n (length P.safety) (length P.trans)

-- the numbers of a kind are those of invariants, of which there are so many, and k is at most n
abbrev pub IsWithin : ℕ → ℕ → ℕ → CondKind → Type 0
IsWithin n s t Network = Unit {0}
IsWithin n s t (Init k v) = (k ≤ n) × (v < s)
IsWithin n s t (Step v event) = v < s
IsWithin n s t (Trans u event) = u < t
