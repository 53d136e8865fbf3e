-- The conditions of a level. Where each of them is valid in all networks and states, the program is inductive at that level.
use Rattle.std.specs.Prelude.{ℕ, zero, suc, ◌+◌, List, map, slice_index_or, is_some}
use Rattle.std.specs.List.{flat_map}
use Rattle.csdn_core.specs.declared.program.Invariant.{Invariant}
use Rattle.csdn_core.specs.declared.program.Parts.{Parts}
use Rattle.csdn_core.specs.declared.syntax.Formula.{Formula}
use Rattle.csdn_core.specs.declared.syntax.Formula.TheVariants.{True, False}
use Rattle.csdn_core.specs.Tree.{negation, conjunction}
use Rattle.csdn_wp.specs.EventPreconditions.{wp_in, wp_flow, wp_expire}
use Rattle.csdn_conditions.specs.declared.kinds.EventKind.{EventKind}
use Rattle.csdn_conditions.specs.declared.kinds.EventKind.TheVariants.{PktIn, PktFlow, Expire}
use Rattle.csdn_conditions.specs.declared.kinds.CondKind.{CondKind}
use Rattle.csdn_conditions.specs.declared.kinds.CondKind.TheVariants.{Network, Init, Step, Trans}
use Rattle.csdn_conditions.specs.declared.sentence.Condition.{Condition}
use Rattle.csdn_conditions.specs.Kinds.{below, rule_events, events, kinds}
use Rattle.csdn_conditions.specs.Lists.{conjunction_of}
use Rattle.csdn_conditions.specs.Start.{start}

abbrev pub formulas : List Invariant → List Formula
formulas invariants = map (λ i. i.formula) invariants

-- the formula of this number, and `true` past the last
abbrev pub formula_at : List Invariant → ℕ → Formula
formula_at invariants v = slice_index_or (formulas invariants) v True

module _ (P : Parts) where
  -- true where the formula is true after every event of the kind
  abbrev pub after_event : EventKind → Formula → Formula
  after_event PktIn q = wp_in P q
  after_event PktFlow q = wp_flow q
  after_event Expire q = wp_expire q

  -- .. after every event of flow rules
  abbrev pub after_rules : Formula → Formula
  after_rules q = conjunction_of (map (λ event. after_event event q) (rule_events (is_some P.timeout)))

  -- .. after every event of the program
  abbrev pub after_any : Formula → Formula
  after_any q = conjunction_of (map (λ event. after_event event q) (events P))

  -- .. after every run of k events
  abbrev pub after_events : ℕ → Formula → Formula
  after_events zero q = q
  after_events (suc k) q = after_any (after_events k q)

  -- the formulas after no event, then those after one, and so on to n events
  abbrev pub all_after : ℕ → List Formula → List Formula
  all_after n ps = flat_map (λ k. map (after_events k) ps) (below (n + 1))

  abbrev pub topology : Formula
  topology = conjunction_of (formulas P.topology)

  -- each safety invariant is true after at most n events
  abbrev pub safe_for : ℕ → Formula
  safe_for n = conjunction_of (all_after n (formulas P.safety))

  abbrev pub hypothesis : ℕ → CondKind → Formula
  hypothesis n Network = topology
  hypothesis n (Init k v) = conjunction topology (start P)
  hypothesis n (Step v event) = conjunction topology (safe_for n)
  hypothesis n (Trans t event) = conjunction topology (safe_for n)

  abbrev pub conclusion : ℕ → CondKind → Formula
  conclusion n Network = False
  conclusion n (Init k v) = after_events k (formula_at P.safety v)
  conclusion n (Step v event) = after_event event (after_events n (formula_at P.safety v))
  conclusion n (Trans t event) = after_event event (formula_at P.trans t)

  abbrev pub condition : ℕ → CondKind → Condition
  condition n kind = record { kind = kind; hypothesis = hypothesis n kind; goal = conclusion n kind }

  -- in their order
  abbrev pub conditions : ℕ → List Condition
  conditions n = map (condition n) (kinds P n)

-- what a network and a state make true where they break the condition
abbrev pub sentence : Condition → Formula
sentence c = conjunction c.hypothesis (negation c.goal)
