-- Answers of calls that make conditions.
use Rattle.std.specs.Prelude.{◌≡◌, ℕ, ◌+◌, ◌<◌, ◌≤◌, List, Result, Ok, Err, Some, slice_get}
use Rattle.std.specs.List.{sum_by}
use Rattle.csdn_core.specs.declared.program.Parts.{Parts}
use Rattle.csdn_core.specs.declared.syntax.Formula.{Formula}
use Rattle.csdn_core.specs.Nodes.{nodes}
use Rattle.fol_forms.specs.declared.refusal.FormRefusal.{FormRefusal}
use Rattle.fol_forms.specs.declared.refusal.FormRefusal.TheVariants.{Large, Memory}
use Rattle.fol_forms.specs.Limits.{most_nodes}
use Rattle.csdn_conditions.specs.declared.sentence.Condition.{Condition}
use Rattle.csdn_conditions.specs.Conditions.{conditions, sentence}

-- the condition, where its sentence has at most 1,048,576 nodes, and `Large` where it has more; or want of memory
abbrev pub Answers : Condition → Result Condition FormRefusal → Type 0
Answers c (Ok made) = (made ≡ c) × (nodes (sentence c) ≤ most_nodes)
Answers c (Err Large) = most_nodes < nodes (sentence c)
Answers c (Err Memory) = Unit {0}

-- a fact on the condition of this number of level n
pub record OfCondition (P : Parts) (n i : ℕ) (Fact : Condition → Type 0) : Type 0 where
  pub condition : Condition
  pub there : slice_get (conditions P n) i ≡ Some condition
  pub holds : Fact condition

-- the nodes of formulas, with one for each that joins it to the others
abbrev pub nodes_of_all : List Formula → ℕ
nodes_of_all ps = sum_by (λ p. nodes p + 1) ps

-- what the formulas leave of the room, and `Large` where they have more nodes; or want of memory
abbrev pub TakesRoom : ℕ → List Formula → Result ℕ FormRefusal → Type 0
TakesRoom room ps (Ok left) = left + nodes_of_all ps ≡ room
TakesRoom room ps (Err Large) = room < nodes_of_all ps
TakesRoom room ps (Err Memory) = Unit {0}
