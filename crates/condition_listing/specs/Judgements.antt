-- What is printed of one condition in a network and a state.
use Rattle.std.specs.Prelude.{◌≡◌, ℕ, ◌<◌, ◌≤◌, Bool, true, false, List, [], ◌∷◌, ◌++◌, codes, decimal}
use Rattle.text_lines.specs.Printed.{line_text}
use Rattle.csdn_core.specs.declared.event.Packet.TheVariants.{Nothing}
use Rattle.csdn_core.specs.declared.program.Parts.{Parts}
use Rattle.csdn_core.specs.declared.syntax.Formula.{Formula}
use Rattle.csdn_core.specs.Truth.{truth}
use Rattle.csdn_core.specs.Network.{Network, State, structure}
use Rattle.csdn_core.specs.Nodes.{nodes}
use Rattle.csdn_core.specs.Run.{no_values}
use Rattle.fol_forms.specs.Limits.{most_nodes}
use Rattle.net_listing.specs.Listings.{truth_word}
use Rattle.csdn_conditions.specs.declared.sentence.Condition.{Condition}
use Rattle.csdn_conditions.specs.Conditions.{sentence}

-- whether a formula without free variables is true
abbrev pub is_true_in : Parts → Network → State → Formula → Bool
is_true_in P N x p = truth (structure P N x Nothing) p no_values

-- `hypothesis TRUTH` and `goal TRUTH`
abbrev pub truths_text : Parts → Network → State → Condition → List ℕ
truths_text P N x c =
    line_text (codes "hypothesis" ∷ truth_word (is_true_in P N x c.hypothesis) ∷ []) ++ line_text (codes "goal" ∷ truth_word (is_true_in P N x c.goal) ∷ [])

-- `condition I: nodes`
abbrev pub nodes_text : ℕ → List ℕ
nodes_text i = codes "condition " ++ decimal i ++ codes ": nodes\n"

-- the truth of the hypothesis and of the goal, where the sentence of the condition has at most 1,048,576 nodes
abbrev pub IsJudged : Parts → Network → State → ℕ → Condition → List ℕ → Bool → Type 0
IsJudged P N x i c text true = (nodes (sentence c) ≤ most_nodes) × (text ≡ truths_text P N x c)
IsJudged P N x i c text false = (most_nodes < nodes (sentence c)) × (text ≡ nodes_text i)
