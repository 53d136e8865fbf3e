-- The lines of verdicts: of a yes, of conditions that are not decided, and of programs without a network.
use Rattle.std.specs.Prelude.{◌≡◌, ℕ, List, [], ◌∷◌, ◌++◌, codes, decimal}
use Rattle.text_lines.specs.Printed.{spaced}
use Rattle.csdn_core.specs.declared.program.Parts.{Parts}
use Rattle.csdn_conditions.specs.declared.kinds.CondKind.{CondKind}
use Rattle.csdn_conditions.specs.Answers.{OfCondition}
use Rattle.condition_listing.specs.Words.{kind_words}
use Rattle.vericon_decide.specs.declared.answer.UnknownWhy.{UnknownWhy}
use Rattle.vericon_decide.specs.declared.answer.UnknownWhy.TheVariants.{Nodes, Outside, Instances}

-- `I KIND`
abbrev pub condition_text : Parts → ℕ → CondKind → List ℕ
condition_text P i kind = decimal i ++ spaced (kind_words P kind)

-- `nodes`, `outside` or `instances N`
abbrev pub why_words : UnknownWhy → List (List ℕ)
why_words Nodes = codes "nodes" ∷ []
why_words Outside = codes "outside" ∷ []
why_words (Instances n) = codes "instances" ∷ decimal n ∷ []

-- `unknown level N condition I KIND: WHY`
abbrev pub unproven_text : Parts → ℕ → ℕ → CondKind → UnknownWhy → List ℕ
unproven_text P n i kind why =
    codes "unknown level " ++ decimal n ++ codes " condition " ++ condition_text P i kind ++ codes ":" ++ spaced (why_words why) ++ codes "\n"

-- .. by the number of the condition
abbrev pub IsUnprovenLine : Parts → ℕ → ℕ → UnknownWhy → List ℕ → Type 0
IsUnprovenLine P n i why text = OfCondition P n i (λ c. text ≡ unproven_text P n i c.kind why)

-- `yes level N`
abbrev pub yes_text : ℕ → List ℕ
yes_text level = codes "yes level " ++ decimal level ++ codes "\n"

abbrev pub no_network_text : List ℕ
no_network_text = codes "no network\n"
