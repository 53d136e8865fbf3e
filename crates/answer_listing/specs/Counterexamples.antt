-- Counterexamples as texts.
use Rattle.std.specs.Prelude.{◌≡◌, ℕ, List, ◌++◌, codes, decimal, Ok}
use Rattle.text_lines.specs.Machine.{reading}
use Rattle.csdn_core.specs.declared.program.Parts.{Parts}
use Rattle.net_structs.specs.declared.case.Case.{Case}
use Rattle.net_text.specs.NetText.{net_format, net_text}
use Rattle.csdn_conditions.specs.declared.kinds.CondKind.{CondKind}
use Rattle.csdn_conditions.specs.Answers.{OfCondition}
use Rattle.answer_listing.specs.Words.{condition_text}

-- `counterexample level N condition I KIND`
abbrev pub counterexample_line : Parts → ℕ → ℕ → CondKind → List ℕ
counterexample_line P n i kind = codes "counterexample level " ++ decimal n ++ codes " condition " ++ condition_text P i kind ++ codes "\n"

-- .. and behind it the lines of the case
abbrev pub counterexample_text : Parts → ℕ → ℕ → CondKind → Case → List ℕ
counterexample_text P n i kind case = counterexample_line P n i kind ++ net_text P case

-- .. by the number of the condition; what stands behind the first line reads as the case
pub record IsCounterexampleText (P : Parts) (n i : ℕ) (case : Case) (text : List ℕ) : Type 0 where
  pub text_is : OfCondition P n i (λ c. text ≡ counterexample_text P n i c.kind case)
  pub again : reading (net_format P) (net_text P case) ≡ Ok case
