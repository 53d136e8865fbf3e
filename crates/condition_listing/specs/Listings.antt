-- What is printed of conditions.
use Rattle.std.specs.Prelude.{◌≡◌, ℕ, ◌+◌, List, [], ◌∷◌, ◌++◌}
use Rattle.text_lines.specs.Printed.{line_text}
use Rattle.csdn_core.specs.declared.program.Parts.{Parts}
use Rattle.csdn_conditions.specs.declared.sentence.Condition.{Condition}
use Rattle.csdn_conditions.specs.declared.class.Class.{Class}
use Rattle.csdn_conditions.specs.Conditions.{sentence}
use Rattle.csdn_conditions.specs.Classes.{IsClass}
use Rattle.condition_listing.specs.Words.{condition_words}

-- the text is the line of a condition, with its number and its class by the size
pub record IsLine (P : Parts) (size i : ℕ) (c : Condition) (text : List ℕ) : Type 0 where
  pub class : Class
  pub is_class : IsClass P size (sentence c) class
  pub text_is : text ≡ line_text (condition_words P i c.kind class)

-- the text is a line for each of the conditions, the first with the number i
abbrev pub IsListed : Parts → ℕ → ℕ → List Condition → List ℕ → Type 0
IsListed P size i [] text = text ≡ []
IsListed P size i (c ∷ cs) text = (line : List ℕ) × (rest : List ℕ) × IsLine P size i c line × IsListed P size (i + 1) cs rest × (text ≡ line ++ rest)

-- a text to which the line of a condition is added
abbrev pub AddsLine : Parts → ℕ → ℕ → Condition → List ℕ → List ℕ → Type 0
AddsLine P size i c old new = (line : List ℕ) × IsLine P size i c line × (new ≡ old ++ line)
