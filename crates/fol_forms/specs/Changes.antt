-- What the code's changes do with an atom.
use Rattle.std.specs.Prelude.{Bool, true, false, List, [], ◌∷◌}
use Rattle.csdn_core.specs.declared.terms.Term.{Term}
use Rattle.csdn_core.specs.declared.terms.Pred.{Pred}
use Rattle.csdn_core.specs.declared.syntax.Formula.{Formula}
use Rattle.fol_forms.specs.declared.replace.Change.{Change}
use Rattle.fol_forms.specs.declared.replace.Change.TheVariants.{AddRow, DropRow, DropMatch, AddFlood, FixPacket, NoPacket}
use Rattle.fol_forms.specs.Replace.{or_row, not_row, not_match, or_flood, is_row, no_row}

-- what stands in an atom's place
abbrev pub replacement : Change → Pred → List Term → Formula
replacement (AddRow r ts) = or_row r ts
replacement (DropRow r ts) = not_row r ts
replacement (DropMatch ts) = not_match ts
replacement (AddFlood ts) = or_flood ts
replacement (FixPacket ts) = is_row ts
replacement NoPacket = no_row

-- whether these are the terms of a match and of a rule
abbrev pub is_match : List Term → List Term → Bool
is_match (s ∷ a ∷ b ∷ i ∷ []) (u ∷ v ∷ w ∷ j ∷ o ∷ []) = true
is_match _ _ = false
