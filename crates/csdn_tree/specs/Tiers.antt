-- Where formulas may stand beside a word between two of them.
use Rattle.csdn_tree.specs.declared.syntax.Connective.{Connective}
use Rattle.csdn_tree.specs.declared.syntax.Connective.TheVariants as word
use Rattle.csdn_tree.specs.declared.tiers.Tier.{Tier}
use Rattle.csdn_tree.specs.declared.tiers.Tier.TheVariants.{Single, Joins}

-- what may stand to the left of the word
abbrev pub left_of : Connective → Tier
left_of word.And = Single
left_of word.Or = Joins word.And
left_of word.Implies = Joins word.Or
left_of word.Iff = Joins word.Implies

-- .. and to its right: the same word again, but no second `<->`
abbrev pub right_of : Connective → Tier
right_of word.And = Joins word.And
right_of word.Or = Joins word.Or
right_of word.Implies = Joins word.Implies
right_of word.Iff = Joins word.Implies
