-- How far down the readers of formulas call each other before a token is taken.
use Rattle.std.proofs.Common.{ℕ, ◌+◌, ◌≤◌, arith}
use Rattle.csdn_tree.specs.declared.syntax.Connective.{Connective}
use Rattle.csdn_tree.specs.declared.syntax.Connective.TheVariants as word
use Rattle.csdn_tree.specs.declared.tiers.Tier.{Tier}
use Rattle.csdn_tree.specs.declared.tiers.Tier.TheVariants.{Single, Joins}
use Rattle.csdn_tree.specs.Tiers.{left_of, right_of}

abbrev pub word_rank : Connective → ℕ
word_rank word.And = 0
word_rank word.Or = 1
word_rank word.Implies = 2
word_rank word.Iff = 3

abbrev pub tier_rank : Tier → ℕ
tier_rank Single = 0
tier_rank (Joins word) = word_rank word + 1

pub left_lower : (word : Connective) → tier_rank (left_of word) ≤ word_rank word
left_lower word.And = omega arith
left_lower word.Or = omega arith
left_lower word.Implies = omega arith
left_lower word.Iff = omega arith

pub right_small : (word : Connective) → tier_rank (right_of word) ≤ 3
right_small word.And = omega arith
right_small word.Or = omega arith
right_small word.Implies = omega arith
right_small word.Iff = omega arith
