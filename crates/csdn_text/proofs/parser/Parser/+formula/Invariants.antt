use Rattle.std.proofs.Common.{◌+◌, ◌*◌, length}
use Rattle.csdn_text.proofs.Ranks.{word_rank, tier_rank}
use Rattle.csdn_text.proofs.parser.Parser.+formula.Given as goal

abbrev pub decreases-formula : goal.decreases-formula
decreases-formula l = 16 * length l.self.now + 12

abbrev pub decreases-binds : goal.decreases-binds
decreases-binds l = 16 * length l.self.now

abbrev pub decreases-more_binds : goal.decreases-more_binds
decreases-more_binds l = 16 * length l.self.now

abbrev pub decreases-tier : goal.decreases-tier
decreases-tier l = 16 * length l.self.now + (2 * tier_rank l.tier + 2)

abbrev pub decreases-joins : goal.decreases-joins
decreases-joins l = 16 * length l.self.now + (2 * word_rank l.word + 3)

abbrev pub decreases-unary : goal.decreases-unary
decreases-unary l = 16 * length l.self.now + 1

abbrev pub decreases-atom : goal.decreases-atom
decreases-atom l = 16 * length l.self.now
