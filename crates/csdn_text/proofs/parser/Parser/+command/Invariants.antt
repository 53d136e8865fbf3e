use Rattle.std.proofs.Common.{◌+◌, ◌*◌, length}
use Rattle.csdn_text.proofs.parser.Parser.+command.Given as goal

abbrev pub decreases-block : goal.decreases-block
decreases-block l = 8 * length l.self.now

abbrev pub decreases-commands : goal.decreases-commands
decreases-commands l = 8 * length l.self.now + 3

abbrev pub decreases-command : goal.decreases-command
decreases-command l = 8 * length l.self.now + 2

abbrev pub decreases-branch : goal.decreases-branch
decreases-branch l = 8 * length l.self.now + 1

abbrev pub decreases-choice : goal.decreases-choice
decreases-choice l = 8 * length l.self.now + 1

abbrev pub decreases-otherwise : goal.decreases-otherwise
decreases-otherwise l = 8 * length l.self.now
