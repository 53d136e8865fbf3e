use Rattle.std.proofs.Common.{◌≡◌, length, map, string_bytes}
use Rattle.command_words.specs.Kinds.{behind_kinds}
use Rattle.command_words.proofs.kinds.behind_kinds.Given as goal

abbrev pub invariant-loop-kinds_left : goal.invariant-loop-kinds_left
invariant-loop-kinds_left l = behind_kinds l.kinds_left (map string_bytes l.rest) ≡ behind_kinds l.kinds (map string_bytes l.words)

abbrev pub decreases-loop-kinds_left : goal.decreases-loop-kinds_left
decreases-loop-kinds_left l = length l.kinds_left
