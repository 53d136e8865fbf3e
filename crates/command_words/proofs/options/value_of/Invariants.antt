use Rattle.std.proofs.Common.{◌≡◌, length, map, string_bytes}
use Rattle.command_words.specs.Options.{value_of}
use Rattle.command_words.proofs.options.value_of.Given as goal

abbrev pub invariant-loop-rest : goal.invariant-loop-rest
invariant-loop-rest l = value_of l.option (map string_bytes l.rest) ≡ value_of l.option (map string_bytes l.options)

abbrev pub decreases-loop-rest : goal.decreases-loop-rest
decreases-loop-rest l = length l.rest
