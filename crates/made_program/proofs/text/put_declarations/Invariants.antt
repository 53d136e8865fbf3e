use Rattle.std.proofs.Common.{◌≡◌, ◌++◌}
use Rattle.std.specs.Prelude.{flat_map}
use Rattle.std.specs.List.{range_with_len}
use Rattle.made_program.specs.Made.{declaration}
use Rattle.made_program.proofs.text.put_declarations.Given as goal

abbrev pub invariant-relations : goal.invariant-relations
invariant-relations l = l.out.items ≡ l.fn.out.items ++ flat_map declaration (range_with_len 1 l.before)
