use Rattle.std.proofs.Common.{◌≡◌, ◌++◌, map, drop}
use Rattle.std.specs.List.{flat_map}
use Rattle.text_lines.specs.Printed.{line_text}
use Rattle.log_text.specs.LogText.{clause_words}
use Rattle.log_text.proofs.print.put_clauses.Given as goal

abbrev pub invariant-clauses : goal.invariant-clauses
invariant-clauses l = l.out.items ++ flat_map line_text (map clause_words (drop l.at l.clauses.clauses)) ≡ l.fn.out.items ++ flat_map line_text (map clause_words l.clauses.clauses)
