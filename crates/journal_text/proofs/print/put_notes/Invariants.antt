use Rattle.std.proofs.Common.{◌≡◌, ◌++◌, length, map}
use Rattle.std.specs.List.{flat_map}
use Rattle.text_lines.specs.Printed.{line_text}
use Rattle.journal_text.specs.JournalText.{are_notes, note_words}
use Rattle.journal_text.proofs.print.put_notes.Given as goal

abbrev pub invariant-notes : goal.invariant-notes
invariant-notes l =
    (l.out.items ++ flat_map line_text (map note_words l.rest) ≡ l.fn.out.items ++ flat_map line_text (map note_words l.notes)) × (are_notes l.rest ≡ are_notes l.notes)

abbrev pub decreases-notes : goal.decreases-notes
decreases-notes l = length l.rest
