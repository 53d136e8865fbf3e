-- What the next line of a text is.
use Rattle.std.specs.Prelude.{◌≡◌, [], ◌∷◌}
use Rattle.text_lines.specs.Text.{LinesLeft}
use Rattle.text_lines.specs.declared.lines.Next.{Next}
use Rattle.text_lines.specs.declared.lines.Next.TheVariants as found

abbrev pub IsNext : LinesLeft → Next → LinesLeft → Type 0
IsNext old (found.Line number text) new = (old.lines ≡ record { number = number; text = text.now } ∷ new.lines) × (new.past ≡ old.past)
IsNext old (found.End number) new = (old.lines ≡ []) × (number ≡ old.past)
