-- Lines and words of a text.
use Rattle.std.specs.Prelude.{ℕ, ◌+◌, Bool, true, false, ◌==◌, if◌then◌else◌, List, [], ◌∷◌, length, Option, Some, None}
use Rattle.std.specs.List.{slice_split, onto_first, filter}

-- The lines of a text. Each ends with a newline; the last may lack it.
abbrev pub lines : List ℕ → List (List ℕ)
lines [] = []
lines (b ∷ bs) = if b == 10 then [] ∷ lines bs else onto_first b (lines bs)

abbrev pub has_bytes : List ℕ → Bool
has_bytes [] = false
has_bytes (b ∷ bs) = true

-- the words of a line: what stands between its spaces and has bytes
abbrev pub words : List ℕ → List (List ℕ)
words line = filter has_bytes (slice_split (λ b. b == 32) line)

abbrev pub begins_with_hash : List ℕ → Bool
begins_with_hash [] = false
begins_with_hash (b ∷ bs) = b == 35

-- a line without words, or a comment
abbrev pub is_passed_over : List (List ℕ) → Bool
is_passed_over [] = true
is_passed_over (w ∷ ws) = begins_with_hash w

pub record Line : Type 0 where
  pub number : ℕ
  pub text : List ℕ

-- the lines that count, with their numbers; the first of all has the number `at`
abbrev pub counted : ℕ → List (List ℕ) → List Line
counted at [] = []
counted at (l ∷ ls) = if is_passed_over (words l) then counted (at + 1) ls else record { number = at; text = l } ∷ counted (at + 1) ls

-- the lines that count, and the number one past the last line
pub record LinesLeft : Type 0 where
  pub lines : List Line
  pub past : ℕ

abbrev pub lines_left : ℕ → List ℕ → LinesLeft
lines_left at bytes = record { lines = counted at (lines bytes); past = at + length (lines bytes) }

-- the first word, and the words behind it
abbrev pub next : List (List ℕ) → Option (List ℕ × List (List ℕ))
next [] = None
next (w ∷ ws) = Some (w, ws)

-- that there is no word
abbrev pub ended : List (List ℕ) → Option (Unit {0})
ended [] = Some tt
ended (w ∷ ws) = None
