-- What the words of a log's lines say.
use Rattle.std.specs.Prelude.{ℕ, Bool, true, false, ◌&&◌, ◌||◌, ◌==◌, nat_lt, nat_le, if◌then◌else◌, List, [], ◌∷◌, ◌++◌, length, Option, Some, None, codes}
use Rattle.std.specs.Str.{bytes_eq}
use Rattle.text_lines.specs.Text.{words, next, ended}
use Rattle.text_lines.specs.Numbers.{◌>>=◌, number_at, number_of}
use Rattle.text_lines.specs.Rest.{behind_word}
use Rattle.clause_log.specs.Literals.{Literal, has_distinct_atoms}
use Rattle.clause_log.specs.Refutations.{Step}
use Rattle.clause_log.specs.Limits.{most_hint}

-- 2 ^ 62 - 1
abbrev pub most_atoms : ℕ
most_atoms = 4611686018427387903

-- ---- words

-- the word 0 ends a list of literals or hints
abbrev pub is_zero : List ℕ → Bool
is_zero word = bytes_eq word (codes "0")

-- a number from 1 on
unfoldable pub positive_of : ℕ → List ℕ → Option ℕ
positive_of most word = do
  n ← number_of most word
  if n == 0 then None else Some n

-- a literal is an atom's number, with a minus before it where it is negated
unfoldable pub literal_of : ℕ → List ℕ → Option Literal
literal_of atoms [] = None
literal_of atoms (b ∷ bs) =
    if b == 45 then positive_of atoms bs >>= (λ n. Some (record { positive = false; atom = n }))
    else positive_of atoms (b ∷ bs) >>= (λ n. Some (record { positive = true; atom = n }))

-- behind those read before, the literals up to the word 0, and the words behind it
abbrev pub literals_from : ℕ → List Literal → List (List ℕ) → Option (List Literal × List (List ℕ))
literals_from atoms found [] = None
literals_from atoms found (w ∷ ws) = if is_zero w then Some (found, ws) else literal_of atoms w >>= (λ l. literals_from atoms (found ++ l ∷ []) ws)

-- the same for hints
abbrev pub hints_from : List ℕ → List (List ℕ) → Option (List ℕ × List (List ℕ))
hints_from found [] = None
hints_from found (w ∷ ws) = if is_zero w then Some (found, ws) else positive_of most_hint w >>= (λ n. hints_from (found ++ n ∷ []) ws)

-- ---- lines

-- the words `vericon-log 1`
unfoldable pub header_of : List (List ℕ) → Option (Unit {0})
header_of ws = do
  name ← next ws
  version ← next name.1
  if bytes_eq name.0 (codes "vericon-log") && bytes_eq version.0 (codes "1") then ended version.1 else None

-- bytes from 0x20 to 0x7e
abbrev pub are_printable : List ℕ → Bool
are_printable [] = true
are_printable (b ∷ bs) = if nat_lt b 32 || nat_lt 126 b then false else are_printable bs

abbrev pub is_name : List ℕ → Bool
is_name name = nat_lt 0 (length name) && nat_le (length name) 200 && are_printable name

-- the name of a line `block NAME`
unfoldable pub name_of : List ℕ → Option (List ℕ)
name_of line = do
  key ← next (words line)
  if bytes_eq key.0 (codes "block") && is_name (behind_word line) then Some (behind_word line) else None

-- the number of a line `atoms N`
unfoldable pub atoms_of : List (List ℕ) → Option ℕ
atoms_of ws = do
  key ← next ws
  n ← number_at most_atoms key.1
  end ← ended n.1
  if bytes_eq key.0 (codes "atoms") then Some n.0 else None

-- the literals of a line `c LITERAL .. 0`, from the words behind its first
unfoldable pub clause_of : ℕ → List (List ℕ) → Option (List Literal)
clause_of atoms ws = do
  literals ← literals_from atoms [] ws
  end ← ended literals.1
  if has_distinct_atoms literals.0 then Some literals.0 else None

-- the step of a line `s LITERAL .. 0 HINT .. 0`, from the words behind its first
unfoldable pub step_of : ℕ → List (List ℕ) → Option Step
step_of atoms ws = do
  literals ← literals_from atoms [] ws
  hints ← hints_from [] literals.1
  end ← ended hints.1
  if has_distinct_atoms literals.0 then Some (record { literals = literals.0; hints = hints.0 }) else None
