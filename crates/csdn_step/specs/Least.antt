-- The least of the elements that pass a test.
use Rattle.std.specs.Prelude.{ℕ, min, Bool, if◌then◌else◌, List, [], ◌∷◌, Option, Some, None}

-- the lesser of a number and another, where there is another
abbrev pub lesser : ℕ → Option ℕ → ℕ
lesser m None = m
lesser m (Some n) = min m n

abbrev pub least : (ℕ → Bool) → List ℕ → Option ℕ
least test [] = None
least test (m ∷ ms) = if test m then Some (lesser m (least test ms)) else least test ms

-- the first of a list that passes
abbrev pub first_of : (ℕ → Bool) → List ℕ → Option ℕ
first_of test [] = None
first_of test (m ∷ ms) = if test m then Some m else first_of test ms
