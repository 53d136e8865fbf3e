-- Names of declarations, invariants and variables, as bytes.
use Rattle.std.specs.Prelude.{ℕ, ◌≤◌, Bool, false, ◌&&◌, ◌||◌, ◌==◌, List, [], ◌∷◌, length, map, IsTrue, IsFalse}
use Rattle.std.specs.List.{list_all, list_any}
use Rattle.std.specs.Str.{bytes_eq}
use Rattle.std.specs.Char.{is_ascii_alphabetic, is_ascii_alphanumeric}
use Rattle.csdn_core.specs.declared.names.TheConstants.{RESERVED_WORDS}

-- a letter, a digit or `_`
abbrev pub is_word_byte : ℕ → Bool
is_word_byte b = is_ascii_alphanumeric b || b == 95

-- a letter, and then letters, digits and `_`
abbrev pub is_word : List ℕ → Bool
is_word [] = false
is_word (b ∷ bs) = is_ascii_alphabetic b && list_all is_word_byte bs

abbrev pub is_reserved : List ℕ → Bool
is_reserved word = list_any (bytes_eq word) (map (λ r. r.now) RESERVED_WORDS)

-- a word of at most 64 bytes that is not reserved
pub record IsName (name : List ℕ) : Type 0 where
  pub word : IsTrue (is_word name)
  pub short : length name ≤ 64
  pub free : IsFalse (is_reserved name)
