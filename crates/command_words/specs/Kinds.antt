-- Which words are of a kind.
use Rattle.std.specs.Prelude.{ℕ, Bool, true, false, nat_le, if◌then◌else◌, List, [], ◌∷◌, Option, Some, None}
use Rattle.text_lines.specs.Numbers.{number_of}
use Rattle.command_words.specs.declared.table.Kind.{Kind}
use Rattle.command_words.specs.declared.table.Kind.TheVariants.{Text, Number}

-- the number that a word is, of at most 32 bits
abbrev pub any_number : List ℕ → Option ℕ
any_number word = number_of 4294967295 word

-- .. of at most 64 bits
abbrev pub any_size : List ℕ → Option ℕ
any_size word = number_of 18446744073709551615 word

abbrev pub is_at_least : ℕ → Option ℕ → Bool
is_at_least least None = false
is_at_least least (Some number) = nat_le least number

-- the word is of the kind
abbrev pub fits : Kind → List ℕ → Bool
fits Text word = true
fits (Number least most) word = is_at_least least (number_of most word)

-- the words behind those that are of the kinds, one by one; none where one of them isn't
abbrev pub behind_kinds : List Kind → List (List ℕ) → Option (List (List ℕ))
behind_kinds [] words = Some words
behind_kinds (kind ∷ kinds) [] = None
behind_kinds (kind ∷ kinds) (word ∷ words) = if fits kind word then behind_kinds kinds words else None
