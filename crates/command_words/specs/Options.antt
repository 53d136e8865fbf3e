-- Options with their values.
use Rattle.std.specs.Prelude.{ℕ, Bool, true, false, ◌&&◌, not, if◌then◌else◌, List, [], ◌∷◌, Option, Some, None}
use Rattle.std.specs.Option.{is_some}
use Rattle.std.specs.Str.{bytes_eq}
use Rattle.command_words.specs.declared.table.Kind.{Kind}
use Rattle.command_words.specs.Rows.{OptionRow}
use Rattle.command_words.specs.Kinds.{fits}

-- what the value of the option is that a word spells
abbrev pub kind_of : List OptionRow → List ℕ → Option Kind
kind_of [] word = None
kind_of (row ∷ rows) word = if bytes_eq row.word word then Some row.value else kind_of rows word

abbrev pub is_option : List OptionRow → List ℕ → Bool
is_option rows word = is_some (kind_of rows word)

-- the words behind the options and their values
abbrev pub behind_options : List OptionRow → List (List ℕ) → List (List ℕ)
behind_options rows [] = []
behind_options rows (word ∷ []) = word ∷ []
behind_options rows (word ∷ value ∷ words) = if is_option rows word then behind_options rows words else word ∷ value ∷ words

-- the value of an option among options and their values
abbrev pub value_of : List ℕ → List (List ℕ) → Option (List ℕ)
value_of option [] = None
value_of option (word ∷ []) = None
value_of option (word ∷ value ∷ words) = if bytes_eq word option then Some value else value_of option words

-- a value of this kind, where there is one
abbrev pub is_value : Option Kind → List ℕ → Bool
is_value None value = false
is_value (Some kind) value = fits kind value

-- an option has a value of its kind, and isn't given again behind it
abbrev pub is_right : List OptionRow → List ℕ → List ℕ → List (List ℕ) → Bool
is_right rows option value words = is_value (kind_of rows option) value && not (is_some (value_of option words))

-- each option is given once, with a value of its kind
abbrev pub are_options : List OptionRow → List (List ℕ) → Bool
are_options rows [] = true
are_options rows (option ∷ []) = true
are_options rows (option ∷ value ∷ words) = is_right rows option value words && are_options rows words

-- the first word spells an option
abbrev pub option_first : List OptionRow → List (List ℕ) → Bool
option_first rows [] = false
option_first rows (word ∷ words) = is_option rows word
