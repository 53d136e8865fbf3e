-- Tokens: the longest word or number, a symbol, or a fault at its first byte.
use Rattle.std.specs.Prelude.{◌≡◌, ◌<◌, ◌≤◌, ℕ, ◌+◌, Bool, not, ◌&&◌, ◌||◌, if◌then◌else◌, ◌==◌, nat_lt, List, [], ◌∷◌, take, drop, map, slice_index}
use Rattle.std.specs.Char.{is_ascii_digit, is_ascii_alphanumeric, is_ascii_alphabetic}
use Rattle.std.specs.List.{prefix_len}
use Rattle.std.specs.Str.{bytes_eq}
use Rattle.std.specs.Str.Parse.{digits_value}
use Rattle.csdn_tokens.specs.declared.Class.{Class}
use Rattle.csdn_tokens.specs.declared.Class.TheVariants as class
use Rattle.csdn_tokens.specs.declared.Kind.{Kind}
use Rattle.csdn_tokens.specs.declared.Kind.TheVariants as k
use Rattle.csdn_tokens.specs.declared.Token.{Token}
use Rattle.csdn_tokens.specs.declared.Piece.{Piece}
use Rattle.csdn_tokens.specs.declared.Piece.TheVariants as p
use Rattle.csdn_tokens.specs.declared.TheConstants.{RESERVED}

-- which bytes are of a class
abbrev pub is_in : Class → ℕ → Bool
is_in class.Blank b = b == 32 || b == 9 || b == 10 || b == 13
is_in class.Digit b = is_ascii_digit b
is_in class.Word b = is_ascii_alphanumeric b || b == 95
is_in class.Line b = not (b == 10)

-- how many bytes at the front are of the class
abbrev pub front : Class → List ℕ → ℕ
front c text = prefix_len (is_in c) text

-- the kind of a word by a table; a name where the table lacks it
abbrev pub lookup : List (List ℕ × Kind) → List ℕ → Kind
lookup [] word = k.Name
lookup (x ∷ xs) word = if bytes_eq x.0 word then x.1 else lookup xs word

-- the kind of a word: reserved, or a name
unfoldable pub word_kind : List ℕ → Kind
word_kind = lookup (map (λ x. (x.0.now, x.1)) RESERVED)

-- a word: as many letters, digits and underscores as follow, at most 64
abbrev pub word : List ℕ → Piece
word text = let len = front class.Word text in if nat_lt 64 len then p.Bad k.BadName else p.Token (word_kind (take len text)) 0 len

-- a number: as many digits as follow, the first not 0, of a value of at most 65,280
abbrev pub number : List ℕ → Piece
number text =
    let len = front class.Digit text in
    let value = digits_value 10 (take len text) in
    if slice_index text 0 == 48 || nat_lt 65280 value then p.Bad k.BadNumber else p.Token k.Number value len

-- a symbol; a `<`, a `-` or a `/` that begins none is a fault
abbrev pub symbol : List ℕ → Piece
symbol text =
    let b = slice_index text 0 in
    if b == 60 && slice_index text 1 == 45 && slice_index text 2 == 62 then p.Token k.Both 0 3
    else (if b == 45 && slice_index text 1 == 62 then p.Token k.Arrow 0 2
    else (if b == 40 then p.Token k.Open 0 1 else (if b == 41 then p.Token k.Close 0 1
    else (if b == 123 then p.Token k.Begin 0 1 else (if b == 125 then p.Token k.End 0 1
    else (if b == 44 then p.Token k.Comma 0 1 else (if b == 59 then p.Token k.Semicolon 0 1
    else (if b == 58 then p.Token k.Colon 0 1 else (if b == 46 then p.Token k.Dot 0 1
    else (if b == 61 then p.Token k.Equals 0 1 else p.Bad k.BadByte))))))))))

-- what stands at the front of a text that isn't empty
unfoldable pub piece : List ℕ → Piece
piece text =
    let b = slice_index text 0 in
    if is_in class.Blank b then p.Blank (front class.Blank text)
    else (if b == 47 && slice_index text 1 == 47 then p.Blank (front class.Line text)
    else (if is_in class.Digit b then number text
    else (if is_ascii_alphabetic b then word text else symbol text)))

-- a piece has a length of at least 1, within the text
abbrev pub IsPiece : ℕ → Piece → Type 0
IsPiece len (p.Blank n) = (0 < n) × (n ≤ len)
IsPiece len (p.Token k v n) = (0 < n) × (n ≤ len)
IsPiece len (p.Bad k) = Unit {0}

-- a name keeps its bytes
abbrev pub kept_text : Kind → List ℕ → List ℕ
kept_text k.Name bytes = bytes
kept_text _ bytes = []

-- the token of a kind at a place, with its number and the bytes that it is made of
abbrev pub token_at : Kind → ℕ → ℕ → List ℕ → Token
token_at kind at number bytes = record { kind = kind; at = at; number = number; text = kept_text kind bytes }

-- From a place on the text falls into these tokens. The last one is the end, or a fault, behind which nothing is read.
pub data Lexes : ℕ → List ℕ → List Token → Type 0 where
  end : {at : ℕ} → Lexes at [] (token_at k.Stop at 0 [] ∷ [])
  fault : {at b : ℕ} {text : List ℕ} {kind : Kind} → piece (b ∷ text) ≡ p.Bad kind → Lexes at (b ∷ text) (token_at kind at 0 [] ∷ [])
  blank : {at b n : ℕ} {text : List ℕ} {ts : List Token} → piece (b ∷ text) ≡ p.Blank n → Lexes (at + n) (drop n (b ∷ text)) ts → Lexes at (b ∷ text) ts
  one : {at b n v : ℕ} {text : List ℕ} {kind : Kind} {ts : List Token} → piece (b ∷ text) ≡ p.Token kind v n → Lexes (at + n) (drop n (b ∷ text)) ts
      → Lexes at (b ∷ text) (token_at kind at v (take n (b ∷ text)) ∷ ts)
