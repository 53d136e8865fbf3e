-- What a text is: a program, or refused at its least place.
use Rattle.std.specs.Prelude.{◌≡◌, ◌⊎◌, ℕ, ◌<◌, ◌≤◌, List, [], ◌∷◌, ◌++◌, length, Result, MatchResult}
use Rattle.csdn_tokens.specs.Lex.{Lexes}
use Rattle.csdn_tokens.specs.declared.Kind.{Kind}
use Rattle.csdn_tokens.specs.declared.Kind.TheVariants as k
use Rattle.csdn_tokens.specs.declared.Token.{Token}
use Rattle.csdn_tree.specs.declared.syntax.RawProgram.{RawProgram}
use Rattle.csdn_text.specs.declared.TextRefusal.{TextRefusal}
use Rattle.csdn_text.specs.declared.TextRefusal.TheVariants.{Memory, TooLong, TooDeep}
use Rattle.csdn_text.specs.Symbols.{Symbol, token, part, here, program}
use Rattle.csdn_text.specs.Derives.{Mark, tokens_of, Derives}
use Rattle.csdn_text.specs.Machine.{limit, refused_at, next_is}

-- a program, and the end of the text
abbrev pub whole : List Symbol
whole = part program here ∷ token k.Stop here ∷ []

-- Tokens with their depths that are a program, whatever the depths.
pub record IsProgram (ms : List Mark) (raw : RawProgram) : Type 0 where
  pub stop : Token
  pub derives : Derives 1 whole ms (raw, (stop, tt))

-- each token stands at most so deep
abbrev pub Within : ℕ → List Mark → Type 0
Within most [] = Unit {0}
Within most (m ∷ ms) = (m.depth ≤ most) × Within most ms

-- The tokens up to the end of the text read as a program, and none stands deeper than 64.
pub record ReadsTokens (ts : List Token) (raw : RawProgram) : Type 0 where
  pub marks : List Mark
  pub rest : List Token
  pub program : IsProgram marks raw
  pub spelled : ts ≡ tokens_of marks ++ rest
  pub within : Within limit marks

-- Some program begins with these tokens, none of which stands deeper than 64 in it.
pub record Begins (ts : List Token) : Type 0 where
  pub marks : List Mark
  pub more : List Mark
  pub raw : RawProgram
  pub program : IsProgram (marks ++ more) raw
  pub spelled : tokens_of marks ≡ ts
  pub within : Within limit marks

-- two rows of tokens that begin with a token of one kind, or are both empty
abbrev pub Alike : List Token → List Token → Type 0
Alike ts ts' = (k : Kind) → next_is ts k ≡ next_is ts' k

-- A program begins with the tokens before the place, but none, whatever its depths, begins with them and a token of the
-- kind of the next one. What is said is a fault of the text, where one stands there, and else that the token doesn't fit.
pub record IsMisfit (ts : List Token) (f : TextRefusal) : Type 0 where
  pub before : List Token
  pub rest : List Token
  pub split : ts ≡ before ++ rest
  pub refusal_is : f ≡ refused_at rest
  pub begins : Begins before
  pub none : (ms : List Mark) (raw : RawProgram) (rest' : List Token) → IsProgram ms raw → Alike rest rest' → tokens_of ms ≡ before ++ rest' → ⊥

-- A program begins with the tokens before the place, none of which stands deeper than 64 in it, and with the next one, which does.
pub record IsTooDeep (ts : List Token) (at : ℕ) : Type 0 where
  pub before : List Mark
  pub next : Mark
  pub more : List Mark
  pub rest : List Token
  pub raw : RawProgram
  pub program : IsProgram (before ++ next ∷ more) raw
  pub split : ts ≡ tokens_of before ++ next.token ∷ rest
  pub place_is : at ≡ next.token.at
  pub within : Within limit before
  pub deep : limit < next.depth

-- A text reads as a program: it has at most 65,536 bytes and its tokens derive the tree, places included.
pub record Reads (text : List ℕ) (raw : RawProgram) : Type 0 where
  pub short : length text ≤ 65536
  pub tokens : List Token
  pub lexes : Lexes 0 text tokens
  pub reads : ReadsTokens tokens raw

-- Why tokens are no program: one doesn't fit, or one stands too deep.
pub data IsRefusedTokens (ts : List Token) : TextRefusal → Type 0 where
  misfits : {f : TextRefusal} → IsMisfit ts f → IsRefusedTokens ts f
  nests : {at : ℕ} → IsTooDeep ts at → IsRefusedTokens ts (TooDeep at)

-- Why a text is no program: it is too long, or its tokens are none.
pub data IsRefusedText (text : List ℕ) : TextRefusal → Type 0 where
  long : 65536 < length text → IsRefusedText text TooLong
  within_limit : {f : TextRefusal} (ts : List Token) → length text ≤ 65536 → Lexes 0 text ts → IsRefusedTokens ts f → IsRefusedText text f

-- what may be answered in place of a tree: that there is no memory, or why the text is refused
abbrev pub IsTextRefusal : List ℕ → TextRefusal → Type 0
IsTextRefusal text f = (f ≡ Memory) ⊎ IsRefusedText text f

-- A text has one answer: one tree as which it reads, or one reason for which it is refused, and not both.
pub record HasOneAnswer (text : List ℕ) : Type 0 where
  pub answer : Result RawProgram TextRefusal
  pub is : MatchResult answer (Reads text) (IsRefusedText text)
  pub only : (other : Result RawProgram TextRefusal) → MatchResult other (Reads text) (IsRefusedText text) → other ≡ answer
