-- Every text falls into tokens, and nothing stands behind the end.
use Rattle.std.proofs.Common.{◌≡◌, ℕ, zero, suc, ◌+◌, ◌≤◌, List, [], ◌∷◌, ◌++◌, Bool, true, false, not, ◌&&◌, ◌||◌, cond, eqb, ltb, length, take, drop, map, refl, subst, ap, ◌∙◌, arith, length-drop, slice_index}
use Rattle.std.proofs.lemmas.Bool.{and_parts}
use Rattle.std.specs.Char.{is_ascii_digit, is_ascii_alphabetic}
use Rattle.std.specs.List.{list_all, prefix_len}
use Rattle.std.specs.Str.{bytes_eq}
use Rattle.std.specs.Str.Parse.{digits_value}
use Rattle.csdn_tokens.specs.declared.Class.TheVariants as class
use Rattle.csdn_tokens.specs.declared.Kind.{Kind}
use Rattle.csdn_tokens.specs.declared.Kind.TheVariants as k
use Rattle.csdn_tokens.specs.declared.Piece.{Piece}
use Rattle.csdn_tokens.specs.declared.Piece.TheVariants as p
use Rattle.csdn_tokens.specs.declared.TheConstants.{RESERVED}
use Rattle.csdn_tokens.specs.declared.Token.{Token}
use Rattle.csdn_tokens.specs.Lex.{is_in, lookup, word_kind, word, number, symbol, piece, token_at, Lexes}
use Rattle.csdn_tokens.specs.Lex.Lexes.{end, fault, blank, one}

-- a kind other than the end
abbrev inner : Kind → Bool
inner k.Stop = false
inner _ = true

-- a piece behind which the text goes on has a byte, and isn't the end
abbrev HasMore : Piece → Type 0
HasMore (p.Blank n) = 1 ≤ n
HasMore (p.Token kind v n) = (1 ≤ n) × (inner kind ≡ true)
HasMore (p.Bad kind) = Unit {0}

record GoesOn (x : Piece) : Type 0 where
  has_more : HasMore x

by_test : (b : Bool) (x y : Piece) → (b ≡ true → GoesOn x) → (b ≡ false → GoesOn y) → GoesOn (cond b x y)
by_test true x y on off = on refl
by_test false x y on off = off refl

some_front : (P : ℕ → Bool) (b : ℕ) (text : List ℕ) → P b ≡ true → 1 ≤ prefix_len P (b ∷ text)
some_front P b text is = rw is (omega arith)

lookup_inner : (table : List (List ℕ × Kind)) (w : List ℕ) → list_all (λ (x : List ℕ × Kind). inner x.1) table ≡ true → inner (lookup table w) ≡ true
lookup_inner [] w all = refl
lookup_inner (x ∷ xs) w all = let parts = and_parts (inner x.1) (list_all (λ (y : List ℕ × Kind). inner y.1) xs) all in by (bytes_eq x.0 w) parts.0 (lookup_inner xs w parts.1)
  where
    by : (b : Bool) → inner x.1 ≡ true → inner (lookup xs w) ≡ true → inner (cond b x.1 (lookup xs w)) ≡ true
    by true here later = here
    by false here later = later

word_inner : (w : List ℕ) → inner (word_kind w) ≡ true
unfolding word_kind
word_inner w = lookup_inner (map (λ x. (x.0.now, x.1)) RESERVED) w refl

is_bad : (kind : Kind) → GoesOn (p.Bad kind)
is_bad kind = record { has_more = tt }

is_token : (kind : Kind) (v n : ℕ) → 1 ≤ n → inner kind ≡ true → GoesOn (p.Token kind v n)
is_token kind v n some other = record { has_more = (some, other) }

word_goes : (b : ℕ) (text : List ℕ) → is_in class.Word b ≡ true → GoesOn (word (b ∷ text))
word_goes b text is =
    let len = prefix_len (is_in class.Word) (b ∷ text) in
    let kind = word_kind (take len (b ∷ text)) in
    by_test (ltb 64 len) (p.Bad k.BadName) (p.Token kind 0 len) (λ long. is_bad k.BadName)
    (λ short. is_token kind 0 len (some_front (is_in class.Word) b text is) (word_inner (take len (b ∷ text))))

number_goes : (b : ℕ) (text : List ℕ) → is_in class.Digit b ≡ true → GoesOn (number (b ∷ text))
number_goes b text is =
    let len = prefix_len (is_in class.Digit) (b ∷ text) in
    let value = digits_value 10 (take len (b ∷ text)) in
    by_test (eqb b 48 || ltb 65280 value) (p.Bad k.BadNumber) (p.Token k.Number value len) (λ bad. is_bad k.BadNumber)
    (λ good. is_token k.Number value len (some_front (is_in class.Digit) b text is) refl)

-- a symbol of so many bytes, or what else there is
or_else : (b : Bool) (kind : Kind) (n : ℕ) (x : Piece) → 1 ≤ n → inner kind ≡ true → GoesOn x → GoesOn (cond b (p.Token kind 0 n) x)
or_else true kind n x some other goes = is_token kind 0 n some other
or_else false kind n x some other goes = goes

symbol_goes : (text : List ℕ) → GoesOn (symbol text)
symbol_goes text =
    or_else _ k.Both 3 _ (omega arith) refl
    (or_else _ k.Arrow 2 _ (omega arith) refl
    (or_else _ k.Open 1 _ (omega arith) refl
    (or_else _ k.Close 1 _ (omega arith) refl
    (or_else _ k.Begin 1 _ (omega arith) refl
    (or_else _ k.End 1 _ (omega arith) refl
    (or_else _ k.Comma 1 _ (omega arith) refl
    (or_else _ k.Semicolon 1 _ (omega arith) refl
    (or_else _ k.Colon 1 _ (omega arith) refl
    (or_else _ k.Dot 1 _ (omega arith) refl
    (or_else _ k.Equals 1 _ (omega arith) refl (is_bad k.BadByte)))))))))))

piece_goes : (b : ℕ) (text : List ℕ) → GoesOn (piece (b ∷ text))
unfolding piece
piece_goes b text =
    let blank_is = p.Blank (prefix_len (is_in class.Blank) (b ∷ text)) in
    let line_is = p.Blank (prefix_len (is_in class.Line) (b ∷ text)) in
    let by_letter = cond (is_ascii_alphabetic b) (word (b ∷ text)) (symbol (b ∷ text)) in
    let by_digit = cond (is_ascii_digit b) (number (b ∷ text)) by_letter in
    let comment = eqb b 47 && eqb (slice_index (b ∷ text) 1) 47 in
    by_test (is_in class.Blank b) blank_is (cond comment line_is by_digit) (λ is. record { has_more = some_front (is_in class.Blank) b text is })
    (λ _. by_test comment line_is by_digit (λ is. record { has_more = some_front (is_in class.Line) b text (in_line (and_parts (eqb b 47) (eqb (slice_index (b ∷ text) 1) 47) is).0) })
    (λ _. by_test (is_ascii_digit b) (number (b ∷ text)) by_letter (number_goes b text)
    (λ _. by_test (is_ascii_alphabetic b) (word (b ∷ text)) (symbol (b ∷ text)) (λ letter. word_goes b text (in_word letter)) (λ _. symbol_goes (b ∷ text)))))
  where
    in_line : eqb b 47 ≡ true → not (eqb b 10) ≡ true
    in_line is = grind (arith, is)

    in_word : is_ascii_alphabetic b ≡ true → is_in class.Word b ≡ true
    in_word letter = grind (arith, letter)

behind : (most at b : ℕ) (text : List ℕ) → length (b ∷ text) ≤ suc most → ((from : ℕ) (rest : List ℕ) → length rest ≤ most → (ts : List Token) × Lexes from rest ts)
    → (x : Piece) → piece (b ∷ text) ≡ x → GoesOn x → (ts : List Token) × Lexes at (b ∷ text) ts
behind most at b text short next (p.Blank n) is goes =
    let more = next (at + n) (drop n (b ∷ text)) (omega (arith, length-drop n (b ∷ text), short, goes.has_more)) in (more.0, blank is more.1)
behind most at b text short next (p.Token kind v n) is goes =
    let more = next (at + n) (drop n (b ∷ text)) (omega (arith, length-drop n (b ∷ text), short, goes.has_more.0)) in
    (token_at kind at v (take n (b ∷ text)) ∷ more.0, one is more.1)
behind most at b text short next (p.Bad kind) is goes = (token_at kind at 0 [] ∷ [], fault is)

some_tokens : (most at : ℕ) (text : List ℕ) → length text ≤ most → (ts : List Token) × Lexes at text ts
some_tokens most at [] short = (token_at k.Stop at 0 [] ∷ [], end)
some_tokens zero at (b ∷ text) short = absurd (omega (arith, short))
some_tokens (suc most) at (b ∷ text) short = behind most at b text short (some_tokens most) (piece (b ∷ text)) refl (piece_goes b text)

-- a text falls into tokens
pub lexes_some : (text : List ℕ) → (ts : List Token) × Lexes 0 text ts
lexes_some text = some_tokens (length text) 0 text (omega arith)

alone : (pre : List Token) (t x : Token) (rest : List Token) → t ∷ [] ≡ pre ++ x ∷ rest → rest ≡ []
alone [] t x rest is = cc
alone (y ∷ []) t x rest is = cc
alone (y ∷ z ∷ pre) t x rest is = cc

not_end : (t x : Token) → inner t.kind ≡ true → t ≡ x → x.kind ≡ k.Stop → ⊥
not_end t x other same stop = let kind : t.kind ≡ k.Stop = ap (λ (y : Token). y.kind) same ∙ stop in
    let clash : false ≡ true = subst (λ (kind : Kind). inner kind ≡ true) kind other in cc

-- behind the end of the text there is no token
pub nothing_behind : {at : ℕ} {text : List ℕ} {ts : List Token} → Lexes at text ts → (pre : List Token) (x : Token) (rest : List Token)
    → ts ≡ pre ++ x ∷ rest → x.kind ≡ k.Stop → rest ≡ []
nothing_behind end pre x rest is stop = alone pre _ x rest is
nothing_behind (fault bad) pre x rest is stop = alone pre _ x rest is
nothing_behind (blank here more) pre x rest is stop = nothing_behind more pre x rest is stop
nothing_behind (one {at} {b} {n} {v} {text} {kind} here more) [] x rest is stop =
    let goes : GoesOn (p.Token kind v n) = subst GoesOn here (piece_goes b text) in
    absurd (not_end (token_at kind at v (take n (b ∷ text))) x goes.has_more.1 (let same : token_at kind at v (take n (b ∷ text)) ≡ x = cc in same) stop)
nothing_behind (one {ts = later} here more) (y ∷ pre) x rest is stop = nothing_behind more pre x rest (let tail : later ≡ pre ++ x ∷ rest = cc in tail) stop
