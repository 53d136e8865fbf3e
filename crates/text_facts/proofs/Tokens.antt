-- What holds of the tokens that a text falls into.
use Rattle.std.proofs.Common.{◌≡◌, ℕ, suc, ◌+◌, ◌-◌, ◌*◌, ◌≤◌, Bool, true, false, not, ◌&&◌, ◌||◌, cond, eqb, ltb, List, [], ◌∷◌, length, length-take, map, take, drop, refl, subst, ◌∙◌, ◌⊎◌, inl, inr, arith}
use Rattle.std.proofs.lemmas.Bool.{ltb-false}
use Rattle.std.proofs.lemmas.Cmp.{nat_list_eq_equiv}
use Rattle.std.proofs.lemmas.Str.{digit_value_digit}
use Rattle.std.proofs.lemmas.List.Sums.{prefix_len-le-length}
use Rattle.std.proofs.Common.{length-drop}
use Rattle.std.specs.Prelude.{slice_index, ◌==◌}
use Rattle.std.specs.Int.{IsInRange}
use Rattle.std.specs.Str.{bytes_eq}
use Rattle.std.specs.Str.Parse.{digits_value}
use Rattle.std.specs.Char.{digit_value, is_ascii_digit, is_ascii_alphabetic}
use Rattle.std.specs.List.{list_all, list_any, prefix_len}
use Rattle.csdn_core.specs.Names.{IsName, is_word, is_word_byte, is_reserved}
use Rattle.csdn_core.specs.WellSorted.{IsNumeral}
use Rattle.csdn_tokens.specs.declared.Kind.{Kind}
use Rattle.csdn_tokens.specs.declared.Kind.TheVariants as k
use Rattle.csdn_tokens.specs.declared.Token.{Token}
use Rattle.csdn_tokens.specs.declared.Piece.{Piece}
use Rattle.csdn_tokens.specs.declared.Piece.TheVariants as p
use Rattle.csdn_tokens.specs.declared.TheConstants.{RESERVED}
use Rattle.csdn_tokens.specs.Lex.{lookup, word_kind, word, number, symbol, piece, kept_text, token_at, Lexes}
use Rattle.csdn_tokens.proofs.Digits.{grows}
use Rattle.csdn_tokens.specs.Lex.Lexes.{end, fault, blank, one}

-- a name is one, and a number is that of a port
pub record IsFine (t : Token) : Type 0 where
  pub name : t.kind ≡ k.Name → IsName t.text
  pub number : t.kind ≡ k.Number → IsNumeral t.number

abbrev pub AreFine : List Token → Type 0
AreFine [] = Unit {0}
AreFine (t ∷ ts) = IsFine t × AreFine ts

-- ---- what stands at the front

-- a token at the front is a number, a word or a symbol
data FromFront (b3 b4 : Bool) (num wrd sign tok : Piece) : Type 0 where
  is_number : b3 ≡ true → num ≡ tok → FromFront b3 b4 num wrd sign tok
  is_word_piece : b4 ≡ true → wrd ≡ tok → FromFront b3 b4 num wrd sign tok
  is_symbol : sign ≡ tok → FromFront b3 b4 num wrd sign tok

front_by : (b1 b2 b3 b4 : Bool) (m n : ℕ) (num wrd sign : Piece) (kind : Kind) (v l : ℕ)
    → cond b1 (p.Blank m) (cond b2 (p.Blank n) (cond b3 num (cond b4 wrd sign))) ≡ p.Token kind v l → FromFront b3 b4 num wrd sign (p.Token kind v l)
front_by true b2 b3 b4 m n num wrd sign kind v l h = absurd cc
front_by false true b3 b4 m n num wrd sign kind v l h = absurd cc
front_by false false true b4 m n num wrd sign kind v l h = is_number refl h
front_by false false false true m n num wrd sign kind v l h = is_word_piece refl h
front_by false false false false m n num wrd sign kind v l h = is_symbol h

-- the symbols have kinds of their own
symbol_by : (c1 c2 c3 c4 c5 c6 c7 c8 c9 c10 c11 : Bool) (kind : Kind) (v l : ℕ)
    → cond c1 (p.Token k.Both 0 3) (cond c2 (p.Token k.Arrow 0 2) (cond c3 (p.Token k.Open 0 1) (cond c4 (p.Token k.Close 0 1) (cond c5 (p.Token k.Begin 0 1)
    (cond c6 (p.Token k.End 0 1) (cond c7 (p.Token k.Comma 0 1) (cond c8 (p.Token k.Semicolon 0 1) (cond c9 (p.Token k.Colon 0 1) (cond c10 (p.Token k.Dot 0 1)
    (cond c11 (p.Token k.Equals 0 1) (p.Bad k.BadByte))))))))))) ≡ p.Token kind v l → (kind ≡ k.Name → ⊥) × (kind ≡ k.Number → ⊥) × (1 ≤ l) × (l ≤ 3)
symbol_by true c2 c3 c4 c5 c6 c7 c8 c9 c10 c11 kind v l h = (λ e. cc, λ e. cc, let e : 3 ≡ l = cc in omega (arith, e), let e : 3 ≡ l = cc in omega (arith, e))
symbol_by false true c3 c4 c5 c6 c7 c8 c9 c10 c11 kind v l h = (λ e. cc, λ e. cc, let e : 2 ≡ l = cc in omega (arith, e), let e : 2 ≡ l = cc in omega (arith, e))
symbol_by false false true c4 c5 c6 c7 c8 c9 c10 c11 kind v l h = (λ e. cc, λ e. cc, let e : 1 ≡ l = cc in omega (arith, e), let e : 1 ≡ l = cc in omega (arith, e))
symbol_by false false false true c5 c6 c7 c8 c9 c10 c11 kind v l h = (λ e. cc, λ e. cc, let e : 1 ≡ l = cc in omega (arith, e), let e : 1 ≡ l = cc in omega (arith, e))
symbol_by false false false false true c6 c7 c8 c9 c10 c11 kind v l h = (λ e. cc, λ e. cc, let e : 1 ≡ l = cc in omega (arith, e), let e : 1 ≡ l = cc in omega (arith, e))
symbol_by false false false false false true c7 c8 c9 c10 c11 kind v l h = (λ e. cc, λ e. cc, let e : 1 ≡ l = cc in omega (arith, e), let e : 1 ≡ l = cc in omega (arith, e))
symbol_by false false false false false false true c8 c9 c10 c11 kind v l h = (λ e. cc, λ e. cc, let e : 1 ≡ l = cc in omega (arith, e), let e : 1 ≡ l = cc in omega (arith, e))
symbol_by false false false false false false false true c9 c10 c11 kind v l h = (λ e. cc, λ e. cc, let e : 1 ≡ l = cc in omega (arith, e), let e : 1 ≡ l = cc in omega (arith, e))
symbol_by false false false false false false false false true c10 c11 kind v l h = (λ e. cc, λ e. cc, let e : 1 ≡ l = cc in omega (arith, e), let e : 1 ≡ l = cc in omega (arith, e))
symbol_by false false false false false false false false false true c11 kind v l h = (λ e. cc, λ e. cc, let e : 1 ≡ l = cc in omega (arith, e), let e : 1 ≡ l = cc in omega (arith, e))
symbol_by false false false false false false false false false false true kind v l h = (λ e. cc, λ e. cc, let e : 1 ≡ l = cc in omega (arith, e), let e : 1 ≡ l = cc in omega (arith, e))
symbol_by false false false false false false false false false false false kind v l h = absurd cc

-- ---- words

taken_pass : (P : ℕ → Bool) (xs : List ℕ) → list_all P (take (prefix_len P xs) xs) ≡ true
taken_pass P [] = refl
taken_pass P (x ∷ xs) = by (P x) refl (taken_pass P xs)
  where
    by : (b : Bool) → P x ≡ b → list_all P (take (prefix_len P xs) xs) ≡ true → list_all P (take (cond b (1 + prefix_len P xs) 0) (x ∷ xs)) ≡ true
    by true is h = let e : 1 + prefix_len P xs ≡ suc (prefix_len P xs) = omega arith in rw (e, is, h) refl
    by false is h = refl

-- the kind of a word is no `Name` where the table has it, and never `Number`
abbrev HasNone : Kind → List (List ℕ × Kind) → Type 0
HasNone kind [] = Unit {0}
HasNone kind (x ∷ xs) = (x.1 ≡ kind → ⊥) × HasNone kind xs

not_in : (table : List (List ℕ × Kind)) (w : List ℕ) → HasNone k.Name table → lookup table w ≡ k.Name → list_any (bytes_eq w) (map (λ x. x.0) table) ≡ false
not_in [] w none h = refl
not_in (x ∷ xs) w none h = by (bytes_eq x.0 w) refl h (not_in xs w none.1)
  where
    by : (b : Bool) → bytes_eq x.0 w ≡ b → cond b x.1 (lookup xs w) ≡ k.Name → (lookup xs w ≡ k.Name → list_any (bytes_eq w) (map (λ x. x.0) xs) ≡ false)
        → list_any (bytes_eq w) (map (λ x. x.0) (x ∷ xs)) ≡ false
    by true is e rest = absurd (none.0 e)
    by false is e rest = rw (nat_list_eq_equiv.symm w x.0 ∙ is, rest e) refl

not_number : (table : List (List ℕ × Kind)) (w : List ℕ) → HasNone k.Number table → lookup table w ≡ k.Number → ⊥
not_number [] w none h = cc
not_number (x ∷ xs) w none h = by (bytes_eq x.0 w) h (not_number xs w none.1)
  where
    by : (b : Bool) → cond b x.1 (lookup xs w) ≡ k.Number → (lookup xs w ≡ k.Number → ⊥) → ⊥
    by true e rest = none.0 e
    by false e rest = rest e

-- ---- numbers

digit_some : (c : ℕ) → is_ascii_digit c ≡ true → eqb c 48 ≡ false → 1 ≤ digit_value c
digit_some c digit other =
    let r : IsInRange 48 57 c = grind (arith, digit) in
    let e = digit_value_digit c r in
    let ne : eqb c 48 ≡ false = other in
    grind (arith, e, r, ne)

value_some : (b : ℕ) (text : List ℕ) → is_ascii_digit b ≡ true → eqb b 48 ≡ false → 1 ≤ digits_value 10 (take (prefix_len is_ascii_digit (b ∷ text)) (b ∷ text))
value_some b text digit other =
    let n = prefix_len is_ascii_digit text in
    let e : 1 + n ≡ suc n = omega arith in
    rw (digit, e) (omega (arith, digit_some b digit other, grows (0 * 10 + digit_value b) (take n text)))

number_by : (a c : Bool) (w m : ℕ) (kind : Kind) (v l : ℕ) → cond (a || c) (p.Bad k.BadNumber) (p.Token k.Number w m) ≡ p.Token kind v l → (a ≡ false) × (c ≡ false) × (w ≡ v) × (k.Number ≡ kind)
number_by true c w m kind v l h = absurd cc
number_by false true w m kind v l h = absurd cc
number_by false false w m kind v l h = (refl, refl, cc, cc)

number_len : (a c : Bool) (w m : ℕ) (kind : Kind) (v l : ℕ) → cond (a || c) (p.Bad k.BadNumber) (p.Token k.Number w m) ≡ p.Token kind v l → m ≡ l
number_len true c w m kind v l h = absurd cc
number_len false true w m kind v l h = absurd cc
number_len false false w m kind v l h = cc

number_fine : (b : ℕ) (text : List ℕ) (kind : Kind) (v l : ℕ) → is_ascii_digit b ≡ true → number (b ∷ text) ≡ p.Token kind v l → (k.Number ≡ kind) × IsNumeral v
number_fine b text kind v l digit h =
    let value = digits_value 10 (take (prefix_len is_ascii_digit (b ∷ text)) (b ∷ text)) in
    let parts = number_by (eqb b 48) (ltb 65280 value) value (prefix_len is_ascii_digit (b ∷ text)) kind v l h in
    let some = value_some b text digit parts.0 in
    let low = ltb-false 65280 value parts.1 in
    (parts.3, (omega (arith, some, parts.2), omega (arith, low, parts.2)))

word_by : (c : Bool) (own : Kind) (m : ℕ) (kind : Kind) (v l : ℕ) → cond c (p.Bad k.BadName) (p.Token own 0 m) ≡ p.Token kind v l → (c ≡ false) × (own ≡ kind) × (m ≡ l)
word_by true own m kind v l h = absurd cc
word_by false own m kind v l h = (refl, cc, cc)

-- the reserved words with their kinds
abbrev table : List (List ℕ × Kind)
table = map (λ x. (x.0.now, x.1)) RESERVED

no_name_in_table : (w : List ℕ) → word_kind w ≡ k.Name → is_reserved w ≡ false
unfolding word_kind
no_name_in_table w h = not_in table w (λ e. cc, (λ e. cc, (λ e. cc, (λ e. cc, (λ e. cc, (λ e. cc, (λ e. cc, (λ e. cc, (λ e. cc, (λ e. cc, (λ e. cc, (λ e. cc, (λ e. cc, (λ e. cc, (λ e. cc, (λ e. cc, (λ e. cc, (λ e. cc, (λ e. cc, (λ e. cc, (λ e. cc, (λ e. cc, (λ e. cc, (λ e. cc, (λ e. cc, (λ e. cc, (λ e. cc, (λ e. cc, (λ e. cc, (λ e. cc, (λ e. cc, (λ e. cc, (λ e. cc, tt))))))))))))))))))))))))))))))))) h

never_number : (w : List ℕ) → word_kind w ≡ k.Number → ⊥
unfolding word_kind
never_number w h = not_number table w (λ e. cc, (λ e. cc, (λ e. cc, (λ e. cc, (λ e. cc, (λ e. cc, (λ e. cc, (λ e. cc, (λ e. cc, (λ e. cc, (λ e. cc, (λ e. cc, (λ e. cc, (λ e. cc, (λ e. cc, (λ e. cc, (λ e. cc, (λ e. cc, (λ e. cc, (λ e. cc, (λ e. cc, (λ e. cc, (λ e. cc, (λ e. cc, (λ e. cc, (λ e. cc, (λ e. cc, (λ e. cc, (λ e. cc, (λ e. cc, (λ e. cc, (λ e. cc, (λ e. cc, tt))))))))))))))))))))))))))))))))) h

word_text : (b : ℕ) (text : List ℕ) → is_ascii_alphabetic b ≡ true → is_word (take (prefix_len is_word_byte (b ∷ text)) (b ∷ text)) ≡ true
word_text b text letter =
    let n = prefix_len is_word_byte text in
    let e : 1 + n ≡ suc n = omega arith in
    let in_word : is_word_byte b ≡ true = grind (arith, letter) in
    rw (in_word, e, letter, taken_pass is_word_byte text) refl

word_fine : (b : ℕ) (text : List ℕ) (kind : Kind) (v l : ℕ) → is_ascii_alphabetic b ≡ true → word (b ∷ text) ≡ p.Token kind v l → (kind ≡ k.Number → ⊥) × (kind ≡ k.Name → IsName (take l (b ∷ text)))
word_fine b text kind v l letter h =
    let len = prefix_len is_word_byte (b ∷ text) in
    let t = take len (b ∷ text) in
    let parts = word_by (ltb 64 len) (word_kind t) len kind v l h in (
      λ e. never_number t (parts.1 ∙ e),
      λ e. subst (λ (n : ℕ). IsName (take n (b ∷ text))) parts.2 (record {
        word = word_text b text letter;
        short = omega (arith, ltb-false 64 len parts.0, length-take len (b ∷ text));
        free = no_name_in_table t (parts.1 ∙ e);
      }),
    )

-- ---- what no token begins with

symbol_bad : (c1 c2 c3 c4 c5 c6 c7 c8 c9 c10 c11 : Bool) (kind : Kind)
    → cond c1 (p.Token k.Both 0 3) (cond c2 (p.Token k.Arrow 0 2) (cond c3 (p.Token k.Open 0 1) (cond c4 (p.Token k.Close 0 1) (cond c5 (p.Token k.Begin 0 1)
    (cond c6 (p.Token k.End 0 1) (cond c7 (p.Token k.Comma 0 1) (cond c8 (p.Token k.Semicolon 0 1) (cond c9 (p.Token k.Colon 0 1) (cond c10 (p.Token k.Dot 0 1)
    (cond c11 (p.Token k.Equals 0 1) (p.Bad k.BadByte))))))))))) ≡ p.Bad kind → k.BadByte ≡ kind
symbol_bad true c2 c3 c4 c5 c6 c7 c8 c9 c10 c11 kind h = absurd cc
symbol_bad false true c3 c4 c5 c6 c7 c8 c9 c10 c11 kind h = absurd cc
symbol_bad false false true c4 c5 c6 c7 c8 c9 c10 c11 kind h = absurd cc
symbol_bad false false false true c5 c6 c7 c8 c9 c10 c11 kind h = absurd cc
symbol_bad false false false false true c6 c7 c8 c9 c10 c11 kind h = absurd cc
symbol_bad false false false false false true c7 c8 c9 c10 c11 kind h = absurd cc
symbol_bad false false false false false false true c8 c9 c10 c11 kind h = absurd cc
symbol_bad false false false false false false false true c9 c10 c11 kind h = absurd cc
symbol_bad false false false false false false false false true c10 c11 kind h = absurd cc
symbol_bad false false false false false false false false false true c11 kind h = absurd cc
symbol_bad false false false false false false false false false false true kind h = absurd cc
symbol_bad false false false false false false false false false false false kind h = cc

number_bad : (a c : Bool) (w m : ℕ) (kind : Kind) → cond (a || c) (p.Bad k.BadNumber) (p.Token k.Number w m) ≡ p.Bad kind → k.BadNumber ≡ kind
number_bad true c w m kind h = cc
number_bad false true w m kind h = cc
number_bad false false w m kind h = absurd cc

word_bad : (c : Bool) (own : Kind) (m : ℕ) (kind : Kind) → cond c (p.Bad k.BadName) (p.Token own 0 m) ≡ p.Bad kind → k.BadName ≡ kind
word_bad true own m kind h = cc
word_bad false own m kind h = absurd cc

bad_by : (b1 b2 b3 b4 : Bool) (m n : ℕ) (num wrd sign : Piece) (kind : Kind) → cond b1 (p.Blank m) (cond b2 (p.Blank n) (cond b3 num (cond b4 wrd sign))) ≡ p.Bad kind
    → FromFront b3 b4 num wrd sign (p.Bad kind)
bad_by true b2 b3 b4 m n num wrd sign kind h = absurd cc
bad_by false true b3 b4 m n num wrd sign kind h = absurd cc
bad_by false false true b4 m n num wrd sign kind h = is_number refl h
bad_by false false false true m n num wrd sign kind h = is_word_piece refl h
bad_by false false false false m n num wrd sign kind h = is_symbol h

-- ---- pieces

abbrev is_blank : ℕ → Bool
is_blank b = b == 32 || b == 9 || b == 10 || b == 13

abbrev in_line : ℕ → Bool
in_line b = not (b == 10)

abbrev begins_comment : ℕ → List ℕ → Bool
begins_comment b text = b == 47 && slice_index (b ∷ text) 1 == 47

-- a piece that is a token: what its kind says of it, and that it has a byte
record IsToken (b : ℕ) (text : List ℕ) (kind : Kind) (v l : ℕ) : Type 0 where
  name : kind ≡ k.Name → IsName (take l (b ∷ text))
  number : kind ≡ k.Number → IsNumeral v
  some : 1 ≤ l
  near : l ≤ length (b ∷ text) + 2

some_front : (P : ℕ → Bool) (b : ℕ) (text : List ℕ) → P b ≡ true → 1 ≤ prefix_len P (b ∷ text)
some_front P b text h = rw h (omega arith)

token_from : (b : ℕ) (text : List ℕ) (kind : Kind) (v l : ℕ) → FromFront (is_ascii_digit b) (is_ascii_alphabetic b) (number (b ∷ text)) (word (b ∷ text)) (symbol (b ∷ text)) (p.Token kind v l) → IsToken b text kind v l
token_from b text kind v l (is_number digit h) =
    let value = digits_value 10 (take (prefix_len is_ascii_digit (b ∷ text)) (b ∷ text)) in
    let fine = number_fine b text kind v l digit h in
    let same = number_len (eqb b 48) (ltb 65280 value) value (prefix_len is_ascii_digit (b ∷ text)) kind v l h in
    record { name = λ e. let clash : k.Number ≡ k.Name = fine.0 ∙ e in absurd cc; number = λ e. fine.1; some = omega (arith, same, some_front is_ascii_digit b text digit); near = omega (arith, same, prefix_len-le-length is_ascii_digit (b ∷ text)) }
token_from b text kind v l (is_word_piece letter h) =
    let fine = word_fine b text kind v l letter h in
    let in_word : is_word_byte b ≡ true = grind (arith, letter) in
    let len = prefix_len is_word_byte (b ∷ text) in
    let parts = word_by (ltb 64 len) (word_kind (take len (b ∷ text))) len kind v l h in
    record { name = fine.1; number = λ e. absurd (fine.0 e); some = omega (arith, parts.2, some_front is_word_byte b text in_word); near = omega (arith, parts.2, prefix_len-le-length is_word_byte (b ∷ text)) }
token_from b text kind v l (is_symbol h) =
    let fine = symbol_by _ _ _ _ _ _ _ _ _ _ _ kind v l h in
    record { name = λ e. absurd (fine.0 e); number = λ e. absurd (fine.1 e); some = fine.2; near = omega (arith, fine.3) }

piece_token : (b : ℕ) (text : List ℕ) (kind : Kind) (v l : ℕ) → piece (b ∷ text) ≡ p.Token kind v l → IsToken b text kind v l
unfolding piece
piece_token b text kind v l h = token_from b text kind v l (front_by (is_blank b) (begins_comment b text) (is_ascii_digit b) (is_ascii_alphabetic b) (prefix_len is_blank (b ∷ text)) (prefix_len in_line (b ∷ text)) (number (b ∷ text)) (word (b ∷ text)) (symbol (b ∷ text)) kind v l h)

-- a fault has a kind of its own
abbrev IsFault : Kind → Type 0
IsFault kind = (kind ≡ k.Name → ⊥) × (kind ≡ k.Number → ⊥)

fault_from : (b : ℕ) (text : List ℕ) (kind : Kind) → FromFront (is_ascii_digit b) (is_ascii_alphabetic b) (number (b ∷ text)) (word (b ∷ text)) (symbol (b ∷ text)) (p.Bad kind) → IsFault kind
fault_from b text kind (is_number digit h) =
    let value = digits_value 10 (take (prefix_len is_ascii_digit (b ∷ text)) (b ∷ text)) in
    let own = number_bad (eqb b 48) (ltb 65280 value) value (prefix_len is_ascii_digit (b ∷ text)) kind h in
    (λ e. let clash : k.BadNumber ≡ k.Name = own ∙ e in cc, λ e. let clash : k.BadNumber ≡ k.Number = own ∙ e in cc)
fault_from b text kind (is_word_piece letter h) =
    let len = prefix_len is_word_byte (b ∷ text) in
    let own = word_bad (ltb 64 len) (word_kind (take len (b ∷ text))) len kind h in
    (λ e. let clash : k.BadName ≡ k.Name = own ∙ e in cc, λ e. let clash : k.BadName ≡ k.Number = own ∙ e in cc)
fault_from b text kind (is_symbol h) =
    let own = symbol_bad _ _ _ _ _ _ _ _ _ _ _ kind h in
    (λ e. let clash : k.BadByte ≡ k.Name = own ∙ e in cc, λ e. let clash : k.BadByte ≡ k.Number = own ∙ e in cc)

piece_fault : (b : ℕ) (text : List ℕ) (kind : Kind) → piece (b ∷ text) ≡ p.Bad kind → IsFault kind
unfolding piece
piece_fault b text kind h = fault_from b text kind (bad_by (is_blank b) (begins_comment b text) (is_ascii_digit b) (is_ascii_alphabetic b) (prefix_len is_blank (b ∷ text)) (prefix_len in_line (b ∷ text)) (number (b ∷ text)) (word (b ∷ text)) (symbol (b ∷ text)) kind h)

symbol_blank : (c1 c2 c3 c4 c5 c6 c7 c8 c9 c10 c11 : Bool) (m : ℕ)
    → cond c1 (p.Token k.Both 0 3) (cond c2 (p.Token k.Arrow 0 2) (cond c3 (p.Token k.Open 0 1) (cond c4 (p.Token k.Close 0 1) (cond c5 (p.Token k.Begin 0 1)
    (cond c6 (p.Token k.End 0 1) (cond c7 (p.Token k.Comma 0 1) (cond c8 (p.Token k.Semicolon 0 1) (cond c9 (p.Token k.Colon 0 1) (cond c10 (p.Token k.Dot 0 1)
    (cond c11 (p.Token k.Equals 0 1) (p.Bad k.BadByte))))))))))) ≡ p.Blank m → ⊥
symbol_blank true c2 c3 c4 c5 c6 c7 c8 c9 c10 c11 m h = cc
symbol_blank false true c3 c4 c5 c6 c7 c8 c9 c10 c11 m h = cc
symbol_blank false false true c4 c5 c6 c7 c8 c9 c10 c11 m h = cc
symbol_blank false false false true c5 c6 c7 c8 c9 c10 c11 m h = cc
symbol_blank false false false false true c6 c7 c8 c9 c10 c11 m h = cc
symbol_blank false false false false false true c7 c8 c9 c10 c11 m h = cc
symbol_blank false false false false false false true c8 c9 c10 c11 m h = cc
symbol_blank false false false false false false false true c9 c10 c11 m h = cc
symbol_blank false false false false false false false false true c10 c11 m h = cc
symbol_blank false false false false false false false false false true c11 m h = cc
symbol_blank false false false false false false false false false false true m h = cc
symbol_blank false false false false false false false false false false false m h = cc

number_blank : (a c : Bool) (w m n : ℕ) → cond (a || c) (p.Bad k.BadNumber) (p.Token k.Number w m) ≡ p.Blank n → ⊥
number_blank true c w m n h = cc
number_blank false true w m n h = cc
number_blank false false w m n h = cc

word_blank : (c : Bool) (own : Kind) (m n : ℕ) → cond c (p.Bad k.BadName) (p.Token own 0 m) ≡ p.Blank n → ⊥
word_blank true own m n h = cc
word_blank false own m n h = cc

blank_by : (b1 b2 b3 b4 : Bool) (m n : ℕ) (num wrd sign : Piece) (l : ℕ) → (num ≡ p.Blank l → ⊥) → (wrd ≡ p.Blank l → ⊥) → (sign ≡ p.Blank l → ⊥)
    → cond b1 (p.Blank m) (cond b2 (p.Blank n) (cond b3 num (cond b4 wrd sign))) ≡ p.Blank l → (m ≡ l) ⊎ (n ≡ l)
blank_by true b2 b3 b4 m n num wrd sign l x y z h = inl cc
blank_by false true b3 b4 m n num wrd sign l x y z h = inr cc
blank_by false false true b4 m n num wrd sign l x y z h = absurd (x h)
blank_by false false false true m n num wrd sign l x y z h = absurd (y h)
blank_by false false false false m n num wrd sign l x y z h = absurd (z h)

no_number : (b : ℕ) (text : List ℕ) (l : ℕ) → number (b ∷ text) ≡ p.Blank l → ⊥
no_number b text l h = number_blank (eqb b 48) (ltb 65280 (digits_value 10 (take (prefix_len is_ascii_digit (b ∷ text)) (b ∷ text)))) (digits_value 10 (take (prefix_len is_ascii_digit (b ∷ text)) (b ∷ text))) (prefix_len is_ascii_digit (b ∷ text)) l h

no_word : (b : ℕ) (text : List ℕ) (l : ℕ) → word (b ∷ text) ≡ p.Blank l → ⊥
no_word b text l h = word_blank (ltb 64 (prefix_len is_word_byte (b ∷ text))) (word_kind (take (prefix_len is_word_byte (b ∷ text)) (b ∷ text))) (prefix_len is_word_byte (b ∷ text)) l h

no_symbol : (b : ℕ) (text : List ℕ) (l : ℕ) → symbol (b ∷ text) ≡ p.Blank l → ⊥
no_symbol b text l h = symbol_blank _ _ _ _ _ _ _ _ _ _ _ l h

piece_blank : (b : ℕ) (text : List ℕ) (l : ℕ) → piece (b ∷ text) ≡ p.Blank l → l ≤ length (b ∷ text) + 2
unfolding piece
piece_blank b text l h = elim (blank_by (is_blank b) (begins_comment b text) (is_ascii_digit b) (is_ascii_alphabetic b) (prefix_len is_blank (b ∷ text)) (prefix_len in_line (b ∷ text)) (number (b ∷ text)) (word (b ∷ text)) (symbol (b ∷ text)) l (no_number b text l) (no_word b text l) (no_symbol b text l) h) [
  | inl e ↦ omega (arith, e, prefix_len-le-length is_blank (b ∷ text))
  | inr e ↦ omega (arith, e, prefix_len-le-length in_line (b ∷ text))
]

kept_name : (kind : Kind) (bytes : List ℕ) → kind ≡ k.Name → bytes ≡ kept_text kind bytes
kept_name kind bytes e = rw e refl

fine_token : (b at : ℕ) (text : List ℕ) (kind : Kind) (v l : ℕ) → IsToken b text kind v l → IsFine (token_at kind at v (take l (b ∷ text)))
fine_token b at text kind v l t = record { name = λ e. subst IsName (kept_name kind (take l (b ∷ text)) e) (t.name e); number = t.number }

fine_fault : (kind : Kind) (at : ℕ) → IsFault kind → IsFine (token_at kind at 0 [])
fine_fault kind at f = record { name = λ e. absurd (f.0 e); number = λ e. absurd (f.1 e) }

-- ---- all tokens of a text

pub tokens_fine : {at : ℕ} {text : List ℕ} {ts : List Token} → Lexes at text ts → AreFine ts
tokens_fine end = (record { name = λ e. absurd cc; number = λ e. absurd cc }, tt)
tokens_fine (fault {at} {b} {text} {kind} h) = (fine_fault kind at (piece_fault b text kind h), tt)
tokens_fine (blank h later) = tokens_fine later
tokens_fine (one {at} {b} {n} {v} {text} {kind} h later) = (fine_token b at text kind v n (piece_token b text kind v n h), tokens_fine later)

-- tokens from a place on and up to another, each at a later place than the one before
abbrev pub Rise : ℕ → ℕ → List Token → Type 0
Rise limit from [] = Unit {0}
Rise limit from (t ∷ ts) = (from ≤ t.at) × (t.at ≤ limit) × Rise limit (t.at + 1) ts

rise_sooner : (limit a b : ℕ) (ts : List Token) → a ≤ b → Rise limit b ts → Rise limit a ts
rise_sooner limit a b [] l h = tt
rise_sooner limit a b (t ∷ ts) l h = (omega (arith, l, h.0), h.1, h.2)

-- a symbol may be thought to reach past the end of the text by two bytes
abbrev pub slack : List ℕ → ℕ
slack [] = 0
slack (b ∷ text) = 2

next_by : (at n len limit : ℕ) (rest : List ℕ) → n ≤ len + 2 → at + len + 2 ≤ limit → length rest ≡ len - n → at + n + length rest + slack rest ≤ limit
next_by at n len limit [] near l is = omega (arith, near, l)
next_by at n len limit (b ∷ rest) near l is = omega (arith, near, l, is)

next_fits : (at n limit b : ℕ) (text : List ℕ) → n ≤ length (b ∷ text) + 2 → at + length (b ∷ text) + 2 ≤ limit → at + n + length (drop n (b ∷ text)) + slack (drop n (b ∷ text)) ≤ limit
next_fits at n limit b text near l = next_by at n (length (b ∷ text)) limit (drop n (b ∷ text)) near l (length-drop n (b ∷ text))

pub tokens_rise : (limit : ℕ) {at : ℕ} {text : List ℕ} {ts : List Token} → Lexes at text ts → at + length text + slack text ≤ limit → Rise limit at ts
tokens_rise limit (end {at}) l = (omega arith, omega (arith, l), tt)
tokens_rise limit (fault {at} {b} {text} {kind} h) l = (omega arith, omega (arith, l), tt)
tokens_rise limit (blank {at} {b} {n} {text} {ts} h later) l =
    rise_sooner limit at (at + n) ts (omega arith) (tokens_rise limit later (next_fits at n limit b text (piece_blank b text n h) l))
tokens_rise limit (one {at} {b} {n} {v} {text} {kind} {ts} h later) l =
    let t = piece_token b text kind v n h in
    (omega arith, omega (arith, l), rise_sooner limit (at + 1) (at + n) ts (omega (arith, t.some)) (tokens_rise limit later (next_fits at n limit b text t.near l)))
