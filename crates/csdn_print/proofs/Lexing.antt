-- How printed text falls into tokens.
use Rattle.std.proofs.Common.{◌≡◌, ℕ, suc, ◌+◌, ◌-◌, ◌<◌, ◌≤◌, Bool, true, false, not, ◌&&◌, ◌||◌, cond, eqb, ltb, List, [], ◌∷◌, ◌++◌, length, drop, map, get_or, refl, sym, subst, ap, ◌∙◌, arith}
use Rattle.std.specs.Prelude.{slice_index, ◌==◌, decimal}
use Rattle.std.specs.Char.{is_ascii_digit, is_ascii_alphabetic}
use Rattle.std.specs.List.{list_all, list_any, prefix_len}
use Rattle.std.specs.Str.{bytes_eq}
use Rattle.std.specs.Str.Parse.{digits_value, AllDigits}
use Rattle.std.proofs.Math.Seq.{take-append_seam, drop-append_seam}
use Rattle.std.proofs.lemmas.Bool.{le-ltb, and_parts}
use Rattle.std.proofs.lemmas.Cmp.{nat_list_eq_equiv}
use Rattle.std.proofs.lemmas.Fmt.{decimal_is_IsNumeral, first_decimal}
use Rattle.csdn_core.specs.Names.{IsName, is_word, is_word_byte}
use Rattle.csdn_core.specs.WellSorted.{IsNumeral}
use Rattle.csdn_tokens.specs.declared.Kind.{Kind}
use Rattle.csdn_tokens.specs.declared.Kind.TheVariants as k
use Rattle.csdn_tokens.specs.declared.Token.{Token}
use Rattle.csdn_tokens.specs.declared.Piece.{Piece}
use Rattle.csdn_tokens.specs.declared.Piece.TheVariants as p
use Rattle.csdn_tokens.specs.declared.TheConstants.{RESERVED}
use Rattle.csdn_tokens.specs.Lex.{lookup, word_kind, word, number, symbol, piece, token_at, Lexes}
use Rattle.csdn_tokens.specs.Lex.Lexes.{fault, blank, one}

-- whether no word goes on here: the text ends, or begins with no letter, digit or underscore
abbrev pub opens : List ℕ → Bool
opens [] = true
opens (b ∷ bs) = not (is_word_byte b)

pub opens-append : (xs ys : List ℕ) → opens xs ≡ true → opens ys ≡ true → opens (xs ++ ys) ≡ true
opens-append [] ys h i = i
opens-append (x ∷ xs) ys h i = h

-- ---- runs

abbrev stops : (ℕ → Bool) → List ℕ → Bool
stops P [] = true
stops P (b ∷ bs) = not (P b)

stopped : (P : ℕ → Bool) (rest : List ℕ) → stops P rest ≡ true → prefix_len P rest ≡ 0
stopped P [] h = refl
stopped P (b ∷ bs) h = by (P b) h
  where
    by : (c : Bool) → not c ≡ true → cond c (1 + prefix_len P bs) 0 ≡ 0
    by true e = absurd cc
    by false e = refl

run_length : (P : ℕ → Bool) (w rest : List ℕ) → list_all P w ≡ true → stops P rest ≡ true → prefix_len P (w ++ rest) ≡ length w
run_length P [] rest h i = stopped P rest i
run_length P (x ∷ xs) rest h i = by (P x) h (run_length P xs rest)
  where
    by : (c : Bool) → (c && list_all P xs) ≡ true → (list_all P xs ≡ true → stops P rest ≡ true → prefix_len P (xs ++ rest) ≡ length xs) → cond c (1 + prefix_len P (xs ++ rest)) 0 ≡ suc (length xs)
    by true e more = let n = more e i in omega (arith, n)
    by false e more = absurd cc

-- ---- blanks

abbrev pub is_blank : ℕ → Bool
is_blank b = b == 32 || b == 9 || b == 10 || b == 13

piece_blank : (b : ℕ) (text : List ℕ) → is_blank b ≡ true → piece (b ∷ text) ≡ p.Blank (1 + prefix_len is_blank text)
unfolding piece
piece_blank b text h = rw h refl

-- a blank joins the blanks behind it
blank_joins : {at : ℕ} {rest : List ℕ} {ts : List Token} (b c : ℕ) → is_blank b ≡ true → is_blank c ≡ true → Lexes (at + 1) (c ∷ rest) ts → Lexes at (b ∷ c ∷ rest) ts
blank_joins {at} {rest} b c is is' (fault h) = let e : p.Blank (1 + prefix_len is_blank rest) ≡ p.Bad _ = sym (piece_blank c rest is') ∙ h in absurd cc
blank_joins {at} {rest} b c is is' (one h later) = let e : p.Blank (1 + prefix_len is_blank rest) ≡ p.Token _ _ _ = sym (piece_blank c rest is') ∙ h in absurd cc
blank_joins {at} {rest} {ts} b c is is' (blank {n = n} h later) =
    let e : p.Blank (1 + prefix_len is_blank rest) ≡ p.Blank n = sym (piece_blank c rest is') ∙ h in
    let m : 1 + prefix_len is_blank rest ≡ n = cc in
    let run : 1 + prefix_len is_blank (c ∷ rest) ≡ suc n = rw is' (omega (arith, m)) in
    let place : (at + 1) + n ≡ at + suc n = omega arith in
    blank {n = suc n} (piece_blank b (c ∷ rest) is ∙ ap p.Blank run) (subst (λ i. Lexes i (drop n (c ∷ rest)) ts) place later)

blank_alone : {at : ℕ} {rest : List ℕ} {ts : List Token} (b : ℕ) → is_blank b ≡ true → stops is_blank rest ≡ true → Lexes (at + 1) rest ts → Lexes at (b ∷ rest) ts
blank_alone {at} {rest} b is stop h = blank {n = 1} (piece_blank b rest is ∙ ap p.Blank (let z = stopped is_blank rest stop in omega (arith, z))) h

pub after_blank : {at : ℕ} {rest : List ℕ} {ts : List Token} (b : ℕ) → is_blank b ≡ true → Lexes (at + 1) rest ts → Lexes at (b ∷ rest) ts
after_blank {rest = []} b is h = blank_alone b is refl h
after_blank {at} {rest = c ∷ rest} {ts} b is h = by (is_blank c) refl
  where
    by : (v : Bool) → is_blank c ≡ v → Lexes at (b ∷ c ∷ rest) ts
    by true is' = blank_joins b c is is' h
    by false is' = blank_alone b is (rw is' refl) h

-- ---- symbols

abbrev pub IsSymbol : ℕ → Kind → Type 0
IsSymbol b kind = (text : List ℕ) → piece (b ∷ text) ≡ p.Token kind 0 1

pub open_is : IsSymbol 40 k.Open
unfolding piece
open_is text = refl

pub close_is : IsSymbol 41 k.Close
unfolding piece
close_is text = refl

pub begin_is : IsSymbol 123 k.Begin
unfolding piece
begin_is text = refl

pub end_is : IsSymbol 125 k.End
unfolding piece
end_is text = refl

pub comma_is : IsSymbol 44 k.Comma
unfolding piece
comma_is text = refl

pub semicolon_is : IsSymbol 59 k.Semicolon
unfolding piece
semicolon_is text = refl

pub colon_is : IsSymbol 58 k.Colon
unfolding piece
colon_is text = refl

pub dot_is : IsSymbol 46 k.Dot
unfolding piece
dot_is text = refl

pub equals_is : IsSymbol 61 k.Equals
unfolding piece
equals_is text = refl

pub arrow_is : (text : List ℕ) → piece (45 ∷ 62 ∷ text) ≡ p.Token k.Arrow 0 2
unfolding piece
arrow_is text = refl

pub both_is : (text : List ℕ) → piece (60 ∷ 45 ∷ 62 ∷ text) ≡ p.Token k.Both 0 3
unfolding piece
both_is text = refl

-- ---- words

-- a word of this kind
pub record IsWord (w : List ℕ) (kind : Kind) : Type 0 where
  pub word : is_word w ≡ true
  pub short : length w ≤ 64
  pub kind_is : word_kind w ≡ kind

-- a reserved word, as far as it computes
pub reserved : (w : List ℕ) (kind : Kind) → is_word w ≡ true → length w ≤ 64 → word_kind w ≡ kind → IsWord w kind
reserved w kind a b c = record { word = a; short = b; kind_is = c }

word_front : (b : ℕ) (w rest : List ℕ) → is_ascii_alphabetic b ≡ true → list_all is_word_byte w ≡ true → length (b ∷ w) ≤ 64 → opens rest ≡ true
    → word (b ∷ (w ++ rest)) ≡ p.Token (word_kind (b ∷ w)) 0 (length (b ∷ w))
word_front b w rest letter all few stop =
    let in_word : is_word_byte b ≡ true = grind (arith, letter) in
    let whole : list_all is_word_byte (b ∷ w) ≡ true = rw in_word all in
    let len = run_length is_word_byte (b ∷ w) rest whole stop in
    let low : ltb 64 (length (b ∷ w)) ≡ false = le-ltb 64 (length (b ∷ w)) few in
    rw (len, low, take-append_seam (b ∷ w) rest) refl

abbrev begins_comment : ℕ → List ℕ → Bool
begins_comment b text = b == 47 && slice_index (b ∷ text) 1 == 47

to_word : (b1 b2 b3 b4 : Bool) (x y num wrd sign tok : Piece) → b1 ≡ false → b2 ≡ false → b3 ≡ false → b4 ≡ true → wrd ≡ tok → cond b1 x (cond b2 y (cond b3 num (cond b4 wrd sign))) ≡ tok
to_word b1 b2 b3 b4 x y num wrd sign tok e1 e2 e3 e4 h = rw (e1, e2, e3, e4) h

to_number : (b1 b2 b3 b4 : Bool) (x y num wrd sign tok : Piece) → b1 ≡ false → b2 ≡ false → b3 ≡ true → num ≡ tok → cond b1 x (cond b2 y (cond b3 num (cond b4 wrd sign))) ≡ tok
to_number b1 b2 b3 b4 x y num wrd sign tok e1 e2 e3 h = rw (e1, e2, e3) h

word_piece : (b : ℕ) (w rest : List ℕ) → is_ascii_alphabetic b ≡ true → list_all is_word_byte w ≡ true → length (b ∷ w) ≤ 64 → opens rest ≡ true
    → piece (b ∷ (w ++ rest)) ≡ p.Token (word_kind (b ∷ w)) 0 (length (b ∷ w))
unfolding piece
word_piece b w rest letter all few stop =
    let text = b ∷ (w ++ rest) in
    let no_blank : is_blank b ≡ false = grind (arith, letter) in
    let no_slash : eqb b 47 ≡ false = grind (arith, letter) in
    let no_comment : begins_comment b (w ++ rest) ≡ false = rw no_slash refl in
    let no_digit : is_ascii_digit b ≡ false = grind (arith, letter) in
    to_word (is_blank b) (begins_comment b (w ++ rest)) (is_ascii_digit b) (is_ascii_alphabetic b) _ _ (number text) (word text) (symbol text) _
    no_blank no_comment no_digit letter (word_front b w rest letter all few stop)

pub after_word : {at : ℕ} {rest : List ℕ} {ts : List Token} (w : List ℕ) (kind : Kind) → IsWord w kind → opens rest ≡ true → Lexes (at + length w) rest ts
    → Lexes at (w ++ rest) (token_at kind at 0 w ∷ ts)
after_word [] kind is stop h = let e : false ≡ true = is.word in absurd cc
after_word {at} {rest} {ts} (b ∷ w) kind is stop h = by (is_ascii_alphabetic b) refl is.word
  where
    by : (v : Bool) → is_ascii_alphabetic b ≡ v → (v && list_all is_word_byte w) ≡ true → Lexes at (b ∷ (w ++ rest)) (token_at kind at 0 (b ∷ w) ∷ ts)
    by false letter all = absurd cc
    by true letter all =
        let e = word_piece b w rest letter all is.short stop ∙ ap (λ x. p.Token x 0 (length (b ∷ w))) is.kind_is in
        let h' : Lexes (at + length (b ∷ w)) (drop (length (b ∷ w)) ((b ∷ w) ++ rest)) ts = subst (λ xs. Lexes (at + length (b ∷ w)) xs ts) (sym (drop-append_seam (b ∷ w) rest)) h in
        subst (λ xs. Lexes at (b ∷ (w ++ rest)) (token_at kind at 0 xs ∷ ts)) (take-append_seam (b ∷ w) rest) (one e h')

-- a name that is no reserved word is of the kind of names
not_found : (table : List (List ℕ × Kind)) (w : List ℕ) → list_any (bytes_eq w) (map (λ x. x.0) table) ≡ false → lookup table w ≡ k.Name
not_found [] w h = refl
not_found (x ∷ xs) w h = by (bytes_eq w x.0) refl h (not_found xs w)
  where
    by : (v : Bool) → bytes_eq w x.0 ≡ v → (v || list_any (bytes_eq w) (map (λ x. x.0) xs)) ≡ false → (list_any (bytes_eq w) (map (λ x. x.0) xs) ≡ false → lookup xs w ≡ k.Name)
        → lookup (x ∷ xs) w ≡ k.Name
    by true is e more = absurd cc
    by false is e more = rw (nat_list_eq_equiv.symm x.0 w ∙ is) (more e)

pub name_is : (w : List ℕ) → IsName w → IsWord w k.Name
unfolding word_kind
name_is w is = record { word = is.word; short = is.short; kind_is = not_found (map (λ x. (x.0.now, x.1)) RESERVED) w is.free }

-- ---- numbers

number_front : (b : ℕ) (w rest : List ℕ) → list_all is_ascii_digit (b ∷ w) ≡ true → eqb b 48 ≡ false → digits_value 10 (b ∷ w) ≤ 65280 → stops is_ascii_digit rest ≡ true
    → number (b ∷ (w ++ rest)) ≡ p.Token k.Number (digits_value 10 (b ∷ w)) (length (b ∷ w))
number_front b w rest all some few stop =
    let len = run_length is_ascii_digit (b ∷ w) rest all stop in
    let low : ltb 65280 (digits_value 10 (b ∷ w)) ≡ false = le-ltb 65280 (digits_value 10 (b ∷ w)) few in
    rw (len, take-append_seam (b ∷ w) rest, some, low) refl

digit_by : (c : ℕ) (b1 b2 b3 b4 b5 b6 : Bool) → ltb c 48 ≡ b1 → ltb c 58 ≡ b2 → ltb c 65 ≡ b3 → ltb c 91 ≡ b4 → ltb c 97 ≡ b5 → ltb c 123 ≡ b6
    → cond b1 36 (cond b2 (c - 48) (cond b3 36 (cond b4 (c - 55) (cond b5 36 (cond b6 (c - 87) 36))))) < 10 → is_ascii_digit c ≡ true
digit_by c true b2 b3 b4 b5 b6 e1 e2 e3 e4 e5 e6 h = absurd (omega (arith, h))
digit_by c false true b3 b4 b5 b6 e1 e2 e3 e4 e5 e6 h = grind (arith, e1, e2)
digit_by c false false true b4 b5 b6 e1 e2 e3 e4 e5 e6 h = absurd (omega (arith, h))
digit_by c false false false true b5 b6 e1 e2 e3 e4 e5 e6 h = absurd (grind (arith, e3, h))
digit_by c false false false false true b6 e1 e2 e3 e4 e5 e6 h = absurd (omega (arith, h))
digit_by c false false false false false true e1 e2 e3 e4 e5 e6 h = absurd (grind (arith, e5, h))
digit_by c false false false false false false e1 e2 e3 e4 e5 e6 h = absurd (omega (arith, h))

digits_all : (ds : List ℕ) → AllDigits 10 ds → list_all is_ascii_digit ds ≡ true
digits_all [] h = refl
digits_all (d ∷ ds) h = rw (digit_by d _ _ _ _ _ _ refl refl refl refl refl refl h.0) (digits_all ds h.1)

number_piece : (b : ℕ) (w rest : List ℕ) → list_all is_ascii_digit (b ∷ w) ≡ true → is_ascii_digit b ≡ true → eqb b 48 ≡ false → digits_value 10 (b ∷ w) ≤ 65280 → stops is_ascii_digit rest ≡ true
    → piece (b ∷ (w ++ rest)) ≡ p.Token k.Number (digits_value 10 (b ∷ w)) (length (b ∷ w))
unfolding piece
number_piece b w rest all digit some few stop =
    let text = b ∷ (w ++ rest) in
    let no_blank : is_blank b ≡ false = grind (arith, digit) in
    let no_slash : eqb b 47 ≡ false = grind (arith, digit) in
    let no_comment : begins_comment b (w ++ rest) ≡ false = rw no_slash refl in
    to_number (is_blank b) (begins_comment b (w ++ rest)) (is_ascii_digit b) (is_ascii_alphabetic b) _ _ (number text) (word text) (symbol text) _
    no_blank no_comment digit (number_front b w rest all some few stop)

no_digit_opens : (rest : List ℕ) → opens rest ≡ true → stops is_ascii_digit rest ≡ true
no_digit_opens [] h = refl
no_digit_opens (b ∷ bs) h = by (is_ascii_digit b) refl
  where
    by : (v : Bool) → is_ascii_digit b ≡ v → not v ≡ true
    by true is = let e : is_word_byte b ≡ true = grind (arith, is) in let f : true ≡ false = cc in absurd cc
    by false is = refl

pub after_number : {at : ℕ} {rest : List ℕ} {ts : List Token} (n : ℕ) → IsNumeral n → opens rest ≡ true → Lexes (at + length (decimal n)) rest ts
    → Lexes at (decimal n ++ rest) (token_at k.Number at n (decimal n) ∷ ts)
after_number {at} {rest} {ts} n is stop h =
    let own = decimal_is_IsNumeral n (omega (arith, is.1)) in
    by (decimal n) own.0.0 (digits_all (decimal n) own.0.1) own.1 (first_decimal n (omega (arith, is.0)) (omega (arith, is.1))) h
  where
    by : (ds : List ℕ) → 0 < length ds → list_all is_ascii_digit ds ≡ true → digits_value 10 ds ≡ n → 48 < get_or ds 0 0 → Lexes (at + length ds) rest ts → Lexes at (ds ++ rest) (token_at k.Number at n ds ∷ ts)
    by [] some all value first h = absurd (omega (arith, some))
    by (b ∷ w) some all value first h =
        let digit : is_ascii_digit b ≡ true = (and_parts (is_ascii_digit b) (list_all is_ascii_digit w) all).0 in
        let e = number_piece b w rest all digit (grind (arith, first)) (omega (arith, value, is.1)) (no_digit_opens rest stop) ∙ ap (λ v. p.Token k.Number v (length (b ∷ w))) value in
        let h' : Lexes (at + length (b ∷ w)) (drop (length (b ∷ w)) ((b ∷ w) ++ rest)) ts = subst (λ xs. Lexes (at + length (b ∷ w)) xs ts) (sym (drop-append_seam (b ∷ w) rest)) h in
        subst (λ xs. Lexes at (b ∷ (w ++ rest)) (token_at k.Number at n xs ∷ ts)) (take-append_seam (b ∷ w) rest) (one e h')
