-- Printed text that derives what it prints.
use Rattle.std.proofs.Common.{◌≡◌, ℕ, ◌+◌, ◌≤◌, true, List, [], ◌∷◌, ◌++◌, length, refl, sym, subst, ap, ◌∙◌, append_assoc, append-nil, length-append, arith}
use Rattle.std.specs.Prelude.{decimal}
use Rattle.csdn_core.specs.WellSorted.{IsNumeral}
use Rattle.csdn_tokens.specs.declared.Kind.{Kind}
use Rattle.csdn_tokens.specs.declared.Kind.TheVariants as k
use Rattle.csdn_tokens.specs.declared.Token.{Token}
use Rattle.csdn_tokens.specs.Lex.{token_at, Lexes}
use Rattle.csdn_tokens.specs.Lex.Lexes.{one}
use Rattle.csdn_text.specs.Symbols.{Nonterminal, Level, here, depth_of, Value, Values, made, Symbol, token, part, Rule}
use Rattle.csdn_text.specs.Derives.{Mark, tokens_of, IsRule, Derives}
use Rattle.csdn_text.specs.Derives.Derives.{nothing, one as one_token, by_rule}
use Rattle.csdn_text.specs.Reading.{Within}
use Rattle.csdn_text.proofs.Theory.{Within-append, Within-front, tokens-append}
use Rattle.csdn_print.proofs.Lexing.{opens, opens-append, is_blank, after_blank, IsSymbol, arrow_is, both_is, IsWord, after_word, after_number}

-- From a place on these bytes, where no word goes on behind them, derive these symbols with these values, and no token stands deeper than most.
pub record Line (most d at : ℕ) (ss : List Symbol) (bytes : List ℕ) (vs : Values ss) : Type 0 where
  pub marks : List Mark
  pub within : Within most marks
  pub derives : Derives d ss marks vs
  pub lexes : (rest : List ℕ) (ts : List Token) → opens rest ≡ true → Lexes (at + length bytes) rest ts → Lexes at (bytes ++ rest) (tokens_of marks ++ ts)

pub nil : {most d at : ℕ} → Line most d at [] [] tt
nil {at = at} = record {
  marks = [];
  within = tt;
  derives = nothing;
  lexes = λ rest ts stop h. subst (λ n. Lexes n rest ts) (let e : at + 0 ≡ at = omega arith in e) h;
}

-- at a place that is the same
sooner : (a b c : ℕ) (rest : List ℕ) (ts : List Token) → c ≡ a + b → Lexes c rest ts → Lexes (a + b) rest ts
sooner a b c rest ts e h = subst (λ n. Lexes n rest ts) e h

pub gap : {most d at : ℕ} {ss : List Symbol} {bytes : List ℕ} {vs : Values ss} (b : ℕ) → is_blank b ≡ true → Line most d (at + 1) ss bytes vs → Line most d at ss (b ∷ bytes) vs
gap {at = at} {bytes = bytes} b is a = record {
  marks = a.marks;
  within = a.within;
  derives = a.derives;
  lexes = λ rest ts stop h. after_blank b is (a.lexes rest ts stop (sooner (at + 1) (length bytes) (at + length (b ∷ bytes)) rest ts (omega arith) h));
}

pub symbol : {most d at : ℕ} {ss : List Symbol} {bytes : List ℕ} {vs : Values ss} {l : Level} {b : ℕ} {kind : Kind} → IsSymbol b kind → depth_of d l ≤ most → Line most d (at + 1) ss bytes vs
    → Line most d at (token kind l ∷ ss) (b ∷ bytes) (token_at kind at 0 (b ∷ []), vs)
symbol {d = d} {at = at} {bytes = bytes} {l = l} {b = b} {kind = kind} is room a = record {
  marks = record { token = token_at kind at 0 (b ∷ []); depth = depth_of d l } ∷ a.marks;
  within = (room, a.within);
  derives = one_token refl a.derives;
  lexes = λ rest ts stop h. one (is (bytes ++ rest)) (a.lexes rest ts stop (sooner (at + 1) (length bytes) (at + length (b ∷ bytes)) rest ts (omega arith) h));
}

pub arrow : {most d at : ℕ} {ss : List Symbol} {bytes : List ℕ} {vs : Values ss} {l : Level} → depth_of d l ≤ most → Line most d (at + 2) ss bytes vs
    → Line most d at (token k.Arrow l ∷ ss) (45 ∷ 62 ∷ bytes) (token_at k.Arrow at 0 (45 ∷ 62 ∷ []), vs)
arrow {d = d} {at = at} {bytes = bytes} {l = l} room a = record {
  marks = record { token = token_at k.Arrow at 0 (45 ∷ 62 ∷ []); depth = depth_of d l } ∷ a.marks;
  within = (room, a.within);
  derives = one_token refl a.derives;
  lexes = λ rest ts stop h. one (arrow_is (bytes ++ rest)) (a.lexes rest ts stop (sooner (at + 2) (length bytes) (at + length (45 ∷ 62 ∷ bytes)) rest ts (omega arith) h));
}

pub double_arrow : {most d at : ℕ} {ss : List Symbol} {bytes : List ℕ} {vs : Values ss} {l : Level} → depth_of d l ≤ most → Line most d (at + 3) ss bytes vs
    → Line most d at (token k.Both l ∷ ss) (60 ∷ 45 ∷ 62 ∷ bytes) (token_at k.Both at 0 (60 ∷ 45 ∷ 62 ∷ []), vs)
double_arrow {d = d} {at = at} {bytes = bytes} {l = l} room a = record {
  marks = record { token = token_at k.Both at 0 (60 ∷ 45 ∷ 62 ∷ []); depth = depth_of d l } ∷ a.marks;
  within = (room, a.within);
  derives = one_token refl a.derives;
  lexes = λ rest ts stop h. one (both_is (bytes ++ rest)) (a.lexes rest ts stop (sooner (at + 3) (length bytes) (at + length (60 ∷ 45 ∷ 62 ∷ bytes)) rest ts (omega arith) h));
}

-- bytes in front of others, up to a place
joined_place : (a : ℕ) (xs ys : List ℕ) → a + length (xs ++ ys) ≡ (a + length xs) + length ys
joined_place a xs ys = let e = length-append xs ys in omega (arith, e)

pub word : {most d at : ℕ} {ss : List Symbol} {bytes : List ℕ} {vs : Values ss} {l : Level} (w : List ℕ) {kind : Kind} → IsWord w kind → depth_of d l ≤ most → opens bytes ≡ true
    → Line most d (at + length w) ss bytes vs → Line most d at (token kind l ∷ ss) (w ++ bytes) (token_at kind at 0 w, vs)
word {d = d} {at = at} {bytes = bytes} {l = l} w {kind} is room free a = record {
  marks = record { token = token_at kind at 0 w; depth = depth_of d l } ∷ a.marks;
  within = (room, a.within);
  derives = one_token refl a.derives;
  lexes = λ rest ts stop h. subst (λ xs. Lexes at xs (token_at kind at 0 w ∷ (tokens_of a.marks ++ ts))) (sym (append_assoc w bytes rest))
      (after_word w kind is (opens-append bytes rest free stop) (a.lexes rest ts stop (sooner (at + length w) (length bytes) (at + length (w ++ bytes)) rest ts (joined_place at w bytes) h)));
}

pub number : {most d at : ℕ} {ss : List Symbol} {bytes : List ℕ} {vs : Values ss} {l : Level} (n : ℕ) → IsNumeral n → depth_of d l ≤ most → opens bytes ≡ true
    → Line most d (at + length (decimal n)) ss bytes vs → Line most d at (token k.Number l ∷ ss) (decimal n ++ bytes) (token_at k.Number at n (decimal n), vs)
number {d = d} {at = at} {bytes = bytes} {l = l} n is room free a = record {
  marks = record { token = token_at k.Number at n (decimal n); depth = depth_of d l } ∷ a.marks;
  within = (room, a.within);
  derives = one_token refl a.derives;
  lexes = λ rest ts stop h. subst (λ xs. Lexes at xs (token_at k.Number at n (decimal n) ∷ (tokens_of a.marks ++ ts))) (sym (append_assoc (decimal n) bytes rest))
      (after_number n is (opens-append bytes rest free stop) (a.lexes rest ts stop (sooner (at + length (decimal n)) (length bytes) (at + length (decimal n ++ bytes)) rest ts (joined_place at (decimal n) bytes) h)));
}

-- the same bytes
pub along : {most d at : ℕ} {ss : List Symbol} {bytes bytes' : List ℕ} {vs : Values ss} → bytes ≡ bytes' → Line most d at ss bytes vs → Line most d at ss bytes' vs
along {most} {d} {at} {ss} {vs = vs} e a = subst (λ xs. Line most d at ss xs vs) e a

-- a nonterminal alone, by one of its right sides
pub by : {most d at : ℕ} {n : Nonterminal} {bytes : List ℕ} (r : Rule n) → IsRule n r → {us : Values r.parts} → Line most d at r.parts bytes us
    → Line most d at (part n here ∷ []) bytes (made r.parts r.gives us, tt)
by {most} {at = at} {bytes = bytes} r is a = record {
  marks = a.marks ++ [];
  within = Within-append most a.marks [] a.within tt;
  derives = by_rule r is a.derives nothing;
  lexes = λ rest ts stop h. subst (λ ms. Lexes at (bytes ++ rest) (tokens_of ms ++ ts)) (sym (append-nil a.marks)) (a.lexes rest ts stop h);
}

-- a nonterminal, with others behind it
pub before : {most d at : ℕ} {l : Level} {n : Nonterminal} {ss : List Symbol} {bytes bytes' : List ℕ} {v : Value n} {vs : Values ss}
    → Line most (depth_of d l) at (part n here ∷ []) bytes (v, tt) → opens bytes' ≡ true → Line most d (at + length bytes) ss bytes' vs → Line most d at (part n l ∷ ss) (bytes ++ bytes') (v, vs)
before {most} {d} {at} {l} {n} {ss} {bytes} {bytes'} {v} {vs} a free b = go a.marks v a.within a.derives a.lexes
  where
    go : (ms : List Mark) (v : Value n) → Within most ms → Derives (depth_of d l) (part n here ∷ []) ms (v, tt)
        → ((rest : List ℕ) (ts : List Token) → opens rest ≡ true → Lexes (at + length bytes) rest ts → Lexes at (bytes ++ rest) (tokens_of ms ++ ts))
        → Line most d at (part n l ∷ ss) (bytes ++ bytes') (v, vs)
    go ms v deep (by_rule {ms = ms'} r is inner nothing) lexes = record {
      marks = ms' ++ b.marks;
      within = Within-append most ms' b.marks (Within-front most ms' [] deep) b.within;
      derives = by_rule r is inner b.derives;
      lexes = λ rest ts stop h.
          let inside = b.lexes rest ts stop (sooner (at + length bytes) (length bytes') (at + length (bytes ++ bytes')) rest ts (joined_place at bytes bytes') h) in
          let whole = lexes (bytes' ++ rest) (tokens_of b.marks ++ ts) (opens-append bytes' rest free stop) inside in
          let spelled : tokens_of (ms' ++ []) ++ (tokens_of b.marks ++ ts) ≡ tokens_of (ms' ++ b.marks) ++ ts =
          ap (λ ms. tokens_of ms ++ (tokens_of b.marks ++ ts)) (append-nil ms') ∙ sym (append_assoc (tokens_of ms') (tokens_of b.marks) ts) ∙ ap (λ xs. xs ++ ts) (sym (tokens-append ms' b.marks)) in
          subst (λ xs. Lexes at xs (tokens_of (ms' ++ b.marks) ++ ts)) (sym (append_assoc bytes bytes' rest)) (subst (λ xs. Lexes at (bytes ++ (bytes' ++ rest)) xs) spelled whole);
    }

-- a nonterminal that is the last
pub final : {most d at : ℕ} {l : Level} {n : Nonterminal} {bytes : List ℕ} {v : Value n}
    → Line most (depth_of d l) at (part n here ∷ []) bytes (v, tt) → Line most d at (part n l ∷ []) bytes (v, tt)
final {bytes = bytes} a = along (append-nil bytes) (before a refl nil)
