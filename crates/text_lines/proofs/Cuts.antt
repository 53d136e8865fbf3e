-- Cutting a text at the first such byte.
use Rattle.std.proofs.Common.{◌≡◌, ℕ, zero, suc, ◌+◌, ◌-◌, ◌<◌, ◌≤◌, Bool, true, false, not, cond, eqb, List, [], ◌∷◌, length, get_or, take, drop, refl, sym, ap, ap₂, subst, ◌∙◌, arith, inl, inr}
use Rattle.std.specs.List.{slice_split, onto_first, filter, before_first, after_first, position_or_len}
use Rattle.std.proofs.lemmas.Bool.{cases_lt, cases_Bool}
use Rattle.std.proofs.lemmas.List.{take_all, drop_all, take_rest}
use Rattle.std.proofs.lemmas.List.Sums.{position_or_len_is, fails_before_first}
use Rattle.std.proofs.lemmas.List.Splits.{slice_split_first, slice_split_none}
use Rattle.text_lines.specs.Text.{lines, words, has_bytes, is_passed_over, counted, LinesLeft, lines_left}

pub first_at : (text : List ℕ) (byte at : ℕ) → at ≤ length text → ((k : ℕ) → k < at → eqb (get_or text k 0) byte ≡ false) → (at < length text → eqb (get_or text at 0) byte ≡ true)
    → position_or_len (λ b. eqb b byte) text ≡ at
first_at text byte at = position_or_len_is (λ b. eqb b byte) text at 0

one-add : (n : ℕ) → 1 + n ≡ suc n
one-add n = omega arith

position-other : (p : ℕ → Bool) (b : ℕ) (bs : List ℕ) → p b ≡ false → position_or_len p (b ∷ bs) ≡ suc (position_or_len p bs)
position-other p b bs h = ap (λ t. cond (not t) (1 + position_or_len p bs) 0) h ∙ one-add (position_or_len p bs)

before-other : (p : ℕ → Bool) (b : ℕ) (bs : List ℕ) → p b ≡ false → before_first p (b ∷ bs) ≡ b ∷ before_first p bs
before-other p b bs h = ap (λ n. take n (b ∷ bs)) (position-other p b bs h)

after-other : (p : ℕ → Bool) (b : ℕ) (bs : List ℕ) → p b ≡ false → after_first p (b ∷ bs) ≡ after_first p bs
after-other p b bs h =
    let e : position_or_len p (b ∷ bs) + 1 ≡ suc (position_or_len p bs + 1) = (let f = position-other p b bs h in omega arith) in
    ap (λ n. drop n (b ∷ bs)) e

before-same : (p : ℕ → Bool) (b : ℕ) (bs : List ℕ) → p b ≡ true → before_first p (b ∷ bs) ≡ []
before-same p b bs h = ap (λ t. take (cond (not t) (1 + position_or_len p bs) 0) (b ∷ bs)) h

after-same : (p : ℕ → Bool) (b : ℕ) (bs : List ℕ) → p b ≡ true → after_first p (b ∷ bs) ≡ bs
after-same p b bs h = ap (λ t. drop (cond (not t) (1 + position_or_len p bs) 0 + 1) (b ∷ bs)) h

abbrev newline : ℕ → Bool
newline b = eqb b 10

abbrev space : ℕ → Bool
space b = eqb b 32

lines_same : (b : ℕ) (bs : List ℕ) → newline b ≡ true → lines (b ∷ bs) ≡ before_first newline (b ∷ bs) ∷ lines (after_first newline (b ∷ bs))
lines_same b bs h = ap (λ t. cond t ([] ∷ lines bs) (onto_first b (lines bs))) h ∙ sym (ap₂ (λ x y. x ∷ lines y) (before-same newline b bs h) (after-same newline b bs h))

-- where the first byte is none, from what holds of the rest
lines_other : (b : ℕ) (bs : List ℕ) → newline b ≡ false → onto_first b (lines bs) ≡ (b ∷ before_first newline bs) ∷ lines (after_first newline bs)
    → lines (b ∷ bs) ≡ before_first newline (b ∷ bs) ∷ lines (after_first newline (b ∷ bs))
lines_other b bs h rest = ap (λ t. cond t ([] ∷ lines bs) (onto_first b (lines bs))) h ∙ rest
    ∙ sym (ap₂ (λ x y. x ∷ lines y) (before-other newline b bs h) (after-other newline b bs h))

-- the first line, and the lines of what stands behind it
pub lines_cut : (b : ℕ) (bs : List ℕ) → lines (b ∷ bs) ≡ before_first newline (b ∷ bs) ∷ lines (after_first newline (b ∷ bs))
lines_cut b [] = elim (cases_Bool (newline b)) [
  | inl is_it ↦ lines_same b [] is_it
  | inr other ↦ lines_other b [] other refl
]
lines_cut b (c ∷ cs) = elim (cases_Bool (newline b)) [
  | inl is_it ↦ lines_same b (c ∷ cs) is_it
  | inr other ↦ lines_other b (c ∷ cs) other (ap (onto_first b) (lines_cut c cs))
]

pub words_cut : (line : List ℕ) → words line ≡ filter has_bytes (before_first space line ∷ slice_split space (after_first space line))
words_cut line = elim (cases_lt (position_or_len space line) (length line)) [
  | inl lt ↦ ap (filter has_bytes) (slice_split_first space line 0 lt)
  | inr ge ↦
      let front : before_first space line ≡ line = take_all (position_or_len space line) line ge in
      let back : after_first space line ≡ [] = drop_all (position_or_len space line + 1) line (omega arith) in
      let whole : slice_split space line ≡ line ∷ [] = slice_split_none space line (λ k d h. fails_before_first space line k d (omega arith)) in
      ap (filter has_bytes) whole ∙ sym (ap₂ (λ x y. filter has_bytes (x ∷ slice_split space y)) front back)
]

filtered_some : (w : List ℕ) (ws : List (List ℕ)) → 0 < length w → filter has_bytes (w ∷ ws) ≡ w ∷ filter has_bytes ws
filtered_some [] ws h = absurd (omega arith)
filtered_some (b ∷ w) ws h = refl

filtered_none : (w : List ℕ) (ws : List (List ℕ)) → length w ≡ 0 → filter has_bytes (w ∷ ws) ≡ filter has_bytes ws
filtered_none [] ws h = refl
filtered_none (b ∷ w) ws h = absurd (omega arith)

pub word_there : (line : List ℕ) → 0 < length (before_first space line) → words line ≡ before_first space line ∷ words (after_first space line)
word_there line h = words_cut line ∙ filtered_some (before_first space line) (slice_split space (after_first space line)) h

pub word_missing : (line : List ℕ) → length (before_first space line) ≡ 0 → words line ≡ words (after_first space line)
word_missing line h = words_cut line ∙ filtered_none (before_first space line) (slice_split space (after_first space line)) h

pub some_from_test : (n : ℕ) → false ≡ eqb n 0 → 0 < n
some_from_test zero h = absurd cc
some_from_test (suc n) h = omega arith

pub next_word : (line before after whole : List ℕ) → before ≡ before_first space line → after ≡ after_first space line → false ≡ eqb (length before) 0 → words line ≡ words whole
    → words whole ≡ before ∷ words after
next_word line before after whole front back some same =
    sym same ∙ word_there line (subst (λ w. 0 < length w) front (some_from_test (length before) some)) ∙ sym (ap₂ (λ x y. x ∷ words y) front back)

with_line : (n : ℕ) (xs before after : List ℕ) → before ≡ before_first newline xs → after ≡ after_first newline xs → 0 < length xs → lines xs ≡ before ∷ lines after
with_line n [] before after front back some = absurd (omega arith)
with_line n (b ∷ bs) before after front back some = lines_cut b bs ∙ sym (ap₂ (λ x y. x ∷ lines y) front back)

pub passed_step : (n : ℕ) (xs before after : List ℕ) → before ≡ before_first newline xs → after ≡ after_first newline xs → false ≡ eqb (length xs) 0 → true ≡ is_passed_over (words before)
    → lines_left (n + 1) after ≡ lines_left n xs
passed_step n xs before after front back some over =
    let e = with_line n xs before after front back (some_from_test (length xs) some) in
    let kept : counted n (lines xs) ≡ counted (n + 1) (lines after) = ap (counted n) e ∙ ap (λ t. cond t (counted (n + 1) (lines after)) (record { number = n; text = before } ∷ counted (n + 1) (lines after))) (sym over) in
    let l : length (lines xs) ≡ suc (length (lines after)) = ap length e in
    let past : n + 1 + length (lines after) ≡ n + length (lines xs) = omega arith in
    sym (ap₂ (λ x y. let t : LinesLeft = record { lines = x; past = y } in t) kept (sym past))

pub line_step : (n : ℕ) (xs before after : List ℕ) (whole : LinesLeft) → before ≡ before_first newline xs → after ≡ after_first newline xs → false ≡ eqb (length xs) 0 → false ≡ is_passed_over (words before)
    → lines_left n xs ≡ whole
    → (whole.lines ≡ record { number = n; text = before } ∷ counted (n + 1) (lines after)) × (n + 1 + length (lines after) ≡ whole.past)
line_step n xs before after whole front back some over same =
    let e = with_line n xs before after front back (some_from_test (length xs) some) in
    let kept : counted n (lines xs) ≡ record { number = n; text = before } ∷ counted (n + 1) (lines after) =
    ap (counted n) e ∙ ap (λ t. cond t (counted (n + 1) (lines after)) (record { number = n; text = before } ∷ counted (n + 1) (lines after))) (sym over) in
    let l : length (lines xs) ≡ suc (length (lines after)) = ap length e in
    let past : n + 1 + length (lines after) ≡ n + length (lines xs) = omega arith in
    (sym (ap (λ t. t.lines) same) ∙ kept, past ∙ ap (λ t. t.past) same)

pub whole_before : (text : List ℕ) (byte at : ℕ) → at ≡ length text → ((k : ℕ) → k < at → eqb (get_or text k 0) byte ≡ false) → text ≡ before_first (λ b. eqb b byte) text
whole_before text byte at is h = sym (take_all (position_or_len (λ b. eqb b byte) text) text (let e = first_at text byte at (omega arith) h (λ lt. absurd (omega arith)) in omega arith))

pub whole_after : (text : List ℕ) (byte at : ℕ) → at ≡ length text → ((k : ℕ) → k < at → eqb (get_or text k 0) byte ≡ false) → take (length text - at) (drop at text) ≡ after_first (λ b. eqb b byte) text
whole_after text byte at is h =
    let e = first_at text byte at (omega arith) h (λ lt. absurd (omega arith)) in
    take_rest text at ∙ drop_all at text (omega arith) ∙ sym (drop_all (position_or_len (λ b. eqb b byte) text + 1) text (omega arith))

pub front_before : (text : List ℕ) (byte at : ℕ) → at ≤ length text → ((k : ℕ) → k < at → eqb (get_or text k 0) byte ≡ false) → (at < length text → eqb (get_or text at 0) byte ≡ true)
    → take at text ≡ before_first (λ b. eqb b byte) text
front_before text byte at le h hit = ap (λ n. take n text) (sym (first_at text byte at le h hit))

pub back_after : (text : List ℕ) (byte at : ℕ) → at ≤ length text → ((k : ℕ) → k < at → eqb (get_or text k 0) byte ≡ false) → (at < length text → eqb (get_or text at 0) byte ≡ true)
    → take (length text - (at + 1)) (drop (at + 1) text) ≡ after_first (λ b. eqb b byte) text
back_after text byte at le h hit = take_rest text (at + 1) ∙ ap (λ n. drop (n + 1) text) (sym (first_at text byte at le h hit))
