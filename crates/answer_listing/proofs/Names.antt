-- The number and the kind of a condition are the name of a block.
use Rattle.std.proofs.Common.{◌≡◌, ◌∙◌, ap, sym, refl, ℕ, ◌+◌, ◌<◌, ◌≤◌, ◌^◌, true, leb, ltb, List, [], ◌∷◌, ◌++◌, length, map, get_or, Some, None, Contains, ◌⊎◌, inl, inr, slice_get, arith}
use Rattle.std.specs.Prelude.{decimal, codes, option_map}
use Rattle.std.specs.List.{list_all}
use Rattle.std.specs.Char.{is_ascii_alphabetic}
use Rattle.std.specs.Str.Parse.{AllDigits}
use Rattle.std.proofs.lemmas.Bool.{and_from, and_parts, le-leb, lt-ltb}
use Rattle.std.proofs.lemmas.Fmt.{digits_decimal, decimal_nonempty, length-decimal-le}
use Rattle.std.proofs.lemmas.List.{length-append}
use Rattle.std.proofs.lemmas.Option.{get_or_from_slice_get, slice_get-map, slice_get_cases, slice_get_within}
use Rattle.std.proofs.lemmas.List.Elements.{All-contains, Contains-append_left, Contains-append_right}
use Rattle.std.proofs.lemmas.Str.Parse.{digit_from_value}
use Rattle.text_lines.specs.Printed.{spaced}
use Rattle.text_lines.proofs.Numerals.{own}
use Rattle.csdn_core.specs.declared.program.Invariant.{Invariant}
use Rattle.csdn_core.specs.declared.program.Parts.{Parts}
use Rattle.csdn_core.specs.Names.{IsName, is_word, is_word_byte}
use Rattle.csdn_core.specs.WellSorted.{IsWellSorted, names_of_invariants}
use Rattle.csdn_conditions.specs.declared.kinds.EventKind.{EventKind}
use Rattle.csdn_conditions.specs.declared.kinds.EventKind.TheVariants.{PktIn, PktFlow, Expire}
use Rattle.csdn_conditions.specs.declared.kinds.CondKind.{CondKind}
use Rattle.csdn_conditions.specs.declared.kinds.CondKind.TheVariants.{Network, Init, Step, Trans}
use Rattle.csdn_conditions.specs.Kinds.{IsWithin}
use Rattle.condition_listing.specs.Words.{event_word, name_at, name_in}
use Rattle.log_text.specs.LogText.{is_bare_name}
use Rattle.answer_listing.specs.Words.{condition_text}
use Rattle.answer_listing.proofs.BareNames.{is_visible, are_visible, is_seen, bare}

-- ---- visible words

-- a visible word of at most so many bytes
record IsShort (most : ℕ) (w : List ℕ) : Type 0 where
  seen : is_seen w ≡ true
  short : length w ≤ most

digits_visible : (ds : List ℕ) → AllDigits 10 ds → are_visible ds ≡ true
digits_visible [] all = refl
digits_visible (d ∷ ds) all =
    let r = digit_from_value d all.0 in
    and_from (is_visible d) (are_visible ds) (and_from (leb 33 d) (leb d 126) (le-leb 33 d (omega (arith, r))) (le-leb d 126 (omega (arith, r)))) (digits_visible ds all.1)

number_short : (n : ℕ) → n < 2 ^ 32 → IsShort 10 (decimal n)
number_short n small =
    let some : 0 < length (decimal n) = decimal_nonempty n (omega arith) in
    let few : length (decimal n) ≤ 10 = length-decimal-le 10 n (omega arith) (omega arith) (omega arith) in
    record {
      seen = and_from (ltb 0 (length (decimal n))) (are_visible (decimal n)) (lt-ltb 0 (length (decimal n)) some) (digits_visible (decimal n) (digits_decimal own n (omega arith)));
      short = few;
    }

word_byte_visible : (b : ℕ) → is_word_byte b ≡ true → is_visible b ≡ true
word_byte_visible b is = grind (arith, is)

letter_visible : (b : ℕ) → is_ascii_alphabetic b ≡ true → is_visible b ≡ true
letter_visible b is = grind (arith, is)

word_visible : (bs : List ℕ) → list_all is_word_byte bs ≡ true → are_visible bs ≡ true
word_visible [] all = refl
word_visible (b ∷ bs) all =
    let p = and_parts (is_word_byte b) (list_all is_word_byte bs) all in
    and_from (is_visible b) (are_visible bs) (word_byte_visible b p.0) (word_visible bs p.1)

name_seen : (w : List ℕ) → is_word w ≡ true → is_seen w ≡ true
name_seen [] word = absurd cc
name_seen (b ∷ bs) word =
    let p = and_parts (is_ascii_alphabetic b) (list_all is_word_byte bs) word in
    and_from (ltb 0 (length (b ∷ bs))) (are_visible (b ∷ bs)) (lt-ltb 0 (length (b ∷ bs)) (omega arith)) (and_from (is_visible b) (are_visible bs) (letter_visible b p.0) (word_visible bs p.1))

name_short : (w : List ℕ) → IsName w → IsShort 64 w
name_short w name = record { seen = name_seen w name.word; short = name.short }

event_short : (event : EventKind) → IsShort 7 (event_word event)
event_short PktIn = record { seen = refl; short = omega arith }
event_short PktFlow = record { seen = refl; short = omega arith }
event_short Expire = record { seen = refl; short = omega arith }

-- ---- names of invariants

named : (vs : List Invariant) (v : ℕ) → v < length vs → Contains (map (λ i. i.name) vs) (name_at vs v)
named vs v below = by (slice_get_cases vs v).1
  where
    by : ((i : Invariant) × (v < length vs) × (slice_get vs v ≡ Some i) × (get_or vs v i ≡ i)) ⊎ ((length vs ≤ v) × (slice_get vs v ≡ None)) → Contains (map (λ i. i.name) vs) (name_at vs v)
    by (inl (i, within, there, at)) =
        let same : name_at vs v ≡ i.name = ap name_in there in
        let got : slice_get (map (λ q. q.name) vs) v ≡ Some i.name = slice_get-map (λ q. q.name) vs v ∙ ap (option_map (λ q. q.name)) there in
        let at_place : get_or (map (λ q. q.name) vs) v (name_at vs v) ≡ i.name = get_or_from_slice_get (map (λ q. q.name) vs) v i.name (name_at vs v) got in
        (v, slice_get_within (map (λ q. q.name) vs) v i.name got, at_place ∙ sym same)
    by (inr (past, none)) = absurd (omega (arith, past, below))

module _ (P : Parts) (well : IsWellSorted P) where
  safety_short : (v : ℕ) → v < length P.safety → IsShort 64 (name_at P.safety v)
  safety_short v below =
      name_short (name_at P.safety v) (All-contains IsName (names_of_invariants P) (name_at P.safety v) well.invariant_words
      (Contains-append_right (map (λ i. i.name) P.topology) _ (name_at P.safety v) (Contains-append_left (map (λ i. i.name) P.safety) (map (λ i. i.name) P.trans) (name_at P.safety v) (named P.safety v below))))

  trans_short : (t : ℕ) → t < length P.trans → IsShort 64 (name_at P.trans t)
  trans_short t below =
      name_short (name_at P.trans t) (All-contains IsName (names_of_invariants P) (name_at P.trans t) well.invariant_words
      (Contains-append_right (map (λ i. i.name) P.topology) _ (name_at P.trans t) (Contains-append_right (map (λ i. i.name) P.safety) (map (λ i. i.name) P.trans) (name_at P.trans t) (named P.trans t below))))

-- ---- the words of a kind

one_word : (w a : List ℕ) → IsShort 10 w → IsShort 7 a → is_bare_name (w ++ spaced (a ∷ [])) ≡ true
one_word w a is_w is_a =
    let all = length-append w (spaced (a ∷ [])) in
    let first : length (spaced (a ∷ [])) ≡ length (32 ∷ a) + 0 = length-append (32 ∷ a) [] in
    let below_w = is_w.short in
    let below_a = is_a.short in
    bare w (a ∷ []) is_w.seen (and_from (is_seen a) true is_a.seen refl) (omega (arith, all, first, below_w, below_a))

three_words : (w a b d : List ℕ) → IsShort 10 w → IsShort 10 a → IsShort 64 b → IsShort 64 d → is_bare_name (w ++ spaced (a ∷ b ∷ d ∷ [])) ≡ true
three_words w a b d is_w is_a is_b is_d =
    let all = length-append w (spaced (a ∷ b ∷ d ∷ [])) in
    let first : length (spaced (a ∷ b ∷ d ∷ [])) ≡ length (32 ∷ a) + length (spaced (b ∷ d ∷ [])) = length-append (32 ∷ a) (spaced (b ∷ d ∷ [])) in
    let second : length (spaced (b ∷ d ∷ [])) ≡ length (32 ∷ b) + length (spaced (d ∷ [])) = length-append (32 ∷ b) (spaced (d ∷ [])) in
    let third : length (spaced (d ∷ [])) ≡ length (32 ∷ d) + 0 = length-append (32 ∷ d) [] in
    let below_w = is_w.short in
    let below_a = is_a.short in
    let below_b = is_b.short in
    let below_d = is_d.short in
    bare w (a ∷ b ∷ d ∷ []) is_w.seen (and_from (is_seen a) (list_all is_seen (b ∷ d ∷ [])) is_a.seen (and_from (is_seen b) (list_all is_seen (d ∷ [])) is_b.seen (and_from (is_seen d) true is_d.seen refl)))
    (omega (arith, all, first, second, third, below_w, below_a, below_b, below_d))

longer : (few many : ℕ) (w : List ℕ) → few ≤ many → IsShort few w → IsShort many w
longer few many w le is = record { seen = is.seen; short = let below = is.short in omega (arith, le, below) }

pub bare_condition : (P : Parts) → IsWellSorted P → (n i : ℕ) (kind : CondKind) → n < 2 ^ 32 → i < 2 ^ 32 → IsWithin n (length P.safety) (length P.trans) kind → is_bare_name (condition_text P i kind) ≡ true
bare_condition P well n i Network small few within = one_word (decimal i) (codes "network") (number_short i few) (record { seen = refl; short = omega arith })
bare_condition P well n i (Init k v) small few within =
    three_words (decimal i) (codes "init") (decimal k) (name_at P.safety v) (number_short i few) (record { seen = refl; short = omega arith })
    (longer 10 64 (decimal k) (omega arith) (number_short k (let le = within.0 in omega (arith, le, small)))) (safety_short P well v within.1)
bare_condition P well n i (Step v event) small few within =
    three_words (decimal i) (codes "step") (name_at P.safety v) (event_word event) (number_short i few) (record { seen = refl; short = omega arith }) (safety_short P well v within) (longer 7 64 (event_word event) (omega arith) (event_short event))
bare_condition P well n i (Trans t event) small few within =
    three_words (decimal i) (codes "trans") (name_at P.trans t) (event_word event) (number_short i few) (record { seen = refl; short = omega arith }) (trans_short P well t within) (longer 7 64 (event_word event) (omega arith) (event_short event))
