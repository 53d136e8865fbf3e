-- Printed words of network texts are read again.
use Rattle.std.proofs.Common.{◌≡◌, ◌≢◌, ◌∙◌, ap, sym, subst, refl, ℕ, zero, suc, ◌+◌, ◌<◌, ◌^◌, ◌==◌, Bool, true, false, true≢false, eqb, ltb, not, List, [], ◌∷◌, ◌++◌, length, map, Some, None, Ok, All, AllPairs, Contains, slice_get, arith, append_assoc, append-nil, if◌then◌else◌}
use Rattle.std.specs.Prelude.{decimal, option_map}
use Rattle.std.specs.List.{list_all}
use Rattle.std.specs.Str.{bytes_eq}
use Rattle.std.specs.Char.{is_ascii_alphabetic}
use Rattle.std.proofs.lemmas.Bool.{and_parts, and_from, ltb-true, lt-ltb, eqb-true, false_from_ne_true}
use Rattle.std.proofs.lemmas.Cmp.{nat_eq_equiv}
use Rattle.std.proofs.lemmas.Slice.Eq.{bytes_eq-Decides}
use Rattle.std.proofs.lemmas.List.Elements.{All-contains, All-head, All-tail}
use Rattle.std.proofs.lemmas.Map.Views.{list_any-from_Contains}
use Rattle.std.proofs.lemmas.Option.{get_or_from_slice_get, slice_get-map, slice_get_within}
use Rattle.text_lines.specs.Printed.{is_plain, is_word}
use Rattle.text_lines.proofs.Numerals.{number_some}
use Rattle.csdn_core.specs.declared.terms.Sort.{Sort}
use Rattle.csdn_core.specs.declared.program.Relation.{Relation}
use Rattle.csdn_core.specs.declared.program.Constant.{Constant}
use Rattle.csdn_core.specs.Names.{IsName, is_word_byte, is_word as is_name_word}
use Rattle.csdn_core.specs.Network.{Network, elements, HaveElements}
use Rattle.net_structs.specs.Networks.{has}
use Rattle.net_structs.specs.Refusals.{missing_port, have_elements}
use Rattle.net_text.specs.declared.refusal.NetWhy.TheVariants as why
use Rattle.net_text.specs.Lines.{◌>>=◌, most, or_why, elements_from, constant_from, relation_from, values_from}

pub bytes_itself : (w : List ℕ) → bytes_eq w w ≡ true
bytes_itself w = (bytes_eq-Decides w w).1 refl

pub bytes_apart : (v w : List ℕ) → v ≢ w → bytes_eq v w ≡ false
bytes_apart v w apart = false_from_ne_true (bytes_eq v w) (λ is. apart ((bytes_eq-Decides v w).0 is))

-- ---- numbers

abbrev pub are_small : List ℕ → Bool
are_small es = list_all (λ n. ltb n (2 ^ 64)) es

pub elements_again : (found es : List ℕ) → are_small es ≡ true → elements_from found (map decimal es) ≡ Ok (found ++ es)
elements_again found [] small = ap Ok (sym (append-nil found))
elements_again found (n ∷ es) small =
    let p = and_parts (ltb n (2 ^ 64)) (are_small es) small in
    let below : n < 2 ^ 64 = ltb-true n (2 ^ 64) p.0 in
    ap (λ o. or_why o why.Number >>= (λ k. elements_from (found ++ k ∷ []) (map decimal es))) (number_some most n (decimal n) (omega arith) (omega arith) refl)
    ∙ elements_again (found ++ n ∷ []) es p.1
    ∙ ap Ok (append_assoc found (n ∷ []) es)

pub small_all : (es : List ℕ) → All (λ m. m < 2 ^ 64) es → are_small es ≡ true
small_all [] all = refl
small_all (e ∷ es) all =
    and_from (ltb e (2 ^ 64)) (are_small es) (lt-ltb e (2 ^ 64) (All-head (λ m. m < 2 ^ 64) e es all)) (small_all es (All-tail (λ m. m < 2 ^ 64) e es all))

-- ---- names

plain_byte : (b : ℕ) → is_word_byte b ≡ true → is_plain b ≡ true
plain_byte b is = and_from (not (eqb b 32)) (not (eqb b 10)) (ap not (other 32 refl)) (ap not (other 10 refl))
  where
    other : (n : ℕ) → is_word_byte n ≡ false → eqb b n ≡ false
    other n no_byte = false_from_ne_true (eqb b n) (λ same. true≢false (sym is ∙ ap is_word_byte (eqb-true b n same) ∙ no_byte))

plain_bytes : (bs : List ℕ) → list_all is_word_byte bs ≡ true → list_all is_plain bs ≡ true
plain_bytes [] is = refl
plain_bytes (b ∷ bs) is =
    let p = and_parts (is_word_byte b) (list_all is_word_byte bs) is in
    and_from (is_plain b) (list_all is_plain bs) (plain_byte b p.0) (plain_bytes bs p.1)

letter_byte : (b : ℕ) → is_ascii_alphabetic b ≡ true → is_plain b ≡ true
letter_byte b is = and_from (not (eqb b 32)) (not (eqb b 10)) (ap not (other 32 refl)) (ap not (other 10 refl))
  where
    other : (n : ℕ) → is_ascii_alphabetic n ≡ false → eqb b n ≡ false
    other n no_letter = false_from_ne_true (eqb b n) (λ same. true≢false (sym is ∙ ap is_ascii_alphabetic (eqb-true b n same) ∙ no_letter))

word_bytes : (w : List ℕ) → is_name_word w ≡ true → is_word w ≡ true
word_bytes [] is = absurd (true≢false (sym is))
word_bytes (b ∷ bs) is =
    let p = and_parts (is_ascii_alphabetic b) (list_all is_word_byte bs) is in
    and_from (is_plain b) (list_all is_plain bs) (letter_byte b p.0) (plain_bytes bs p.1)

-- a name is a word of a line
pub name_word : (w : List ℕ) → IsName w → is_word w ≡ true
name_word w name = word_bytes w name.word

-- ---- elements of a network

pub there_has : (xs : List ℕ) (m : ℕ) → Contains xs m → has xs m ≡ true
there_has xs m there = list_any-from_Contains {eq = λ x y. x == y} nat_eq_equiv m xs there

pub no_missing : (ports ks : List ℕ) → All (Contains ports) ks → missing_port ports ks ≡ None
no_missing ports [] all = refl
no_missing ports (k ∷ ks) all =
    ap (λ b. if b then missing_port ports ks else Some k) (there_has ports k (All-head (Contains ports) k ks all))
    ∙ no_missing ports ks (All-tail (Contains ports) k ks all)

-- in a network with the same elements

pub cells_known : (N M : Network) → ((s : Sort) → elements N s ≡ elements M s) → (ss : List Sort) (ms : List ℕ) → HaveElements N ss ms → have_elements M ss ms ≡ true
unfolding HaveElements
cells_known N M same [] [] all = refl
cells_known N M same [] (m ∷ ms) all = absurd all
cells_known N M same (s ∷ ss) [] all = absurd all
cells_known N M same (s ∷ ss) (m ∷ ms) all =
    and_from (has (elements M s) m) (have_elements M ss ms)
    (there_has (elements M s) m (subst (λ (es : List ℕ). Contains es m) (same s) all.0)) (cells_known N M same ss ms all.1)

pub cells_length : (N : Network) (ss : List Sort) (ms : List ℕ) → HaveElements N ss ms → length ms ≡ length ss
unfolding HaveElements
cells_length N [] [] all = refl
cells_length N [] (m ∷ ms) all = absurd all
cells_length N (s ∷ ss) [] all = absurd all
cells_length N (s ∷ ss) (m ∷ ms) all = ap suc (cells_length N ss ms all.1)

pub cells_small : (N : Network) → ((s : Sort) → All (λ m. m < 2 ^ 64) (elements N s)) → (ss : List Sort) (ms : List ℕ) → HaveElements N ss ms → are_small ms ≡ true
unfolding HaveElements
cells_small N small [] [] all = refl
cells_small N small [] (m ∷ ms) all = absurd all
cells_small N small (s ∷ ss) [] all = absurd all
cells_small N small (s ∷ ss) (m ∷ ms) all =
    and_from (ltb m (2 ^ 64)) (are_small ms) (lt-ltb m (2 ^ 64) (All-contains (λ m. m < 2 ^ 64) (elements N s) m (small s) all.0)) (cells_small N small ss ms all.1)

-- ---- what is declared is found by its name

-- the names of the others differ from that of the one at k
other_name : (names : List (List ℕ)) (n : List ℕ) (k : ℕ) (name : List ℕ) → AllPairs (λ v w. v ≢ w) (n ∷ names) → slice_get names k ≡ Some name → n ≢ name
other_name names n k name distinct at =
    let within : k < length names = slice_get_within names k name at in
    subst (λ (w : List ℕ). n ≢ w) (get_or_from_slice_get names k name [] at) (distinct 0 (suc k) [] (omega arith) (omega arith))

others_distinct : (n : List ℕ) (names : List (List ℕ)) → AllPairs (λ v w. v ≢ w) (n ∷ names) → AllPairs (λ v w. v ≢ w) names
others_distinct n names distinct i j d before within = distinct (suc i) (suc j) d (omega (arith, before)) (omega (arith, within))

-- at a place j in the whole list
pub constant_found : (at : ℕ) (ds : List Constant) (k j : ℕ) (d : Constant) → AllPairs (λ v w. v ≢ w) (map (λ d. d.name) ds) → j ≡ at + k → slice_get ds k ≡ Some d → constant_from at ds d.name ≡ Some (j, d.sort)
constant_found at [] k j d distinct is here = absurd cc
constant_found at (c ∷ ds) zero j d distinct is here =
    let same : c ≡ d = one c d here in
    let place : at ≡ j = omega (arith, is) in
    subst (λ (d : Constant). constant_from at (c ∷ ds) d.name ≡ Some (j, d.sort)) same
    (ap (λ b. if b then Some (at, c.sort) else constant_from (at + 1) ds c.name) (bytes_itself c.name) ∙ ap (λ n. Some (n, c.sort)) place)
  where
    one : (c d : Constant) → Some c ≡ Some d → c ≡ d
    one c d is = cc
constant_found at (c ∷ ds) (suc k) j d distinct is here =
    let named : slice_get (map (λ d. d.name) ds) k ≡ Some d.name = slice_get-map (λ d. d.name) ds k ∙ ap (λ o. option_map (λ d. d.name) o) here in
    ap (λ b. if b then Some (at, c.sort) else constant_from (at + 1) ds d.name) (bytes_apart c.name d.name (other_name (map (λ d. d.name) ds) c.name k d.name distinct named))
    ∙ constant_found (at + 1) ds k j d (others_distinct c.name (map (λ d. d.name) ds) distinct) (omega (arith, is)) here

pub relation_found : (at : ℕ) (rs : List Relation) (k j : ℕ) (r : Relation) → AllPairs (λ v w. v ≢ w) (map (λ r. r.name) rs) → j ≡ at + k → slice_get rs k ≡ Some r → relation_from at rs r.name ≡ Some (j, r)
relation_found at [] k j r distinct is here = absurd cc
relation_found at (q ∷ rs) zero j r distinct is here =
    let same : q ≡ r = one q r here in
    let place : at ≡ j = omega (arith, is) in
    subst (λ (r : Relation). relation_from at (q ∷ rs) r.name ≡ Some (j, r)) same
    (ap (λ b. if b then Some (at, q) else relation_from (at + 1) rs q.name) (bytes_itself q.name) ∙ ap (λ n. Some (n, q)) place)
  where
    one : (q r : Relation) → Some q ≡ Some r → q ≡ r
    one q r is = cc
relation_found at (q ∷ rs) (suc k) j r distinct is here =
    let named : slice_get (map (λ r. r.name) rs) k ≡ Some r.name = slice_get-map (λ r. r.name) rs k ∙ ap (λ o. option_map (λ r. r.name) o) here in
    ap (λ b. if b then Some (at, q) else relation_from (at + 1) rs r.name) (bytes_apart q.name r.name (other_name (map (λ r. r.name) rs) q.name k r.name distinct named))
    ∙ relation_found (at + 1) rs k j r (others_distinct q.name (map (λ r. r.name) rs) distinct) (omega (arith, is)) here

-- ---- values

pub values_again : (found ms : List ℕ) → values_from found (map Some ms) ≡ Some (found ++ ms)
values_again found [] = ap Some (sym (append-nil found))
values_again found (m ∷ ms) = values_again (found ++ m ∷ []) ms ∙ ap Some (append_assoc found (m ∷ []) ms)
