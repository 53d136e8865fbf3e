-- Words with a space between each two are the name of a block.
use Rattle.std.proofs.Common.{◌≡◌, ◌∙◌, ap, sym, subst, refl, ℕ, ◌<◌, ◌≤◌, Bool, true, false, eqb, leb, ltb, ◌&&◌, ◌||◌, List, [], ◌∷◌, ◌++◌, length, arith, append_assoc, append-nil}
use Rattle.std.specs.List.{list_all}
use Rattle.std.specs.Str.{bytes_eq}
use Rattle.std.proofs.lemmas.Bool.{and_from, and_parts, or_from, le-leb, leb-true, ltb-true, lt-ltb, le-ltb, ne_eqb, cond-false}
use Rattle.std.proofs.lemmas.Slice.Eq.{bytes_eq-Decides}
use Rattle.text_lines.specs.Rest.{trim_start, trim_end}
use Rattle.text_lines.specs.Printed.{spaced}
use Rattle.text_lines.proofs.Rests.{start_done, end_done}
use Rattle.log_text.specs.Words.{are_printable, is_name}
use Rattle.log_text.specs.LogText.{is_bare_name}

-- a byte that is printed and is no space
abbrev pub is_visible : ℕ → Bool
is_visible b = leb 33 b && leb b 126

abbrev pub are_visible : List ℕ → Bool
are_visible bs = list_all is_visible bs

abbrev pub is_seen : List ℕ → Bool
is_seen w = ltb 0 (length w) && are_visible w

no_space : (b : ℕ) → is_visible b ≡ true → eqb b 32 ≡ false
no_space b is =
    let p = and_parts (leb 33 b) (leb b 126) is in
    let low : 33 ≤ b = leb-true 33 b p.0 in
    ne_eqb b 32 (λ same. omega (arith, low, same))

-- ---- printable bytes

printable_first : (b : ℕ) (bs : List ℕ) → leb 32 b ≡ true → leb b 126 ≡ true → are_printable bs ≡ true → are_printable (b ∷ bs) ≡ true
printable_first b bs low high rest =
    let at_least : 32 ≤ b = leb-true 32 b low in
    let at_most : b ≤ 126 = leb-true b 126 high in
    cond-false (ltb b 32 || ltb 126 b) false (are_printable bs) (or_from (ltb b 32) (ltb 126 b) (le-ltb b 32 at_least) (le-ltb 126 b at_most)) ∙ rest

pub printable : (bs rest : List ℕ) → are_visible bs ≡ true → are_printable rest ≡ true → are_printable (bs ++ rest) ≡ true
printable [] rest is more = more
printable (b ∷ bs) rest is more =
    let p = and_parts (is_visible b) (are_visible bs) is in
    let q = and_parts (leb 33 b) (leb b 126) p.0 in
    let low : 33 ≤ b = leb-true 33 b q.0 in
    printable_first b (bs ++ rest) (le-leb 32 b (omega (arith, low))) q.1 (printable bs rest p.1 more)

printable_spaced : (ws : List (List ℕ)) → list_all is_seen ws ≡ true → are_printable (spaced ws) ≡ true
printable_spaced [] all = refl
printable_spaced (w ∷ ws) all =
    let p = and_parts (is_seen w) (list_all is_seen ws) all in
    let q = and_parts (ltb 0 (length w)) (are_visible w) p.0 in
    printable_first 32 (w ++ spaced ws) refl refl (printable w (spaced ws) q.1 (printable_spaced ws p.1))

-- ---- no space at either end

start_kept : (w rest : List ℕ) → is_seen w ≡ true → trim_start (w ++ rest) ≡ w ++ rest
start_kept [] rest seen = absurd cc
start_kept (b ∷ bs) rest seen =
    let q = and_parts (ltb 0 (length (b ∷ bs))) (are_visible (b ∷ bs)) seen in
    let p = and_parts (is_visible b) (are_visible bs) q.1 in
    start_done b (bs ++ rest) (no_space b p.0)

end_word : (front w : List ℕ) → 0 < length w → are_visible w ≡ true → trim_end (front ++ w) ≡ front ++ w
end_word front [] some all = absurd (omega arith)
end_word front (b ∷ []) some all =
    let p = and_parts (is_visible b) true all in
    end_done front b (no_space b p.0)
end_word front (b ∷ d ∷ w) some all =
    let p = and_parts (is_visible b) (are_visible (d ∷ w)) all in
    let same : (front ++ b ∷ []) ++ (d ∷ w) ≡ front ++ (b ∷ d ∷ w) = append_assoc front (b ∷ []) (d ∷ w) in
    subst (λ t. trim_end t ≡ t) same (end_word (front ++ b ∷ []) (d ∷ w) (omega arith) p.1)

end_spaced : (front : List ℕ) (ws : List (List ℕ)) → trim_end front ≡ front → list_all is_seen ws ≡ true → trim_end (front ++ spaced ws) ≡ front ++ spaced ws
end_spaced front [] kept all = subst (λ t. trim_end t ≡ t) (sym (append-nil front)) kept
end_spaced front (w ∷ ws) kept all =
    let p = and_parts (is_seen w) (list_all is_seen ws) all in
    let q = and_parts (ltb 0 (length w)) (are_visible w) p.0 in
    let longer : List ℕ = (front ++ 32 ∷ []) ++ w in
    let same : longer ++ spaced ws ≡ front ++ spaced (w ∷ ws) = append_assoc (front ++ 32 ∷ []) w (spaced ws) ∙ append_assoc front (32 ∷ []) (w ++ spaced ws) in
    subst (λ t. trim_end t ≡ t) same (end_spaced longer ws (end_word (front ++ 32 ∷ []) w (ltb-true 0 (length w) q.0) q.1) p.1)

-- ---- the name of a block

positive_length : (w rest : List ℕ) → is_seen w ≡ true → 0 < length (w ++ rest)
positive_length [] rest seen = absurd cc
positive_length (b ∷ bs) rest seen = omega arith

pub bare : (w : List ℕ) (ws : List (List ℕ)) → is_seen w ≡ true → list_all is_seen ws ≡ true → length (w ++ spaced ws) ≤ 200 → is_bare_name (w ++ spaced ws) ≡ true
bare w ws seen all short =
    let name : List ℕ = w ++ spaced ws in
    let q = and_parts (ltb 0 (length w)) (are_visible w) seen in
    let start : trim_start name ≡ name = start_kept w (spaced ws) seen in
    let first : trim_end w ≡ w = end_word [] w (ltb-true 0 (length w) q.0) q.1 in
    let end : trim_end name ≡ name = end_spaced w ws first all in
    let kept : trim_end (trim_start name) ≡ name = ap trim_end start ∙ end in
    and_from (is_name name) (bytes_eq (trim_end (trim_start name)) name)
    (and_from (ltb 0 (length name) && leb (length name) 200) (are_printable name) (and_from (ltb 0 (length name)) (leb (length name) 200) (lt-ltb 0 (length name) (positive_length w (spaced ws) seen)) (le-leb (length name) 200 short)) (printable w (spaced ws) q.1 (printable_spaced ws all)))
    ((bytes_eq-Decides (trim_end (trim_start name)) name).1 kept)
