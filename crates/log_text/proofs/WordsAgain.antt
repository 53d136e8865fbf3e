-- Printed words are read again.
use Rattle.std.proofs.Common.{◌≡◌, ℕ, ◌<◌, ◌≤◌, ◌^◌, Bool, true, false, not, cond, eqb, leb, ltb, ◌&&◌, List, [], ◌∷◌, ◌++◌, map, length, Some, None, refl, sym, ap, ◌∙◌, arith, append_assoc, append-nil}
use Rattle.std.specs.Prelude.{decimal, codes}
use Rattle.std.specs.List.{list_all}
use Rattle.std.specs.Str.{bytes_eq}
use Rattle.std.specs.Str.Parse.{AllDigits}
use Rattle.std.proofs.lemmas.Bool.{and_parts, and_from, leb-true, ltb-true, not-true, cond-true, cond-false, false_from_ne_true, eqb-false, ne_eqb}
use Rattle.std.proofs.lemmas.Slice.Eq.{bytes_eq-Decides}
use Rattle.std.proofs.lemmas.Str.Parse.{digit_from_value}
use Rattle.std.proofs.lemmas.Fmt.{digits_decimal, decimal_nonempty, decimal_digit, decimal_injective}
use Rattle.text_lines.specs.Rest.{behind_word, trim_start, trim_end}
use Rattle.text_lines.specs.Numbers.{◌>>=◌}
use Rattle.text_lines.specs.Printed.{joined}
use Rattle.text_lines.proofs.Numerals.{own, number_some}
use Rattle.text_lines.proofs.PrintedLaws.{number_again}
use Rattle.clause_log.specs.Literals.{Literal, has_distinct_atoms, is_within, is_clause}
use Rattle.clause_log.specs.Refutations.{Step}
use Rattle.log_text.specs.Words.{most_atoms, positive_of, literal_of, is_zero, literals_from, hints_from, header_of, name_of, atoms_of, clause_of, step_of, is_name}
use Rattle.log_text.specs.LogText.{literal_word, zero_word, header, is_positive, is_bare_name}
use Rattle.clause_log.specs.Limits.{most_hint, is_step}

pub within_positive : (atoms n : ℕ) → (ltb 0 n && leb n atoms) ≡ true → is_positive atoms n ≡ true
within_positive atoms n h =
    let p = and_parts (ltb 0 n) (leb n atoms) h in
    let low : 0 < n = ltb-true 0 n p.0 in
    and_from (not (eqb n 0)) (leb n atoms) (ap not (ne_eqb n 0 (λ e. omega arith))) p.1

positive_again : (most n : ℕ) → most < 2 ^ 64 → is_positive most n ≡ true → positive_of most (decimal n) ≡ Some n
unfolding positive_of
positive_again most n wide h =
    let p = and_parts (not (eqb n 0)) (leb n most) h in
    ap (λ o. o >>= λ k. cond (eqb k 0) None (Some k)) (number_some most n (decimal n) wide (leb-true n most p.1) refl)
    ∙ cond-false (eqb n 0) None (Some n) (not-true (eqb n 0) p.0)

-- where no sign stands
plain_literal : (atoms : ℕ) (w : List ℕ) → 0 < length w → AllDigits 10 w → literal_of atoms w ≡ (positive_of atoms w >>= λ n. Some (record { positive = true; atom = n }))
unfolding literal_of
plain_literal atoms [] h d = absurd (omega arith)
plain_literal atoms (b ∷ bs) h d =
    let r = digit_from_value b d.0 in
    cond-false (eqb b 45) (positive_of atoms bs >>= λ n. Some (record { positive = false; atom = n })) (positive_of atoms (b ∷ bs) >>= λ n. Some (record { positive = true; atom = n })) (ne_eqb b 45 (λ e. omega (arith, r)))

minus_literal : (atoms : ℕ) (bs : List ℕ) → literal_of atoms (45 ∷ bs) ≡ (positive_of atoms bs >>= λ n. Some (record { positive = false; atom = n }))
unfolding literal_of
minus_literal atoms bs = refl

literal_again_by : (sign : Bool) (atoms n : ℕ) → atoms < 2 ^ 64 → is_positive atoms n ≡ true → literal_of atoms (literal_word (record { positive = sign; atom = n })) ≡ Some (record { positive = sign; atom = n })
literal_again_by true atoms n wide h =
    let p = and_parts (not (eqb n 0)) (leb n atoms) h in
    let le = leb-true n atoms p.1 in
    plain_literal atoms (decimal n) (decimal_nonempty n (omega arith)) (digits_decimal own n (omega arith))
    ∙ ap (λ o. o >>= λ k. Some (record { positive = true; atom = k })) (positive_again atoms n wide h)
literal_again_by false atoms n wide h = minus_literal atoms (decimal n) ∙ ap (λ o. o >>= λ k. Some (record { positive = false; atom = k })) (positive_again atoms n wide h)

not_zero : (most n : ℕ) → most < 2 ^ 64 → is_positive most n ≡ true → is_zero (decimal n) ≡ false
not_zero most n wide h =
    let p = and_parts (not (eqb n 0)) (leb n most) h in
    let le = leb-true n most p.1 in
    false_from_ne_true (is_zero (decimal n)) (λ t.
    eqb-false n 0 (not-true (eqb n 0) p.0) (decimal_injective n 0 (omega arith) (omega arith) ((bytes_eq-Decides (decimal n) (codes "0")).0 t ∙ sym (decimal_digit 0 (omega arith)))))

literal_not_zero : (sign : Bool) (atoms n : ℕ) → atoms < 2 ^ 64 → is_positive atoms n ≡ true → is_zero (literal_word (record { positive = sign; atom = n })) ≡ false
literal_not_zero true atoms n wide h = not_zero atoms n wide h
literal_not_zero false atoms n wide h = refl

literals_again : (atoms : ℕ) (found lits : List Literal) (ws : List (List ℕ)) → atoms < 2 ^ 64 → list_all (is_within atoms) lits ≡ true
    → literals_from atoms found (map literal_word lits ++ zero_word ∷ ws) ≡ Some (found ++ lits, ws)
literals_again atoms found [] ws wide h = ap (λ x. Some (x, ws)) (sym (append-nil found))
literals_again atoms found (l ∷ lits) ws wide h =
    let p = and_parts (is_within atoms l) (list_all (is_within atoms) lits) h in
    let q = within_positive atoms l.atom p.0 in
    cond-false (is_zero (literal_word l)) (Some (found, map literal_word lits ++ zero_word ∷ ws)) (literal_of atoms (literal_word l) >>= λ k. literals_from atoms (found ++ k ∷ []) (map literal_word lits ++ zero_word ∷ ws)) (literal_not_zero l.positive atoms l.atom wide q)
    ∙ ap (λ o. o >>= λ k. literals_from atoms (found ++ k ∷ []) (map literal_word lits ++ zero_word ∷ ws)) (literal_again_by l.positive atoms l.atom wide q)
    ∙ literals_again atoms (found ++ l ∷ []) lits ws wide p.1 ∙ ap (λ x. Some (x, ws)) (append_assoc found (l ∷ []) lits)

hints_again : (found hints : List ℕ) (ws : List (List ℕ)) → list_all (is_positive most_hint) hints ≡ true
    → hints_from found (map decimal hints ++ zero_word ∷ ws) ≡ Some (found ++ hints, ws)
hints_again found [] ws h = ap (λ x. Some (x, ws)) (sym (append-nil found))
hints_again found (n ∷ hints) ws h =
    let p = and_parts (is_positive most_hint n) (list_all (is_positive most_hint) hints) h in
    let wide : most_hint < 2 ^ 64 = omega arith in
    cond-false (is_zero (decimal n)) (Some (found, map decimal hints ++ zero_word ∷ ws)) (positive_of most_hint (decimal n) >>= λ k. hints_from (found ++ k ∷ []) (map decimal hints ++ zero_word ∷ ws)) (not_zero most_hint n wide p.0)
    ∙ ap (λ o. o >>= λ k. hints_from (found ++ k ∷ []) (map decimal hints ++ zero_word ∷ ws)) (positive_again most_hint n wide p.0)
    ∙ hints_again (found ++ n ∷ []) hints ws p.1 ∙ ap (λ x. Some (x, ws)) (append_assoc found (n ∷ []) hints)

-- ---- lines

pub clause_again : (atoms : ℕ) (lits : List Literal) → atoms < 2 ^ 64 → is_clause atoms lits ≡ true → clause_of atoms (map literal_word lits ++ zero_word ∷ []) ≡ Some lits
unfolding clause_of
clause_again atoms lits wide h =
    let p = and_parts (has_distinct_atoms lits) (list_all (is_within atoms) lits) h in
    rw (literals_again atoms [] lits [] wide p.1, p.0) refl

pub step_again : (atoms : ℕ) (s : Step) → atoms < 2 ^ 64 → is_step atoms s ≡ true
    → step_of atoms (map literal_word s.literals ++ zero_word ∷ (map decimal s.hints ++ zero_word ∷ [])) ≡ Some s
unfolding step_of
step_again atoms s wide h =
    let o = and_parts (is_clause atoms s.literals) (list_all (is_positive most_hint) s.hints) h in
    let p = and_parts (has_distinct_atoms s.literals) (list_all (is_within atoms) s.literals) o.0 in
    rw (literals_again atoms [] s.literals (map decimal s.hints ++ zero_word ∷ []) wide p.1, hints_again [] s.hints [] o.1, p.0) refl

pub atoms_again : (n : ℕ) → n ≤ most_atoms → atoms_of (codes "atoms" ∷ decimal n ∷ []) ≡ Some n
unfolding atoms_of
atoms_again n h = rw (number_again most_atoms n [] (omega arith) h) refl

pub name_again : (name : List ℕ) → is_bare_name name ≡ true → name_of (joined (codes "block" ∷ name ∷ [])) ≡ Some name
unfolding name_of
name_again name h =
    let p = and_parts (is_name name) (bytes_eq (trim_end (trim_start name)) name) h in
    let bare : trim_end (trim_start (name ++ [])) ≡ name = ap (λ x. trim_end (trim_start x)) (append-nil name) ∙ (bytes_eq-Decides (trim_end (trim_start name)) name).0 p.1 in
    let behind : behind_word (joined (codes "block" ∷ name ∷ [])) ≡ name = bare in
    ap (λ x. cond (is_name x) (Some x) None) behind ∙ cond-true (is_name name) (Some name) None p.0

pub header_again : header_of header ≡ Some tt
unfolding header_of
header_again = refl
