-- The lines of blocks are lines that count.
use Rattle.std.proofs.Common.{◌≡◌, ℕ, ◌<◌, ◌≤◌, ◌^◌, Bool, true, false, not, eqb, leb, ltb, ◌&&◌, ◌||◌, List, [], ◌∷◌, ◌++◌, map, length, Option, Some, None, refl, ap, ◌∙◌, arith}
use Rattle.std.specs.Prelude.{decimal, codes}
use Rattle.std.specs.List.{list_all, flat_map}
use Rattle.std.specs.Str.{bytes_eq}
use Rattle.std.proofs.lemmas.Bool.{and_parts, and_from, or_parts, leb-true, ltb-false, ne_eqb, lt-ltb}
use Rattle.std.proofs.lemmas.List.Folds.{list_all-append}
use Rattle.text_lines.specs.Text.{words, has_bytes, is_passed_over}
use Rattle.text_lines.specs.Rest.{trim_start, trim_end}
use Rattle.text_lines.specs.Printed.{is_plain, is_word, is_line, joined, is_fine, is_open}
use Rattle.text_lines.proofs.Distincts.{at_else}
use Rattle.text_lines.proofs.PrintedLaws.{word_decimal, words_decimal, line_fine, word_front}
use Rattle.clause_log.specs.Literals.{Literal, has_distinct_atoms, is_within, is_clause}
use Rattle.clause_log.specs.Refutations.{Step}
use Rattle.log_text.specs.declared.block.Block.{Block}
use Rattle.log_text.specs.Words.{most_atoms, are_printable, is_name}
use Rattle.log_text.specs.LogText.{literal_word, zero_word, clause_words, step_words, steps_so_far, end, block_lines, is_positive, is_log, is_bare_name, is_clause_list, is_block, are_blocks}
use Rattle.clause_log.specs.Limits.{most_hint, is_step}
use Rattle.log_text.proofs.WordsAgain.{within_positive}

literal_is_word : (sign : Bool) (n : ℕ) → n < 2 ^ 64 → is_word (literal_word (record { positive = sign; atom = n })) ≡ true
literal_is_word true n h = word_decimal n h
literal_is_word false n h = (and_parts (has_bytes (decimal n)) (list_all is_plain (decimal n)) (word_decimal n h)).1

append_all : {X : Type 0} (test : X → Bool) (xs ys : List X) → list_all test xs ≡ true → list_all test ys ≡ true → list_all test (xs ++ ys) ≡ true
append_all test xs ys h k = list_all-append test xs ys ∙ and_from (list_all test xs) (list_all test ys) h k

below_of : (most n : ℕ) → most < 2 ^ 64 → is_positive most n ≡ true → n < 2 ^ 64
below_of most n wide h = let p = and_parts (not (eqb n 0)) (leb n most) h in let le = leb-true n most p.1 in omega arith

literals_words : (atoms : ℕ) (lits : List Literal) → atoms < 2 ^ 64 → list_all (is_within atoms) lits ≡ true → list_all is_word (map literal_word lits) ≡ true
literals_words atoms [] wide h = refl
literals_words atoms (l ∷ lits) wide h =
    let p = and_parts (is_within atoms l) (list_all (is_within atoms) lits) h in
    and_from (is_word (literal_word l)) (list_all is_word (map literal_word lits)) (literal_is_word l.positive l.atom (below_of atoms l.atom wide (within_positive atoms l.atom p.0))) (literals_words atoms lits wide p.1)

hints_words : (hints : List ℕ) → list_all (is_positive most_hint) hints ≡ true → list_all is_word (map decimal hints) ≡ true
hints_words [] h = refl
hints_words (n ∷ hints) h =
    let p = and_parts (is_positive most_hint n) (list_all (is_positive most_hint) hints) h in
    and_from (is_word (decimal n)) (list_all is_word (map decimal hints)) (word_decimal n (below_of most_hint n (omega arith) p.0)) (hints_words hints p.1)

pub clause_line : (atoms : ℕ) (lits : List Literal) → atoms < 2 ^ 64 → is_clause atoms lits ≡ true → is_line (clause_words lits) ≡ true
clause_line atoms lits wide h =
    let p = and_parts (has_distinct_atoms lits) (list_all (is_within atoms) lits) h in
    append_all is_word (map literal_word lits) (zero_word ∷ []) (literals_words atoms lits wide p.1) refl

pub step_line : (atoms : ℕ) (s : Step) → atoms < 2 ^ 64 → is_step atoms s ≡ true → is_line (step_words s) ≡ true
step_line atoms s wide h =
    let o = and_parts (is_clause atoms s.literals) (list_all (is_positive most_hint) s.hints) h in
    let p = and_parts (has_distinct_atoms s.literals) (list_all (is_within atoms) s.literals) o.0 in
    append_all is_word (map literal_word s.literals) (zero_word ∷ (map decimal s.hints ++ zero_word ∷ [])) (literals_words atoms s.literals wide p.1) (append_all is_word (map decimal s.hints) (zero_word ∷ []) (hints_words s.hints o.1) refl)

printable_parts : (b : ℕ) (bs : List ℕ) → are_printable (b ∷ bs) ≡ true → (32 ≤ b) × (are_printable bs ≡ true)
printable_parts b bs h =
    let p = at_else (ltb b 32 || ltb 126 b) (are_printable bs) h in
    (ltb-false b 32 (or_parts (ltb b 32) (ltb 126 b) p.0).0, p.1)

printable_open : (name rest : List ℕ) → are_printable name ≡ true → is_open rest ≡ true → is_open (name ++ rest) ≡ true
printable_open [] rest h k = k
printable_open (b ∷ name) rest h k =
    let p = printable_parts b name h in
    and_from (not (eqb b 10)) (is_open (name ++ rest)) (ap not (ne_eqb b 10 (λ e. omega (arith, p.0)))) (printable_open name rest p.1 k)

block_line : (name : List ℕ) → is_bare_name name ≡ true → is_fine (codes "block" ∷ name ∷ []) ≡ true
block_line name h =
    let p = and_parts (is_name name) (bytes_eq (trim_end (trim_start name)) name) h in
    let q = and_parts (ltb 0 (length name) && leb (length name) 200) (are_printable name) p.0 in
    let front : words (joined (codes "block" ∷ name ∷ [])) ≡ codes "block" ∷ words (name ++ []) = word_front (codes "block") (name ++ []) refl in
    and_from (is_open (joined (codes "block" ∷ name ∷ []))) (not (is_passed_over (words (joined (codes "block" ∷ name ∷ [])))))
    (printable_open name [] q.1 refl) (ap (λ ws. not (is_passed_over ws)) front)

clauses_fine : (atoms : ℕ) (cs : List (List Literal)) → atoms < 2 ^ 64 → list_all (is_clause atoms) cs ≡ true → list_all is_fine (map clause_words cs) ≡ true
clauses_fine atoms [] wide h = refl
clauses_fine atoms (c ∷ cs) wide h =
    let p = and_parts (is_clause atoms c) (list_all (is_clause atoms) cs) h in
    and_from (is_fine (clause_words c)) (list_all is_fine (map clause_words cs)) (line_fine (clause_words c) (clause_line atoms c wide p.0)) (clauses_fine atoms cs wide p.1)

steps_fine : (atoms : ℕ) (ss : List Step) → atoms < 2 ^ 64 → list_all (is_step atoms) ss ≡ true → list_all is_fine (map step_words ss) ≡ true
steps_fine atoms [] wide h = refl
steps_fine atoms (s ∷ ss) wide h =
    let p = and_parts (is_step atoms s) (list_all (is_step atoms) ss) h in
    and_from (is_fine (step_words s)) (list_all is_fine (map step_words ss)) (line_fine (step_words s) (step_line atoms s wide p.0)) (steps_fine atoms ss wide p.1)

-- the parts of a block that has a text
pub record HasText (b : Block) : Type 0 where
  pub name : is_bare_name b.name ≡ true
  pub atoms : b.clauses.atoms ≤ most_atoms
  pub clauses : list_all (is_clause b.clauses.atoms) b.clauses.clauses ≡ true
  pub log : is_log b.clauses.atoms b.log ≡ true

pub parts_of : (b : Block) → is_block b ≡ true → HasText b
parts_of b h =
    let p = and_parts (is_bare_name b.name) (is_clause_list b.clauses && is_log b.clauses.atoms b.log) h in
    let q = and_parts (is_clause_list b.clauses) (is_log b.clauses.atoms b.log) p.1 in
    let r = and_parts (leb b.clauses.atoms most_atoms) (list_all (is_clause b.clauses.atoms) b.clauses.clauses) q.0 in
    record { name = p.0; atoms = leb-true b.clauses.atoms most_atoms r.0; clauses = r.1; log = q.1 }

pub log_steps : (atoms : ℕ) (log : Option (List Step)) → is_log atoms log ≡ true → list_all (is_step atoms) (steps_so_far log) ≡ true
log_steps atoms None h = refl
log_steps atoms (Some []) h = absurd cc
log_steps atoms (Some (s ∷ ss)) h = h

pub atoms_line : (n : ℕ) → n ≤ most_atoms → is_line (codes "atoms" ∷ decimal n ∷ []) ≡ true
atoms_line n h = words_decimal (n ∷ []) (and_from (ltb n (2 ^ 64)) true (lt-ltb n (2 ^ 64) (omega arith)) refl)

block_fine : (b : Block) → is_block b ≡ true → list_all is_fine (block_lines b) ≡ true
block_fine b h =
    let w = parts_of b h in
    let atoms = b.clauses.atoms in
    let wide : atoms < 2 ^ 64 = let a = w.atoms in omega arith in
    let clauses = map clause_words b.clauses.clauses in
    let steps = map step_words (steps_so_far b.log) in
    and_from (is_fine (codes "block" ∷ b.name ∷ [])) (is_fine (codes "atoms" ∷ decimal atoms ∷ []) && list_all is_fine (clauses ++ (steps ++ end ∷ []))) (block_line b.name w.name)
    (and_from (is_fine (codes "atoms" ∷ decimal atoms ∷ [])) (list_all is_fine (clauses ++ (steps ++ end ∷ []))) (line_fine (codes "atoms" ∷ decimal atoms ∷ []) (atoms_line atoms w.atoms))
    (append_all is_fine clauses (steps ++ end ∷ []) (clauses_fine atoms b.clauses.clauses wide w.clauses)
    (append_all is_fine steps (end ∷ []) (steps_fine atoms (steps_so_far b.log) wide (log_steps atoms b.log w.log)) refl)))

pub blocks_fine : (bs : List Block) → are_blocks bs ≡ true → list_all is_fine (flat_map block_lines bs) ≡ true
blocks_fine [] h = refl
blocks_fine (b ∷ bs) h = let p = and_parts (is_block b) (are_blocks bs) h in append_all is_fine (block_lines b) (flat_map block_lines bs) (block_fine b p.0) (blocks_fine bs p.1)
