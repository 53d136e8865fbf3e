-- What is printed of blocks reads as these blocks.
use Rattle.std.proofs.Common.{◌≡◌, ℕ, ◌+◌, ◌<◌, ◌^◌, true, List, [], ◌∷◌, ◌++◌, map, Option, Some, None, Ok, refl, sym, ap, subst, ◌∙◌, arith, append_assoc, append-nil}
use Rattle.std.specs.Prelude.{decimal, codes, option_map}
use Rattle.std.specs.List.{list_all, flat_map}
use Rattle.std.proofs.lemmas.Bool.{and_parts}
use Rattle.text_lines.specs.Text.{next, lines_left}
use Rattle.text_lines.specs.Machine.{goes_to, run, after_step, reading}
use Rattle.text_lines.specs.Printed.{joined, numbered}
use Rattle.text_lines.proofs.PrintedLaws.{words_joined, lines_fine}
use Rattle.clause_log.specs.Literals.{Literal, ClauseList, is_clause}
use Rattle.clause_log.specs.Refutations.{Step}
use Rattle.log_text.specs.declared.block.Block.{Block}
use Rattle.log_text.specs.declared.read.LogPlace.{LogPlace}
use Rattle.log_text.specs.declared.read.LogPlace.TheVariants as place
use Rattle.log_text.specs.Words.{atoms_of, step_of}
use Rattle.log_text.specs.LogText.{log_format, step, by_key, new_block, with_clause, with_step, steps_so_far, clause_words, step_words, header, end, block_lines, log_lines, log_text, is_log, is_block, are_blocks}
use Rattle.clause_log.specs.Limits.{is_step}
use Rattle.log_text.proofs.WordsAgain.{clause_again, step_again, atoms_again, name_again, header_again}
use Rattle.log_text.proofs.FineLines.{clause_line, step_line, parts_of, log_steps, atoms_line, blocks_fine}

-- reading the lines from a state gives v, whatever their numbers
abbrev Ends : ℕ → List Block → List (List (List ℕ)) → LogPlace → Type 0
Ends past v ls s = (at : ℕ) → run log_format past (numbered at ls) s ≡ Ok v

-- one line of which the step is known
line_ends : (past : ℕ) (v : List Block) (ws : List (List ℕ)) (ls : List (List (List ℕ))) (s t : LogPlace) → step s (joined ws) ≡ Ok t → Ends past v ls t → Ends past v (ws ∷ ls) s
line_ends past v ws ls s t e k at = ap (λ r. after_step at r (run log_format past (numbered (at + 1) ls))) e ∙ k (at + 1)

-- a block without a log
abbrev unlogged : List ℕ → ℕ → List (List Literal) → Block
unlogged name atoms cs = record { name = name; clauses = record { atoms = atoms; clauses = cs }; log = None }

abbrev logged : List ℕ → ClauseList → Option (List Step) → Block
logged name cs log = record { name = name; clauses = cs; log = log }

clauses_end : (past : ℕ) (v : List Block) (cs : List (List Literal)) (rest : List (List (List ℕ))) (blocks : List Block) (name : List ℕ) (atoms : ℕ) (done : List (List Literal)) → atoms < 2 ^ 64 → list_all (is_clause atoms) cs ≡ true
    → Ends past v rest (place.Open (unlogged name atoms (done ++ cs)) blocks) → Ends past v (map clause_words cs ++ rest) (place.Open (unlogged name atoms done) blocks)
clauses_end past v [] rest blocks name atoms done wide h k = subst (λ x. Ends past v rest (place.Open (unlogged name atoms x) blocks)) (append-nil done) k
clauses_end past v (c ∷ cs) rest blocks name atoms done wide h k =
    let p = and_parts (is_clause atoms c) (list_all (is_clause atoms) cs) h in
    let b : Block = unlogged name atoms done in
    let e : step (place.Open b blocks) (joined (clause_words c)) ≡ Ok (place.Open (with_clause b c) blocks) =
    ap (λ ws. by_key b blocks (next ws)) (words_joined (clause_words c) (clause_line atoms c wide p.0))
    ∙ ap (λ o. goes_to (option_map (with_clause b) o) (λ new. place.Open new blocks)) (clause_again atoms c wide p.0) in
    line_ends past v (clause_words c) (map clause_words cs ++ rest) (place.Open b blocks) (place.Open (with_clause b c) blocks) e
    (clauses_end past v cs rest blocks name atoms (done ++ c ∷ []) wide p.1 (subst (λ x. Ends past v rest (place.Open (unlogged name atoms x) blocks)) (sym (append_assoc done (c ∷ []) cs)) k))

-- the log after these steps
abbrev with_all : Option (List Step) → List Step → Option (List Step)
with_all log [] = log
with_all log (s ∷ ss) = with_all (Some (steps_so_far log ++ s ∷ [])) ss

with_all_some : (xs ss : List Step) → with_all (Some xs) ss ≡ Some (xs ++ ss)
with_all_some xs [] = ap Some (sym (append-nil xs))
with_all_some xs (s ∷ ss) = with_all_some (xs ++ s ∷ []) ss ∙ ap Some (append_assoc xs (s ∷ []) ss)

whole_log : (atoms : ℕ) (log : Option (List Step)) → is_log atoms log ≡ true → with_all None (steps_so_far log) ≡ log
whole_log atoms None h = refl
whole_log atoms (Some []) h = absurd cc
whole_log atoms (Some (s ∷ ss)) h = with_all_some (s ∷ []) ss

step_taken : (blocks : List Block) (name : List ℕ) (cs : ClauseList) (log : Option (List Step)) (ws : List (List ℕ))
    → by_key (logged name cs log) blocks (Some (codes "s", ws)) ≡ goes_to (option_map (with_step (logged name cs log)) (step_of cs.atoms ws)) (λ new. place.Open new blocks)
step_taken blocks name cs None ws = refl
step_taken blocks name cs (Some ss) ws = refl

end_taken : (blocks : List Block) (name : List ℕ) (cs : ClauseList) (log : Option (List Step)) → by_key (logged name cs log) blocks (Some (codes "end", [])) ≡ Ok (place.Between (blocks ++ logged name cs log ∷ []))
end_taken blocks name cs None = refl
end_taken blocks name cs (Some ss) = refl

steps_end : (past : ℕ) (v : List Block) (ss : List Step) (rest : List (List (List ℕ))) (blocks : List Block) (name : List ℕ) (cs : ClauseList) (log : Option (List Step)) → cs.atoms < 2 ^ 64 → list_all (is_step cs.atoms) ss ≡ true
    → Ends past v rest (place.Open (logged name cs (with_all log ss)) blocks) → Ends past v (map step_words ss ++ rest) (place.Open (logged name cs log) blocks)
steps_end past v [] rest blocks name cs log wide h k = k
steps_end past v (s ∷ ss) rest blocks name cs log wide h k =
    let p = and_parts (is_step cs.atoms s) (list_all (is_step cs.atoms) ss) h in
    let b : Block = logged name cs log in
    let e : step (place.Open b blocks) (joined (step_words s)) ≡ Ok (place.Open (with_step b s) blocks) =
    ap (λ ws. by_key b blocks (next ws)) (words_joined (step_words s) (step_line cs.atoms s wide p.0))
    ∙ step_taken blocks name cs log _
    ∙ ap (λ o. goes_to (option_map (with_step b) o) (λ new. place.Open new blocks)) (step_again cs.atoms s wide p.0) in
    line_ends past v (step_words s) (map step_words ss ++ rest) (place.Open b blocks) (place.Open (with_step b s) blocks) e
    (steps_end past v ss rest blocks name cs (Some (steps_so_far log ++ s ∷ [])) wide p.1 k)

block_ends : (past : ℕ) (v : List Block) (more : List (List (List ℕ))) (blocks : List Block) (b : Block) → is_block b ≡ true → Ends past v more (place.Between (blocks ++ b ∷ [])) → Ends past v (block_lines b ++ more) (place.Between blocks)
block_ends past v more blocks b h k =
    let w = parts_of b h in
    let atoms = b.clauses.atoms in
    let wide : atoms < 2 ^ 64 = let a = w.atoms in omega arith in
    let clauses = map clause_words b.clauses.clauses in
    let steps = map step_words (steps_so_far b.log) in
    let named : LogPlace = place.Named b.name blocks in
    let first : step (place.Between blocks) (joined (codes "block" ∷ b.name ∷ [])) ≡ Ok named =
    ap (λ o. goes_to o (λ name. place.Named name blocks)) (name_again b.name w.name) in
    let second : step (place.Named b.name blocks) (joined (codes "atoms" ∷ decimal atoms ∷ [])) ≡ Ok (place.Open (new_block b.name atoms) blocks) =
    ap (λ ws. goes_to (atoms_of ws) (λ n. place.Open (new_block b.name n) blocks)) (words_joined (codes "atoms" ∷ decimal atoms ∷ []) (atoms_line atoms w.atoms))
    ∙ ap (λ o. goes_to o (λ n. place.Open (new_block b.name n) blocks)) (atoms_again atoms w.atoms) in
    let last : Ends past v (end ∷ more) (place.Open b blocks) =
    line_ends past v end more (place.Open b blocks) (place.Between (blocks ++ b ∷ [])) (end_taken blocks b.name b.clauses b.log) k in
    let tail : Ends past v (clauses ++ (steps ++ end ∷ more)) (place.Open (new_block b.name atoms) blocks) =
    clauses_end past v b.clauses.clauses (steps ++ end ∷ more) blocks b.name atoms [] wide w.clauses
    (steps_end past v (steps_so_far b.log) (end ∷ more) blocks b.name b.clauses None wide (log_steps atoms b.log w.log)
    (subst (λ x. Ends past v (end ∷ more) (place.Open (logged b.name b.clauses x) blocks)) (sym (whole_log atoms b.log w.log)) last)) in
    let joined_up : (clauses ++ (steps ++ end ∷ [])) ++ more ≡ clauses ++ (steps ++ end ∷ more) =
    append_assoc clauses (steps ++ end ∷ []) more ∙ ap (λ x. clauses ++ x) (append_assoc steps (end ∷ []) more) in
    let others : List (List (List ℕ)) = (clauses ++ (steps ++ end ∷ [])) ++ more in
    line_ends past v (codes "block" ∷ b.name ∷ []) ((codes "atoms" ∷ decimal atoms ∷ []) ∷ others) (place.Between blocks) named first
    (line_ends past v (codes "atoms" ∷ decimal atoms ∷ []) others named (place.Open (new_block b.name atoms) blocks) second
    (subst (λ x. Ends past v x (place.Open (new_block b.name atoms) blocks)) (sym joined_up) tail))

blocks_end : (past : ℕ) (done bs : List Block) → are_blocks bs ≡ true → Ends past (done ++ bs) (flat_map block_lines bs) (place.Between done)
blocks_end past done [] h = λ at. ap Ok (sym (append-nil done))
blocks_end past done (b ∷ bs) h =
    let p = and_parts (is_block b) (are_blocks bs) h in
    block_ends past (done ++ b ∷ bs) (flat_map block_lines bs) done b p.0
    (subst (λ v. Ends past v (flat_map block_lines bs) (place.Between (done ++ b ∷ []))) (append_assoc done (b ∷ []) bs) (blocks_end past (done ++ b ∷ []) bs p.1))

pub log_again : (bs : List Block) → are_blocks bs ≡ true → reading log_format (log_text bs) ≡ Ok bs
log_again bs h =
    let past = (lines_left 1 (log_text bs)).past in
    let first : step place.Header (joined header) ≡ Ok (place.Between []) = rw (header_again) refl in
    ap (λ ls. run log_format past ls log_format.start) (lines_fine 1 (log_lines bs) (blocks_fine bs h))
    ∙ line_ends past bs header (flat_map block_lines bs) log_format.start (place.Between []) first (blocks_end past [] bs h) 1
