-- Printed steps, given back, are accepted.
use Rattle.std.proofs.Common.{◌≡◌, ℕ, true, cond, ◌&&◌, List, [], ◌∷◌, ◌++◌, Some, refl, sym, ap}
use Rattle.std.specs.Prelude.{codes}
use Rattle.std.specs.List.{list_all}
use Rattle.std.proofs.lemmas.Bool.{and_parts, and_from, false≢true}
use Rattle.std.proofs.lemmas.List.{append-nil}
use Rattle.clause_log.specs.Refutations.{Step, steps_hold, ends_empty, is_refutation}
use Rattle.clause_log.specs.Limits.{is_step}
use Rattle.clause_search.specs.Outcomes.{IsRefutationOf}
use Rattle.log_text.specs.declared.block.Block.{Block}
use Rattle.log_text.specs.LogText.{is_bare_name, is_clause_list, is_log, is_block, log_text}
use Rattle.log_text.proofs.ReadBack.{log_again}
use Rattle.clause_listing.specs.Listings.{IsListing, with_log}

some_step : (atoms : ℕ) (log : List Step) → ends_empty log ≡ true → list_all (is_step atoms) log ≡ true → is_log atoms (Some log) ≡ true
some_step atoms [] e h = absurd (false≢true e)
some_step atoms (s ∷ ss) e h = h

block_fits : (b : Block) (log : List Step) → is_block b ≡ true → IsRefutationOf b.clauses log → is_block (with_log b log) ≡ true
block_fits b log h r =
    let p = and_parts (is_bare_name b.name) (is_clause_list b.clauses && is_log b.clauses.atoms b.log) h in
    let q = and_parts (is_clause_list b.clauses) (is_log b.clauses.atoms b.log) p.1 in
    let e = and_parts (steps_hold b.clauses.clauses log) (ends_empty log) r.accepted in
    and_from (is_bare_name b.name) (is_clause_list b.clauses && is_log b.clauses.atoms (Some log)) p.0
    (and_from (is_clause_list b.clauses) (is_log b.clauses.atoms (Some log)) q.0 (some_step b.clauses.atoms log e.1 r.within))

pub accepted_again : (b : Block) (log : List Step) → is_block b ≡ true → IsRefutationOf b.clauses log → IsListing (log_text (with_log b log ∷ [])) (b.name ++ codes ": accepted\n") true
accepted_again b log h r =
    let yes : List ℕ = codes ": accepted\n" in
    record {
      blocks = with_log b log ∷ [];
      read = log_again (with_log b log ∷ []) (and_from (is_block (with_log b log)) true (block_fits b log h r) refl);
      listed = (yes, [], sym (ap (λ t. cond t yes (codes ": not accepted\n")) r.accepted), refl, sym (append-nil (b.name ++ yes)));
      passed = sym (and_from (is_refutation b.clauses.clauses log) true r.accepted refl);
    }
