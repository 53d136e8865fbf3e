-- Matches in order: lists of the same matches have one order.
use Rattle.std.proofs.Common.{◌≡◌, ◌∙◌, ap, sym, refl, Bool, true, false, ◌||◌, List, [], ◌∷◌}
use Rattle.std.proofs.Math.Bool.{or-false}
use Rattle.std.specs.List.{list_any}
use Rattle.std.specs.Ordering.{is_eq, match_ordering}
use Rattle.std.specs.declared.cmp.Ordering.TheVariants.{Less, Equal, Greater}
use Rattle.std.specs.BTreeMap.{is_at}
use Rattle.std.specs.BTreeSet.{BTreeSet, insert_key}
use Rattle.std.proofs.lemmas.Map.Lookups.{btree_set_from_contains}
use Rattle.csdn_core.specs.declared.event.Match.{Match}
use Rattle.net_structs.specs.Networks.{in_order, put_in_order}
use Rattle.net_structs.proofs.Ordered.{sorted-in_order}
use Rattle.csdn_step.specs.Courses.{same_match}
use Rattle.csdn_run.specs.Places.{match_cmp, match_total}
use Rattle.csdn_run.proofs.Markings.{match_is, same_match-is}

or_swap : (a b c : Bool) → (a || (b || c)) ≡ (b || (a || c))
or_swap true true c = refl
or_swap true false c = refl
or_swap false true c = refl
or_swap false false c = refl

or_again : (a b : Bool) → (a || b) ≡ (a || (a || b))
or_again true b = refl
or_again false b = refl

or_moved : (a b c : Bool) → ((a || b) || c) ≡ (b || (a || c))
or_moved true true c = refl
or_moved true false c = refl
or_moved false true c = refl
or_moved false false c = refl

equal_matches : (k m : Match) → match_cmp k m ≡ Equal → k ≡ m
equal_matches k m equal = same_match-is k m (sym (match_is k m) ∙ ap is_eq equal)

abbrev is_in : Match → List Match → Bool
is_in q ms = list_any (is_at (match_cmp q)) ms

insert_tied : (ms : List Match) (k q : Match) → is_in q (insert_key match_cmp ms k) ≡ (same_match q k || is_in q ms)
insert_tied [] k q = ap (λ b. b || false) (match_is q k)
insert_tied (m ∷ ms) k q = elim (match_cmp k m) as (λ r. match_cmp k m ≡ r → is_in q (match_ordering r (k ∷ m ∷ ms) (m ∷ ms) (m ∷ insert_key match_cmp ms k)) ≡ (same_match q k || (is_at (match_cmp q) m || is_in q ms))) [
  | Less ↦ λ is. ap (λ b. b || (is_at (match_cmp q) m || is_in q ms)) (match_is q k)
  | Equal ↦ λ is. or_again (is_at (match_cmp q) m) (is_in q ms) ∙ ap (λ b. b || (is_at (match_cmp q) m || is_in q ms)) (match_is q m ∙ ap (same_match q) (sym (equal_matches k m is)))
  | Greater ↦ λ is. ap (λ b. is_at (match_cmp q) m || b) (insert_tied ms k q) ∙ or_swap (is_at (match_cmp q) m) (same_match q k) (is_in q ms)
] refl

put_tied : (done ms : List Match) (q : Match) → is_in q (put_in_order match_cmp done ms) ≡ (is_in q done || list_any (same_match q) ms)
put_tied done [] q = sym (or-false (is_in q done))
put_tied done (m ∷ ms) q =
    put_tied (insert_key match_cmp done m) ms q ∙ ap (λ b. b || list_any (same_match q) ms) (insert_tied done m q)
    ∙ or_moved (same_match q m) (is_in q done) (list_any (same_match q) ms)

abbrev set_of : List Match → BTreeSet Match
set_of ms = record { keys = ms }

-- lists of the same matches have one order
pub same_order : (ms ks : List Match) → ((q : Match) → list_any (same_match q) ms ≡ list_any (same_match q) ks) → in_order match_cmp ms ≡ in_order match_cmp ks
same_order ms ks same =
    btree_set_from_contains match_total (set_of (in_order match_cmp ms)) (set_of (in_order match_cmp ks)) (sorted-in_order match_total ms) (sorted-in_order match_total ks)
    (λ q. put_tied [] ms q ∙ same q ∙ sym (put_tied [] ks q)) equal_matches
