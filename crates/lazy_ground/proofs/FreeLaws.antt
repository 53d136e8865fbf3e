-- Copies of which no node is named count as what they are, and their clauses are true.
use Rattle.std.proofs.Common.{◌≡◌, ◌∙◌, ℕ, zero, suc, ◌+◌, ◌<◌, ◌≤◌, Bool, true, false, [], ◌∷◌, ◌++◌, sym, ap, ap₂, ◌||◌, arith, cond, add-zero}
use Rattle.std.proofs.lemmas.Bool.{and_parts}
use Rattle.csdn_core.proofs.Members.{flat_in}
use Rattle.clause_log.specs.Literals.{literal_true, signed}
use Rattle.decision_laws.specs.Copies.{Copy, Known, Leaf, Both, Either, Each, Fact, judge}
use Rattle.decision_laws.specs.Clauses.{either_clauses, member_clause, node_clauses, size, sum_from, top}
use Rattle.decision_laws.specs.Vocabulary.{places_from}
use Rattle.decision_laws.proofs.Basics.{all_at, in_place, place_in, signed-same}
use Rattle.decision_laws.proofs.Read.{AllTrue}
use Rattle.ground_inst.specs.Facts.{num_of}
use Rattle.copy_truth.specs.declared.reading.Reading.{Reading}
use Rattle.lazy_ground.specs.Readings.{Completes, HasFreeParts, IsFree, named_by, node_value, true_by}
use Rattle.copy_truth.specs.Said.{said_by}
use Rattle.lazy_ground.proofs.FindLaws.{all_append, either_true, member_true, one_true}

sum_below : (g : ℕ → ℕ) (i m n : ℕ) → i < n → sum_from g m i + g (m + i) ≤ sum_from g m n
sum_below g zero m zero l = absurd (omega arith)
sum_below g (suc i) m zero l = absurd (omega arith)
sum_below g zero m (suc n) l = omega (arith, ap g (add-zero m))
sum_below g (suc i) m (suc n) l =
    let deep = sum_below g i (suc m) n (omega (arith, l)) in
    let at : suc m + i ≡ m + suc i = omega arith in
    omega (arith, deep, ap g at)

-- a part of nodes whose parts are free
part_free : (named : ℕ → Bool) (k n j m : ℕ) → HasFreeParts named k n → k < j → j + m ≤ k + n → IsFree named j m
part_free named k n j m h low high x a b = h x (omega (arith, low, a)) (omega (arith, high, b))

free_parts : (named : ℕ → Bool) (k n : ℕ) → IsFree named k n → HasFreeParts named k n
free_parts named k n h x a b = h x (omega (arith, a)) b

module _ (r : Reading) (w : ℕ → Bool) where
  abbrev num : Fact → ℕ
  num = num_of r.names.facts.now

  free_node : (k : ℕ) (c : Copy) → named_by r k ≡ false → w k ≡ node_value r k c → w k ≡ judge (said_by r) c
  free_node k c e h = h ∙ ap (λ b. cond b (true_by r k) (judge (said_by r) c)) e

  -- the literal of the whole is what the copies are
  pub free_top : (k : ℕ) (c : Copy) → Completes r w k c → IsFree (named_by r) k (size c) → literal_true w (top num k c) ≡ judge (said_by r) c
  free_top k (Known b) h f = absurd h
  free_top k (Leaf sign fact) h f = ap (signed sign) h ∙ signed-same sign (said_by r fact)
  free_top k (Both p q) h f = free_node k (Both p q) (f k (omega arith) (omega arith)) h.0
  free_top k (Either p q) h f = free_node k (Either p q) (f k (omega arith) (omega arith)) h.0
  free_top k (Each n c) h f = free_node k (Each n c) (f k (omega arith) (omega arith)) h.0

  -- where the copies are as true as the literal of the whole says, clauses of nodes whose parts are free are true
  pub parts_true : (k : ℕ) (c : Copy) → Completes r w k c → HasFreeParts (named_by r) k (size c) → (literal_true w (top num k c) ≡ true → judge (said_by r) c ≡ true) → AllTrue w (node_clauses num k c)
  parts_true k (Known b) h f whole = λ d i. absurd i
  parts_true k (Leaf sign fact) h f whole = λ d i. absurd i
  parts_true k (Both p q) h f whole =
      let fp = part_free (named_by r) k (size (Both p q)) (suc k) (size p) f (omega arith) (omega arith) in
      let fq = part_free (named_by r) k (size (Both p q)) (suc k + size p) (size q) f (omega arith) (omega arith) in
      let a = top num (suc k) p in
      let b = top num (suc k + size p) q in
      let is_a = free_top (suc k) p h.1 fp in
      let is_b = free_top (suc k + size p) q h.2 fq in
      all_append w (node_clauses num (suc k) p ++ member_clause k a ∷ []) (node_clauses num (suc k + size p) q ++ member_clause k b ∷ [])
      (all_append w (node_clauses num (suc k) p) (member_clause k a ∷ []) (parts_true (suc k) p h.1 (free_parts (named_by r) (suc k) (size p) fp) (λ t. sym is_a ∙ t))
      (one_true w (member_clause k a) (member_true w k a (λ e. is_a ∙ (and_parts (judge (said_by r) p) (judge (said_by r) q) (whole e)).0))))
      (all_append w (node_clauses num (suc k + size p) q) (member_clause k b ∷ []) (parts_true (suc k + size p) q h.2 (free_parts (named_by r) (suc k + size p) (size q) fq) (λ t. sym is_b ∙ t))
      (one_true w (member_clause k b) (member_true w k b (λ e. is_b ∙ (and_parts (judge (said_by r) p) (judge (said_by r) q) (whole e)).1))))
  parts_true k (Either p q) h f whole =
      let fp = part_free (named_by r) k (size (Either p q)) (suc k) (size p) f (omega arith) (omega arith) in
      let fq = part_free (named_by r) k (size (Either p q)) (suc k + size p) (size q) f (omega arith) (omega arith) in
      let a = top num (suc k) p in
      let b = top num (suc k + size p) q in
      let is_a = free_top (suc k) p h.1 fp in
      let is_b = free_top (suc k + size p) q h.2 fq in
      all_append w (node_clauses num (suc k) p) (node_clauses num (suc k + size p) q ++ either_clauses k a b) (parts_true (suc k) p h.1 (free_parts (named_by r) (suc k) (size p) fp) (λ t. sym is_a ∙ t))
      (all_append w (node_clauses num (suc k + size p) q) (either_clauses k a b) (parts_true (suc k + size p) q h.2 (free_parts (named_by r) (suc k + size p) (size q) fq) (λ t. sym is_b ∙ t))
      (either_true w k a b (λ e. ap₂ (λ x y. x || y) is_a is_b ∙ whole e)))
  parts_true k (Each n c) h f whole =
      let at : ℕ → ℕ = λ i. suc k + sum_from (λ x. size (c x)) 0 i in
      λ d i.
      let g = flat_in (λ y. node_clauses num (at y) (c y) ++ member_clause k (top num (at y) (c y)) ∷ []) (places_from 0 n) d i in
      let x = g.0 in
      let l : x < n = omega (arith, (in_place 0 n x g.1).1) in
      let zero-x : 0 + x ≡ x = omega arith in
      let high = sum_below (λ y. size (c y)) x 0 n l in
      let fx = part_free (named_by r) k (size (Each n c)) (at x) (size (c x)) f (omega arith) (omega (arith, high, ap (λ y. size (c y)) zero-x)) in
      let t = top num (at x) (c x) in
      let is_t = free_top (at x) (c x) (h.1 x l) fx in
      all_append w (node_clauses num (at x) (c x)) (member_clause k t ∷ []) (parts_true (at x) (c x) (h.1 x l) (free_parts (named_by r) (at x) (size (c x)) fx) (λ e. sym is_t ∙ e))
      (one_true w (member_clause k t) (member_true w k t (λ e. is_t ∙ all_at (λ y. judge (said_by r) (c y)) (places_from 0 n) x (place_in 0 n x (omega arith) (omega (arith, l))) (whole e)))) d g.2

  pub free_true : (k : ℕ) (c : Copy) → Completes r w k c → IsFree (named_by r) k (size c) → AllTrue w (node_clauses num k c)
  free_true k c h f = parts_true k c h (free_parts (named_by r) k (size c) f) (λ t. sym (free_top k c h f) ∙ t)
