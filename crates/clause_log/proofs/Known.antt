-- The clauses that a step may name, and the walk along its hints.
use Rattle.std.proofs.Common.{◌≡◌, ℕ, zero, suc, ◌+◌, ◌-◌, ◌<◌, ◌≤◌, Bool, true, false, eqb, List, [], ◌∷◌, ◌++◌, map, take, drop, length, get_or, Some, None, refl, sym, ap, ap₂, ◌∙◌, arith, length-append}
use Rattle.std.specs.Prelude.{slice_get}
use Rattle.std.proofs.lemmas.Bool.{ne_eqb}
use Rattle.std.proofs.lemmas.Option.{slice_get_past}
use Rattle.std.proofs.lemmas.List.{length-take, length-map}
use Rattle.clause_log.specs.Literals.{Literal}
use Rattle.clause_log.specs.Assignments.{Assignment, assign, unit_literal, is_empty}
use Rattle.clause_log.specs.Refutations.{Step, no_step, clause_at, unit_at, with_unit, reaches_conflict, ends_empty, known}
use Rattle.general_facts.proofs.Lists.{rest_is}

numbered : (cs : List (List Literal)) (number at : ℕ) → number ≡ at + 1 → clause_at cs number ≡ slice_get cs at
numbered cs zero at e = absurd (omega arith)
numbered cs (suc n) at e = (let same : n ≡ at = omega arith in ap (slice_get cs) same)

slice_get-append : {X : Type 0} (xs ys : List X) (k i : ℕ) → k ≡ length xs + i → slice_get (xs ++ ys) k ≡ slice_get ys i
slice_get-append [] ys k i e = (let same : k ≡ i = omega arith in ap (slice_get ys) same)
slice_get-append (x ∷ xs) ys zero i e = absurd (omega arith)
slice_get-append (x ∷ xs) ys (suc k) i e = slice_get-append xs ys k i (omega arith)

step_clause : (ss : List Step) (n i : ℕ) → i < n → n ≤ length ss → slice_get (map (λ s. s.literals) (take n ss)) i ≡ Some (get_or ss i no_step).literals
step_clause [] n i l h = absurd (omega arith)
step_clause (s ∷ ss) zero i l h = absurd (omega arith)
step_clause (s ∷ ss) (suc n) zero l h = refl
step_clause (s ∷ ss) (suc n) (suc i) l h = step_clause ss n i (omega arith) (omega arith)

-- the number of an earlier step
pub clause_of_step : (cs : List (List Literal)) (ss : List Step) (n i number : ℕ) → number ≡ length cs + i + 1 → i < n → n ≤ length ss → Some (get_or ss i no_step).literals ≡ clause_at (known cs ss n) number
clause_of_step cs ss n i number e l h =
    sym (numbered (known cs ss n) number (length cs + i) e ∙ slice_get-append cs (map (λ s. s.literals) (take n ss)) (length cs + i) i refl ∙ step_clause ss n i l h)

-- a number past all
pub clause_past : (cs : List (List Literal)) (ss : List Step) (n i number : ℕ) → number ≡ length cs + i + 1 → n ≤ i → None ≡ clause_at (known cs ss n) number
clause_past cs ss n i number e l =
    let firsts = map (λ s. s.literals) (take n ss) in
    let count : length firsts ≤ n = omega (arith, length-map (take n ss) (λ s. s.literals), length-take n ss) in
    sym (numbered (known cs ss n) number (length cs + i) e ∙ slice_get_past (known cs ss n) (length cs + i) (omega (arith, count, length-append cs firsts)))

empty_by : (ls : List Literal) → eqb (length ls) 0 ≡ is_empty ls
empty_by [] = refl
empty_by (l ∷ ls) = ne_eqb (length (l ∷ ls)) 0 (λ e. omega arith)

pub last_empty : (ss : List Step) (i : ℕ) (ls : List Literal) (b : Bool) → i + 1 ≡ length ss → ls ≡ (get_or ss i no_step).literals → b ≡ eqb (length ls) 0 → b ≡ ends_empty ss
last_empty [] i ls b e is t = absurd (omega arith)
last_empty (s ∷ []) zero ls b e is t = t ∙ ap (λ z. eqb (length z) 0) is ∙ empty_by s.literals
last_empty (s ∷ []) (suc i) ls b e is t = absurd (omega arith)
last_empty (s ∷ r ∷ ss) zero ls b e is t = absurd (omega arith)
last_empty (s ∷ r ∷ ss) (suc i) ls b e is t = last_empty (r ∷ ss) i ls b (omega arith) is t

-- one hint on: its clause forces a literal
pub hint_more : (cs : List (List Literal)) (f g : Assignment) (rest : List ℕ) (h : ℕ) (c : List Literal) (l : Literal) (answer : Bool) → 1 ≤ length rest → h ≡ get_or rest 0 0 → Some c ≡ clause_at cs h
    → false ≡ eqb (length (take (length rest - 1) (drop 1 rest))) 0 → Some l ≡ unit_literal f c → g ≡ assign l f → reaches_conflict cs rest f ≡ answer
    → reaches_conflict cs (take (length rest - 1) (drop 1 rest)) g ≡ answer
hint_more cs f g [] h c l answer some first at more forced made goes = absurd (omega arith)
hint_more cs f g (x ∷ []) h c l answer some first at more forced made goes = absurd (let e : false ≡ true = more in cc)
hint_more cs f g (x ∷ k ∷ hs) h c l answer some first at more forced made goes =
    ap₂ (reaches_conflict cs) (rest_is x (k ∷ hs)) made
    ∙ ap (λ o. with_unit o f (reaches_conflict cs (k ∷ hs))) (forced ∙ ap (unit_at f) (at ∙ ap (clause_at cs) first)) ∙ goes
