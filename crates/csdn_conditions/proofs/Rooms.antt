-- How much room lists of formulas take.
use Rattle.std.proofs.Common.{◌≡◌, ◌∙◌, sym, ap, subst, refl, ℕ, suc, ◌+◌, ◌-◌, ◌<◌, ◌≤◌, List, [], ◌∷◌, ◌++◌, Result, Ok, Err, IfOk, IsErrAnd, append_assoc, arith}
use Rattle.std.specs.List.{flat_map, range_with_len}
use Rattle.std.specs.declared.alloc.AllocError.{AllocError}
use Rattle.std.proofs.lemmas.List.Sums.{sum_by-append}
use Rattle.csdn_core.specs.declared.syntax.Formula.{Formula}
use Rattle.csdn_core.specs.Nodes.{nodes}
use Rattle.fol_forms.specs.declared.refusal.FormRefusal.{FormRefusal}
use Rattle.fol_forms.specs.declared.refusal.FormRefusal.TheVariants.{Large, Memory}
use Rattle.fol_forms.specs.Answers.{widened}
use Rattle.fol_forms.specs.Limits.{most_nodes}
use Rattle.csdn_wp.specs.Makes.{Makes}
use Rattle.csdn_conditions.specs.declared.lists.Join.{Join}
use Rattle.csdn_conditions.specs.declared.lists.Join.TheVariants.{And, Or}
use Rattle.csdn_conditions.specs.Lists.{joined, two_joined}
use Rattle.csdn_conditions.specs.Answers.{nodes_of_all, TakesRoom}

nodes-two : (j : Join) (p q : Formula) → nodes (two_joined j p q) ≡ nodes p + nodes q + 1
unfolding nodes
nodes-two And p q = refl
nodes-two Or p q = refl

pub nodes-joined : (j : Join) (p : Formula) (ps : List Formula) → nodes (joined j (p ∷ ps)) + 1 ≡ nodes_of_all (p ∷ ps)
nodes-joined j p [] = omega arith
nodes-joined j p (q ∷ ps) =
    let rest = nodes-joined j q ps in
    let two : nodes (joined j (p ∷ q ∷ ps)) ≡ nodes p + nodes (joined j (q ∷ ps)) + 1 = nodes-two j p (joined j (q ∷ ps)) in
    let sum : nodes_of_all (p ∷ q ∷ ps) ≡ 0 + (nodes p + 1) + nodes_of_all (q ∷ ps) = sum_by-append (λ z. nodes z + 1) (p ∷ []) (q ∷ ps) in
    omega (arith, rest, two, sum)

one_node : (j : Join) → nodes (joined j []) ≡ 1
unfolding nodes
one_node And = refl
one_node Or = refl

small_joined : (j : Join) (ps : List Formula) (left : ℕ) → left + nodes_of_all ps ≡ most_nodes + 1 → nodes (joined j ps) ≤ most_nodes
small_joined j [] left is = let one = one_node j in omega (arith, one)
small_joined j (p ∷ ps) left is = let all = nodes-joined j p ps in omega (arith, all, is)

-- more room than there is
pub large_joined : (j : Join) (ps : List Formula) → most_nodes + 1 < nodes_of_all ps → most_nodes < nodes (joined j ps)
large_joined j [] more = absurd (omega (arith, more))
large_joined j (p ∷ ps) more = let all = nodes-joined j p ps in omega (arith, all, more)

pub joined_in_room : (j : Join) (ps : List Formula) (left : ℕ) (made : Result Formula AllocError) → left + nodes_of_all ps ≡ most_nodes + 1 → IfOk made (λ p. p ≡ joined j ps) → Makes most_nodes (joined j ps) (widened made)
joined_in_room j ps left (Ok p) is right = (right, small_joined j ps left is)
joined_in_room j ps left (Err e) is right = tt

-- one number further

module _ (f : ℕ → List Formula) where
  abbrev pub from : ℕ → ℕ → List Formula
  from k n = flat_map f (range_with_len k (n + 1 - k))

  pub from-next : (k n : ℕ) → k ≤ n → from k n ≡ f k ++ from (k + 1) n
  from-next k n within =
      let many : n + 1 - k ≡ suc (n - k) = omega (arith, within) in
      let fewer : n - k ≡ n + 1 - (k + 1) = omega arith in
      ap (λ m. flat_map f (range_with_len k m)) many ∙ ap (λ m. f k ++ flat_map f (range_with_len (k + 1) m)) fewer

  pub nodes-next : (k n : ℕ) → k ≤ n → nodes_of_all (from k n) ≡ nodes_of_all (f k) + nodes_of_all (from (k + 1) n)
  nodes-next k n within = ap nodes_of_all (from-next k n within) ∙ sum_by-append (λ p. nodes p + 1) (f k) (from (k + 1) n)

  pub members_next : (k n : ℕ) (old new all : List Formula) → k ≤ n → new ≡ old ++ f k → old ++ from k n ≡ all → new ++ from (k + 1) n ≡ all
  members_next k n old new all within added is =
      ap (λ (z : List Formula). z ++ from (k + 1) n) added ∙ append_assoc old (f k) (from (k + 1) n)
      ∙ ap (λ (z : List Formula). old ++ z) (sym (from-next k n within)) ∙ is

  pub room_next : (k n room left new total : ℕ) → k ≤ n → new + nodes_of_all (f k) ≡ left → left + total ≡ room + nodes_of_all (from k n)
      → new + total ≡ room + nodes_of_all (from (k + 1) n)
  room_next k n room left new total within taken balance =
      let next = nodes-next k n within in
      omega (arith, next, taken, balance)

  -- what the next number's formulas are refused for, all are
  pub all_refused : (k n room left : ℕ) (all : List Formula) (e : FormRefusal) → k ≤ n → left + nodes_of_all all ≡ room + nodes_of_all (from k n)
      → TakesRoom left (f k) (Err e) → TakesRoom room all (Err e)
  all_refused k n room left all Large within balance more =
      let next = nodes-next k n within in
      omega (arith, next, balance, more)
  all_refused k n room left all Memory within balance more = tt

pub refused_room : (room : ℕ) (ps : List Formula) (e : FormRefusal) (result : Result ℕ FormRefusal) → TakesRoom room ps (Err e) → IsErrAnd result (λ d. d ≡ e) → TakesRoom room ps result
refused_room room ps e (Ok left) why is = elim is [ ]
refused_room room ps e (Err d) why is = subst (λ (x : FormRefusal). TakesRoom room ps (Err x)) (sym is) why

-- a conjunction of formulas that had no room
conjunction_refused : (ps : List Formula) (e : FormRefusal) → TakesRoom (most_nodes + 1) ps (Err e) → Makes most_nodes (joined And ps) (Err e)
conjunction_refused ps Large more = large_joined And ps more
conjunction_refused ps Memory more = tt

pub conjunction_refused_by : (ps : List Formula) (e : FormRefusal) (result : Result Formula FormRefusal) → TakesRoom (most_nodes + 1) ps (Err e) → IsErrAnd result (λ d. d ≡ e) → Makes most_nodes (joined And ps) result
conjunction_refused_by ps e (Ok made) why is = elim is [ ]
conjunction_refused_by ps e (Err d) why is = subst (λ (x : FormRefusal). Makes most_nodes (joined And ps) (Err x)) (sym is) (conjunction_refused ps e why)
