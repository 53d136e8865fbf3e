-- A formula binds at most as many variables at once as it has nodes.
use Rattle.std.proofs.Common.{◌≡◌, ℕ, ◌+◌, ◌≤◌, max, ap, refl, arith}
use Rattle.csdn_core.specs.declared.syntax.Formula.{Formula}
use Rattle.csdn_core.specs.declared.syntax.Formula.TheVariants as f
use Rattle.csdn_core.specs.Tree.{negation, conjunction, disjunction, implication, equivalence, universal, existential}
use Rattle.csdn_core.specs.Nodes.{nodes}
use Rattle.csdn_core.specs.Depth.{depth}
use Rattle.csdn_conditions.specs.declared.sentence.Condition.{Condition}
use Rattle.csdn_conditions.specs.Conditions.{sentence}

of_two : (a b m n : ℕ) → a ≤ m → b ≤ n → max a b ≤ m + n + 1
of_two a b m n first second = grind (arith, first, second)

of_one : (a m : ℕ) → a ≤ m → a ≤ m + 1
of_one a m le = omega (arith, le)

bound : (a m : ℕ) → a ≤ m → a + 1 ≤ m + 1
bound a m le = omega (arith, le)

pub depth_within : (p : Formula) → depth p ≤ nodes p
unfolding depth nodes
depth_within f.True = omega arith
depth_within f.False = omega arith
depth_within (f.Atom r ts) = omega arith
depth_within (f.Same t u) = omega arith
depth_within (negation p) = of_one (depth p) (nodes p) (depth_within p)
depth_within (conjunction p q) = of_two (depth p) (depth q) (nodes p) (nodes q) (depth_within p) (depth_within q)
depth_within (disjunction p q) = of_two (depth p) (depth q) (nodes p) (nodes q) (depth_within p) (depth_within q)
depth_within (implication p q) = of_two (depth p) (depth q) (nodes p) (nodes q) (depth_within p) (depth_within q)
depth_within (equivalence p q) = of_two (depth p) (depth q) (nodes p) (nodes q) (depth_within p) (depth_within q)
depth_within (universal v s p) = bound (depth p) (nodes p) (depth_within p)
depth_within (existential v s p) = bound (depth p) (nodes p) (depth_within p)

sentence_nodes : (c : Condition) → nodes (sentence c) ≡ nodes c.hypothesis + (nodes c.goal + 1) + 1
unfolding nodes
sentence_nodes c = refl

-- the parts of a sentence have no more nodes
pub hypothesis_within : (made c : Condition) (most : ℕ) → made ≡ c → nodes (sentence c) ≤ most → nodes made.hypothesis ≤ most
hypothesis_within made c most is within =
    let e : nodes made.hypothesis ≡ nodes c.hypothesis = ap (λ (k : Condition). nodes k.hypothesis) is in
    let n = sentence_nodes c in
    omega (arith, e, n, within)

pub goal_within : (made c : Condition) (most : ℕ) → made ≡ c → nodes (sentence c) ≤ most → nodes made.goal ≤ most
goal_within made c most is within =
    let e : nodes made.goal ≡ nodes c.goal = ap (λ (k : Condition). nodes k.goal) is in
    let n = sentence_nodes c in
    omega (arith, e, n, within)
