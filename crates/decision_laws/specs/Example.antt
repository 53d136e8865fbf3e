-- A worked example: the step condition of a program that keeps a relation of hosts to one host at most.
--
--   rel r(HO);
--   safety one: forall X:HO, Y:HO. r(X) and r(Y) -> X = Y;
--   pktIn(s, src->dst, i) { r.insert(src); }
use Rattle.std.specs.Prelude.{ℕ, Bool, true, false, ◌==◌, ◌||◌, if◌then◌else◌, List, [], ◌∷◌, None}
use Rattle.csdn_core.specs.declared.terms.VarId.{VarId}
use Rattle.csdn_core.specs.declared.terms.Sort.{Sort}
use Rattle.csdn_core.specs.declared.terms.Sort.TheVariants.{Sw, Ho, Pr}
use Rattle.csdn_core.specs.declared.terms.Term.TheVariants.{Var, Port}
use Rattle.csdn_core.specs.declared.terms.Pred.{Pred}
use Rattle.csdn_core.specs.declared.terms.Pred.TheVariants.{Stored}
use Rattle.csdn_core.specs.declared.program.Parts.{Parts}
use Rattle.csdn_core.specs.declared.syntax.Formula.{Formula}
use Rattle.csdn_core.specs.declared.syntax.Formula.TheVariants.{True, Atom, Same}
use Rattle.csdn_core.specs.declared.syntax.Command.TheVariants.{Insert}
use Rattle.csdn_core.specs.Tree.{negation, conjunction, disjunction, implication, universal}
use Rattle.csdn_core.specs.Network.{Network}
use Rattle.decision_laws.specs.Copies.{Fact, Tuple, Equation, Copy, Leaf, Both, Either, Each}
use Rattle.clause_log.specs.Refutations.{Step}
use Rattle.decision_laws.specs.Clauses.{yes, no}
use Rattle.clause_log.specs.Literals.{Literal}

abbrev pub variable : ℕ → VarId
variable k = record { 0 = k }

abbrev pub r : Pred
r = Stored (record { 0 = 0 })

-- r(x)
abbrev pub has : ℕ → Formula
has x = Atom r (Var (variable x) ∷ [])

abbrev pub equal : ℕ → ℕ → Formula
equal x y = Same (Var (variable x)) (Var (variable y))

-- X is 0 and Y is 1
abbrev pub one : Formula
one = universal (variable 0) Ho (universal (variable 1) Ho (implication (conjunction (has 0) (has 1)) (equal 0 1)))

-- the same after src, which is 3, was put into r: X is 6 and Y is 7
abbrev pub one_after : Formula
one_after =
    universal (variable 6) Ho (universal (variable 7) Ho
    (implication (conjunction (disjunction (has 6) (equal 6 3)) (disjunction (has 7) (equal 7 3))) (equal 6 7)))

-- for every packet: s is 2, src 3, dst 4, i 5
abbrev pub goal : Formula
goal = universal (variable 2) Sw (universal (variable 3) Ho (universal (variable 4) Ho (universal (variable 5) Pr one_after)))

-- there is no topology invariant, so that the hypothesis begins with `true`
abbrev pub sentence : Formula
sentence = conjunction (conjunction True one) (negation goal)

abbrev pub program : Parts
program = record {
  relations = record { name = []; sorts = Ho ∷ []; fixed = false } ∷ [];
  constants = [];
  start = [];
  topology = [];
  safety = record { name = []; formula = one } ∷ [];
  trans = [];
  handlers = record { port = None; s = variable 2; a = variable 3; b = variable 4; i = variable 5; body = Insert (record { 0 = 0 }) (Var (variable 3) ∷ []) } ∷ [];
  numerals = [];
  timeout = None;
}

-- By hand. There are no names. The `exists` of the negated goal need one switch, four hosts (src is 0, dst 1, X 2, Y 3) and
-- one port.
abbrev pub example_counts : Sort → ℕ
example_counts Sw = 1
example_counts Ho = 4
example_counts Pr = 1

-- r of a host, and that two hosts are equal
abbrev pub r_of : ℕ → Fact
r_of a = Tuple r (a ∷ [])

abbrev pub hosts_equal : ℕ → ℕ → Fact
hosts_equal a b = Equation Ho a b

-- The hypothesis for each X and each Y, and the negated goal: X and Y have r or are src, and differ.
abbrev pub example_copies : Copy
example_copies =
    Both
    (Each 4 (λ a. Each 4 (λ b. Either (Either (Leaf false (r_of a)) (Leaf false (r_of b))) (Leaf true (hosts_equal a b)))))
    (Both
    (Both (Either (Leaf true (r_of 2)) (Leaf true (hosts_equal 2 0))) (Either (Leaf true (r_of 3)) (Leaf true (hosts_equal 3 0))))
    (Leaf false (hosts_equal 2 3)))

-- Atoms: 1 for the one switch equal to itself; for hosts a up to b, a = b has 2 + 4 * b + a; 18 for the one port; r(a) has
-- 19 + a. The 42 nodes have 23 to 64: 23 is the whole, 24 the hypothesis, 25, 34, 43 and 52 its copies for each X, each
-- with two nodes for each Y; 61 is the negated goal, 62 its left side, with 63 and 64.
abbrev pub example_node_clauses : List (List Literal)
example_node_clauses =
    (no 27 ∷ no 19 ∷ []) ∷ (no 26 ∷ yes 27 ∷ yes 2 ∷ []) ∷ (no 25 ∷ yes 26 ∷ []) ∷ (no 29 ∷ no 19 ∷ no 20 ∷ []) ∷
    (no 28 ∷ yes 29 ∷ yes 6 ∷ []) ∷ (no 25 ∷ yes 28 ∷ []) ∷ (no 31 ∷ no 19 ∷ no 21 ∷ []) ∷
    (no 30 ∷ yes 31 ∷ yes 10 ∷ []) ∷ (no 25 ∷ yes 30 ∷ []) ∷ (no 33 ∷ no 19 ∷ no 22 ∷ []) ∷
    (no 32 ∷ yes 33 ∷ yes 14 ∷ []) ∷ (no 25 ∷ yes 32 ∷ []) ∷ (no 24 ∷ yes 25 ∷ []) ∷
    (no 36 ∷ no 20 ∷ no 19 ∷ []) ∷ (no 35 ∷ yes 36 ∷ yes 6 ∷ []) ∷ (no 34 ∷ yes 35 ∷ []) ∷ (no 38 ∷ no 20 ∷ []) ∷
    (no 37 ∷ yes 38 ∷ yes 7 ∷ []) ∷ (no 34 ∷ yes 37 ∷ []) ∷ (no 40 ∷ no 20 ∷ no 21 ∷ []) ∷
    (no 39 ∷ yes 40 ∷ yes 11 ∷ []) ∷ (no 34 ∷ yes 39 ∷ []) ∷ (no 42 ∷ no 20 ∷ no 22 ∷ []) ∷
    (no 41 ∷ yes 42 ∷ yes 15 ∷ []) ∷ (no 34 ∷ yes 41 ∷ []) ∷ (no 24 ∷ yes 34 ∷ []) ∷
    (no 45 ∷ no 21 ∷ no 19 ∷ []) ∷ (no 44 ∷ yes 45 ∷ yes 10 ∷ []) ∷ (no 43 ∷ yes 44 ∷ []) ∷
    (no 47 ∷ no 21 ∷ no 20 ∷ []) ∷ (no 46 ∷ yes 47 ∷ yes 11 ∷ []) ∷ (no 43 ∷ yes 46 ∷ []) ∷
    (no 49 ∷ no 21 ∷ []) ∷ (no 48 ∷ yes 49 ∷ yes 12 ∷ []) ∷ (no 43 ∷ yes 48 ∷ []) ∷
    (no 51 ∷ no 21 ∷ no 22 ∷ []) ∷ (no 50 ∷ yes 51 ∷ yes 16 ∷ []) ∷ (no 43 ∷ yes 50 ∷ []) ∷
    (no 24 ∷ yes 43 ∷ []) ∷ (no 54 ∷ no 22 ∷ no 19 ∷ []) ∷ (no 53 ∷ yes 54 ∷ yes 14 ∷ []) ∷
    (no 52 ∷ yes 53 ∷ []) ∷ (no 56 ∷ no 22 ∷ no 20 ∷ []) ∷ (no 55 ∷ yes 56 ∷ yes 15 ∷ []) ∷
    (no 52 ∷ yes 55 ∷ []) ∷ (no 58 ∷ no 22 ∷ no 21 ∷ []) ∷ (no 57 ∷ yes 58 ∷ yes 16 ∷ []) ∷
    (no 52 ∷ yes 57 ∷ []) ∷ (no 60 ∷ no 22 ∷ []) ∷ (no 59 ∷ yes 60 ∷ yes 17 ∷ []) ∷ (no 52 ∷ yes 59 ∷ []) ∷
    (no 24 ∷ yes 52 ∷ []) ∷ (no 23 ∷ yes 24 ∷ []) ∷ (no 63 ∷ yes 21 ∷ yes 10 ∷ []) ∷ (no 62 ∷ yes 63 ∷ []) ∷
    (no 64 ∷ yes 22 ∷ yes 14 ∷ []) ∷ (no 62 ∷ yes 64 ∷ []) ∷ (no 61 ∷ yes 62 ∷ []) ∷ (no 61 ∷ no 16 ∷ []) ∷
    (no 23 ∷ yes 61 ∷ []) ∷ (yes 23 ∷ []) ∷ []

-- each constant is itself; equality of hosts is transitive; equal hosts replace each other in r
abbrev pub example_equality_clauses : List (List Literal)
example_equality_clauses =
    (yes 1 ∷ []) ∷ (yes 2 ∷ []) ∷ (yes 7 ∷ []) ∷ (yes 12 ∷ []) ∷ (yes 17 ∷ []) ∷ (no 6 ∷ no 11 ∷ yes 10 ∷ []) ∷
    (no 6 ∷ no 15 ∷ yes 14 ∷ []) ∷ (no 10 ∷ no 11 ∷ yes 6 ∷ []) ∷ (no 10 ∷ no 16 ∷ yes 14 ∷ []) ∷
    (no 14 ∷ no 15 ∷ yes 6 ∷ []) ∷ (no 14 ∷ no 16 ∷ yes 10 ∷ []) ∷ (no 6 ∷ no 10 ∷ yes 11 ∷ []) ∷
    (no 6 ∷ no 14 ∷ yes 15 ∷ []) ∷ (no 11 ∷ no 16 ∷ yes 15 ∷ []) ∷ (no 15 ∷ no 16 ∷ yes 11 ∷ []) ∷
    (no 10 ∷ no 14 ∷ yes 16 ∷ []) ∷ (no 11 ∷ no 15 ∷ yes 16 ∷ []) ∷ (yes 18 ∷ []) ∷ (no 6 ∷ no 19 ∷ yes 20 ∷ []) ∷
    (no 10 ∷ no 19 ∷ yes 21 ∷ []) ∷ (no 14 ∷ no 19 ∷ yes 22 ∷ []) ∷ (no 6 ∷ no 20 ∷ yes 19 ∷ []) ∷
    (no 11 ∷ no 20 ∷ yes 21 ∷ []) ∷ (no 15 ∷ no 20 ∷ yes 22 ∷ []) ∷ (no 10 ∷ no 21 ∷ yes 19 ∷ []) ∷
    (no 11 ∷ no 21 ∷ yes 20 ∷ []) ∷ (no 16 ∷ no 21 ∷ yes 22 ∷ []) ∷ (no 14 ∷ no 22 ∷ yes 19 ∷ []) ∷
    (no 15 ∷ no 22 ∷ yes 20 ∷ []) ∷ (no 16 ∷ no 22 ∷ yes 21 ∷ []) ∷ []

-- A judgement in which src, dst and Y are one host and X is another, which alone has r.
abbrev pub host_of : ℕ → ℕ
host_of a = if a == 2 then 2 else 1

abbrev pub example_meaning : Sort → ℕ → ℕ
example_meaning Sw a = 1
example_meaning Ho a = host_of a
example_meaning Pr a = 1

abbrev pub example_judgement : Fact → Bool
example_judgement (Tuple q []) = false
example_judgement (Tuple q (a ∷ as')) = host_of a == 2
example_judgement (Equation s a b) = example_meaning s a == example_meaning s b

-- its network, in whose state r holds of host 2 alone
abbrev pub example_network : Network
example_network = record { switches = 1 ∷ []; hosts = 1 ∷ 2 ∷ []; ports = 1 ∷ []; constants = []; rows = [] }

-- .. and with its hosts in another order
abbrev pub reordered_network : Network
reordered_network = record { switches = 1 ∷ []; hosts = 2 ∷ 1 ∷ []; ports = 1 ∷ []; constants = []; rows = [] }

-- A smaller one, with the numerals 1 and 2: `q(prt(1)) and not q(prt(1))` has no network, which a log of one step shows.
--
--   rel q(PR);
abbrev pub small_program : Parts
small_program = record {
  relations = record { name = []; sorts = Pr ∷ []; fixed = false } ∷ [];
  constants = [];
  start = [];
  topology = [];
  safety = [];
  trans = [];
  handlers = [];
  numerals = 1 ∷ 2 ∷ [];
  timeout = None;
}

abbrev pub contradiction : Formula
contradiction = conjunction (Atom r (Port 1 ∷ [])) (negation (Atom r (Port 1 ∷ [])))

-- By hand: 1 and 2 are the one switch and the one host, equal to themselves; of ports, 3 is 1 = 1, 5 is 1 = 2 and 6 is
-- 2 = 2; 7 and 8 are q of 1 and of 2, and 9 is the whole. Numerals never meet, so neither replaces the other in q.
abbrev pub contradiction_clauses : List (List Literal)
contradiction_clauses =
    (no 9 ∷ yes 7 ∷ []) ∷ (no 9 ∷ no 7 ∷ []) ∷ (yes 9 ∷ []) ∷ (yes 1 ∷ []) ∷ (yes 2 ∷ []) ∷ (yes 3 ∷ []) ∷
    (yes 6 ∷ []) ∷ (no 5 ∷ []) ∷ []

-- the third clause makes 9 true, the first then 7, and the second is broken
abbrev pub contradiction_log : List Step
contradiction_log = record { literals = []; hints = 3 ∷ 1 ∷ 2 ∷ [] } ∷ []

-- The whole and its first side are asked for first; the atoms 7 and 9 make both true, and break the second side.
abbrev pub first_clauses : List (List Literal)
first_clauses = (no 9 ∷ yes 7 ∷ []) ∷ (yes 9 ∷ []) ∷ []

abbrev pub seven_and_nine : ℕ → Bool
seven_and_nine x = x == 7 || x == 9

abbrev pub broken_clauses : List (List Literal)
broken_clauses = (no 9 ∷ no 7 ∷ []) ∷ []
