-- Literals, clauses, and the valuations that make them true.
use Rattle.std.specs.Prelude.{◌≡◌, ℕ, ◌+◌, ◌-◌, Bool, true, false, not, ◌&&◌, ◌==◌, nat_lt, nat_le, if◌then◌else◌, ℤ, pos, negsuc, List, [], ◌∷◌}
use Rattle.std.specs.List.{list_any, list_all}

-- an atom, or its negation
pub record Literal : Type 0 where
  pub positive : Bool
  pub atom : ℕ

abbrev pub negated : Literal → Literal
negated l = record { positive = not l.positive; atom = l.atom }

-- the truth value of a literal with this sign, where its atom has this value
abbrev pub signed : Bool → Bool → Bool
signed true b = b
signed false b = not b

-- a valuation gives each atom a truth value
abbrev pub literal_true : (ℕ → Bool) → Literal → Bool
literal_true v l = signed l.positive (v l.atom)

-- a clause is true where one of its literals is
abbrev pub clause_true : (ℕ → Bool) → List Literal → Bool
clause_true v c = list_any (literal_true v) c

-- the valuation makes each clause true
abbrev pub IsModel : (ℕ → Bool) → List (List Literal) → Type 0
IsModel v cs = list_all (clause_true v) cs ≡ true

-- clauses over the atoms from 1 to `atoms`
pub record ClauseList : Type 0 where
  pub atoms : ℕ
  pub clauses : List (List Literal)

abbrev pub has_atom : ℕ → List Literal → Bool
has_atom a ls = list_any (λ l. a == l.atom) ls

-- no two of the literals are of one atom
abbrev pub has_distinct_atoms : List Literal → Bool
has_distinct_atoms [] = true
has_distinct_atoms (l ∷ ls) = not (has_atom l.atom ls) && has_distinct_atoms ls

-- a literal of an atom from 1 to `atoms`
abbrev pub is_within : ℕ → Literal → Bool
is_within atoms l = nat_lt 0 l.atom && nat_le l.atom atoms

-- literals of distinct atoms from 1 to `atoms`
abbrev pub is_clause : ℕ → List Literal → Bool
is_clause atoms c = has_distinct_atoms c && list_all (is_within atoms) c

-- the literal that a number other than 0 stands for
abbrev pub literal_of : ℤ → Literal
literal_of (pos n) = record { positive = true; atom = n }
literal_of (negsuc n) = record { positive = false; atom = n + 1 }

-- the number that stands for a literal
abbrev pub number_of : Literal → ℤ
number_of l = if l.positive then pos l.atom else negsuc (l.atom - 1)

-- the valuation under which these atoms are true and all others false
abbrev pub truths : List ℕ → ℕ → Bool
truths trues a = list_any (λ t. t == a) trues
