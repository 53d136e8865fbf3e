-- Partial assignments, and what a clause says under one.
use Rattle.std.specs.Prelude.{ℕ, Bool, true, false, not, ◌==◌, if◌then◌else◌, List, [], ◌∷◌, filter, Option, Some, None, is_none}
use Rattle.std.specs.Option.{option_map}
use Rattle.clause_log.specs.Literals.{Literal, signed, negated}

-- a partial assignment gives some atoms a truth value
abbrev pub Assignment : Type 0
Assignment = ℕ → Option Bool

abbrev pub no_values : Assignment
no_values a = None

-- the literal's truth value, where its atom has one
abbrev pub literal_value : Assignment → Literal → Option Bool
literal_value f l = option_map (signed l.positive) (f l.atom)

abbrev pub says_false : Option Bool → Bool
says_false None = false
says_false (Some b) = not b

abbrev pub is_false : Assignment → Literal → Bool
is_false f l = says_false (literal_value f l)

-- the same, with this literal true
abbrev pub assign : Literal → Assignment → Assignment
assign l f = λ a. if a == l.atom then Some l.positive else f a

-- the same, with these literals false
abbrev pub with_false : Assignment → List Literal → Assignment
with_false f [] = f
with_false f (l ∷ ls) = with_false (assign (negated l) f) ls

-- the literals of a clause that are not false
abbrev pub open_literals : Assignment → List Literal → List Literal
open_literals f c = filter (λ l. not (is_false f l)) c

-- the one literal of a list, where it has no value yet
abbrev pub only_new : Assignment → List Literal → Option Literal
only_new f [] = None
only_new f (l ∷ []) = if is_none (f l.atom) then Some l else None
only_new f (l ∷ m ∷ ls) = None

-- the literal that a clause forces: the only one that is not false, and it has no value yet
abbrev pub unit_literal : Assignment → List Literal → Option Literal
unit_literal f c = only_new f (open_literals f c)

abbrev pub is_empty : List Literal → Bool
is_empty [] = true
is_empty (l ∷ ls) = false

-- the clause has false literals alone
abbrev pub is_conflict : Assignment → List Literal → Bool
is_conflict f c = is_empty (open_literals f c)
