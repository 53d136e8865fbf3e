-- Going through a clause under a partial assignment.
use Rattle.std.proofs.Common.{◌≡◌, ◌-◌, ◌≤◌, Bool, true, false, cond, not, List, [], ◌∷◌, ◌++◌, length, take, drop, get_or, Option, Some, None, refl, sym, ap, ap₂, ◌∙◌, arith}
use Rattle.general_facts.proofs.Lists.{rest_is}
use Rattle.std.specs.Prelude.{is_none}
use Rattle.std.specs.Option.{option_map}
use Rattle.clause_log.specs.Literals.{Literal, signed, negated}
use Rattle.clause_log.specs.Assignments.{Assignment, assign, with_false, literal_value, says_false, open_literals, only_new, is_empty, is_conflict}

-- a false literal is left out
pub open-false : (f : Assignment) (l : Literal) (ls : List Literal) → literal_value f l ≡ Some false → open_literals f (l ∷ ls) ≡ open_literals f ls
open-false f l ls e = ap (λ o. cond (not (says_false o)) (l ∷ open_literals f ls) (open_literals f ls)) e

pub open-true : (f : Assignment) (l : Literal) (ls : List Literal) → literal_value f l ≡ Some true → open_literals f (l ∷ ls) ≡ l ∷ open_literals f ls
open-true f l ls e = ap (λ o. cond (not (says_false o)) (l ∷ open_literals f ls) (open_literals f ls)) e

pub open-new : (f : Assignment) (l : Literal) (ls : List Literal) → literal_value f l ≡ None → open_literals f (l ∷ ls) ≡ l ∷ open_literals f ls
open-new f l ls e = ap (λ o. cond (not (says_false o)) (l ∷ open_literals f ls) (open_literals f ls)) e

-- a literal without a value is of an atom without one
pub no_value_by : (s : Bool) (o : Option Bool) → option_map (signed s) o ≡ None → o ≡ None
no_value_by s None e = refl
no_value_by s (Some b) e = absurd cc

value_by : (s : Bool) (b : Bool) (o : Option Bool) → option_map (signed s) o ≡ Some b → is_none o ≡ false
value_by s b None e = absurd cc
value_by s b (Some d) e = refl

-- the literals that were found open so far: none, or one without a value
abbrev pub found_list : Option Literal → List Literal
found_list None = []
found_list (Some l) = l ∷ []

abbrev pub IsNew : Assignment → Option Literal → Type 0
IsNew f None = Unit {0}
IsNew f (Some l) = f l.atom ≡ None

-- what is found, with what the rest of the clause gives, makes up the answer
pub record IsUnitOf (f : Assignment) (found : Option Literal) (rest : List Literal) (answer : Option Literal) : Type 0 where
  pub goes_on : only_new f (found_list found ++ open_literals f rest) ≡ answer
  pub new : IsNew f found

pub unit_done : (f : Assignment) (found : Option Literal) (answer : Option Literal) → IsUnitOf f found [] answer → found ≡ answer
unit_done f None answer h = h.goes_on
unit_done f (Some l) answer h = sym (ap (λ o. cond (is_none o) (Some l) None) h.new) ∙ h.goes_on

pub unit_false : (f : Assignment) (found : Option Literal) (l : Literal) (ls : List Literal) (answer : Option Literal) → literal_value f l ≡ Some false → IsUnitOf f found (l ∷ ls) answer → IsUnitOf f found ls answer
unit_false f found l ls answer e h = record { goes_on = sym (ap (λ z. only_new f (found_list found ++ z)) (open-false f l ls e)) ∙ h.goes_on; new = h.new }

valued_none : (f : Assignment) (found : Option Literal) (l : Literal) (ls : List Literal) → is_none (f l.atom) ≡ false → only_new f (found_list found ++ l ∷ ls) ≡ None
valued_none f None l [] e = ap (λ b. cond b (Some l) None) e
valued_none f None l (m ∷ ls) e = refl
valued_none f (Some k) l ls e = refl

pub unit_true : (f : Assignment) (found : Option Literal) (l : Literal) (ls : List Literal) (answer : Option Literal) → literal_value f l ≡ Some true → IsUnitOf f found (l ∷ ls) answer → None ≡ answer
unit_true f found l ls answer e h =
    sym (ap (λ z. only_new f (found_list found ++ z)) (open-true f l ls e) ∙ valued_none f found l (open_literals f ls) (value_by l.positive true (f l.atom) e)) ∙ h.goes_on

pub unit_new : (f : Assignment) (l : Literal) (ls : List Literal) (answer : Option Literal) → literal_value f l ≡ None → IsUnitOf f None (l ∷ ls) answer → IsUnitOf f (Some l) ls answer
unit_new f l ls answer e h = record { goes_on = sym (ap (only_new f) (open-new f l ls e)) ∙ h.goes_on; new = no_value_by l.positive (f l.atom) e }

pub unit_second : (f : Assignment) (k l : Literal) (ls : List Literal) (answer : Option Literal) → literal_value f l ≡ None → IsUnitOf f (Some k) (l ∷ ls) answer → None ≡ answer
unit_second f k l ls answer e h = sym (ap (λ z. only_new f (k ∷ z)) (open-new f l ls e)) ∙ h.goes_on

pub conflict_false : (f : Assignment) (l : Literal) (ls : List Literal) → literal_value f l ≡ Some false → is_conflict f (l ∷ ls) ≡ is_conflict f ls
conflict_false f l ls e = ap is_empty (open-false f l ls e)

pub conflict_open : (f : Assignment) (l : Literal) (ls : List Literal) → says_false (literal_value f l) ≡ false → false ≡ is_conflict f (l ∷ ls)
conflict_open f l ls e = sym (ap (λ b. is_empty (cond (not b) (l ∷ open_literals f ls) (open_literals f ls))) e)

-- one literal more is made false
pub false_more : (f g : Assignment) (rest : List Literal) (l : Literal) (answer : Assignment) → 1 ≤ length rest → l ≡ get_or rest 0 l → g ≡ assign (negated l) f → with_false f rest ≡ answer
    → with_false g (take (length rest - 1) (drop 1 rest)) ≡ answer
false_more f g [] l answer some is made h = absurd (omega arith)
false_more f g (x ∷ xs) l answer some is made h = ap₂ with_false (made ∙ ap (λ z. assign (negated z) f) is) (rest_is x xs) ∙ h
