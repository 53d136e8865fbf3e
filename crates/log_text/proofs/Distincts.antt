-- Literals have distinct atoms where the numbers of their atoms are distinct.
use Rattle.std.proofs.Common.{◌≡◌, ℕ, Bool, true, false, cond, not, eqb, ◌||◌, ◌&&◌, List, [], ◌∷◌, map, refl, ap, ap₂, ◌∙◌}
use Rattle.text_lines.specs.Distinct.{has, are_distinct}
use Rattle.clause_log.specs.Literals.{Literal, has_atom, has_distinct_atoms}

cond-or : (b c : Bool) → cond b true c ≡ (b || c)
cond-or true c = refl
cond-or false c = refl

cond-and : (b c : Bool) → cond b false c ≡ (not b && c)
cond-and true c = refl
cond-and false c = refl

abbrev pub atoms_of : List Literal → List ℕ
atoms_of ls = map (λ l. l.atom) ls

has-atoms_of : (a : ℕ) (ls : List Literal) → has (atoms_of ls) a ≡ has_atom a ls
has-atoms_of a [] = refl
has-atoms_of a (l ∷ ls) = cond-or (eqb a l.atom) (has (atoms_of ls) a) ∙ ap (λ b. eqb a l.atom || b) (has-atoms_of a ls)

pub distinct-atoms_of : (ls : List Literal) → are_distinct (atoms_of ls) ≡ has_distinct_atoms ls
distinct-atoms_of [] = refl
distinct-atoms_of (l ∷ ls) = cond-and (has (atoms_of ls) l.atom) (are_distinct (atoms_of ls)) ∙ ap₂ (λ b c. not b && c) (has-atoms_of l.atom ls) (distinct-atoms_of ls)
