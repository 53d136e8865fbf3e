-- What a valuation says of the atoms that clauses name, and of all others.
use Rattle.std.specs.Prelude.{ℕ, Bool, List, map, ◌&&◌, if◌then◌else◌}
use Rattle.std.specs.List.{list_any}
use Rattle.csdn_core.specs.declared.program.Parts.{Parts}
use Rattle.csdn_core.specs.declared.syntax.Formula.{Formula}
use Rattle.clause_log.specs.Literals.{Literal, has_atom}
use Rattle.decision_laws.specs.Copies.{Fact, judge}
use Rattle.decision_laws.specs.Laws.{judged, name}

abbrev pub atoms_in : List Literal → List ℕ
atoms_in c = map (λ l. l.atom) c

-- whether one of the clauses has the atom
abbrev pub is_named : List (List Literal) → ℕ → Bool
is_named cs x = list_any (has_atom x) cs

module _ (P : Parts) (F : Formula) (cs : List (List Literal)) (v : ℕ → Bool) where
  -- a fact that no clause names is false
  abbrev pub said : Fact → Bool
  said = judged P F (λ x. is_named cs x && v x)

  -- atoms that clauses name have their values; any other one counts as what it names then is
  abbrev pub completed : ℕ → Bool
  completed x = if is_named cs x then v x else judge said (name P F x)
