-- Cuts of a trail: what a conflict rests on, where some literals are resolved by the clauses that forced them.
use Rattle.std.specs.Prelude.{◌≡◌, ◌⊎◌, ℕ, Bool, true, false, not, ◌==◌, ◌&&◌, if◌then◌else◌, List, [], ◌∷◌, ◌++◌, length, reverse, slice_index_or, Option, Some, None, is_none}
use Rattle.std.specs.List.{list_all}
use Rattle.clause_log.specs.Literals.{Literal, has_atom, has_distinct_atoms}
use Rattle.clause_log.specs.Assignments.{Assignment, literal_value, unit_literal}
use Rattle.clause_log.specs.Refutations.{reaches_conflict}
use Rattle.clause_log.specs.Limits.{is_hint}
use Rattle.clause_search.specs.declared.marks.Mark.{Mark}
use Rattle.clause_search.specs.declared.marks.Mark.TheVariants.{Unseen, Open, Resolved}
use Rattle.clause_search.specs.declared.cut.Jump.{Jump}
use Rattle.clause_search.specs.declared.trail.Entry.{Entry}
use Rattle.clause_search.specs.Trails.{values_of}

abbrev pub is_unseen : Mark → Bool
is_unseen Unseen = true
is_unseen Open = false
is_unseen Resolved = false

abbrev pub is_open : Mark → Bool
is_open Unseen = false
is_open Open = true
is_open Resolved = false

abbrev pub is_resolved : Mark → Bool
is_resolved Unseen = false
is_resolved Open = false
is_resolved Resolved = true

-- marks by atom, and a literal of each atom that has been seen
pub record Marking : Type 0 where
  pub marks : List Mark
  pub seen : List Literal

-- an atom past the end of the marks has not been seen
abbrev pub mark_of : Marking → ℕ → Mark
mark_of m a = slice_index_or m.marks a Unseen

abbrev pub nothing_seen : ℕ → Mark
nothing_seen a = Unseen

-- the same, with this mark on one atom
abbrev pub marked : ℕ → Mark → (ℕ → Mark) → ℕ → Mark
marked a m of = λ x. if x == a then m else of x

-- the atoms that have been seen are those of the literals, and each is listed once
pub record IsListed (of : ℕ → Mark) (seen : List Literal) : Type 0 where
  pub tied : (a : ℕ) → is_unseen (of a) ≡ not (has_atom a seen)
  pub distinct : has_distinct_atoms seen ≡ true

-- the same, with those atoms of a clause open that had not been seen
abbrev pub opened : (ℕ → Mark) → List Literal → ℕ → Mark
opened of c = λ a. if has_atom a c && is_unseen (of a) then Open else of a

abbrev pub opened_at : (ℕ → Mark) → Option (List Literal) → ℕ → Mark
opened_at of None = of
opened_at of (Some c) = opened of c

-- an assignment that gives some of the values of another one: those of open atoms, and none of resolved ones
pub record IsGiven (v : Assignment) (of : ℕ → Mark) (g : Assignment) : Type 0 where
  pub some : (a : ℕ) → (g a ≡ None) ⊎ (g a ≡ v a)
  pub open_ones : (a : ℕ) → is_open (of a) ≡ true → is_none (g a) ≡ false
  pub resolved : (a : ℕ) → is_resolved (of a) ≡ true → g a ≡ None

-- from the values of the open atoms the hints reach a conflict
abbrev pub Concludes : List (List Literal) → Assignment → (ℕ → Mark) → List ℕ → Type 0
Concludes cs v of hints = (g : Assignment) → IsGiven v of g → reaches_conflict cs hints g ≡ true

-- a literal of this atom that is false where the atom has this value
abbrev pub false_by : Option Bool → ℕ → List Literal → List Literal
false_by None a ls = ls
false_by (Some b) a ls = record { positive = not b; atom = a } ∷ ls

abbrev pub false_one : Mark → Option Bool → ℕ → List Literal → List Literal
false_one Unseen o a ls = ls
false_one Open o a ls = false_by o a ls
false_one Resolved o a ls = ls

-- a false literal for each open atom
abbrev pub cut_literals : (ℕ → Mark) → Assignment → List Literal → List Literal
cut_literals of v [] = []
cut_literals of v (l ∷ ls) = false_one (of l.atom) (v l.atom) l.atom (cut_literals of v ls)

-- none of the entries is of an open atom
abbrev pub AreClosed : (ℕ → Mark) → List Entry → Type 0
AreClosed of [] = Unit {0}
AreClosed of (e ∷ es) = (is_open (of e.literal.atom) ≡ false) × AreClosed of es

-- at this place a literal was decided, and from there on no entry is of an open atom
pub record IsWayBack (of : ℕ → Mark) (entries : List Entry) (place : ℕ) : Type 0 where
  pub front : List Entry
  pub decided : Literal
  pub back : List Entry
  pub is : entries ≡ front ++ record { literal = decided; reason = None } ∷ back
  pub place_is : length front ≡ place
  pub closed : AreClosed of (record { literal = decided; reason = None } ∷ back)

-- a cut so far: the hints, the last one first, are numbers that a log can give, and conclude
pub record IsCut (cs : List (List Literal)) (trail : List Entry) (of : ℕ → Mark) (hints : List ℕ) : Type 0 where
  pub concludes : Concludes cs (values_of trail) of (reverse hints)
  pub hints_fit : list_all is_hint hints ≡ true

-- the same, where the entries behind `rest` have been looked at
pub record IsWalked (cs : List (List Literal)) (trail rest : List Entry) (of : ℕ → Mark) (hints : List ℕ) : Type 0 where
  pub gone : List Entry
  pub is : trail ≡ rest ++ gone
  pub cut : IsCut cs trail of hints
  pub valued : (a : ℕ) → is_open (of a) ≡ true → is_none (values_of rest a) ≡ false
  pub later : (a : ℕ) → is_resolved (of a) ≡ true → values_of rest a ≡ None

-- at the place of a jump a literal was decided, and before it all open atoms but that of the jump's literal have
-- values; this literal is false
pub record IsPoint (trail : List Entry) (of : ℕ → Mark) (j : Jump) : Type 0 where
  pub front : List Entry
  pub decided : Literal
  pub back : List Entry
  pub is : trail ≡ front ++ record { literal = decided; reason = None } ∷ back
  pub place_is : length front ≡ j.place
  pub opened_there : is_open (of j.literal.atom) ≡ true
  pub none_before : values_of front j.literal.atom ≡ None
  pub is_false : literal_value (values_of trail) j.literal ≡ Some false
  pub others : (a : ℕ) → is_open (of a) ≡ true → (a == j.literal.atom) ≡ false → is_none (values_of front a) ≡ false

-- a point at which the cut may end; or no atom is open
abbrev pub Points : List Entry → (ℕ → Mark) → Option Jump → Type 0
Points trail of None = (a : ℕ) → is_open (of a) ≡ false
Points trail of (Some j) = IsPoint trail of j

-- at this place a literal was decided, and before it the clause forces this one
pub record IsJump (trail : List Entry) (clause : List Literal) (j : Jump) : Type 0 where
  pub front : List Entry
  pub decided : Literal
  pub back : List Entry
  pub is : trail ≡ front ++ record { literal = decided; reason = None } ∷ back
  pub place_is : length front ≡ j.place
  pub forces : unit_literal (values_of front) clause ≡ Some j.literal

-- the clause forces a literal where the trail is cut short; or it has no literal
abbrev pub Jumps : List Entry → List Literal → Option Jump → Type 0
Jumps trail clause None = clause ≡ []
Jumps trail clause (Some j) = IsJump trail clause j
