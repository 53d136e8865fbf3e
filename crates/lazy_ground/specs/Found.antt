-- Clauses that a pass finds.
use Rattle.std.specs.Prelude.{◌≡◌, ◌⊎◌, ◌+◌, ◌==◌, ℕ, Bool, true, false, ◌&&◌, List, [], ◌∷◌, ◌++◌, if◌then◌else◌, IsTrue, IsFalse}
use Rattle.std.specs.List.{list_any}
use Rattle.csdn_core.specs.declared.terms.Sort.{Sort}
use Rattle.csdn_core.specs.declared.terms.VarId.{VarId}
use Rattle.csdn_core.specs.Members.{IsIn}
use Rattle.csdn_core.specs.Truth.{same_truth}
use Rattle.clause_log.specs.Literals.{ClauseList, Literal, clause_true, literal_true}
use Rattle.fol_forms.specs.Forms.{Form}
use Rattle.fol_forms.specs.Constants.{need}
use Rattle.decision_laws.specs.Copies.{judge}
use Rattle.decision_laws.specs.Clauses.{size, top, node_clauses, member_clause}
use Rattle.ground_inst.specs.Walk.{Ways, State, bound, copies_at, ways_of}
use Rattle.copy_truth.specs.declared.reading.Reading.{Reading}
use Rattle.lazy_ground.specs.declared.looking.Seen.{Seen}
use Rattle.lazy_ground.specs.Readings.{Completes, IsGiven}
use Rattle.copy_truth.specs.Said.{said_by}
use Rattle.std.specs.Prelude.{Option}

-- a pass over these clauses puts some that the valuation breaks behind those that were found before; none only where it breaks
-- none of all
pub record Finds (w : ℕ → Bool) (cs old new : List (List Literal)) : Type 0 where
  pub within : (c : List Literal) → IsIn c new → IsIn c old ⊎ (IsIn c cs × IsFalse (clause_true w c))
  pub nothing : new ≡ [] → old ≡ []
  pub all : new ≡ [] → (c : List Literal) → IsIn c cs → IsTrue (clause_true w c)

-- a walk over the copies of a form passes their nodes
pub record Moves (m : Ways) (f : Form) (old new : State) : Type 0 where
  pub next : new.next ≡ old.next + size (copies_at m f old)
  pub base : (s : Sort) → new.base s ≡ old.base s + need f s
  pub env : new.env ≡ old.env

-- it finds clauses of these, and answers the literal of the whole, and what that is, where a given value is right
pub record Looks (r : Reading) (f : Form) (given : Option Bool) (old new : State) (seen : Seen) : Type 0 where
  pub moves : Moves (ways_of r.names) f old new
  pub lit : seen.literal ≡ top (ways_of r.names).num old.next (copies_at (ways_of r.names) f old)
  pub value : (w : ℕ → Bool) → Completes r w old.next (copies_at (ways_of r.names) f old) → IsGiven given (judge (said_by r) (copies_at (ways_of r.names) f old))
      → seen.value ≡ literal_true w (top (ways_of r.names).num old.next (copies_at (ways_of r.names) f old))
  pub finds : (w : ℕ → Bool) → Completes r w old.next (copies_at (ways_of r.names) f old)
      → Finds w (node_clauses (ways_of r.names).num old.next (copies_at (ways_of r.names) f old)) old.out new.out

-- the same of a body whose variable stands for a constant, with the binding gone at the end
pub record LooksAt (r : Reading) (f : Form) (v : VarId) (s : Sort) (a : ℕ) (given : Option Bool) (old new : State) (seen : Seen) : Type 0 where
  pub next : new.next ≡ old.next + size (copies_at (ways_of r.names) f (bound v s a old))
  pub base : (t : Sort) → new.base t ≡ old.base t + need f t
  pub env : new.env ≡ old.env
  pub lit : seen.literal ≡ top (ways_of r.names).num old.next (copies_at (ways_of r.names) f (bound v s a old))
  pub value : (w : ℕ → Bool) → Completes r w old.next (copies_at (ways_of r.names) f (bound v s a old)) → IsGiven given (judge (said_by r) (copies_at (ways_of r.names) f (bound v s a old)))
      → seen.value ≡ literal_true w (top (ways_of r.names).num old.next (copies_at (ways_of r.names) f (bound v s a old)))
  pub finds : (w : ℕ → Bool) → Completes r w old.next (copies_at (ways_of r.names) f (bound v s a old))
      → Finds w (node_clauses (ways_of r.names).num old.next (copies_at (ways_of r.names) f (bound v s a old))) old.out new.out

-- the same of one conjunction or disjunction with this value
pub record LooksInto (r : Reading) (f : Form) (value : Bool) (old new : State) : Type 0 where
  pub moves : Moves (ways_of r.names) f old new
  pub finds : (w : ℕ → Bool) → Completes r w old.next (copies_at (ways_of r.names) f old) → w old.next ≡ value
      → Finds w (node_clauses (ways_of r.names).num old.next (copies_at (ways_of r.names) f old)) old.out new.out

-- whether members are still looked at: not where the conjunction is false, or a clause has been found
pub record IsOpen (open' value : Bool) (out : List (List Literal)) : Type 0 where
  pub on : open' ≡ true → value ≡ true
  pub off : open' ≡ false → value ≡ true → out ≡ [] → ⊥

-- it finds clauses of these, and that of a member of the conjunction with this number
pub record LooksMember (r : Reading) (f : Form) (x : ℕ) (open' : Bool) (old new : State) (still : Bool) : Type 0 where
  pub moves : Moves (ways_of r.names) f old new
  pub opens : (w : ℕ → Bool) → Completes r w old.next (copies_at (ways_of r.names) f old) → IsOpen open' (w x) old.out → IsOpen still (w x) new.out
  pub finds : (w : ℕ → Bool) → Completes r w old.next (copies_at (ways_of r.names) f old) → IsOpen open' (w x) old.out
      → Finds w (node_clauses (ways_of r.names).num old.next (copies_at (ways_of r.names) f old) ++ member_clause x (top (ways_of r.names).num old.next (copies_at (ways_of r.names) f old)) ∷ []) old.out new.out

-- the same of a body whose variable stands for a constant, with the binding gone at the end
pub record LooksBound (r : Reading) (f : Form) (v : VarId) (s : Sort) (a x : ℕ) (open' : Bool) (old new : State) (still : Bool) : Type 0 where
  pub next : new.next ≡ old.next + size (copies_at (ways_of r.names) f (bound v s a old))
  pub env : new.env ≡ old.env
  pub opens : (w : ℕ → Bool) → Completes r w old.next (copies_at (ways_of r.names) f (bound v s a old)) → IsOpen open' (w x) old.out → IsOpen still (w x) new.out
  pub finds : (w : ℕ → Bool) → Completes r w old.next (copies_at (ways_of r.names) f (bound v s a old)) → IsOpen open' (w x) old.out
      → Finds w (node_clauses (ways_of r.names).num old.next (copies_at (ways_of r.names) f (bound v s a old)) ++ member_clause x (top (ways_of r.names).num old.next (copies_at (ways_of r.names) f (bound v s a old))) ∷ []) old.out new.out

-- Clauses, each once.

abbrev pub same_literal : Literal → Literal → Bool
same_literal l m = l.atom == m.atom && same_truth l.positive m.positive

abbrev pub same_literals : List Literal → List Literal → Bool
same_literals [] [] = true
same_literals [] (m ∷ ms) = false
same_literals (l ∷ ls) [] = false
same_literals (l ∷ ls) (m ∷ ms) = same_literal l m && same_literals ls ms

abbrev pub has_clause : List (List Literal) → List Literal → Bool
has_clause cs c = list_any (same_literals c) cs

-- a clause put behind the others, unless it is there
abbrev pub put_clause : List (List Literal) → List Literal → List (List Literal)
put_clause cs c = if has_clause cs c then cs else cs ++ c ∷ []

-- clauses put behind others one after another
abbrev pub once : List (List Literal) → List (List Literal) → List (List Literal)
once done [] = done
once done (c ∷ cs) = once (put_clause done c) cs

-- whether this clause is the first of them
abbrev pub begins_with : List Literal → List (List Literal) → Bool
begins_with c [] = false
begins_with c (d ∷ ds) = same_literals c d

-- clauses without each that stands before itself again
abbrev pub untwinned : List (List Literal) → List (List Literal)
untwinned [] = []
untwinned (c ∷ cs) = if begins_with c cs then untwinned cs else c ∷ untwinned cs

-- some of these clauses, and at least one where there is one
pub record IsPickedFrom (found some : List (List Literal)) : Type 0 where
  pub within : (c : List Literal) → IsIn c some → IsIn c found
  pub one : some ≡ [] → found ≡ []

pub record Picks (found some : ClauseList) : Type 0 where
  pub atoms : some.atoms ≡ found.atoms
  pub picked : IsPickedFrom found.clauses some.clauses

-- a clause is put behind the others, if it is wanted
abbrev pub PutsIf : Bool → ClauseList → ClauseList → List Literal → Type 0
PutsIf true old new c = new ≡ record { atoms = old.atoms; clauses = old.clauses ++ c ∷ [] }
PutsIf false old new c = new ≡ old
