-- What the walk over the parts under no `forall` adds.
use Rattle.std.specs.Prelude.{◌≡◌, ℕ, ◌+◌, [], ◌∷◌, ◌++◌}
use Rattle.csdn_core.specs.declared.terms.Sort.{Sort}
use Rattle.csdn_core.specs.declared.terms.VarId.{VarId}
use Rattle.clause_log.specs.Literals.{Literal}
use Rattle.fol_forms.specs.Forms.{Form}
use Rattle.fol_forms.specs.Constants.{need}
use Rattle.decision_laws.specs.Clauses.{size, top, member_clause}
use Rattle.ground_inst.specs.Walk.{Ways, State, bound, copies_at}
use Rattle.lazy_ground.specs.First.{open_clauses}

-- those of the copies are added, and this is the literal of the whole
pub record AddsOpen (m : Ways) (f : Form) (old new : State) (l : Literal) : Type 0 where
  pub lit : l ≡ top m.num old.next (copies_at m f old)
  pub clauses : new.out ≡ old.out ++ open_clauses m.num old.next (copies_at m f old)
  pub next : new.next ≡ old.next + size (copies_at m f old)
  pub base : (s : Sort) → new.base s ≡ old.base s + need f s
  pub env : new.env ≡ old.env

-- the same, and the clause of a member of the conjunction with this number
pub record AddsMember (m : Ways) (f : Form) (old new : State) (x : ℕ) : Type 0 where
  pub clauses : new.out ≡ old.out ++ (open_clauses m.num old.next (copies_at m f old) ++ member_clause x (top m.num old.next (copies_at m f old)) ∷ [])
  pub next : new.next ≡ old.next + size (copies_at m f old)
  pub base : (s : Sort) → new.base s ≡ old.base s + need f s
  pub env : new.env ≡ old.env

-- the same of a body whose variable stands for a constant, with the binding gone at the end
pub record AddsAt (m : Ways) (f : Form) (v : VarId) (s : Sort) (a : ℕ) (old new : State) (l : Literal) : Type 0 where
  pub lit : l ≡ top m.num old.next (copies_at m f (bound v s a old))
  pub clauses : new.out ≡ old.out ++ open_clauses m.num old.next (copies_at m f (bound v s a old))
  pub next : new.next ≡ old.next + size (copies_at m f (bound v s a old))
  pub base : (t : Sort) → new.base t ≡ old.base t + need f t
  pub env : new.env ≡ old.env
