-- What the walk over a sentence keeps.
use Rattle.std.specs.Prelude.{◌≡◌, ℕ, zero, suc, ◌+◌, Bool, true, Option, Some, None, List, [], ◌∷◌, ◌++◌, map, reverse}
use Rattle.csdn_core.specs.declared.terms.Sort.{Sort}
use Rattle.csdn_core.specs.declared.terms.VarId.{VarId}
use Rattle.csdn_core.specs.declared.terms.Pred.{Pred}
use Rattle.csdn_core.specs.declared.terms.Term.{Term}
use Rattle.clause_log.specs.Literals.{Literal}
use Rattle.fol_forms.specs.Forms.{Form, Fixed, Atom, Same, And, Or, ForAll, ForSome}
use Rattle.fol_forms.specs.Constants.{need}
use Rattle.fol_forms.specs.Counts.{count_of}
use Rattle.decision_laws.specs.Vocabulary.{Vocabulary}
use Rattle.decision_laws.specs.Copies.{Fact, Tuple, Equation, Copy, Scope, place, place_sort, copies, each}
use Rattle.decision_laws.specs.Clauses.{size, top, node_clauses, member_clause}
use Rattle.ground_inst.specs.Facts.{num_of, vocabulary_of}
use Rattle.ground_inst.specs.declared.places.Binding.{Binding}
use Rattle.ground_inst.specs.declared.places.Names.{Names}
use Rattle.ground_inst.specs.declared.walk.Work.{Work}

-- the constant of a variable
abbrev pub entry : Binding → ℕ × (Sort × ℕ)
entry b = (b.var.0, (b.sort, b.place))

-- the last binding is the innermost
abbrev pub scope : List Binding → Scope
scope bs = map entry (reverse bs)

-- what copies are made of: names, how many constants each sort has, and the numbers of facts
pub record Ways : Type 0 where
  pub voc : Vocabulary
  pub count : Sort → ℕ
  pub num : Fact → ℕ

abbrev pub ways_of : Names → Ways
ways_of names = record { voc = vocabulary_of names.parts.now names.facts.now; count = count_of names.facts.now.counts; num = num_of names.facts.now }

-- the facts of an atom and of an equation, and the literal of a fact with a sign
abbrev pub tuple_fact : Ways → Scope → Pred → List Term → Fact
tuple_fact m env r ts = Tuple r (map (place m.voc env) ts)

abbrev pub equation_fact : Ways → Scope → Term → Term → Fact
equation_fact m env t u = Equation (place_sort m.voc env t) (place m.voc env t) (place m.voc env u)

abbrev pub literal_of : Ways → Bool → Fact → Literal
literal_of m sign fact = record { positive = sign; atom = m.num fact }

-- where the work stands: the constants of variables, the first free constant of each sort, the number of the next node, and
-- the clauses so far
pub record State : Type 0 where
  pub env : Scope
  pub base : Sort → ℕ
  pub next : ℕ
  pub out : List (List Literal)

abbrev pub state_of : Work → State
state_of w = record { env = scope w.env.items; base = count_of w.base; next = w.next; out = w.rows }

-- the state with a variable bound to a constant, and with the next number taken
abbrev pub bound : VarId → Sort → ℕ → State → State
bound v s a w = record { env = (v.0, (s, a)) ∷ w.env; base = w.base; next = w.next; out = w.out }

abbrev pub numbered : State → State
numbered w = record { env = w.env; base = w.base; next = w.next + 1; out = w.out }

-- the copies of a form there
abbrev pub copies_at : Ways → Form → State → Copy
copies_at m f w = copies m.voc m.count f w.env w.base

-- the copies of a body for each constant of a sort
abbrev pub each_at : Ways → Form → VarId → Sort → State → Copy
each_at m f v s w = each (m.count s) (λ i. copies m.voc m.count f ((v.0, (s, i)) ∷ w.env) w.base)

-- the clauses of the copies are added, and this is the literal of their node
pub record AddsCopies (m : Ways) (f : Form) (old new : State) (l : Literal) : Type 0 where
  pub lit : l ≡ top m.num old.next (copies_at m f old)
  pub clauses : new.out ≡ old.out ++ node_clauses m.num old.next (copies_at m f old)
  pub next : new.next ≡ old.next + size (copies_at m f old)
  pub base : (s : Sort) → new.base s ≡ old.base s + need f s
  pub env : new.env ≡ old.env

-- the same, and the clause of a member of the conjunction with this number
pub record AddsMember (m : Ways) (f : Form) (old new : State) (x : ℕ) : Type 0 where
  pub clauses : new.out ≡ old.out ++ (node_clauses m.num old.next (copies_at m f old) ++ member_clause x (top m.num old.next (copies_at m f old)) ∷ [])
  pub next : new.next ≡ old.next + size (copies_at m f old)
  pub base : (s : Sort) → new.base s ≡ old.base s + need f s
  pub env : new.env ≡ old.env

-- the same of a body whose variable stands for a constant, with the binding gone at the end
pub record AddsBound (m : Ways) (f : Form) (v : VarId) (s : Sort) (a : ℕ) (old new : State) (l : Literal) : Type 0 where
  pub lit : l ≡ top m.num old.next (copies_at m f (bound v s a old))
  pub clauses : new.out ≡ old.out ++ node_clauses m.num old.next (copies_at m f (bound v s a old))
  pub next : new.next ≡ old.next + size (copies_at m f (bound v s a old))
  pub base : (t : Sort) → new.base t ≡ old.base t + need f t
  pub env : new.env ≡ old.env

-- the copies of a body for each constant of a sort are added, wherever free constants begin at the end
pub record AddsEach (m : Ways) (f : Form) (v : VarId) (s : Sort) (old new : State) (l : Literal) : Type 0 where
  pub lit : l ≡ top m.num old.next (each_at m f v s old)
  pub clauses : new.out ≡ old.out ++ node_clauses m.num old.next (each_at m f v s old)
  pub next : new.next ≡ old.next + size (each_at m f v s old)
  pub env : new.env ≡ old.env

-- the clauses of copies with a node or a leaf at the top: those of their nodes, and the literal of the whole
abbrev pub named_clauses : (Fact → ℕ) → ℕ → Copy → List (List Literal)
named_clauses num k c = node_clauses num k c ++ (top num k c ∷ []) ∷ []

-- which truth value the copies of a form are, if they are one
abbrev pub value_by : ℕ → Option Bool → Option Bool
value_by zero o = Some true
value_by (suc zero) o = o
value_by (suc (suc k)) o = None

abbrev pub copied_value : (Sort → ℕ) → Form → Option Bool
copied_value n (Fixed b) = Some b
copied_value n (Atom sign r ts) = None
copied_value n (Same sign t u) = None
copied_value n (And p q) = None
copied_value n (Or p q) = None
copied_value n (ForAll v s p) = value_by (n s) (copied_value n p)
copied_value n (ForSome v s p) = copied_value n p
