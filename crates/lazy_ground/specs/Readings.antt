-- What is known of the atoms during a pass, and the valuations that are completed with it.
use Rattle.std.specs.Prelude.{◌≡◌, ℕ, suc, ◌+◌, ◌<◌, ◌≤◌, Bool, true, false, nat_lt, Option, Some, None, List, length, slice_index_or, if◌then◌else◌}
use Rattle.csdn_core.specs.declared.terms.Sort.{Sort}
use Rattle.clause_log.specs.Literals.{truths}
use Rattle.fol_forms.specs.Forms.{Form, Fixed, Atom, Same, And, Or, ForAll, ForSome}
use Rattle.decision_laws.specs.Copies.{Copy, Known, Leaf, Both, Either, Each, judge}
use Rattle.decision_laws.specs.Clauses.{size, sum_from}
use Rattle.ground_inst.specs.Facts.{num_of}
use Rattle.copy_truth.specs.declared.reading.Reading.{Reading}
use Rattle.copy_truth.specs.Said.{said_by}

-- none of so many atoms from k on is true
abbrev pub IsFree : (ℕ → Bool) → ℕ → ℕ → Type 0
IsFree named k count = (x : ℕ) → k ≤ x → x < k + count → named x ≡ false

-- none of those behind k is
abbrev pub HasFreeParts : (ℕ → Bool) → ℕ → ℕ → Type 0
HasFreeParts named k count = (x : ℕ) → k < x → x < k + count → named x ≡ false

-- no number from a place of the list on is below the end
abbrev pub IsPast : List ℕ → ℕ → ℕ → Type 0
IsPast xs place end = place < length xs → end ≤ slice_index_or xs place 0

abbrev pub named_by : Reading → ℕ → Bool
named_by r = truths r.named.now

abbrev pub true_by : Reading → ℕ → Bool
true_by r = truths r.trues.now

-- what a node counts as
abbrev pub node_value : Reading → ℕ → Copy → Bool
node_value r k c = if named_by r k then true_by r k else judge (said_by r) c

-- the valuation gives the nodes of copies, numbered from k on, what they count as, and the facts in them what is said of them
abbrev pub Completes : Reading → (ℕ → Bool) → ℕ → Copy → Type 0
Completes r w k (Known b) = ⊥
Completes r w k (Leaf sign fact) = w (num_of r.names.facts.now fact) ≡ said_by r fact
Completes r w k (Both p q) = (w k ≡ node_value r k (Both p q)) × Completes r w (suc k) p × Completes r w (suc k + size p) q
Completes r w k (Either p q) = (w k ≡ node_value r k (Either p q)) × Completes r w (suc k) p × Completes r w (suc k + size p) q
Completes r w k (Each n c) =
    (w k ≡ node_value r k (Each n c)) × ((i : ℕ) → i < n → Completes r w (suc k + sum_from (λ h. size (c h)) 0 i) (c i))

-- whether the copies of a form are one conjunction or disjunction
abbrev pub makes_node : (Sort → ℕ) → Form → Bool
makes_node n (Fixed b) = false
makes_node n (Atom sign r ts) = false
makes_node n (Same sign t u) = false
makes_node n (And p q) = true
makes_node n (Or p q) = true
makes_node n (ForAll v s p) = nat_lt 1 (n s)
makes_node n (ForSome v s p) = false

-- the truth value, where one is given
abbrev pub IsGiven : Option Bool → Bool → Type 0
IsGiven None b = Unit {0}
IsGiven (Some a) b = a ≡ b

-- none is given where it has to be known
abbrev pub given_unless : Bool → Option Bool
given_unless true = None
given_unless false = Some true
