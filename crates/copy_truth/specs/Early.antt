-- Copies that are true whatever constants some variables stand for, and another stands for none of some.
use Rattle.std.specs.Prelude.{◌≡◌, ℕ, ◌-◌, ◌<◌, ◌==◌, Bool, true, false, not, ◌&&◌, ◌||◌, nat_lt, List, [], ◌∷◌, Option, Some, None, if◌then◌else◌}
use Rattle.csdn_core.specs.declared.terms.Sort.{Sort}
use Rattle.csdn_core.specs.declared.terms.Pred.{Pred}
use Rattle.csdn_core.specs.declared.terms.Term.{Term}
use Rattle.csdn_core.specs.declared.terms.Term.TheVariants.{Const, Port, Var}
use Rattle.csdn_core.specs.Network.{same_pred}
use Rattle.csdn_core.specs.declared.terms.VarId.{VarId}
use Rattle.csdn_core.specs.Members.{IsIn}
use Rattle.std.specs.List.{list_all}
use Rattle.fol_forms.specs.Forms.{Form, Atom, Same}
use Rattle.decision_laws.specs.Vocabulary.{Vocabulary, find_or}
use Rattle.decision_laws.specs.Copies.{Scope, nothing, place, place_sort}
use Rattle.decision_laws.specs.Numbers.{tuple_count, tuple_of}
use Rattle.ground_inst.specs.Walk.{Ways, ways_of}
use Rattle.ground_inst.specs.declared.facts.UsedRelation.{UsedRelation}
use Rattle.copy_truth.specs.declared.opened.TheConstants.{OPEN}
use Rattle.copy_truth.specs.declared.opened.Variable.{Variable}
use Rattle.copy_truth.specs.declared.candidates.Candidates.{Candidates}
use Rattle.copy_truth.specs.declared.facts.Leaf.{Leaf}
use Rattle.copy_truth.specs.declared.facts.Leaf.TheVariants as leaf
use Rattle.copy_truth.specs.declared.rows.Fit.{Fit}
use Rattle.copy_truth.specs.declared.rows.Fit.TheVariants as fit
use Rattle.copy_truth.specs.Candidates.{has_place}
use Rattle.copy_truth.specs.declared.reading.Reading.{Reading}
use Rattle.copy_truth.specs.Matrix.{matrix}

-- whether a term stands for a constant, and is no open variable
abbrev pub is_known : Vocabulary → Scope → Term → Bool
is_known voc env t = not (place voc env t == OPEN)

-- a variable stands for the same constant, or is open and stands for one of its sort
pub record Stands (n : Sort → ℕ) (p q : Sort × ℕ) : Type 0 where
  pub sort : p.0 ≡ q.0
  pub place : not (p.1 == OPEN) ≡ true → p.1 ≡ q.1
  pub below : not (p.1 == OPEN) ≡ false → q.1 < n q.0

abbrev pub Fits : (Sort → ℕ) → Scope → Scope → Type 0
Fits n env full = (v : ℕ) → Stands n (find_or nothing env v) (find_or nothing full v)

-- the constant that a variable stands for is one of some, but none of others
pub record IsElsewhere (n : Sort → ℕ) (s : Sort) (within missed : Candidates) (p : Sort × ℕ) : Type 0 where
  pub sort : p.0 ≡ s
  pub below : p.1 < n s
  pub inside : has_place within p.1 ≡ true
  pub outside : has_place missed p.1 ≡ false

-- a matrix is true, whatever constants open variables stand for, where this one stands for one of some constants, but for none of
-- others
abbrev pub HoldsElsewhere : Reading → Form → Scope → Variable → Candidates → Candidates → Type 0
HoldsElsewhere r f env x within missed =
    (full : Scope) → Fits (ways_of r.names).count env full → IsElsewhere (ways_of r.names).count x.sort within missed (find_or nothing full x.var.0) → matrix r f full ≡ true

-- .. wherever it stands for none of some constants
abbrev pub HoldsOutside : Reading → Form → Scope → Variable → Candidates → Type 0
HoldsOutside r f env x missed = (within : Candidates) → HoldsElsewhere r f env x within missed

-- it is true (false), whatever constants open variables stand for
abbrev pub IsTrueThroughout : Reading → Form → Scope → Type 0
IsTrueThroughout r f env = (full : Scope) → Fits (ways_of r.names).count env full → matrix r f full ≡ true

abbrev pub IsFalseThroughout : Reading → Form → Scope → Type 0
IsFalseThroughout r f env = (full : Scope) → Fits (ways_of r.names).count env full → matrix r f full ≡ false

-- it is false where open variables stand for some constants
pub record IsFalseSomewhere (r : Reading) (f : Form) (env : Scope) : Type 0 where
  pub full : Scope
  pub fits : Fits (ways_of r.names).count env full
  pub fails : matrix r f full ≡ false

-- a variable is bound to a constant
abbrev pub at_constant : Variable → ℕ → Scope → Scope
at_constant x k env = (x.var.0, (x.sort, k)) ∷ env

-- Leaves: atoms and equations.

abbrev pub leaf_form : Bool → Leaf → Form
leaf_form sign (leaf.Tuple r ts) = Atom sign r ts.now
leaf_form sign (leaf.Equation t u) = Same sign t u

-- whether each term of a leaf stands for a constant
abbrev pub is_known_leaf : Vocabulary → Scope → Leaf → Bool
is_known_leaf voc env (leaf.Tuple r ts) = list_all (is_known voc env) ts.now
is_known_leaf voc env (leaf.Equation t u) = is_known voc env t && is_known voc env u

-- Atoms with open variables.

abbrev pub is_variable : Term → Bool
is_variable (Var v) = true
is_variable (Const c) = false
is_variable (Port k) = false

-- a term stands for a constant of this sort, or is an open variable of it
pub record IsColumn (m : Ways) (env : Scope) (t : Term) (s : Sort) : Type 0 where
  pub sort : place_sort m.voc env t ≡ s
  pub known : is_known m.voc env t ≡ true → place m.voc env t < m.count s
  pub open' : is_known m.voc env t ≡ false → is_variable t ≡ true

abbrev pub AreColumns : Ways → Scope → List Term → List Sort → Type 0
AreColumns m env [] [] = Unit {0}
AreColumns m env [] (s ∷ ss) = ⊥
AreColumns m env (t ∷ ts) [] = ⊥
AreColumns m env (t ∷ ts) (s ∷ ss) = IsColumn m env t s × AreColumns m env ts ss

-- whether terms may stand for constants at these places
abbrev pub may_be : Vocabulary → Scope → List Term → List ℕ → Bool
may_be voc env [] [] = true
may_be voc env [] (p ∷ ps) = false
may_be voc env (t ∷ ts) [] = false
may_be voc env (t ∷ ts) (p ∷ ps) = (place voc env t == OPEN || place voc env t == p) && may_be voc env ts ps

-- whether an atom of the relation over these terms may be this one
abbrev pub may_be_atom : Ways → Scope → UsedRelation → List Term → ℕ → Bool
may_be_atom m env u ts t =
    (nat_lt u.before t && nat_lt (t - u.before - 1) (tuple_count m.count u.sorts)) && may_be m.voc env ts (tuple_of m.count u.sorts (t - u.before - 1))

-- where a variable stands for one of some constants, but for none of others, no atom of a list may be one of the relation
abbrev pub AreNoneElsewhere : Ways → Scope → Variable → Candidates → Candidates → UsedRelation → List Term → List ℕ → Type 0
AreNoneElsewhere m env x within missed u ts atoms =
    (k : ℕ) → has_place within k ≡ true → has_place missed k ≡ false → (t : ℕ) → IsIn t atoms → may_be_atom m (at_constant x k env) u ts t ≡ false

-- whether a row fits where the variable stands for the constant at a place
abbrev pub fits_at : Fit → ℕ → Bool
fits_at fit.Nowhere k = false
fits_at (fit.At place) k = k == place
fits_at fit.Anywhere k = true

-- whether a term is this variable
abbrev pub is_this : VarId → Term → Bool
is_this v (Var u) = u.0 == v.0
is_this v (Const c) = false
is_this v (Port k) = false

-- the first of these places at which the terms have this variable
abbrev pub place_of_variable : VarId → List Term → List ℕ → Option ℕ
place_of_variable v [] ps = None
place_of_variable v (t ∷ ts) [] = None
place_of_variable v (t ∷ ts) (p ∷ ps) = if is_this v t then Some p else place_of_variable v ts ps

-- the first of these that is the relation
abbrev pub used_in : List UsedRelation → Pred → Option UsedRelation
used_in [] r = None
used_in (u ∷ us) r = if same_pred u.relation r then Some u else used_in us r
