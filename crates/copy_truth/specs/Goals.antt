-- Trees that are searched side by side: is each of them false, where open variables stand for some constants?
use Rattle.std.specs.Prelude.{◌≡◌, ℕ, ◌<◌, Bool, true, false, ◌||◌, List, ◌++◌, Option, Some, None}
use Rattle.std.specs.Borrow.{Bor}
use Rattle.std.specs.List.{list_any}
use Rattle.csdn_core.specs.declared.terms.Sort.{Sort}
use Rattle.fol_forms.specs.Forms.{Form}
use Rattle.form_trees.specs.declared.trees.FormTree.{FormTree}
use Rattle.form_trees.specs.Trees.{tree_form}
use Rattle.decision_laws.specs.Vocabulary.{find_or}
use Rattle.decision_laws.specs.Copies.{Scope, nothing}
use Rattle.ground_inst.specs.Walk.{ways_of}
use Rattle.copy_truth.specs.declared.candidates.Candidates.{Candidates}
use Rattle.copy_truth.specs.declared.opened.Variable.{Variable}
use Rattle.copy_truth.specs.declared.reading.Reading.{Reading}
use Rattle.copy_truth.specs.declared.searching.Choice.{Choice}
use Rattle.copy_truth.specs.declared.searching.Sight.{Sight}
use Rattle.copy_truth.specs.Candidates.{has_place}
use Rattle.copy_truth.specs.Early.{Fits, at_constant}
use Rattle.copy_truth.specs.Matrix.{matrix}
use Rattle.copy_truth.specs.Outlook.{IsOpenIn}

-- whether one of the goals is true
abbrev pub any_true : Reading → List (Bor FormTree) → Scope → Bool
any_true r goals full = list_any (λ g. matrix r (tree_form g.now) full) goals

-- a test is true, whatever constants open variables stand for
abbrev pub HoldsThroughout : (Sort → ℕ) → (Scope → Bool) → Scope → Type 0
HoldsThroughout n test env = (full : Scope) → Fits n env full → test full ≡ true

-- it is false where they stand for some constants
pub record FailsSomewhere (n : Sort → ℕ) (test : Scope → Bool) (env : Scope) : Type 0 where
  pub full : Scope
  pub fits : Fits n env full
  pub fails : test full ≡ false

-- what is answered of a test; each sort may have a constant
pub record IsFound (n : Sort → ℕ) (test : Scope → Bool) (env : Scope) (b : Bool) : Type 0 where
  pub yes : b ≡ true → ((s : Sort) → 0 < n s) → FailsSomewhere n test env
  pub no : b ≡ false → HoldsThroughout n test env

-- a variable is open, and where it stands for none of some constants, the test is true
pub record IsChoice (n : Sort → ℕ) (test : Scope → Bool) (env : Scope) (x : Variable) (c : Candidates) : Type 0 where
  pub open' : IsOpenIn env x
  pub outside : (full : Scope) → Fits n env full → has_place c (find_or nothing full x.var.0).1 ≡ false → test full ≡ true

-- what is answered of a test where an open variable stands for one constant, if that is among some
pub record IsTried (n : Sort → ℕ) (test : Scope → Bool) (env : Scope) (x : Variable) (c : Candidates) (k : ℕ) (b : Bool) : Type 0 where
  pub yes : b ≡ true → IsFound n test (at_constant x k env) true
  pub no : b ≡ false → has_place c k ≡ true → IsFound n test (at_constant x k env) false

abbrev pub IsBest : (Sort → ℕ) → (Scope → Bool) → Scope → Option Choice → Type 0
IsBest n test env None = Unit {0}
IsBest n test env (Some c) = IsChoice n test env c.x c.candidates

-- a test is true throughout, or the goals that are kept are as it; of these is the best choice
pub record IsSight (n : Sort → ℕ) (test kept : Scope → Bool) (env : Scope) (sight : Sight) : Type 0 where
  pub settled : sight.is_true ≡ true → HoldsThroughout n test env
  pub same : sight.is_true ≡ false → (full : Scope) → Fits n env full → test full ≡ kept full
  pub best : IsBest n kept env sight.best

-- the goals that are kept stand behind others
pub record HasKept (r : Reading) (before : List (Bor FormTree)) (test : Scope → Bool) (env : Scope) (sight : Sight) (goals : List (Bor FormTree)) : Type 0 where
  pub kept : List (Bor FormTree)
  pub behind : goals ≡ before ++ kept
  pub seen : IsSight (ways_of r.names).count test (any_true r kept) env sight

-- one more goal is seen
abbrev pub Keeps : Reading → Form → Scope → Sight → List (Bor FormTree) → Sight → List (Bor FormTree) → Type 0
Keeps r f env old goals new more =
    (before : List (Bor FormTree)) (test : Scope → Bool) → HasKept r before test env old goals → HasKept r before (λ full. test full || matrix r f full) env new more
