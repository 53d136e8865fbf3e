-- The clauses of a whole sentence that a pass finds.
use Rattle.std.specs.Prelude.{◌≡◌, ℕ, suc, Bool, List, [], ◌++◌}
use Rattle.csdn_core.specs.Members.{IsIn}
use Rattle.clause_log.specs.Literals.{Literal, clause_true}
use Rattle.fol_forms.specs.Counts.{count_of}
use Rattle.fol_forms.specs.Forms.{Form}
use Rattle.decision_laws.specs.Copies.{Copy, Known}
use Rattle.decision_laws.specs.Clauses.{equality_clauses, whole_clauses}
use Rattle.ground_inst.specs.Copies.{copies_over}
use Rattle.ground_inst.specs.Facts.{num_of, vocabulary_of}
use Rattle.ground_inst.specs.Walk.{named_clauses}
use Rattle.copy_truth.specs.declared.reading.Reading.{Reading}
use Rattle.lazy_ground.specs.Found.{Finds}
use Rattle.lazy_ground.specs.Readings.{Completes, true_by}

module _ (r : Reading) (f : Form) where
  abbrev pub first_node : ℕ
  first_node = suc r.names.facts.now.count

  abbrev pub form_copies : Copy
  form_copies = copies_over r.names.parts.now (count_of r.names.facts.now.counts) f

  abbrev pub copy_clauses : List (List Literal)
  copy_clauses = whole_clauses (num_of r.names.facts.now) first_node form_copies

  abbrev pub equal_clauses : List (List Literal)
  equal_clauses = equality_clauses (num_of r.names.facts.now) (count_of r.names.facts.now.counts) (vocabulary_of r.names.parts.now r.names.facts.now)

  -- a valuation completes the reading, if the copies are no truth value
  abbrev pub CompletesWhole : (ℕ → Bool) → Type 0
  CompletesWhole w = ((b : Bool) → form_copies ≡ Known b → ⊥) → Completes r w first_node form_copies

  -- clauses of the copies are found
  abbrev pub FindsWhole : List (List Literal) → List (List Literal) → Type 0
  FindsWhole old new = (w : ℕ → Bool) → CompletesWhole w → Finds w copy_clauses old new

  -- the same, where these are no truth value
  abbrev pub FindsNodes : List (List Literal) → List (List Literal) → Type 0
  FindsNodes old new = (w : ℕ → Bool) → Completes r w first_node form_copies → Finds w (named_clauses (num_of r.names.facts.now) first_node form_copies) old new

  -- clauses of the copies and of equality are found
  abbrev pub FindsBoth : List (List Literal) → Type 0
  FindsBoth new =
      (w : ℕ → Bool) → CompletesWhole w → ((c : List Literal) → IsIn c equal_clauses → clause_true w c ≡ clause_true (true_by r) c)
      → Finds w (copy_clauses ++ equal_clauses) [] new
