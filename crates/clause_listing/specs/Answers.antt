-- What is said of one block.
use Rattle.std.specs.Prelude.{◌≡◌, ℕ, Bool, true, List, ◌++◌, ◌==◌, codes, map, Option, Some, None, if◌then◌else◌}
use Rattle.std.specs.List.{list_any, flat_map}
use Rattle.std.specs.List.Sorted.{IsStrictlySortedBy}
use Rattle.std.specs.Ordering.{nat_cmp}
use Rattle.clause_log.specs.Literals.{Literal, ClauseList, IsModel, has_atom}
use Rattle.clause_log.specs.Refutations.{Step, is_refutation}
use Rattle.clause_search.specs.Outcomes.{IsRefutationOf}
use Rattle.text_lines.specs.Printed.{line_text, spaced}
use Rattle.log_text.specs.LogText.{literal_word, step_words}

-- some clause names the atom
abbrev pub is_named : List (List Literal) → ℕ → Bool
is_named cs a = list_any (λ c. has_atom a c) cs

-- the atoms that the clauses name, rising, each once
pub record AreNamed (cs : List (List Literal)) (atoms : List ℕ) : Type 0 where
  pub rising : IsStrictlySortedBy nat_cmp atoms
  pub named : (a : ℕ) → list_any (λ t. a == t) atoms ≡ is_named cs a

-- the literal of the atom that the valuation makes true
abbrev pub literal_by : (ℕ → Bool) → ℕ → Literal
literal_by v a = record { positive = v a; atom = a }

-- a true literal for each atom
abbrev pub model_words : (ℕ → Bool) → List ℕ → List (List ℕ)
model_words v atoms = map (λ a. literal_word (literal_by v a)) atoms

-- behind the name of a block without a log: any model, or the steps of any refutation
pub data IsAnswer (c : ClauseList) (text : List ℕ) : Type 0 where
  has_model : (v : ℕ → Bool) (atoms : List ℕ) → IsModel v c.clauses → AreNamed c.clauses atoms → text ≡ codes ": model" ++ spaced (model_words v atoms) ++ codes "\n" → IsAnswer c text
  is_refuted : (log : List Step) → IsRefutationOf c log → text ≡ codes ": refuted\n" ++ flat_map line_text (map step_words log) → IsAnswer c text

-- behind the name of a block with a log: whether it is accepted
abbrev pub verdict : ClauseList → List Step → List ℕ
verdict c log = if is_refutation c.clauses log then codes ": accepted\n" else codes ": not accepted\n"

-- behind the name of a block
abbrev pub IsSaid : ClauseList → Option (List Step) → List ℕ → Type 0
IsSaid c None text = IsAnswer c text
IsSaid c (Some log) text = text ≡ verdict c log

-- a block's log, if it has one, is accepted
abbrev pub passes : ClauseList → Option (List Step) → Bool
passes c None = true
passes c (Some log) = is_refutation c.clauses log
