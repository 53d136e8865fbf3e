-- The clauses of the parts of a sentence that stand under no `forall`.
use Rattle.csdn_core.specs.Members.{AreDistinct, IsIn}
use Rattle.std.specs.Prelude.{◌↔◌, ℕ, suc, ◌+◌, true, false, List, [], ◌∷◌, ◌++◌}
use Rattle.csdn_core.specs.declared.program.Parts.{Parts}
use Rattle.csdn_core.specs.declared.syntax.Formula.{Formula}
use Rattle.clause_log.specs.Literals.{Literal}
use Rattle.decision_laws.specs.Copies.{Fact, Copy, Known, Leaf, Both, Either, Each}
use Rattle.decision_laws.specs.Clauses.{size, top, member_clause, either_clauses}
use Rattle.decision_laws.specs.Laws.{naming, sentence_copies}

-- those of the conjunctions and disjunctions, numbered from k on
abbrev pub open_clauses : (Fact → ℕ) → ℕ → Copy → List (List Literal)
open_clauses num k (Known b) = []
open_clauses num k (Leaf sign fact) = []
open_clauses num k (Both p q) =
    (open_clauses num (suc k) p ++ member_clause k (top num (suc k) p) ∷ []) ++ (open_clauses num (suc k + size p) q ++ member_clause k (top num (suc k + size p) q) ∷ [])
open_clauses num k (Either p q) =
    open_clauses num (suc k) p ++ (open_clauses num (suc k + size p) q ++ either_clauses k (top num (suc k) p) (top num (suc k + size p) q))
open_clauses num k (Each n c) = []

-- and the literal of the whole
abbrev pub open_named : (Fact → ℕ) → ℕ → Copy → List (List Literal)
open_named num k c = open_clauses num k c ++ (top num k c ∷ []) ∷ []

abbrev pub open_whole : (Fact → ℕ) → ℕ → Copy → List (List Literal)
open_whole num k (Known true) = []
open_whole num k (Known false) = [] ∷ []
open_whole num k p = open_named num k p

abbrev pub first_clauses : Parts → Formula → List (List Literal)
first_clauses P F = open_whole (naming P F).num (naming P F).first (sentence_copies P F)

-- each of these, once
pub record AreFirst (P : Parts) (F : Formula) (cs : List (List Literal)) : Type 0 where
  pub distinct : AreDistinct cs
  pub all : (c : List Literal) → IsIn c cs ↔ IsIn c (first_clauses P F)
