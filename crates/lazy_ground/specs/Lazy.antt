-- Some of the clauses of a sentence, and how they become more.
use Rattle.std.specs.Prelude.{◌≡◌, ◌↔◌, ℕ, ◌+◌, Bool, List, [], ◌++◌, length}
use Rattle.csdn_core.specs.declared.program.Parts.{Parts}
use Rattle.csdn_core.specs.declared.syntax.Formula.{Formula}
use Rattle.clause_log.specs.Literals.{Literal, IsModel}
use Rattle.fol_forms.specs.Counts.{count_of}
use Rattle.decision_laws.specs.Laws.{atoms, clauses, sentence_copies}
use Rattle.decision_laws.specs.Sublists.{ArePart, AreBroken, left_of}
use Rattle.form_trees.specs.Trees.{IsMeasured, tree_form}
use Rattle.ground_inst.specs.Copies.{copies_over}
use Rattle.ground_inst.specs.Facts.{AreFactsOf}
use Rattle.lazy_ground.specs.declared.sentence.LazyGround.{LazyGround}
use Rattle.lazy_ground.specs.Completed.{completed}

-- some of the clauses of the sentence, each once, over its atoms
pub record IsLazy (P : Parts) (F : Formula) (g : LazyGround) : Type 0 where
  pub sentence : g.made.sentence ≡ F
  pub facts : AreFactsOf P F g.made.facts
  pub copies : copies_over P (count_of g.made.facts.counts) (tree_form g.tree) ≡ sentence_copies P F
  pub measured : IsMeasured (count_of g.made.facts.counts) g.tree
  pub atoms : g.made.clauses.atoms ≡ atoms P F
  pub part : ArePart (clauses P F) g.made.clauses.clauses

-- different clauses of the sentence that a valuation breaks, and none only where it breaks none of all
pub record AreAllBroken (P : Parts) (F : Formula) (w : ℕ → Bool) (new : List (List Literal)) : Type 0 where
  pub broken : AreBroken (clauses P F) w new
  pub none : new ≡ [] → IsModel w (clauses P F)

-- n clauses of the sentence that the completed valuation breaks stand behind those that were there, so that so many fewer are
-- left; there is none exactly where it breaks none of all
pub record AddsBroken (P : Parts) (F : Formula) (v : ℕ → Bool) (old new : LazyGround) (n : ℕ) : Type 0 where
  pub added : List (List Literal)
  pub behind : new.made.clauses.clauses ≡ old.made.clauses.clauses ++ added
  pub count : n ≡ length added
  pub broken : AreBroken (clauses P F) (completed P F old.made.clauses.clauses v) added
  pub is_lazy : IsLazy P F new
  pub left : left_of (clauses P F) new.made.clauses.clauses + n ≡ left_of (clauses P F) old.made.clauses.clauses
  pub exact : (n ≡ 0) ↔ IsModel (completed P F old.made.clauses.clauses v) (clauses P F)
