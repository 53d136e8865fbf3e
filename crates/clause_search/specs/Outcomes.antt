-- What a search answers.
use Rattle.std.specs.Prelude.{◌≡◌, true, List}
use Rattle.std.specs.List.{list_all}
use Rattle.clause_log.specs.Literals.{ClauseList, IsModel, truths}
use Rattle.clause_log.specs.Refutations.{Step, is_refutation}
use Rattle.clause_log.specs.Limits.{is_step}
use Rattle.clause_search.specs.declared.outcome.Outcome.{Outcome}
use Rattle.clause_search.specs.declared.outcome.Outcome.TheVariants.{Model, Refuted}

-- a log that refutes the clauses, within the limits of log texts
pub record IsRefutationOf (c : ClauseList) (log : List Step) : Type 0 where
  pub accepted : is_refutation c.clauses log ≡ true
  pub within : list_all (is_step c.atoms) log ≡ true

-- a valuation that makes each clause true, or a refutation
abbrev pub Answers : ClauseList → Outcome → Type 0
Answers c (Model v) = IsModel (truths v) c.clauses
Answers c (Refuted log) = IsRefutationOf c log
