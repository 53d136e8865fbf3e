-- How a round of the search ends.
use Rattle.std.specs.Prelude.{◌≡◌, ◌<◌}
use Rattle.csdn_core.specs.declared.program.Parts.{Parts}
use Rattle.csdn_core.specs.declared.syntax.Formula.{Formula}
use Rattle.clause_search.specs.Outcomes.{IsRefutationOf}
use Rattle.class_networks.specs.Cases.{MakesTrue}
use Rattle.decision_laws.specs.Laws.{clauses}
use Rattle.decision_laws.specs.Sublists.{left_of}
use Rattle.lazy_ground.specs.declared.sentence.LazyGround.{LazyGround}
use Rattle.lazy_ground.specs.Lazy.{IsLazy}
use Rattle.vericon_decide.specs.declared.solving.RoundEnd.{RoundEnd}
use Rattle.vericon_decide.specs.declared.solving.RoundEnd.TheVariants.{GoesOn, Refuted, Satisfied}

-- the clauses that are there are refuted, or a network and state make the sentence true, or fewer clauses are left
abbrev pub IsRoundEnd : Parts → Formula → LazyGround → LazyGround → RoundEnd → Type 0
IsRoundEnd P F old new (Refuted log) = (new ≡ old) × IsRefutationOf old.made.clauses log
IsRoundEnd P F old new (Satisfied case) = MakesTrue P F case
IsRoundEnd P F old new GoesOn = IsLazy P F new × (left_of (clauses P F) new.made.clauses.clauses < left_of (clauses P F) old.made.clauses.clauses)
