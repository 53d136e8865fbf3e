use Rattle.std.proofs.Common.{sym, subst}
use Rattle.csdn_conditions.specs.declared.class.Class.TheVariants.{Inside}
use Rattle.csdn_conditions.specs.Classes.{IsClass}
use Rattle.csdn_conditions.proofs.Cases.{case_closed}
use Rattle.decision_laws.specs.Laws.{IsSentence}
use Rattle.decide_ways_tests.proofs.tests.by_all.Goals as goal

pub by_clauses-requires : goal.by_clauses-requires
by_clauses-requires c =
    subst (IsSentence c.args.program.now) (sym c.in_ok-sentence.ensures)
    (record { closed = case_closed c.args.program.now c.args.condition c.requires.hypothesis c.requires.goal; inside = (subst (λ z. IsClass c.args.program.now _ z Inside) c.in_ok-sentence.ensures c.in-Inside.ensures).1 })
