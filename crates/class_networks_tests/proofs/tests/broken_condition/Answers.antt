use Rattle.std.proofs.Common.{sym, subst}
use Rattle.csdn_conditions.specs.declared.class.Class.TheVariants.{Inside}
use Rattle.csdn_conditions.specs.Classes.{IsClass, usual_size}
use Rattle.csdn_conditions.proofs.Cases.{case_closed}
use Rattle.decision_laws.specs.Laws.{IsSentence}
use Rattle.class_networks_tests.proofs.tests.broken_condition.Goals as goal

pub network_text-requires : goal.network_text-requires
network_text-requires c =
    subst (IsSentence c.args.program.now) (sym c.in_ok-sentence.ensures)
    (record { closed = case_closed c.args.program.now c.args.condition c.requires.hypothesis c.requires.goal; inside = (subst (λ z. IsClass c.args.program.now usual_size z Inside) c.in_ok-sentence.ensures c.in-Inside.ensures).1 })
