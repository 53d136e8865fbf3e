use Rattle.std.proofs.Common.{◌≡◌, ◌-◌}
use Rattle.decision_laws.specs.Classes.{first_from}
use Rattle.decision_laws.specs.Copies.{Equation}
use Rattle.class_networks.specs.Judgements.{constants_in, first_in, says}
use Rattle.class_networks.proofs.classes.first_of.Given as goal

-- no constant before is judged equal
abbrev pub invariant-loop-other : goal.invariant-loop-other
invariant-loop-other l =
    first_from (λ b. says l.judgement (Equation l.sort b l.place)) l.other (constants_in l.judgement l.sort - l.other) ≡ first_in l.judgement l.sort l.place
