use Rattle.std.proofs.Common.{◌∙◌, ap, arith, sym}
use Rattle.clause_log.specs.Literals.{truths}
use Rattle.decision_laws.specs.Copies.{Equation}
use Rattle.ground_inst.specs.Facts.{num_of}
use Rattle.lazy_ground.proofs.JoinLaws.{one_later}
use Rattle.lazy_ground.proofs.joining.has_join_below.Goals as goal

pub constants-init : goal.constants-init
constants-init c b l = absurd (omega (arith, l))

pub constants-preserved : goal.constants-preserved
constants-preserved c =
    one_later (λ b. truths c.args.trues.now (num_of c.args.facts.now (Equation c.args.sort c.args.a b))) c.constants.b c.constants.invariant
    (ap (truths c.args.trues.now) (sym c.in_ok-atom.ensures) ∙ sym c.value.ensures ∙ c.if-value.false)

pub returns : goal.returns
returns c e b l = c.constants.invariant b (omega (arith, l, c.constants-test.false))
