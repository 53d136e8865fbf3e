use Rattle.std.proofs.Common.{◌∙◌, ap, sym, true}
use Rattle.clause_log.specs.Literals.{truths}
use Rattle.decision_laws.specs.Copies.{Equation}
use Rattle.ground_inst.specs.Facts.{num_of}
use Rattle.lazy_ground.proofs.FindLaws.{finds_true, first_cond}
use Rattle.lazy_ground.proofs.exchanges.offer_exchange.Goals as goal

pub returns-then-not-value-clause-rows : goal.returns-then-not-value-clause-rows
returns-then-not-value-clause-rows c =
    finds_true (truths c.args.trues.now) _ c.args.rows.now
    (first_cond (truths c.args.trues.now) true (num_of c.args.facts.now (Equation c.args.sort c.args.a c.args.b)) _ (ap (truths c.args.trues.now) (sym c.in_ok-atom.ensures) ∙ sym c.value.ensures ∙ c.if-not-value.true))
