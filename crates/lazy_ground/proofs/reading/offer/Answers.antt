use Rattle.std.proofs.Common.{[], ◌∷◌, ◌∙◌, sym, subst}
use Rattle.std.proofs.lemmas.Result.{on_ok_weaker}
use Rattle.clause_log.specs.Literals.{truths}
use Rattle.lazy_ground.specs.Found.{Finds}
use Rattle.lazy_ground.proofs.FindLaws.{finds_false, one_false}
use Rattle.lazy_ground.proofs.reading.offer.Goals as goal

pub returns : goal.returns
returns c =
    on_ok_weaker c.push.result (λ e.
    subst (Finds (truths c.args.trues.now) (c.args.literals.now ∷ []) c.args.rows.now) (sym e)
    (finds_false (truths c.args.trues.now) (c.args.literals.now ∷ []) c.args.rows.now (one_false (truths c.args.trues.now) c.args.literals.now (sym c.is_clause_true.ensures ∙ c.if-is_clause_true.false)))) c.push.ensures
