use Rattle.std.proofs.Common.{subst, ap₂}
use Rattle.std.proofs.lemmas.Result.{on_ok_weaker}
use Rattle.clause_log.specs.Literals.{truths}
use Rattle.fol_forms.specs.Counts.{count_of}
use Rattle.decision_laws.specs.Clauses.{equality_clauses}
use Rattle.ground_inst.specs.Facts.{num_of, vocabulary_of}
use Rattle.lazy_ground.specs.Found.{Finds}
use Rattle.lazy_ground.proofs.equalities.find_equality.Goals as goal

pub returns : goal.returns
returns c =
    on_ok_weaker c.find_all.result (λ e.
    subst (λ z. Finds (truths c.args.trues.now) z c.args.rows.now c.find_all.new.rows)
    (ap₂ (λ p f. equality_clauses (num_of f) (count_of f.counts) (vocabulary_of p f)) c.in_ok-constants.ensures.parts c.in_ok-constants.ensures.facts) e) c.find_all.ensures
