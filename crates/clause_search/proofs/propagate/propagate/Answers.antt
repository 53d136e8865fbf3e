use Rattle.std.proofs.Common.{subst, sym}
use Rattle.std.proofs.lemmas.Result.{on_ok_weaker}
use Rattle.clause_log.specs.Refutations.{with_steps}
use Rattle.clause_search.specs.Trails.{Extends}
use Rattle.clause_search.proofs.Entries.{extends_on}
use Rattle.clause_search.proofs.propagate.propagate.Goals.{then-is_empty+in_ok-found+else-is_some, else-is_empty}
use Rattle.clause_search.proofs.propagate.propagate.Goals as goal

pub returns-clause-extends : goal.returns-clause-extends
returns-clause-extends c =
    let atoms = c.args.clauses.now.atoms in
    let cs = with_steps c.args.clauses.now.clauses c.args.log.now in
    elim c.if-is_empty.branch [
      | then-is_empty+in_ok-found+else-is_some w ↦
          on_ok_weaker c.spread.result (λ e. extends_on atoms cs c.args.trail.now c.if-is_empty.trail c.spread.new.trail (subst (λ z. Extends atoms cs c.args.trail.now z) (sym w.trail-is) w.in_ok-found.ensures.extends) e) c.spread.ensures.extends
      | else-is_empty w ↦ on_ok_weaker c.spread.result (λ e. subst (λ z. Extends atoms cs z c.spread.new.trail) w.trail-is e) c.spread.ensures.extends
    ]
