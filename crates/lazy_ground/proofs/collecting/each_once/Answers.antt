use Rattle.std.proofs.Common.{◌∙◌, ◌<◌, length, sym, ap, ap₂, arith}
use Rattle.lazy_ground.specs.Found.{put_clause}
use Rattle.lazy_ground.proofs.ReadLaws.{once_next}
use Rattle.lazy_ground.proofs.collecting.each_once.Goals as goal

pub clauses-preserved : goal.clauses-preserved
clauses-preserved c =
    let inside : c.clauses.at < length c.args.found.now.clauses = omega (arith, c.clauses-test.true, c.len-count.ensures) in
    c.in_ok-put.ensures
    ∙ ap₂ (λ k l. record { atoms = k.atoms; clauses = put_clause k.clauses l }) c.clauses.invariant c.clause.ensures
    ∙ ap (λ z. record { atoms = c.args.found.now.atoms; clauses = z }) (sym (once_next c.args.found.now.clauses c.clauses.at inside))
