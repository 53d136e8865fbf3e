use Rattle.std.proofs.Common.{◌<◌, ◌∙◌, length, sym, ap, subst}
use Rattle.clause_log.proofs.Flat.{length-split}
use Rattle.clause_log.proofs.clauses.Clauses.clause.Goals as goal

pub row_of-requires-clause-within : goal.row_of-requires-clause-within
row_of-requires-clause-within c =
    subst (λ n. c.args.at < n) (sym (ap (λ v. length v.clauses) c.self.view_is) ∙ length-split 0 c.self.inside.ends.items c.self.inside.literals.items ∙ sym (ap length c.deref-2.ensures.value)) c.requires
