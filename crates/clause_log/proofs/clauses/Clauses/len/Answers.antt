use Rattle.std.proofs.Common.{◌∙◌, length, sym, ap}
use Rattle.clause_log.proofs.Flat.{length-split}
use Rattle.clause_log.proofs.clauses.Clauses.len.Goals as goal

pub returns : goal.returns
returns c = c.len.ensures ∙ c.self.inside.ends.ok.0 ∙ sym (length-split 0 c.self.inside.ends.items c.self.inside.literals.items) ∙ ap (λ v. length v.clauses) c.self.view_is
