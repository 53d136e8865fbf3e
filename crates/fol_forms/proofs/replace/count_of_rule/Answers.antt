use Rattle.std.proofs.Common.{◌∙◌, sym, cond, ap}
use Rattle.fol_forms.proofs.AtomNodes.{nodes-match}
use Rattle.fol_forms.proofs.replace.count_of_rule.Goals as goal

pub returns-then-are_match-clause-count : goal.returns-then-are_match-clause-count
returns-then-are_match-clause-count c =
    sym ((nodes-match c.args.ts.now c.args.us.now).0 ∙ ap (λ b. cond b 7 1) (sym c.are_match.ensures ∙ c.if-are_match.true))

pub returns-else-are_match-clause-count : goal.returns-else-are_match-clause-count
returns-else-are_match-clause-count c =
    sym ((nodes-match c.args.ts.now c.args.us.now).0 ∙ ap (λ b. cond b 7 1) (sym c.are_match.ensures ∙ c.if-are_match.false))
