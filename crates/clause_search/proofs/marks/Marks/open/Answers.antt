use Rattle.std.proofs.Common.{◌∙◌, ap, sym, cond, eqb}
use Rattle.clause_search.specs.declared.marks.Mark.TheVariants.{Open}
use Rattle.clause_search.specs.Cuts.{is_unseen, mark_of}
use Rattle.clause_search.proofs.Listed.{at, listed_more}
use Rattle.clause_search.proofs.Ties.{items_ok, when_ok}
use Rattle.clause_search.proofs.marks.Marks.open.Goals as goal

pub invariant_of-self-else-is_err-2 : goal.invariant_of-self-else-is_err-2
invariant_of-self-else-is_err-2 c =
    listed_more c.self.inside.table.items c.put.new.table.items c.self.inside.seen.items c.push.new.self.items c.args.l c.self.invariant (ap (λ m. is_unseen (mark_of m c.args.l.atom)) c.self.view_is ∙ c.requires)
    (items_ok c.push.result _ _ _ (sym c.is_err.ensures.value ∙ c.if-is_err.false) c.push.ensures.items)
    (λ a. when_ok c.put.result _ (sym c.is_err-2.ensures.value ∙ c.if-is_err-2.false) c.put.ensures.ok a ∙ ap (λ k. cond (eqb a k) Open (at c.self.inside.table.items a)) c.atom.ensures.value)
