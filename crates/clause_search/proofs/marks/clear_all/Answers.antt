use Rattle.std.proofs.Common.{◌<◌, ◌∙◌, ap, sym, subst, cond, eqb, length}
use Rattle.clause_search.specs.declared.marks.Mark.TheVariants.{Unseen}
use Rattle.clause_search.proofs.Listed.{at, cleared, last_place}
use Rattle.clause_search.proofs.marks.clear_all.Goals as goal

pub replace-requires : goal.replace-requires
replace-requires c =
    subst (λ n. n < length c.seen.table.items) (sym c.atom.ensures.value) (last_place c.seen.table.items c.seen.seen.items c.pop.new.self.items c.in-Some.l c.seen.invariant c.in-Some.ensures.items)

pub seen-preserved : goal.seen-preserved
seen-preserved c =
    cleared c.seen.table.items c.replace.new.table.items c.seen.seen.items c.pop.new.self.items c.in-Some.l c.seen.invariant c.in-Some.ensures.items
    (λ a. c.replace.ensures a ∙ ap (λ k. cond (eqb a k) Unseen (at c.seen.table.items a)) c.atom.ensures.value)
