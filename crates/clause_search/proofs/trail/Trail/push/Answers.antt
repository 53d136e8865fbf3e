use Rattle.std.proofs.Common.{None, get_or, sym, ap, ◌∙◌}
use Rattle.clause_search.specs.Trails.{values_of}
use Rattle.clause_search.proofs.Ties.{when_ok, items_ok, pushed}
use Rattle.clause_search.proofs.trail.Trail.push.Goals as goal

pub invariant_of-self-else-is_err-2 : goal.invariant_of-self-else-is_err-2
invariant_of-self-else-is_err-2 c =
    pushed (λ a. get_or c.self.inside.values.items a None) (λ a. get_or c.put.new.table.items a None) c.self.inside.entries.items c.push.new.self.items c.args.literal c.args.reason c.atom-atom.result c.is_positive.result c.atom-atom.ensures.value
    c.is_positive.ensures (items_ok c.push.result _ _ _ (sym c.is_err.ensures.value ∙ c.if-is_err.false) c.push.ensures.items) c.self.invariant (ap (λ es. values_of es c.args.literal.atom) c.self.view_is ∙ c.requires)
    (when_ok c.put.result _ (sym c.is_err-2.ensures.value ∙ c.if-is_err-2.false) c.put.ensures.ok)
