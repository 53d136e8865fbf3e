use Rattle.std.proofs.Common.{◌≡◌, ◌<◌, ◌∙◌, None, ap, get_or, length, subst, sym, append-nil}
use Rattle.clause_log.specs.Assignments.{no_values}
use Rattle.clause_search.specs.Trails.{values_of, AreNew}
use Rattle.clause_search.proofs.Ties.{last_place, popped}
use Rattle.clause_search.proofs.trail.Trail.pop.Goals as goal

pub invariant_of-self : goal.invariant_of-self
invariant_of-self c =
    let same : c.self.inside.entries.items ≡ c.pop.new.self.items = c.in_err-entry.ensures.items ∙ append-nil c.pop.new.self.items in
    (c.self.invariant.0 ∙ ap values_of same, subst (AreNew no_values) same c.self.invariant.1)

pub replace-requires : goal.replace-requires
replace-requires c =
    subst (λ n. n < length c.self.inside.values.items) (sym c.atom.ensures.value) (last_place c.self.inside.values.items c.self.inside.entries.items c.pop.new.self.items c.in_ok-entry.entry c.in_ok-entry.ensures.items c.self.invariant.0)

pub invariant_of-self-2 : goal.invariant_of-self-2
invariant_of-self-2 c =
    popped (λ a. get_or c.self.inside.values.items a None) (λ a. get_or c.replace.new.table.items a None) c.self.inside.entries.items c.pop.new.self.items c.in_ok-entry.entry c.atom.result c.atom.ensures.value c.in_ok-entry.ensures.items c.self.invariant
    c.replace.ensures
