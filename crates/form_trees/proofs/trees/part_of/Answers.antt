use Rattle.std.proofs.Common.{subst, sym}
use Rattle.form_trees.specs.Trees.{IsMeasured}
use Rattle.form_trees.proofs.TreeSteps.{parts-Both, parts-Either, parts-Forall, parts-Exists}
use Rattle.form_trees.proofs.trees.part_of.Goals as goal

-- src/trees.rt:50:1
pub returns-in-Both-clause-measured : goal.returns-in-Both-clause-measured
returns-in-Both-clause-measured c =
    λ n h.
    let parts = parts-Both n c.in-Both.field-0 c.in-Both.p c.in-Both.q (subst (IsMeasured n) c.in-Both.is h) in
    (subst (IsMeasured n) (sym c.get.ensures) parts.1, subst (IsMeasured n) (sym c.get-in-Both.ensures) parts.2)

-- src/trees.rt:50:1
pub returns-in-Either-clause-measured : goal.returns-in-Either-clause-measured
returns-in-Either-clause-measured c =
    λ n h.
    let parts = parts-Either n c.in-Either.field-0 c.in-Either.p c.in-Either.q (subst (IsMeasured n) c.in-Either.is h) in
    (subst (IsMeasured n) (sym c.get-in-Either.ensures) parts.1, subst (IsMeasured n) (sym c.get-in-Either-2.ensures) parts.2)

-- src/trees.rt:50:1
pub returns-in-Forall-clause-measured : goal.returns-in-Forall-clause-measured
returns-in-Forall-clause-measured c = λ n h. subst (IsMeasured n) (sym c.get-in-Forall.ensures) (parts-Forall n c.in-Forall.field-0 c.in-Forall.var c.in-Forall.sort c.in-Forall.p (subst (IsMeasured n) c.in-Forall.is h)).1

-- src/trees.rt:50:1
pub returns-in-Exists-clause-measured : goal.returns-in-Exists-clause-measured
returns-in-Exists-clause-measured c = λ n h. subst (IsMeasured n) (sym c.get-in-Exists.ensures) (parts-Exists n c.in-Exists.field-0 c.in-Exists.var c.in-Exists.sort c.in-Exists.p (subst (IsMeasured n) c.in-Exists.is h)).1
