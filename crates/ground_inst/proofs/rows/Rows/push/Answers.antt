use Rattle.std.proofs.Common.{◌++◌, [], ◌∷◌, ap, ◌∙◌, sym, subst, length}
use Rattle.clause_log.specs.Rows.{IsSplit}
use Rattle.clause_log.proofs.Flat.{pushed, pushed_split, on_ok, either_way}
use Rattle.ground_inst.proofs.rows.Rows.push.Goals as goal

pub returns : goal.returns
returns c =
    on_ok c.append.result _ _ _ c.append.ensures.literals c.append.ensures.ends (λ e f.
    pushed c.self.inside.ends.items c.append.new.ends.items c.self.inside.literals.items c.append.new.literals.items c.args.literals.now c.self.invariant e f
    ∙ ap (λ z. z ++ c.args.literals.now ∷ []) c.self.view_is)

pub invariant_of-self : goal.invariant_of-self
invariant_of-self c =
    either_way c.append.result _ _ _ _ _ c.append.ensures.literals c.append.ensures.ends c.append.ensures.err c.append.ensures.err_ends
    (λ e f. pushed_split c.self.inside.ends.items c.append.new.ends.items c.self.inside.literals.items c.append.new.literals.items c.args.literals.now c.self.invariant e f)
    (λ e f. subst (λ z. IsSplit 0 z (length c.append.new.literals.items)) (sym f) (subst (λ z. IsSplit 0 c.self.inside.ends.items (length z)) (sym e) c.self.invariant))
