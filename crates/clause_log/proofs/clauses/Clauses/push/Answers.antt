use Rattle.std.proofs.Common.{◌≡◌, ◌++◌, [], ◌∷◌, true, List, ap, ◌∙◌, sym, subst}
use Rattle.clause_log.specs.Literals.{Literal, ClauseList, is_clause}
use Rattle.clause_log.proofs.Flat.{pushed, clause_more, clauses_same, on_ok, either_way}
use Rattle.clause_log.proofs.clauses.Clauses.push.Goals as goal

pub invariant_of-self : goal.invariant_of-self
invariant_of-self c =
    either_way c.append.result _ _ _ _ _ c.append.ensures.items c.append.ensures.ends c.append.ensures.err c.append.ensures.err_ends
    (λ e f. clause_more c.self.inside.atoms c.self.inside.ends.items c.append.new.ends.items c.self.inside.literals.items c.append.new.items.items c.args.lits.now c.self.invariant (subst (λ v. is_clause v.atoms c.args.lits.now ≡ true) (sym c.self.view_is) c.requires) e f)
    (λ e f. clauses_same c.self.inside.atoms c.self.inside.ends.items c.append.new.ends.items c.self.inside.literals.items c.append.new.items.items c.self.invariant e f)

pub returns-clause-ok : goal.returns-clause-ok
returns-clause-ok c =
    let of_clauses : List (List Literal) → ClauseList = λ z. record { atoms = c.self.inside.atoms; clauses = z } in
    on_ok c.append.result _ _ _ c.append.ensures.items c.append.ensures.ends (λ e f.
    ap of_clauses (pushed c.self.inside.ends.items c.append.new.ends.items c.self.inside.literals.items c.append.new.items.items c.args.lits.now c.self.invariant.split_up e f)
    ∙ ap (λ (v : ClauseList). let w : ClauseList = record { atoms = v.atoms; clauses = v.clauses ++ c.args.lits.now ∷ [] } in w) c.self.view_is)
