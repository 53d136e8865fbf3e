use Rattle.std.proofs.Common.{◌≡◌, ◌++◌, [], ◌∷◌, ap, sym, refl, not, arith, ◌∙◌}
use Rattle.std.proofs.lemmas.Result.{IfOk-weaker}
use Rattle.fol_forms.specs.Forms.{And, normal_form}
use Rattle.decision_laws.specs.Clauses.{member_clause}
use Rattle.ground_inst.specs.Walk.{scope, state_of, ways_of}
use Rattle.ground_inst.proofs.Steps.{told, leaf_added, both_from, either_from, exists_added, row_begun, row_more, row_from}
use Rattle.ground_inst.proofs.walk.+walk.Goals as goal

pub walk-returns-in-Atom : goal.walk-returns-in-Atom
walk-returns-in-Atom t c =
    told c.tuple_literal.result _ _ c.tuple_literal.ensures
    (leaf_added (ways_of c.args.names.now) c.in-Atom.sign c.in-Atom.pred c.in-Atom.terms.now (state_of c.args.work.now) (scope c.deref.result.now) (normal_form c.args.sign c.args.formula.now) c.in-Atom.ensures.form (ap scope c.deref.ensures.value))

pub walk_all-loop-place-init : goal.walk_all-loop-place-init
walk_all-loop-place-init t c =
    row_begun (ways_of c.args.names.now) (normal_form c.args.sign c.args.formula.now) c.args.var c.args.sort (state_of c.args.work.now) (state_of c.number.new.work) c.in_ok-x.ensures.taken

pub walk_all-loop-place-preserved : goal.walk_all-loop-place-preserved
walk_all-loop-place-preserved t c =
    row_more (ways_of c.args.names.now) (normal_form c.args.sign c.args.formula.now) c.args.var c.args.sort c.loop-place.place (state_of c.args.work.now) (state_of c.loop-place.work)
    (state_of (record { env = c.loop-place.work.env; base = c.args.work.now.base; next = c.loop-place.work.next; rows = c.loop-place.work.rows }))
    (state_of c.walk_at-in-loop-place.new.work) c.in_ok-a.a c.push_member.new.rows c.loop-place.invariant refl (λ s. refl) refl refl c.in_ok-a.ensures
    (c.in_ok-push_member.ensures ∙ ap (λ x. c.walk_at-in-loop-place.new.work.rows ++ member_clause x c.in_ok-a.a ∷ []) c.in_ok-x.ensures.number)
    (state_of (record { env = c.walk_at-in-loop-place.new.work.env; base = c.walk_at-in-loop-place.new.work.base; next = c.walk_at-in-loop-place.new.work.next; rows = c.push_member.new.rows }))
    refl refl refl

pub walk_all-returns : goal.walk_all-returns
walk_all-returns t c =
    let f = c.if-count-eq1.false in
    let z = c.if-count-eq0.false in
    let h = c.loop-place-test.false in
    let end = c.loop-place.auto.place-end in
    let pe : c.loop-place.place ≡ c.of-count.result = omega arith in
    told c.literal-2.result _ _ c.literal-2.ensures
    (row_from (ways_of c.args.names.now) (normal_form c.args.sign c.args.formula.now) c.args.var c.args.sort (state_of c.args.work.now) (state_of c.loop-place.work) c.loop-place.place c.in_ok-x.x c.in_ok-x.ensures.number (pe ∙ c.of-count.ensures) (λ q. f (sym pe ∙ q)) (λ q. z (sym pe ∙ q)) c.loop-place.invariant)

pub walk_both-returns : goal.walk_both-returns
walk_both-returns t c =
    told c.literal.result _ _ c.literal.ensures
    (both_from (ways_of c.args.names.now) (normal_form c.args.p_sign c.args.p.now) (normal_form c.args.q_sign c.args.q.now) (state_of c.args.work.now) (state_of c.number.new.work) (state_of c.walk_member.new.work) (state_of c.walk_member-2.new.work) c.in_ok-x.x
    c.in_ok-x.ensures.taken c.in_ok-x.ensures.number c.in_ok-walk_member.ensures c.in_ok-walk_member-2.ensures)

pub walk_cases-returns : goal.walk_cases-returns
walk_cases-returns t c =
    told c.literal.result _ _ c.literal.ensures
    (either_from (ways_of c.args.names.now) (And (normal_form c.args.p_sign c.args.p.now) (normal_form c.args.q_sign c.args.q.now)) (And (normal_form (not c.args.p_sign) c.args.p.now) (normal_form (not c.args.q_sign) c.args.q.now)) (state_of c.args.work.now) (state_of c.number.new.work) (state_of c.walk_both.new.work)
    (state_of (record { env = c.walk_both.new.work.env; base = c.number.new.work.base; next = c.walk_both.new.work.next; rows = c.walk_both.new.work.rows }))
    (state_of c.walk_both-2.new.work) (state_of (record { env = c.walk_both-2.new.work.env; base = c.larger-work.result; next = c.walk_both-2.new.work.next; rows = c.push_either.new.rows }))
    c.in_ok-x.x c.in_ok-a.a c.in_ok-b.b c.in_ok-x.ensures.taken c.in_ok-x.ensures.number c.in_ok-a.ensures refl refl refl refl c.in_ok-b.ensures refl c.larger-work.ensures refl c.in_ok-push_either.ensures)

pub walk_either-returns : goal.walk_either-returns
walk_either-returns t c =
    told c.literal.result _ _ c.literal.ensures
    (either_from (ways_of c.args.names.now) (normal_form c.args.p_sign c.args.p.now) (normal_form c.args.q_sign c.args.q.now) (state_of c.args.work.now) (state_of c.number.new.work) (state_of c.walk.new.work)
    (state_of (record { env = c.walk.new.work.env; base = c.number.new.work.base; next = c.walk.new.work.next; rows = c.walk.new.work.rows }))
    (state_of c.walk-2.new.work) (state_of (record { env = c.walk-2.new.work.env; base = c.larger-work.result; next = c.walk-2.new.work.next; rows = c.push_either.new.rows }))
    c.in_ok-x.x c.in_ok-a.a c.in_ok-b.b c.in_ok-x.ensures.taken c.in_ok-x.ensures.number c.in_ok-a.ensures refl refl refl refl c.in_ok-b.ensures refl c.larger-work.ensures refl c.in_ok-push_either.ensures)

pub walk_free-returns : goal.walk_free-returns
walk_free-returns t c =
    IfOk-weaker c.walk_at.result _ _ (λ l h. exists_added (ways_of c.args.names.now) (normal_form c.args.sign c.args.formula.now) c.args.var c.args.sort c.of-place.result (state_of c.args.work.now)
    (state_of (record { env = c.args.work.now.env; base = c.in_ok-work.field-0; next = c.args.work.now.next; rows = c.args.work.now.rows })) (state_of c.walk_at.new.work) l c.of-place.ensures refl c.in_ok-work.ensures refl refl h) c.walk_at.ensures
