use Rattle.std.proofs.Common.{◌≡◌, ◌<◌, ◌∙◌, refl, sym, ap, subst, arith, inl, inr}
use Rattle.std.proofs.lemmas.Result.{IfOk-weaker, on_ok_weaker}
use Rattle.fol_forms.specs.Counts.{count_of}
use Rattle.form_trees.specs.Trees.{tree_form}
use Rattle.ground_inst.specs.Walk.{scope, state_of}
use Rattle.lazy_ground.specs.Found.{Looks}
use Rattle.lazy_ground.proofs.LookSteps.{both_from, either_kept, either_pushed, free_found, member_kept_from, member_pushed_from, row_begun, row_more, row_whole}
use Rattle.lazy_ground.proofs.PassSteps.{enough, over, passed}
use Rattle.lazy_ground.proofs.looking.+look.Goals as goal

pub look_free-returns : goal.look_free-returns
look_free-returns t c =
    IfOk-weaker c.look_at.result _ _ (λ seen h. free_found c.args.r.now (tree_form c.args.tree.now) c.args.given c.args.var c.args.sort c.of-place.result (state_of c.args.work.now)
    (state_of (record { env = c.args.work.now.env; base = c.in_ok-work.field-0; next = c.args.work.now.next; rows = c.args.work.now.rows })) (state_of c.look_at.new.work) seen c.of-place.ensures refl c.in_ok-work.ensures refl refl h) c.look_at.ensures

pub look_inside-returns-then-is_done : goal.look_inside-returns-then-is_done
look_inside-returns-then-is_done t c =
    let after = state_of (record { env = c.args.work.now.env; base = c.in_ok-work-2.field-0; next = c.in_ok-work.field-0; rows = c.args.work.now.rows }) in
    λ node. elim (c.is_done.ensures c.if-is_done.true) [
      | inl some ↦ enough c.args.r.now (tree_form c.args.tree.now) c.args.count c.args.value (state_of c.args.work.now) after refl c.in_ok-work-2.ensures c.in_ok-work.ensures refl c.requires.count some
      | inr h ↦ over c.args.r.now (tree_form c.args.tree.now) c.args.count c.args.value (state_of c.args.work.now) after refl c.in_ok-work-2.ensures c.in_ok-work.ensures refl c.requires.count h.1 h.0 node
    ]

pub look_place-returns-then-is_passed : goal.look_place-returns-then-is_passed
look_place-returns-then-is_passed t c =
    passed c.args.r.now (tree_form c.args.tree.now) c.args.members.var c.args.members.sort c.args.place c.args.members.number c.args.members.nodes c.args.asked (state_of c.args.work.now)
    (state_of (record { env = c.args.work.now.env; base = c.args.work.now.base; next = c.in_ok-work.field-0; rows = c.args.work.now.rows }))
    refl c.in_ok-work.ensures refl c.requires.nodes (c.is_passed.ensures.free c.if-is_passed.true)
    (λ e. c.requires.candidates c.args.place c.requires.place (c.is_passed.ensures.certain c.if-is_passed.true e) (state_of c.args.work.now).base)

pub look_into_all-places-init : goal.look_into_all-places-init
look_into_all-places-init t c =
    row_begun c.args.r.now (tree_form c.args.tree.now) c.args.var c.args.sort (state_of c.args.work.now) c.args.value _
    (ap scope c.in_ok-candidates.ensures.env ∙ ap (λ z. z.env) c.in_ok-number.ensures.taken) (ap (λ z. z.next) c.in_ok-number.ensures.taken) (ap (λ z. z.out) c.in_ok-number.ensures.taken)

pub look_into_all-places-preserved : goal.look_into_all-places-preserved
look_into_all-places-preserved t c =
    let inside : c.places.place < count_of c.args.r.now.names.facts.now.counts c.args.sort = omega (arith, c.places-test.true, c.of-count.ensures) in
    row_more c.args.r.now (tree_form c.args.tree.now) c.args.var c.args.sort (state_of c.args.work.now) c.args.value c.places.place c.in_ok-number.number c.places.asked c.in_ok-asked.asked (state_of c.places.work)
    (state_of (record { env = c.places.work.env; base = c.args.work.now.base; next = c.places.work.next; rows = c.places.work.rows })) (state_of c.look_place.new.work) (state_of c.look_place.new.work)
    c.places.invariant inside c.in_ok-number.ensures.number refl refl refl refl c.in_ok-asked.ensures refl refl refl

pub look_into_all-returns : goal.look_into_all-returns
look_into_all-returns t c =
    let last : c.places.place ≡ count_of c.args.r.now.names.facts.now.counts c.args.sort = omega (arith, c.places-test.false, c.places.auto.place-end, c.of-count.ensures) in
    row_whole c.args.r.now (tree_form c.args.tree.now) c.args.var c.args.sort (state_of c.args.work.now) c.args.value c.places.place c.places.asked (state_of c.places.work)
    (state_of (record { env = c.places.work.env; base = c.args.work.now.base; next = c.places.work.next; rows = c.places.work.rows })) last
    (λ e. omega (arith, c.if-count-lt2.false, c.of-count.ensures, e)) (λ e. omega (arith, c.if-count-lt2.false, c.of-count.ensures, e)) c.places.invariant refl refl refl refl

pub look_into_both-returns : goal.look_into_both-returns
look_into_both-returns t c =
    both_from c.args.r.now (tree_form c.args.p.now) (tree_form c.args.q.now) c.args.value c.in_ok-look_member.field-0 c.in_ok-look_member-2.field-0 (state_of c.args.work.now) (state_of c.number.new.work) (state_of c.look_member.new.work) (state_of c.look_member-2.new.work) c.in_ok-x.x
    c.in_ok-x.ensures.taken c.in_ok-x.ensures.number c.in_ok-look_member.ensures c.in_ok-look_member-2.ensures

pub look_into_either-returns-then-is_missing : goal.look_into_either-returns-then-is_missing
look_into_either-returns-then-is_missing t c =
    on_ok_weaker c.push_either.result (λ e.
    either_pushed c.args.r.now (tree_form c.args.p.now) (tree_form c.args.q.now) c.args.value c.is_missing-wanted.result (state_of c.args.work.now) (state_of c.number.new.work) (state_of c.look.new.work) (state_of (record { env = c.look.new.work.env; base = c.number.new.work.base; next = c.look.new.work.next; rows = c.look.new.work.rows })) (state_of c.look-2.new.work)
    (state_of (record { env = c.look-2.new.work.env; base = c.larger-work.result; next = c.look-2.new.work.next; rows = c.push_either.new.rows })) c.in_ok-x.x c.in_ok-a.a c.in_ok-b.b
    c.in_ok-x.ensures.taken c.in_ok-x.ensures.number (subst (λ z. Looks c.args.r.now (tree_form c.args.p.now) z (state_of c.number.new.work) (state_of c.look.new.work) c.in_ok-a.a) c.given_unless.ensures c.in_ok-a.ensures) refl refl refl refl
    (subst (λ z. Looks c.args.r.now (tree_form c.args.q.now) z (state_of (record { env = c.look.new.work.env; base = c.number.new.work.base; next = c.look.new.work.next; rows = c.look.new.work.rows })) (state_of c.look-2.new.work) c.in_ok-b.b) c.given_unless-2.ensures c.in_ok-b.ensures)
    refl c.larger-work.ensures refl c.is_missing-wanted.ensures (sym c.is_missing.ensures ∙ c.if-is_missing.true) e) c.push_either.ensures

pub look_into_either-returns : goal.look_into_either-returns
look_into_either-returns t c =
    either_kept c.args.r.now (tree_form c.args.p.now) (tree_form c.args.q.now) c.args.value c.is_missing-wanted.result (state_of c.args.work.now) (state_of c.number.new.work) (state_of c.look.new.work) (state_of (record { env = c.look.new.work.env; base = c.number.new.work.base; next = c.look.new.work.next; rows = c.look.new.work.rows })) (state_of c.look-2.new.work)
    (state_of (record { env = c.look-2.new.work.env; base = c.larger-work.result; next = c.look-2.new.work.next; rows = c.look-2.new.work.rows })) c.in_ok-a.a c.in_ok-b.b
    c.in_ok-x.ensures.taken (subst (λ z. Looks c.args.r.now (tree_form c.args.p.now) z (state_of c.number.new.work) (state_of c.look.new.work) c.in_ok-a.a) c.given_unless.ensures c.in_ok-a.ensures) refl refl refl refl
    (subst (λ z. Looks c.args.r.now (tree_form c.args.q.now) z (state_of (record { env = c.look.new.work.env; base = c.number.new.work.base; next = c.look.new.work.next; rows = c.look.new.work.rows })) (state_of c.look-2.new.work) c.in_ok-b.b) c.given_unless-2.ensures c.in_ok-b.ensures)
    refl c.larger-work.ensures refl c.is_missing-wanted.ensures (sym c.is_missing.ensures ∙ c.if-is_missing.false) refl

pub look_member-returns-then-is_missing : goal.look_member-returns-then-is_missing
look_member-returns-then-is_missing t c =
    member_pushed_from c.args.r.now c.args.asked c.given_unless.result c.is_missing.result (tree_form c.args.tree.now) c.args.x (state_of c.args.work.now) (state_of c.look.new.work)
    (state_of (record { env = c.look.new.work.env; base = c.look.new.work.base; next = c.look.new.work.next; rows = c.push_member.new.rows })) c.in_ok-seen.seen
    c.given_unless.ensures c.is_missing.ensures c.if-is_missing.true c.in_ok-seen.ensures refl refl refl c.in_ok-push_member.ensures

pub look_member-returns : goal.look_member-returns
look_member-returns t c =
    member_kept_from c.args.r.now c.args.asked c.given_unless.result c.is_missing.result (tree_form c.args.tree.now) c.args.x (state_of c.args.work.now) (state_of c.look.new.work) c.in_ok-seen.seen
    c.given_unless.ensures c.is_missing.ensures c.if-is_missing.false c.in_ok-seen.ensures
