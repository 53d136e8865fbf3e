use Rattle.std.proofs.Common.{◌∙◌, ap, sym, subst}
use Rattle.clause_log.specs.Refutations.{clause_at, with_steps}
use Rattle.clause_search.specs.declared.marks.Mark.TheVariants.{Resolved}
use Rattle.clause_search.specs.Cuts.{is_open, mark_of, marked, opened_at, IsWalked}
use Rattle.clause_search.proofs.CutLaws.{walk_starts, walk_passes, walk_resolves}
use Rattle.clause_search.proofs.Points.{point_back, point_here}
use Rattle.clause_search.proofs.cut.walk.Goals as goal

pub entries-init : goal.entries-init
entries-init c =
    let cs = with_steps c.args.clauses.now.clauses c.args.log.now in
    let trail = c.args.trail.now in
    subst (λ z. IsWalked cs trail z (mark_of c.start.new.marks) c.start.new.hints.items) (sym c.entries-rest.ensures.value)
    (walk_starts cs trail (mark_of c.start.new.marks) c.args.conflict c.start.new.hints.items c.requires.conflict.0 c.requires.conflict.1 c.in_ok-open.ensures.marks c.in_ok-open.ensures.hints)

pub returns-in_default-reason-clause-point : goal.returns-in_default-reason-clause-point
returns-in_default-reason-clause-point c =
    point_here c.args.clauses.now.atoms (with_steps c.args.clauses.now.clauses c.args.log.now) c.args.trail.now c.entries.rest.now c.in-Some.earlier.now (mark_of c.entries.marks) c.entries.hints.items c.in-Some.entry.now _ c.requires.search.fits
    c.in-Some.ensures.cases.0 (ap (λ a. is_open (mark_of c.entries.marks a)) (sym c.atom.ensures.value) ∙ sym c.is_open.ensures ∙ c.if-is_open.true) c.negated.ensures c.in_default-reason.is c.back_or_here-place.ensures c.entries.invariant

pub returns-in-Some-way_back-clause-point : goal.returns-in-Some-way_back-clause-point
returns-in-Some-way_back-clause-point c =
    point_back c.args.clauses.now.atoms (with_steps c.args.clauses.now.clauses c.args.log.now) c.args.trail.now c.entries.rest.now c.in-Some.earlier.now (mark_of c.entries.marks) c.entries.hints.items c.in-Some.entry.now _ c.requires.search.fits
    c.in-Some.ensures.cases.0 (ap (λ a. is_open (mark_of c.entries.marks a)) (sym c.atom.ensures.value) ∙ sym c.is_open.ensures ∙ c.if-is_open.true) c.negated-in-Some-way_back.ensures c.in-Some-way_back.ensures c.entries.invariant

pub entries-preserved-in_ok-more : goal.entries-preserved-in_ok-more
entries-preserved-in_ok-more c =
    let cs = with_steps c.args.clauses.now.clauses c.args.log.now in
    walk_resolves c.args.clauses.now.atoms cs c.args.trail.now c.entries.rest.now c.in-Some.earlier.now (mark_of c.entries.marks) (mark_of c.resolve.new.marks) c.entries.hints.items c.resolve.new.hints.items c.in-Some.entry.now c.in-Some-reason.reason
    c.requires.search.fits c.in-Some.ensures.cases.0 c.in-Some-reason.is (ap (λ a. is_open (mark_of c.entries.marks a)) (sym c.atom.ensures.value) ∙ sym c.is_open.ensures ∙ c.if-is_open.true)
    (λ a. c.in_ok-more.ensures.marks a ∙ ap (λ k. opened_at (marked k Resolved (mark_of c.entries.marks)) (clause_at cs c.in-Some-reason.reason) a) c.atom-then-is_open.ensures.value) c.in_ok-more.ensures.hints c.entries.invariant

pub entries-preserved : goal.entries-preserved
entries-preserved c =
    walk_passes c.args.clauses.now.atoms (with_steps c.args.clauses.now.clauses c.args.log.now) c.args.trail.now c.entries.rest.now c.in-Some.earlier.now (mark_of c.entries.marks) c.entries.hints.items c.in-Some.entry.now c.requires.search.fits
    c.in-Some.ensures.cases.0 (ap (λ a. is_open (mark_of c.entries.marks a)) (sym c.atom.ensures.value) ∙ sym c.is_open.ensures ∙ c.if-is_open.false) c.entries.invariant
