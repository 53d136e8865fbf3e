use Rattle.std.proofs.Common.{◌≡◌, ◌∙◌, sym, ap, Some}
use Rattle.clause_log.specs.Refutations.{clause_at, unit_at, with_steps}
use Rattle.clause_search.specs.Trails.{values_of}
use Rattle.clause_search.proofs.Entries.{extends_one}
use Rattle.clause_search.proofs.Clauses.{forced_new, forced_within}
use Rattle.clause_search.proofs.propagate.visit.Goals as goal

pub returns-in_ok-push-in-Forces-clause-extends : goal.returns-in_ok-push-in-Forces-clause-extends
returns-in_ok-push-in-Forces-clause-extends c =
    let f = values_of c.args.trail.now in
    let cs = with_steps c.args.clauses.now.clauses c.args.log.now in
    let there : clause_at cs c.args.number ≡ Some c.in-Some.clause.now = sym c.in-Some.ensures in
    extends_one c.args.clauses.now.atoms cs c.args.trail.now c.push.new.self c.in-Forces.l c.args.number c.in_ok-push-in-Forces.ensures.ok
    (record {
      new = forced_new f c.in-Some.clause.now c.in-Forces.l c.in-Forces.ensures;
      within = forced_within c.args.clauses.now.atoms cs c.args.number f c.in-Some.clause.now c.in-Forces.l c.requires there c.in-Forces.ensures;
      forced = (ap (unit_at f) there ∙ c.in-Forces.ensures, sym c.is_hint.ensures ∙ c.if-not-is_hint.false);
    })
