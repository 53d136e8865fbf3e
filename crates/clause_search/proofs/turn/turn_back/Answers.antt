use Rattle.std.proofs.Common.{◌++◌, ◌∷◌, [], ◌∙◌, List, ℕ, ap₂, subst}
use Rattle.clause_log.specs.Literals.{Literal}
use Rattle.clause_log.specs.Refutations.{Step}
use Rattle.clause_search.specs.Cuts.{Jumps}
use Rattle.clause_search.proofs.Turned.{IsLogged, refuted, turned}
use Rattle.clause_search.proofs.turn.turn_back.Goals as goal

pub returns-in_default-jump : goal.returns-in_default-jump
returns-in_default-jump c =
    let literals = c.learn.new.cut.literals.items in
    let s : Step = record { literals = literals; hints = c.learn.new.cut.hints.items } in
    let logged : IsLogged c.args.clauses.now c.args.log.now c.push.new.self s = record {
      holds = c.in_ok-jump.ensures.holds;
      within = c.in_ok-jump.ensures.within;
      is = c.in_ok-push.ensures.ok ∙ ap₂ (λ (ls : List Literal) (hs : List ℕ). c.args.log.now ++ record { literals = ls; hints = hs } ∷ []) c.deref.ensures.value c.deref-2.ensures.value;
    } in
    refuted c.args.clauses.now c.args.log.now c.push.new.self s c.args.trail.now c.requires.search logged (subst (λ z. Jumps c.args.trail.now literals z) c.in_default-jump.is c.in_ok-jump.ensures.jump)

pub returns : goal.returns
returns c =
    let literals = c.learn.new.cut.literals.items in
    let s : Step = record { literals = literals; hints = c.learn.new.cut.hints.items } in
    let logged : IsLogged c.args.clauses.now c.args.log.now c.push.new.self s = record {
      holds = c.in_ok-jump.ensures.holds;
      within = c.in_ok-jump.ensures.within;
      is = c.in_ok-push.ensures.ok ∙ ap₂ (λ (ls : List Literal) (hs : List ℕ). c.args.log.now ++ record { literals = ls; hints = hs } ∷ []) c.deref.ensures.value c.deref-2.ensures.value;
    } in
    turned c.args.clauses.now c.args.log.now c.push.new.self s c.args.trail.now c.undo.new.trail c.push-2.new.self c.in-Some-jump.jump c.in-Some.number c.requires.search logged
    (subst (λ z. Jumps c.args.trail.now literals z) c.in-Some-jump.is c.in_ok-jump.ensures.jump) c.in-Some.ensures.number c.in-Some.ensures.hint c.in_ok-undo.ensures c.in_ok-push-2.ensures.ok
