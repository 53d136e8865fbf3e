use Rattle.std.proofs.Common.{◌≡◌, [], ◌∷◌, arith, subst}
use Rattle.std.specs.Prelude.{flat_map}
use Rattle.clause_log.specs.Literals.{truths}
use Rattle.fol_forms.specs.Counts.{count_of}
use Rattle.decision_laws.specs.Vocabulary.{places_from}
use Rattle.ground_inst.specs.Facts.{num_of}
use Rattle.lazy_ground.specs.Found.{Finds}
use Rattle.decision_laws.specs.Clauses.{yes}
use Rattle.decision_laws.specs.Copies.{Equation}
use Rattle.lazy_ground.proofs.FindLaws.{finds_next, finds_none, flat_single}
use Rattle.lazy_ground.proofs.equalities.find_same.Goals as goal

pub constants-init : goal.constants-init
constants-init c = finds_none (truths c.args.trues.now) c.args.rows.now

pub constants-preserved : goal.constants-preserved
constants-preserved c =
    finds_next (truths c.args.trues.now) (λ a. (yes (num_of c.args.constants.now.facts.now (Equation c.args.sort a a)) ∷ []) ∷ [])
    c.args.rows.now c.constants.rows c.find_same_at.new.rows c.constants.a c.constants.invariant c.in_ok-find_same_at.ensures

pub returns : goal.returns
returns c =
    let last : c.constants.a ≡ (count_of c.args.constants.now.facts.now.counts c.args.sort) = omega (arith, c.constants-test.false, c.constants.auto.a-end, c.count-count.ensures) in
    subst (λ z. Finds (truths c.args.trues.now) z c.args.rows.now c.constants.rows) (flat_single (λ a. yes (num_of c.args.constants.now.facts.now (Equation c.args.sort a a)) ∷ []) (places_from 0 (count_of c.args.constants.now.facts.now.counts c.args.sort)))
    (subst (λ k. Finds (truths c.args.trues.now) (flat_map (λ a. (yes (num_of c.args.constants.now.facts.now (Equation c.args.sort a a)) ∷ []) ∷ []) (places_from 0 k)) c.args.rows.now c.constants.rows) last c.constants.invariant)
