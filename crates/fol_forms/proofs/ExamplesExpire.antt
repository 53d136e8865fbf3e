-- The forms that rules which end ask for, worked by hand.
use Rattle.std.proofs.Common.{◌≡◌, ◌+◌, true, false, ◌&&◌, ◌||◌, [], ◌∷◌, ◌∙◌, refl}
use Rattle.csdn_core.specs.declared.terms.Sort.TheVariants.{Pr}
use Rattle.csdn_core.specs.declared.terms.Pred.TheVariants.{Ft, RcvThis}
use Rattle.csdn_core.specs.declared.syntax.Formula.{Formula}
use Rattle.csdn_core.specs.declared.syntax.Formula.TheVariants as f
use Rattle.csdn_core.specs.Tree.{negation, conjunction, implication, existential}
use Rattle.csdn_core.specs.Truth.{Structure, Assignment, truth}
use Rattle.csdn_core.specs.Network.{same_pred, same_cells}
use Rattle.csdn_core.specs.Variables.{BindsOutside}
use Rattle.csdn_core.proofs.ExamplesSyntax.{var, x}
use Rattle.fol_forms.specs.Replace.{drop_match, no_packet, replace}
use Rattle.fol_forms.specs.Substitution.{AllAtoms}
use Rattle.fol_forms.proofs.Expired.{truth-drop_match, truth-no_packet}

abbrev rule : Formula
rule = f.Atom Ft (x 0 ∷ x 1 ∷ x 2 ∷ x 3 ∷ x 4 ∷ [])

abbrev packet : Formula
packet = f.Atom RcvThis (x 0 ∷ x 1 ∷ x 2 ∷ x 3 ∷ [])

-- `x0.ft(x1->x2, x3->x4) -> x0.rcv_this(x1->x2, x3)` without the rules of the match of x5 to x8
dropped : drop_match (implication rule packet) (x 5 ∷ x 6 ∷ x 7 ∷ x 8 ∷ [])
    ≡ implication (conjunction rule (negation (conjunction (f.Same (x 0) (x 5)) (conjunction (f.Same (x 1) (x 6)) (conjunction (f.Same (x 2) (x 7)) (f.Same (x 3) (x 8))))))) packet
unfolding replace
dropped = refl

-- .. and without a packet
unpacked : no_packet (implication rule packet) ≡ implication rule f.False
unfolding replace
unpacked = refl

-- `exists x4:PR. x0.ft(x1->x2, x3->x4)`
abbrev some_rule : Formula
some_rule = existential (var 4) Pr rule

-- two rules of one match, from host 2 to host 3 on port 4 of switch 1; the packet at hand is theirs
abbrev two_rules : Structure
two_rules = record {
  elements = λ s. 4 ∷ 5 ∷ [];
  constant = λ k. 0;
  holds = λ q ds. (same_pred q Ft && (same_cells ds (1 ∷ 2 ∷ 3 ∷ 4 ∷ 4 ∷ []) || same_cells ds (1 ∷ 2 ∷ 3 ∷ 4 ∷ 5 ∷ []))) || (same_pred q RcvThis && same_cells ds (1 ∷ 2 ∷ 3 ∷ 4 ∷ []));
}

-- x0 is 1, x1 is 2, x2 is 3 and x3 is 4
abbrev values_up : Assignment
values_up v = v + 1

stands : truth two_rules some_rule values_up ≡ true
unfolding truth
stands = refl

-- no rule of the match is left, and none of another one is gone
gone : truth two_rules (drop_match some_rule (x 0 ∷ x 1 ∷ x 2 ∷ x 3 ∷ [])) values_up ≡ false
unfolding truth AllAtoms BindsOutside
gone = truth-drop_match two_rules (x 0) (x 1) (x 2) (x 3) values_up some_rule (λ is_ft. refl) (refl, tt) ∙ refl

another_stands : truth two_rules (drop_match some_rule (x 0 ∷ x 1 ∷ x 1 ∷ x 3 ∷ [])) values_up ≡ true
unfolding truth AllAtoms BindsOutside
another_stands = truth-drop_match two_rules (x 0) (x 1) (x 1) (x 3) values_up some_rule (λ is_ft. refl) (refl, tt) ∙ refl

received : truth two_rules packet values_up ≡ true
unfolding truth
received = refl

-- without a packet its atom is false, and the rules stand
not_received : truth two_rules (no_packet packet) values_up ≡ false
unfolding truth
not_received = truth-no_packet two_rules values_up packet ∙ refl

still_stands : truth two_rules (no_packet some_rule) values_up ≡ true
unfolding truth
still_stands = truth-no_packet two_rules values_up some_rule ∙ refl
