use Rattle.std.proofs.Common.{◌≡◌, ◌∷◌, ℕ, Some, [], refl}
use Rattle.csdn_core.specs.declared.terms.Term.TheVariants.{Var}
use Rattle.csdn_core.specs.SortedIn.{HaveSortsIn, IsAtomIn, IsSortedIn, Scope, no_rcv_this, no_scope}
use Rattle.csdn_core.specs.WellSorted.{signature}
use Rattle.csdn_core.specs.declared.terms.Sort.TheVariants.{Sw, Ho, Pr}
use Rattle.csdn_core.specs.declared.terms.Sort.{Sort}
use Rattle.decision_laws.specs.Example.{program, sentence, r, variable, example_counts}
use Rattle.decision_laws.proofs.ExampleLemmas.{one_tuple, example_fair}
use Rattle.fol_forms.specs.Forms.{normal_form}
use Rattle.fol_forms.specs.Constants.{counts}
use Rattle.decision_laws.proofs.laws.uniqueness_example.Goals as goal

counted : (s : Sort) → counts program sentence s ≡ example_counts s
unfolding normal_form
counted Sw = refl
counted Ho = refl
counted Pr = refl

pub returns-clause-counts : goal.returns-clause-counts
returns-clause-counts c = counted

pub returns-clause-copies : goal.returns-clause-copies
unfolding normal_form
returns-clause-copies c = refl

pub returns-clause-weight : goal.returns-clause-weight
unfolding normal_form
returns-clause-weight c = refl

-- the terms of an atom, and of an equation of hosts, have their sorts
sorted : IsSortedIn (signature program) no_rcv_this no_scope sentence
unfolding IsSortedIn HaveSortsIn
sorted =
    let atom : (Γ : Scope) (x : ℕ) → Γ x ≡ Some Ho → IsAtomIn (signature program) Γ r (Var (variable x) ∷ []) × no_rcv_this r = λ Γ x e. (record { sorts = Ho ∷ []; declared = refl; terms = (e, tt) }, refl) in
    ((tt, ((atom _ 0 refl, atom _ 1 refl), (Ho, refl, refl))), (((atom _ 6 refl, (Ho, refl, refl)), (atom _ 7 refl, (Ho, refl, refl))), (Ho, refl, refl)))

pub returns-clause-sentence : goal.returns-clause-sentence
unfolding normal_form
returns-clause-sentence c = record { closed = sorted; inside = refl }

pub returns-clause-atoms : goal.returns-clause-atoms
unfolding normal_form
returns-clause-atoms c = refl

pub returns-clause-clauses : goal.returns-clause-clauses
unfolding normal_form
returns-clause-clauses c = refl

pub returns-clause-judgement : goal.returns-clause-judgement
unfolding normal_form
returns-clause-judgement c = record { fair = example_fair; agrees = refl }

pub returns-clause-network : goal.returns-clause-network
unfolding normal_form
returns-clause-network c = refl

pub returns-clause-state : goal.returns-clause-state
unfolding normal_form
returns-clause-state c = one_tuple
