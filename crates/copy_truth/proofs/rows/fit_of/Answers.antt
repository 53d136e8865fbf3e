use Rattle.std.proofs.Common.{◌≡◌, ◌∙◌, Some, subst, sym}
use Rattle.fol_forms.specs.Counts.{count_of}
use Rattle.decision_laws.specs.Numbers.{tuple_of}
use Rattle.ground_inst.specs.Walk.{scope, ways_of}
use Rattle.copy_truth.specs.Early.{place_of_variable}
use Rattle.copy_truth.proofs.OpenTuples.{none_beside, none_still}
use Rattle.copy_truth.proofs.rows.fit_of.Goals as goal

pub returns-then-not-branch : goal.returns-then-not-branch
returns-then-not-branch c =
    λ k small no. none_still (ways_of c.args.names.now) (scope c.args.env.now) c.args.x c.args.used.now c.args.terms.now c.args.atom k c.requires.open (sym c.in_ok-may_be_atom.ensures ∙ c.if-not-branch.true)

pub returns-in-Some : goal.returns-in-Some
returns-in-Some c =
    λ k small other. none_beside (ways_of c.args.names.now) (scope c.args.env.now) c.args.x c.args.used.now c.args.terms.now c.args.atom k c.in_ok-number.number c.in-Some.place small c.in_ok-number.ensures
    (subst (λ ss. place_of_variable c.args.x.var c.args.terms.now (tuple_of (count_of c.args.names.now.facts.now.counts) ss c.in_ok-number.number) ≡ Some c.in-Some.place) c.as_slice-sorts.ensures
    (sym c.in_ok-place_of_variable.ensures ∙ c.in-Some.is)) other
