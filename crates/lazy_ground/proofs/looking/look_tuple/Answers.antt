use Rattle.std.proofs.Common.{ap, refl, ◌∙◌}
use Rattle.fol_forms.specs.Forms.{Atom}
use Rattle.ground_inst.specs.Walk.{tuple_fact, literal_of, scope, state_of, ways_of}
use Rattle.lazy_ground.proofs.LookSteps.{leaf_seen}
use Rattle.lazy_ground.proofs.ReadLaws.{leaf_value}
use Rattle.lazy_ground.proofs.looking.look_tuple.Goals as goal

pub returns : goal.returns
returns c =
    let fact = tuple_fact (ways_of c.args.r.now.names) (scope c.args.work.now.env.items) c.args.relation c.args.terms.now in
    let lit = c.in_ok-l.ensures ∙ ap (λ xs. literal_of (ways_of c.args.r.now.names) c.args.sign (tuple_fact (ways_of c.args.r.now.names) (scope xs) c.args.relation c.args.terms.now)) c.as_slice.ensures.value in
    leaf_seen c.args.r.now (Atom c.args.sign c.args.relation c.args.terms.now) c.args.sign fact c.args.given (state_of c.args.work.now) _ (λ s. refl) refl lit (leaf_value c.args.r.now c.args.sign fact c.in_ok-l.l c.is_true-value.result c.is_true-value.ensures lit)
