use Rattle.std.proofs.Common.{◌<◌, ℕ, ap, subst, ◌∙◌}
use Rattle.fol_forms.specs.Counts.{count_of}
use Rattle.csdn_core.specs.Members.{IsIn}
use Rattle.decision_laws.specs.Numbers.{tuple_count}
use Rattle.ground_inst.specs.Walk.{scope, ways_of}
use Rattle.copy_truth.specs.Early.{at_constant}
use Rattle.copy_truth.proofs.FitsLaws.{lacking_small}
use Rattle.copy_truth.proofs.OpenTuples.{looks_begin, looks_behind, looks_next}
use Rattle.copy_truth.proofs.rows.row_candidates.Goals as goal

pub atoms-init : goal.atoms-init
atoms-init c =
    λ k inside lacks. looks_begin (ways_of c.args.r.now.names) (at_constant c.args.x k (scope c.args.env.now)) c.args.used.now c.args.terms.now c.args.r.now.trues.now c.atoms_from-rest.result.now
    (subst (λ xs. (t : ℕ) → IsIn t xs → c.args.used.now.before < t → IsIn t c.atoms_from-rest.result.now) c.true_atoms.ensures.atoms c.atoms_from-rest.ensures.behind) c.atoms_from-rest.ensures.rising

pub returns-then-is_behind : goal.returns-then-is_behind
returns-then-is_behind c =
    λ k inside lacks. looks_behind (ways_of c.args.r.now.names) (at_constant c.args.x k (scope c.args.env.now)) c.args.used.now c.args.terms.now c.args.r.now.trues.now c.atoms.rest.now 0 c.in_ok-count.count
    (c.atoms.invariant k inside lacks) c.in-len1-up.len_at_least (c.in_ok-count.ensures ∙ ap (tuple_count (count_of c.args.r.now.names.facts.now.counts)) c.as_slice.ensures) (c.is_behind.ensures c.if-is_behind.true)

pub atoms-preserved : goal.atoms-preserved
atoms-preserved c =
    λ k inside lacks. looks_next (ways_of c.args.r.now.names) (at_constant c.args.x k (scope c.args.env.now)) c.args.used.now c.args.terms.now c.args.r.now.trues.now c.atoms.rest.now 0
    (c.atoms.invariant k inside (c.add_to-found.ensures.kept k lacks inside)) c.in-len1-up.len_at_least
    (c.in_ok-fit.ensures k (lacking_small c.add_to-found.result k lacks) (c.add_to-found.ensures.fit k lacks inside))
