use Rattle.std.proofs.Common.{◌-◌, ◌++◌, ◌∙◌, List, ap, drop, flat_map, length, subst, sym, take}
use Rattle.clause_log.specs.Literals.{Literal}
use Rattle.ground_inst.specs.declared.facts.UsedRelation.{UsedRelation}
use Rattle.std.proofs.lemmas.List.Folds.{flat_map-map}
use Rattle.clause_log.specs.Literals.{truths}
use Rattle.fol_forms.specs.Counts.{count_of}
use Rattle.decision_laws.specs.Clauses.{replace_clauses}
use Rattle.ground_inst.specs.Facts.{num_of, vocabulary_of}
use Rattle.lazy_ground.specs.Found.{Finds}
use Rattle.lazy_ground.proofs.FindLaws.{goes_next, goes_out}
use Rattle.lazy_ground.proofs.ReadLaws.{flat_first, flat_last}
use Rattle.lazy_ground.proofs.equalities.find_relations.Goals as goal

pub relations-preserved : goal.relations-preserved
relations-preserved c =
    let f : UsedRelation → List (List Literal) = λ u. replace_clauses (num_of c.args.constants.now.facts.now) (count_of c.args.constants.now.facts.now.counts) (vocabulary_of c.args.constants.now.parts.now c.args.constants.now.facts.now) u.relation in
    goes_next (truths c.args.trues.now) (f c.used-item.result) (flat_map f c.relations.rest.now) (flat_map f (take (length c.relations.rest.now - 1) (drop 1 c.relations.rest.now))) (flat_map f c.args.constants.now.facts.now.relations) c.args.rows.now c.relations.rows c.find_used.new.rows c.relations.invariant
    (flat_first f c.used-item.result c.relations.rest.now c.in-len1-up.len_at_least ∙ ap (λ u. f u ++ flat_map f (take (length c.relations.rest.now - 1) (drop 1 c.relations.rest.now))) (sym c.used-item.is)) c.in_ok-find_used.ensures

pub returns : goal.returns
returns c =
    subst (λ z. Finds (truths c.args.trues.now) z c.args.rows.now c.relations.rows)
    (sym (flat_map-map (λ r. replace_clauses (num_of c.args.constants.now.facts.now) (count_of c.args.constants.now.facts.now.counts) (vocabulary_of c.args.constants.now.parts.now c.args.constants.now.facts.now) r) (λ u. u.relation) c.args.constants.now.facts.now.relations))
    (goes_out _ _ _ _ _ c.relations.invariant (flat_last _ c.relations.rest.now c.in_default.len_below))
