use Rattle.std.proofs.Common.{ap, refl, ◌++◌, ◌∙◌, add-one}
use Rattle.std.proofs.lemmas.Result.{on_ok_weaker}
use Rattle.fol_forms.specs.Counts.{count_of}
use Rattle.form_trees.specs.Trees.{tree_form}
use Rattle.ground_inst.specs.Copies.{copies_over}
use Rattle.ground_inst.specs.Facts.{num_of}
use Rattle.ground_inst.specs.Walk.{scope, state_of, ways_of}
use Rattle.lazy_ground.specs.First.{open_named}
use Rattle.lazy_ground.proofs.OpenWhole.{whole_opened}
use Rattle.lazy_ground.proofs.opening.write_nodes.Goals as goal

pub returns : goal.returns
returns c =
    on_ok_weaker c.push.result (λ e. e
    ∙ whole_opened c.args.names.parts.now c.args.names.facts.now (ways_of c.args.names) (tree_form c.args.tree.now)
    (state_of (record { env = c.new.result; base = c.known_of.result; next = c.in_ok-sum.field-0; rows = c.replace.result })) (state_of c.write.new.work) c.in_ok-top.top
    refl (ap scope c.new.ensures.items) c.known_of.ensures c.in_ok-top.ensures
    ∙ ap (λ z. z ++ open_named (num_of c.args.names.facts.now) c.in_ok-sum.field-0 (copies_over c.args.names.parts.now (count_of c.args.names.facts.now.counts) (tree_form c.args.tree.now))) c.replace.ensures.value
    ∙ ap (λ k. c.args.rows.now ++ open_named (num_of c.args.names.facts.now) k (copies_over c.args.names.parts.now (count_of c.args.names.facts.now.counts) (tree_form c.args.tree.now))) (c.in_ok-sum.ensures ∙ add-one c.args.names.facts.now.count)) c.push.ensures
