use Rattle.std.proofs.Common.{ap, refl, ◌∙◌, add-one}
use Rattle.std.proofs.lemmas.Result.{on_ok_weaker}
use Rattle.form_trees.specs.Trees.{tree_form}
use Rattle.ground_inst.specs.Walk.{scope, state_of}
use Rattle.lazy_ground.proofs.WholeFound.{nodes_kept, nodes_pushed}
use Rattle.lazy_ground.proofs.adding.find_nodes.Goals as goal

pub returns-then-seen : goal.returns-then-seen
returns-then-seen c =
    nodes_kept c.args.r.now (tree_form c.args.tree.now) (state_of (record { env = c.new.result; base = c.known_of.result; next = c.in_ok-sum.field-0; rows = c.replace.result })) (state_of c.look.new.work) c.in_ok-seen.seen c.args.rows.now c.look.new.work.rows
    (ap scope c.new.ensures.items) c.known_of.ensures (c.in_ok-sum.ensures ∙ add-one c.args.r.now.names.facts.now.count) c.replace.ensures.value c.in_ok-seen.ensures c.if-seen.true refl

pub returns : goal.returns
returns c =
    on_ok_weaker c.push.result (λ e.
    nodes_pushed c.args.r.now (tree_form c.args.tree.now) (state_of (record { env = c.new.result; base = c.known_of.result; next = c.in_ok-sum.field-0; rows = c.replace.result })) (state_of c.look.new.work) c.in_ok-seen.seen c.args.rows.now _
    (ap scope c.new.ensures.items) c.known_of.ensures (c.in_ok-sum.ensures ∙ add-one c.args.r.now.names.facts.now.count) c.replace.ensures.value c.in_ok-seen.ensures c.if-seen.false e) c.push.ensures
