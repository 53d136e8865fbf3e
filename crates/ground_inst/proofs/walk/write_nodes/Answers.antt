use Rattle.std.proofs.Common.{ap, refl, ◌++◌, ◌∙◌}
use Rattle.std.proofs.lemmas.Result.{on_ok_weaker}
use Rattle.fol_forms.specs.Counts.{count_of}
use Rattle.fol_forms.specs.Forms.{form_of}
use Rattle.ground_inst.specs.Copies.{copies_over}
use Rattle.ground_inst.specs.Facts.{num_of}
use Rattle.ground_inst.specs.Walk.{named_clauses, scope, state_of, ways_of}
use Rattle.ground_inst.proofs.Wholes.{whole_added}
use Rattle.ground_inst.proofs.walk.write_nodes.Goals as goal

pub returns : goal.returns
returns c =
    on_ok_weaker c.push.result (λ e. e
    ∙ whole_added c.args.names.parts.now c.args.names.facts.now (ways_of c.args.names) (form_of c.args.formula.now)
    (state_of (record { env = c.new.result; base = c.known_of.result; next = c.args.first; rows = c.replace.result })) (state_of c.walk.new.work) c.in_ok-top.top
    refl (ap scope c.new.ensures.items) c.known_of.ensures c.in_ok-top.ensures
    ∙ ap (λ z. z ++ named_clauses (num_of c.args.names.facts.now) c.args.first (copies_over c.args.names.parts.now (count_of c.args.names.facts.now.counts) (form_of c.args.formula.now))) c.replace.ensures.value) c.push.ensures
