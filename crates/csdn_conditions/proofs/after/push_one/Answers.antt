use Rattle.std.proofs.Common.{◌∙◌, ap}
use Rattle.csdn_core.specs.declared.syntax.Formula.{Formula}
use Rattle.csdn_core.specs.Nodes.{nodes}
use Rattle.fol_forms.specs.Limits.{capped}
use Rattle.csdn_conditions.specs.Conditions.{after_events}
use Rattle.csdn_conditions.proofs.ClassLaws.{no_room_left, room_left}
use Rattle.csdn_conditions.proofs.after.push_one.Goals as goal

pub returns-then-nodes-room-clause-left : goal.returns-then-nodes-room-clause-left
returns-then-nodes-room-clause-left c =
    no_room_left (nodes (after_events c.args.program.now c.args.count c.args.formula.now)) c.node_count-nodes.result c.args.room
    (c.node_count-nodes.ensures ∙ ap (λ (p : Formula). capped (nodes p)) c.in_ok-made.ensures.0) c.if-nodes-room.true

pub returns-in-Ok-clause-left : goal.returns-in-Ok-clause-left
returns-in-Ok-clause-left c =
    room_left (nodes (after_events c.args.program.now c.args.count c.args.formula.now)) c.node_count-nodes.result c.args.room c.in_ok-made.ensures.1
    (c.node_count-nodes.ensures ∙ ap (λ (p : Formula). capped (nodes p)) c.in_ok-made.ensures.0) c.if-nodes-room.false
