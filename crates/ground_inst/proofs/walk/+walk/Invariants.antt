use Rattle.std.proofs.Common.{◌+◌, ◌*◌, max}
use Rattle.csdn_core.specs.Nodes.{nodes}
use Rattle.fol_forms.specs.Forms.{normal_form}
use Rattle.ground_inst.specs.Walk.{state_of, ways_of}
use Rattle.ground_inst.proofs.Steps.{AddsRow}
use Rattle.ground_inst.proofs.walk.+walk.Given as goal

abbrev pub decreases-walk : goal.decreases-walk
decreases-walk l = 4 * nodes l.formula.now

abbrev pub decreases-walk_member : goal.decreases-walk_member
decreases-walk_member l = 4 * nodes l.formula.now + 1

abbrev pub decreases-walk_at : goal.decreases-walk_at
decreases-walk_at l = 4 * nodes l.formula.now + 1

abbrev pub decreases-walk_all : goal.decreases-walk_all
decreases-walk_all l = 4 * nodes l.formula.now + 2

abbrev pub decreases-walk_each : goal.decreases-walk_each
decreases-walk_each l = 4 * nodes l.formula.now + 3

abbrev pub decreases-walk_free : goal.decreases-walk_free
decreases-walk_free l = 4 * nodes l.formula.now + 2

abbrev pub decreases-walk_both : goal.decreases-walk_both
decreases-walk_both l = 4 * max (nodes l.p.now) (nodes l.q.now) + 2

abbrev pub decreases-walk_either : goal.decreases-walk_either
decreases-walk_either l = 4 * max (nodes l.p.now) (nodes l.q.now) + 1

abbrev pub decreases-walk_cases : goal.decreases-walk_cases
decreases-walk_cases l = 4 * max (nodes l.p.now) (nodes l.q.now) + 3

abbrev pub invariant-walk_all-loop-place : goal.invariant-walk_all-loop-place
invariant-walk_all-loop-place l = AddsRow (ways_of l.names) (normal_form l.sign l.formula) l.var l.sort l.place (state_of l.fn.work) (state_of l.work)
