use Rattle.std.proofs.Common.{◌-◌, ◌*◌, ◌+◌, length, refl, sym}
use Rattle.csdn_conditions.specs.Kinds.{events_where}
use Rattle.csdn_conditions.proofs.KindLaws.{init_at, init_within, some_where, step_at, step_within, trans_at, trans_within}
use Rattle.csdn_conditions.proofs.kinds.kind_at.Goals as goal

pub returns-then-place-inits-clause-there : goal.returns-then-place-inits-clause-there
returns-then-place-inits-clause-there c =
    let es = events_where c.args.timed in
    init_at es (length es) refl (some_where c.args.timed) c.args.level c.args.safety c.args.trans c.args.index c.if-index-eq0.false c.if-place-inits.true

pub returns-then-place-inits-clause-within : goal.returns-then-place-inits-clause-within
returns-then-place-inits-clause-within c = init_within c.args.level c.args.safety (c.args.index - 1) c.if-place-inits.true

pub returns-then-place-safety-clause-there : goal.returns-then-place-safety-clause-there
returns-then-place-safety-clause-there c =
    step_at (events_where c.args.timed) c.event_count-events.result (sym c.event_count-events.ensures.count) c.event_count-events.ensures.some c.args.level c.args.safety c.args.trans
    c.args.index c.event_at.result c.if-index-eq0.false c.if-place-inits.false c.if-place-safety.true c.event_at.ensures

pub returns-then-place-safety-clause-within : goal.returns-then-place-safety-clause-within
returns-then-place-safety-clause-within c =
    step_within (events_where c.args.timed) c.event_count-events.result (sym c.event_count-events.ensures.count) c.event_count-events.ensures.some c.args.level c.args.safety c.args.trans
    (c.args.index - 1 - (c.args.level + 1) * c.args.safety) c.if-place-safety.true

pub returns-clause-there : goal.returns-clause-there
returns-clause-there c =
    trans_at (events_where c.args.timed) c.event_count-events.result (sym c.event_count-events.ensures.count) c.event_count-events.ensures.some c.args.level c.args.safety c.args.trans
    c.args.index c.requires.index c.if-index-eq0.false c.if-place-inits.false c.if-place-safety.false c.event_at-2.result c.event_at-2.ensures

pub returns-clause-within : goal.returns-clause-within
returns-clause-within c =
    trans_within (events_where c.args.timed) c.event_count-events.result (sym c.event_count-events.ensures.count) c.event_count-events.ensures.some c.args.level c.args.safety c.args.trans
    c.args.index c.requires.index c.if-index-eq0.false c.if-place-inits.false c.if-place-safety.false
