use Rattle.csdn_run.specs.Marked.{mark_of}
use Rattle.csdn_run.proofs.Markings.{next_set, none_left}
use Rattle.csdn_run.proofs.marks.put_each.Goals as goal

pub keys-preserved : goal.keys-preserved
keys-preserved c =
    next_set c.keys.marks c.put.new.self c.keys.rest.now (record { s = 0; a = 0; b = 0; i = 0 }) c.args.number _ c.in-len1-up.len_at_least
    c.put.ensures.marks c.put.ensures.others c.keys.invariant.0 c.keys.invariant.1

pub returns : goal.returns
returns c = none_left (mark_of c.keys.marks) c.keys.rest.now c.args.number _ c.in_default.len_below c.keys.invariant.1
