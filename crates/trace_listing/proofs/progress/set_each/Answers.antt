use Rattle.csdn_run.specs.Marked.{mark_of}
use Rattle.csdn_run.proofs.Markings.{none_left}
use Rattle.trace_listing.proofs.Marking.{next_set}
use Rattle.trace_listing.proofs.progress.set_each.Goals as goal

pub keys-preserved : goal.keys-preserved
keys-preserved c =
    next_set (mark_of c.keys.marks) (mark_of c.set.new.self) c.keys.rest.now (record { s = 0; a = 0; b = 0; i = 0 }) c.args.number _ c.in-len1-up.len_at_least
    c.in_ok-set.ensures.marks c.keys.invariant

pub returns : goal.returns
returns c = none_left (mark_of c.keys.marks) c.keys.rest.now c.args.number _ c.in_default.len_below c.keys.invariant
