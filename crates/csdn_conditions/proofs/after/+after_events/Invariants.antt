use Rattle.csdn_conditions.proofs.after.+after_events.Given as goal

abbrev pub decreases-after_events : goal.decreases-after_events
decreases-after_events l = l.count
