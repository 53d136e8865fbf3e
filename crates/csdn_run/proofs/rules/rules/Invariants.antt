use Rattle.std.proofs.Common.{◌≡◌, ◌++◌, map, length}
use Rattle.csdn_run.specs.Replies.{rule_in}
use Rattle.csdn_run.specs.Sights.{marks_seen, state_seen}
use Rattle.csdn_run.proofs.rules.rules.Given as goal

abbrev pub invariant-keys : goal.invariant-keys
invariant-keys l =
    l.rules ++ map (λ m. rule_in l.setting.program.now l.setting.network.now (state_seen l.sight) (marks_seen l.sight m) m) l.rest
    ≡ map (λ m. rule_in l.setting.program.now l.setting.network.now (state_seen l.sight) (marks_seen l.sight m) m) l.keys

abbrev pub decreases-keys : goal.decreases-keys
decreases-keys l = length l.rest
