use Rattle.vericon_app.proofs.Answered.{proven_by, broken_by, undecided_by, unmet_by}
use Rattle.vericon_app.proofs.check.find.Goals as goal

pub say_broken-requires-clause-broken : goal.say_broken-requires-clause-broken
say_broken-requires-clause-broken c = broken_by c.args.program.now c.args.size c.args.most _ c.in-Counter.level c.in-Counter.index c.in-Counter.case c.in-Counter.is c.in_ok-level.ensures

pub say_undecided-requires-clause-unknown : goal.say_undecided-requires-clause-unknown
say_undecided-requires-clause-unknown c = undecided_by c.args.program.now c.args.size c.args.most _ c.in-Unknown.level c.in-Unknown.index c.in-Unknown.why c.in-Unknown.is c.in_ok-level.ensures

pub say_unmet-requires : goal.say_unmet-requires
say_unmet-requires c = unmet_by c.args.program.now c.args.size c.args.most _ c.in-NoNetwork.proof c.in-NoNetwork.is c.in_ok-level.ensures

pub returns-in-Yes : goal.returns-in-Yes
returns-in-Yes c = proven_by c.args.program.now c.args.size c.args.most _ c.in-Yes.level c.in-Yes.proofs c.in-Yes.is c.in_ok-level.ensures
