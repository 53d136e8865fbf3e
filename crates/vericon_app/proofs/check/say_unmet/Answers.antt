use Rattle.std.proofs.Common.{refl}
use Rattle.vericon_app.specs.Check.{has_no_network}
use Rattle.vericon_app.proofs.check.say_unmet.Goals as goal

pub returns : goal.returns
returns c = has_no_network c.args.proof.now c.requires c.in_ok-text.ensures refl
