use Rattle.csdn_run.proofs.Named.{reply_is_of}
use Rattle.csdn_run.specs.Standings.{after}
use Rattle.csdn_run.proofs.laws.replies_name_elements.Goals as goal

pub returns : goal.returns
returns c = λ P N sorted network entries entry declared. reply_is_of P N sorted network (after P N entries) entry declared
