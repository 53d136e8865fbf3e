use Rattle.net_structs.proofs.Binding.{value_found, value_lacking}
use Rattle.net_structs.proofs.env.Env.value.Goals as goal

pub returns-in-Some : goal.returns-in-Some
returns-in-Some c = value_found c.args.self.now.pairs c.args.var c.get.result c.in-Some.value c.get.ensures c.in-Some.is

pub returns-in-None : goal.returns-in-None
returns-in-None c = value_lacking c.args.self.now.pairs c.args.var c.get.result c.get.ensures c.in-None.is
