use Rattle.file_loads.specs.Networks.{IsOpenNetwork, IsNoOpenNetwork}
use Rattle.file_loads.specs.declared.read.FileKind.TheVariants.{Network}
use Rattle.file_loads.proofs.Explaining.{if_ok}
use Rattle.file_loads.proofs.Giving.{given, refused_given}
use Rattle.file_loads.proofs.networks.load_network.Goals as goal

pub returns-in-Loaded-clause-load : goal.returns-in-Loaded-clause-load
returns-in-Loaded-clause-load g c =
    if_ok c.network_of.result _ _ (λ l is. given _ Network c.args.name.now c.in_ok-bytes.ensures.reads (IsOpenNetwork c.args.program.now) (IsNoOpenNetwork c.args.program.now c.args.name.now) c.in-Loaded.bytes _ l (rw c.in-Loaded.is at c.in_ok-bytes.ensures.load) c.deref.ensures.value is) c.network_of.ensures

pub returns-in-Refused-clause-load : goal.returns-in-Refused-clause-load
returns-in-Refused-clause-load g c = refused_given _ Network c.args.name.now c.in_ok-bytes.ensures.reads (IsOpenNetwork c.args.program.now) (IsNoOpenNetwork c.args.program.now c.args.name.now) _ _ (rw c.in-Refused.is at c.in_ok-bytes.ensures.load)
