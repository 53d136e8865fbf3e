use Rattle.file_loads.proofs.Explaining.{if_ok}
use Rattle.file_loads.proofs.Opening.{opened_reads, refused_reads}
use Rattle.file_loads.proofs.networks.network_of.Goals as goal

pub returns-in-Loaded : goal.returns-in-Loaded
returns-in-Loaded c = if_ok c.open_network.result _ _ (λ l is. opened_reads c.args.program.now c.args.name.now c.args.bytes.now c.in-Loaded.case (rw c.in-Loaded.is at c.in_ok-case.ensures) l is) c.open_network.ensures

pub returns-in-Refused : goal.returns-in-Refused
returns-in-Refused c = refused_reads c.args.program.now c.args.name.now c.args.bytes.now c.in-Refused.outcome (rw c.in-Refused.is at c.in_ok-case.ensures)
