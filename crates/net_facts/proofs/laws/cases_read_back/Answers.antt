use Rattle.net_facts.proofs.ReadBack.{read_back, answered_back}
use Rattle.net_facts.proofs.laws.cases_read_back.Goals as goal

pub returns : goal.returns
returns c = record { reading = read_back; answer = answered_back }
