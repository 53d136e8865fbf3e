use Rattle.net_facts.proofs.AcceptedOrder.{accepted_elements, accepted_rows}
use Rattle.net_facts.proofs.laws.accepted_networks_are_in_order.Goals as goal

pub returns : goal.returns
returns c = record { elements = accepted_elements; rows = accepted_rows }
