-- The layouts of a match and a port.
use Rattle.std.specs.Prelude.{List, [], ◌∷◌}
use Rattle.of10_wire.specs.declared.types.FlowMatch.{FlowMatch}
use Rattle.of10_wire.specs.declared.types.PhyPort.{PhyPort}
use Rattle.of10_wire.specs.Layout.{Slot, Number, Raw, Pad}

unfoldable pub match_slots : FlowMatch → List Slot
match_slots flow =
    Number 4 flow.wildcards
    ∷ Number 2 flow.in_port
    ∷ Raw 6 flow.dl_src
    ∷ Raw 6 flow.dl_dst
    ∷ Number 2 flow.dl_vlan
    ∷ Number 1 flow.dl_vlan_pcp
    ∷ Pad 1
    ∷ Number 2 flow.dl_type
    ∷ Number 1 flow.nw_tos
    ∷ Number 1 flow.nw_proto
    ∷ Pad 2
    ∷ Number 4 flow.nw_src
    ∷ Number 4 flow.nw_dst
    ∷ Number 2 flow.tp_src
    ∷ Number 2 flow.tp_dst
    ∷ []

unfoldable pub port_slots : PhyPort → List Slot
port_slots port =
    Number 2 port.port_no
    ∷ Raw 6 port.hw_addr
    ∷ Raw 16 port.name
    ∷ Number 4 port.config
    ∷ Number 4 port.state
    ∷ Number 4 port.curr
    ∷ Number 4 port.advertised
    ∷ Number 4 port.supported
    ∷ Number 4 port.peer
    ∷ []
