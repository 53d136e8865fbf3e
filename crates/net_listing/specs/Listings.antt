-- What is printed of a network.
use Rattle.std.specs.Prelude.{ℕ, Bool, true, false, List, [], ◌∷◌, ◌++◌, map, Option, Some, None, codes, decimal}
use Rattle.std.specs.List.{flat_map}
use Rattle.text_lines.specs.Printed.{line_text}
use Rattle.csdn_core.specs.declared.event.Packet.{Packet}
use Rattle.csdn_core.specs.declared.event.Packet.TheVariants.{Nothing, At}
use Rattle.csdn_core.specs.declared.program.Parts.{Parts}
use Rattle.csdn_core.specs.declared.program.Invariant.{Invariant}
use Rattle.csdn_core.specs.Truth.{Structure, truth}
use Rattle.csdn_core.specs.Network.{Network, structure}
use Rattle.csdn_core.specs.Run.{empty_state, no_values}
use Rattle.net_structs.specs.declared.row.Row.{Row}
use Rattle.net_structs.specs.declared.case.Case.{Case}
use Rattle.net_structs.specs.Rows.{held}
use Rattle.net_text.specs.declared.refusal.NetWhy.{NetWhy}
use Rattle.net_text.specs.declared.refusal.NetWhy.TheVariants.{Header, Shape, Number, Name, Arity, Empty, Repeated, NoPort, Stranger, Missing}

abbrev pub truth_word : Bool → List ℕ
truth_word true = codes "true"
truth_word false = codes "false"

-- `KIND NAME true` or `KIND NAME false`
abbrev pub truth_words : List ℕ → Structure → Invariant → List (List ℕ)
truth_words kind M v = kind ∷ v.name ∷ truth_word (truth M v.formula no_values) ∷ []

-- a line for each invariant, whether it is true
abbrev pub truth_lines : List ℕ → Structure → List Invariant → List (List (List ℕ))
truth_lines kind M vs = map (truth_words kind M) vs

-- of transition invariants, where there is a packet
abbrev pub transition_lines : Parts → Network → List Row → Packet → List (List (List ℕ))
transition_lines P N rows Nothing = []
transition_lines P N rows (At s a b i) = truth_lines (codes "trans") (structure P N (held rows) (At s a b i)) P.trans

-- of safety and transition invariants, where there is a state
abbrev pub state_lines : Parts → Network → Option (List Row) → Packet → List (List (List ℕ))
state_lines P N None packet = []
state_lines P N (Some rows) packet = truth_lines (codes "safety") (structure P N (held rows) Nothing) P.safety ++ transition_lines P N rows packet

-- The words of each line of the listing of a case. Topology invariants look at no state.
abbrev pub listing_lines : Parts → Case → List (List (List ℕ))
listing_lines P c = truth_lines (codes "topology") (structure P c.network empty_state Nothing) P.topology ++ state_lines P c.network c.state c.packet

abbrev pub listing : Parts → Case → List ℕ
listing P c = flat_map line_text (listing_lines P c)

abbrev pub word_of : NetWhy → List ℕ
word_of Header = codes "Header"
word_of Shape = codes "Shape"
word_of Number = codes "Number"
word_of Name = codes "Name"
word_of Arity = codes "Arity"
word_of Empty = codes "Empty"
word_of Repeated = codes "Repeated"
word_of NoPort = codes "NoPort"
word_of Stranger = codes "Stranger"
word_of Missing = codes "Missing"

-- `FILE refused line N: WHY`
abbrev pub network_refusal_text : List ℕ → ℕ → NetWhy → List ℕ
network_refusal_text file n why = file ++ codes " refused line " ++ decimal n ++ codes ": " ++ word_of why ++ codes "\n"
