-- Texts of networks: the machine over their lines, and how a case is spelled.
use Rattle.std.specs.Prelude.{ℕ, true, false, if◌then◌else◌, List, [], ◌∷◌, ◌++◌, map, Option, Some, None, Result, Ok, Err, slice_get, codes, decimal}
use Rattle.std.specs.List.{flat_map}
use Rattle.std.specs.Str.{bytes_eq}
use Rattle.std.specs.BTreeSet.{insert_key}
use Rattle.text_lines.specs.Text.{words, next, ended}
use Rattle.text_lines.specs.Machine.{Format}
use Rattle.text_lines.specs.Printed.{line_text}
use Rattle.csdn_core.specs.declared.terms.Pred.{Pred}
use Rattle.csdn_core.specs.declared.terms.Pred.TheVariants.{Stored, Ft, Sent, RcvThis}
use Rattle.csdn_core.specs.declared.event.Packet.{Packet}
use Rattle.csdn_core.specs.declared.event.Packet.TheVariants.{Nothing, At}
use Rattle.csdn_core.specs.declared.program.Parts.{Parts}
use Rattle.csdn_core.specs.declared.program.Relation.{Relation}
use Rattle.csdn_core.specs.declared.program.Constant.{Constant}
use Rattle.csdn_core.specs.Network.{Network}
use Rattle.net_structs.specs.declared.row.Row.{Row}
use Rattle.net_structs.specs.declared.case.Case.{Case}
use Rattle.net_structs.specs.Rows.{row_cmp}
use Rattle.net_structs.specs.Networks.{as_stored, with_static}
use Rattle.net_text.specs.declared.place.Open.{Open}
use Rattle.net_text.specs.declared.place.NetPlace.{NetPlace}
use Rattle.net_text.specs.declared.place.NetPlace.TheVariants as place
use Rattle.net_text.specs.declared.refusal.NetWhy.{NetWhy}
use Rattle.net_text.specs.declared.refusal.NetWhy.TheVariants as why
use Rattle.net_text.specs.Lines.{◌>>=◌, or_why, header_of, behind, sort_of, ports_of, constant_of, values_from, tuple_of, flow_of, packet_of}

-- ---- the machine

-- the case of `end`, behind that word: each constant has a value
unfoldable pub end_of : Open → Option (List Row) → Packet → List (List ℕ) → Result NetPlace NetWhy
end_of draft state packet ws = do
  alone ← or_why (ended ws) why.Shape
  values ← or_why (values_from [] draft.values) why.Missing
  Ok (place.Ended (record { network = record draft.network { constants = values }; state = state; packet = packet }))

-- the network with a tuple of a static relation
unfoldable pub static_of_line : Parts → Open → List (List ℕ) → Result Open NetWhy
static_of_line P draft ws = do
  t ← tuple_of P true draft.network ws
  Ok (record { network = with_static draft.network t.0 t.1; values = draft.values })

abbrev pub with_fact : List Row → Pred → List ℕ → List Row
with_fact rows pred cells = insert_key row_cmp rows (record { pred = pred; cells = cells })

-- the state with a tuple of a `rel`, of `ft` or of `sent`
unfoldable pub stored_of_line : Parts → Open → List Row → List (List ℕ) → Result (List Row) NetWhy
stored_of_line P draft rows ws = do
  t ← tuple_of P false draft.network ws
  Ok (with_fact rows (Stored (record { 0 = t.0 })) t.1)

unfoldable pub flow_of_line : Pred → Open → List Row → List (List ℕ) → Result (List Row) NetWhy
flow_of_line pred draft rows ws = do
  cells ← flow_of draft.network ws
  Ok (with_fact rows pred cells)

-- a line by its first word, where constants and static tuples stand
unfoldable pub item_by : Parts → Open → List ℕ → List (List ℕ) → Result NetPlace NetWhy
item_by P draft key ws =
    if bytes_eq key (codes "c") then constant_of P draft ws >>= (λ new. Ok (place.Items new))
    else (if bytes_eq key (codes "t") then static_of_line P draft ws >>= (λ new. Ok (place.Items new))
    else (if bytes_eq key (codes "state") then or_why (ended ws) why.Shape >>= (λ u. Ok (place.Facts draft []))
    else (if bytes_eq key (codes "end") then end_of draft None Nothing ws else Err why.Shape)))

-- .. where the tuples of the state stand
unfoldable pub fact_by : Parts → Open → List Row → List ℕ → List (List ℕ) → Result NetPlace NetWhy
fact_by P draft rows key ws =
    if bytes_eq key (codes "t") then stored_of_line P draft rows ws >>= (λ new. Ok (place.Facts draft new))
    else (if bytes_eq key (codes "ft") then flow_of_line Ft draft rows ws >>= (λ new. Ok (place.Facts draft new))
    else (if bytes_eq key (codes "sent") then flow_of_line Sent draft rows ws >>= (λ new. Ok (place.Facts draft new))
    else (if bytes_eq key (codes "packet") then packet_of draft.network ws >>= (λ packet. Ok (place.Closing draft rows packet))
    else (if bytes_eq key (codes "end") then end_of draft (Some rows) Nothing ws else Err why.Shape))))

unfoldable pub item_line : Parts → Open → List (List ℕ) → Result NetPlace NetWhy
item_line P draft ws = do
  key ← or_why (next ws) why.Shape
  item_by P draft key.0 key.1

unfoldable pub fact_line : Parts → Open → List Row → List (List ℕ) → Result NetPlace NetWhy
fact_line P draft rows ws = do
  key ← or_why (next ws) why.Shape
  fact_by P draft rows key.0 key.1

abbrev pub step : Parts → NetPlace → List (List ℕ) → Result NetPlace NetWhy
step P place.Header ws = header_of ws >>= (λ u. Ok place.Switches)
step P place.Switches ws = behind (codes "sw") ws >>= (λ rest. sort_of rest >>= (λ sw. Ok (place.Hosts sw)))
step P (place.Hosts sw) ws = behind (codes "ho") ws >>= (λ rest. sort_of rest >>= (λ ho. Ok (place.Ports sw ho)))
step P (place.Ports sw ho) ws = behind (codes "pr") ws >>= (λ rest. ports_of P sw ho rest >>= (λ draft. Ok (place.Items draft)))
step P (place.Items draft) ws = item_line P draft ws
step P (place.Facts draft rows) ws = fact_line P draft rows ws
step P (place.Closing draft rows packet) ws = behind (codes "end") ws >>= end_of draft (Some rows) packet
step P (place.Ended kase) ws = Err why.Shape

abbrev pub finish : NetPlace → Result Case NetWhy
finish place.Header = Err why.Header
finish place.Switches = Err why.Missing
finish (place.Hosts sw) = Err why.Missing
finish (place.Ports sw ho) = Err why.Missing
finish (place.Items draft) = Err why.Missing
finish (place.Facts draft rows) = Err why.Missing
finish (place.Closing draft rows packet) = Err why.Missing
finish (place.Ended kase) = Ok kase

abbrev pub net_format : Parts → Format NetPlace Case NetWhy
net_format P = record {
  start = place.Header;
  step = λ place line. step P place (words line);
  finish = finish;
}

-- ---- spelling

abbrev pub name_in : Option Relation → List ℕ
name_in None = []
name_in (Some r) = r.name

abbrev pub name_of : Parts → ℕ → List ℕ
name_of P r = name_in (slice_get P.relations r)

abbrev pub tuple_words : Parts → Pred → List ℕ → List (List ℕ)
tuple_words P (Stored r) cells = codes "t" ∷ name_of P r.0 ∷ map decimal cells
tuple_words P Ft cells = codes "ft" ∷ map decimal cells
tuple_words P Sent cells = codes "sent" ∷ map decimal cells
tuple_words P RcvThis cells = codes "rcv_this" ∷ map decimal cells

abbrev pub row_words : Parts → Row → List (List ℕ)
row_words P row = tuple_words P row.pred row.cells

abbrev pub constant_lines : List Constant → List ℕ → List (List (List ℕ))
constant_lines [] ms = []
constant_lines (d ∷ ds) [] = []
constant_lines (d ∷ ds) (m ∷ ms) = (codes "c" ∷ d.name ∷ decimal m ∷ []) ∷ constant_lines ds ms

abbrev pub state_lines : Parts → Option (List Row) → List (List (List ℕ))
state_lines P None = []
state_lines P (Some rows) = (codes "state" ∷ []) ∷ map (row_words P) rows

abbrev pub packet_lines : Packet → List (List (List ℕ))
packet_lines Nothing = []
packet_lines (At s a b i) = (codes "packet" ∷ map decimal (s ∷ a ∷ b ∷ i ∷ [])) ∷ []

abbrev pub header_words : List (List ℕ)
header_words = codes "vericon-net" ∷ codes "1" ∷ []

abbrev pub end_words : List (List ℕ)
end_words = codes "end" ∷ []

-- the words of the header and of the lines of the sorts
abbrev pub head_lines : Network → List (List (List ℕ))
head_lines N = header_words ∷ (codes "sw" ∷ map decimal N.switches) ∷ (codes "ho" ∷ map decimal N.hosts) ∷ (codes "pr" ∷ map decimal N.ports) ∷ []

-- .. and of the lines behind them
abbrev pub part_lines : Parts → Case → List (List (List ℕ))
part_lines P kase =
    constant_lines P.constants kase.network.constants ++ (map (row_words P) (as_stored kase.network.rows) ++ (state_lines P kase.state ++ (packet_lines kase.packet ++ end_words ∷ [])))

-- the words of each line of a case
abbrev pub case_lines : Parts → Case → List (List (List ℕ))
case_lines P kase = head_lines kase.network ++ part_lines P kase

abbrev pub net_text : Parts → Case → List ℕ
net_text P kase = flat_map line_text (case_lines P kase)
