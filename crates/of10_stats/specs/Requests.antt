-- The layout of each request for statistics.
use Rattle.std.specs.Prelude.{ℕ, ◌≡◌, ◌+◌, ◌-◌, List, [], ◌∷◌, ◌++◌, length, Bool, not, ◌==◌, ◌||◌, nat_le, if◌then◌else◌, Option, Some, None}
use Rattle.of10_wire.specs.declared.refusal.WireRefusal.{WireRefusal}
use Rattle.of10_wire.specs.declared.refusal.WireWhy.TheVariants.{BadStat}
use Rattle.of10_wire.specs.Refusals.{refusal}
use Rattle.of10_wire.specs.Layout.{Slot, Number, Raw, Pad, Stand, width, number}
use Rattle.of10_wire.specs.Parts.{match_slots}
use Rattle.of10_stats.specs.Kinds.{is_stats_kind}
use Rattle.of10_stats.specs.declared.request.StatsRequest.{StatsRequest}
use Rattle.of10_stats.specs.declared.request.StatsRequest.TheVariants.{Desc, Flow, Aggregate, Table, Port, Queue, Vendor}

-- the number of the kind of statistics
abbrev pub request_kind : StatsRequest → ℕ
request_kind Desc = 0
request_kind (Flow flow table_id out_port) = 1
request_kind (Aggregate flow table_id out_port) = 2
request_kind Table = 3
request_kind (Port port_no) = 4
request_kind (Queue port_no queue_id) = 5
request_kind (Vendor vendor body) = 65535

-- what stands behind the kind and the flags
unfoldable pub request_slots : StatsRequest → List Slot
request_slots Desc = []
request_slots (Flow flow table_id out_port) = match_slots flow ++ Number 1 table_id ∷ Pad 1 ∷ Number 2 out_port ∷ []
request_slots (Aggregate flow table_id out_port) = match_slots flow ++ Number 1 table_id ∷ Pad 1 ∷ Number 2 out_port ∷ []
request_slots Table = []
request_slots (Port port_no) = Number 2 port_no ∷ Pad 6 ∷ []
request_slots (Queue port_no queue_id) = Number 2 port_no ∷ Pad 2 ∷ Number 4 queue_id ∷ []
request_slots (Vendor vendor body) = Number 4 vendor ∷ Raw (length body) body ∷ []

-- The request stands in a STATS_REQUEST: its kind at 8, and its layout from 12 to the end.
pub record IsRequest (bytes : List ℕ) (request : StatsRequest) : Type 0 where
  pub kind : number 2 8 bytes ≡ request_kind request
  pub stand : Stand 12 (request_slots request) bytes
  pub whole : 12 + width (request_slots request) ≡ length bytes

-- how many bytes the body of a request of a kind may have
abbrev pub allows_request : ℕ → ℕ → Bool
allows_request kind len =
    if (kind == 0) || (kind == 3) then len == 0
    else if (kind == 1) || (kind == 2) then len == 44
    else if (kind == 4) || (kind == 5) then len == 8
    else nat_le 4 len

-- why a STATS_REQUEST is refused, if it is: no kind of statistics stands at 8, or the body has another length
unfoldable pub request_refusal : List ℕ → Option WireRefusal
request_refusal bytes =
    if not (is_stats_kind (number 2 8 bytes)) then Some (refusal 8 BadStat)
    else if not (allows_request (number 2 8 bytes) (length bytes - 12)) then Some (refusal 12 BadStat)
    else None
