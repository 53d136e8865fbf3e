-- The layout of each reply with statistics.
use Rattle.std.specs.Prelude.{ℕ, ◌≡◌, ◌+◌, ◌-◌, ◌%◌, ◌⊎◌, List, [], ◌∷◌, length, Bool, true, not, ◌==◌, nat_le, if◌then◌else◌, Option, Some, None}
use Rattle.std.specs.List.{flat_map, AllByRecursion}
use Rattle.of10_wire.specs.declared.refusal.WireRefusal.{WireRefusal}
use Rattle.of10_wire.specs.declared.refusal.WireWhy.TheVariants.{BadStat}
use Rattle.of10_wire.specs.Refusals.{refusal}
use Rattle.of10_wire.specs.Layout.{Slot, Number, Raw, Pad, Stand, width, number, part}
use Rattle.of10_wire.specs.Lists.{IsRefusedIn}
use Rattle.of10_stats.specs.Kinds.{is_stats_kind}
use Rattle.of10_stats.specs.Counters.{table_slots, port_counters_slots, queue_counters_slots}
use Rattle.of10_stats.specs.Entries.{entry_slots, IsProperEntry, RefusesEntry}
use Rattle.of10_stats.specs.declared.reply.StatsReply.{StatsReply}
use Rattle.of10_stats.specs.declared.reply.StatsReply.TheVariants.{Desc, Flow, Aggregate, Table, Port, Queue, Vendor}

-- the number of the kind of statistics
abbrev pub reply_kind : StatsReply → ℕ
reply_kind (Desc mfr_desc hw_desc sw_desc serial_num dp_desc) = 0
reply_kind (Flow entries) = 1
reply_kind (Aggregate packet_count byte_count flow_count) = 2
reply_kind (Table entries) = 3
reply_kind (Port entries) = 4
reply_kind (Queue entries) = 5
reply_kind (Vendor vendor body) = 65535

-- what stands behind the kind and the flags
unfoldable pub reply_slots : StatsReply → List Slot
reply_slots (Desc mfr_desc hw_desc sw_desc serial_num dp_desc) = Raw 256 mfr_desc ∷ Raw 256 hw_desc ∷ Raw 256 sw_desc ∷ Raw 32 serial_num ∷ Raw 256 dp_desc ∷ []
reply_slots (Flow entries) = flat_map entry_slots entries
reply_slots (Aggregate packet_count byte_count flow_count) = Number 8 packet_count ∷ Number 8 byte_count ∷ Number 4 flow_count ∷ Pad 4 ∷ []
reply_slots (Table entries) = flat_map table_slots entries
reply_slots (Port entries) = flat_map port_counters_slots entries
reply_slots (Queue entries) = flat_map queue_counters_slots entries
reply_slots (Vendor vendor body) = Number 4 vendor ∷ Raw (length body) body ∷ []

-- The reply stands in a STATS_REPLY: its kind at 8, and its layout from 12 to the end.
pub record IsReply (bytes : List ℕ) (reply : StatsReply) : Type 0 where
  pub kind : number 2 8 bytes ≡ reply_kind reply
  pub stand : Stand 12 (reply_slots reply) bytes
  pub whole : 12 + width (reply_slots reply) ≡ length bytes

-- its flow entries can be written
abbrev pub IsProperReply : StatsReply → Type 0
IsProperReply (Flow entries) = AllByRecursion IsProperEntry entries
IsProperReply reply = Unit {0}

-- how many bytes the body of a reply of a kind may have
abbrev pub allows_reply : ℕ → ℕ → Bool
allows_reply kind len =
    if kind == 0 then len == 1056
    else if kind == 1 then true
    else if kind == 2 then len == 24
    else if kind == 3 then len % 64 == 0
    else if kind == 4 then len % 104 == 0
    else if kind == 5 then len % 32 == 0
    else nat_le 4 len

-- why the kind at 8 or the length of the body is refused, if it is
unfoldable pub reply_refusal : List ℕ → Option WireRefusal
reply_refusal bytes =
    if not (is_stats_kind (number 2 8 bytes)) then Some (refusal 8 BadStat)
    else if not (allows_reply (number 2 8 bytes) (length bytes - 12)) then Some (refusal 12 BadStat)
    else None

-- the refusal of a STATS_REPLY: that of its kind or its length, or of its flow entries
abbrev pub RefusesReply : List ℕ → WireRefusal → Type 0
RefusesReply bytes e =
    (reply_refusal bytes ≡ Some e)
    ⊎ ((number 2 8 bytes ≡ 1) × IsRefusedIn entry_slots RefusesEntry 12 (part (length bytes - 12) 12 bytes) e)
