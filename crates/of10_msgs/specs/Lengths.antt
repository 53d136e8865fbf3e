-- How long the frames of each type are.
use Rattle.std.specs.Prelude.{ℕ, ◌-◌, ◌%◌, Bool, ◌==◌, ◌||◌, ◌&&◌, nat_le, if◌then◌else◌}
use Rattle.of10_wire.specs.MessageTypes as types
use Rattle.of10_msgs.specs.declared.lengths.Lengths.{Lengths}
use Rattle.of10_msgs.specs.declared.lengths.Lengths.TheVariants.{Exactly, AtLeast, Ports}

-- fixed layouts have one length, the others a least one, and a FEATURES_REPLY a whole number of ports behind 32 bytes
abbrev pub lengths_of : ℕ → Lengths
lengths_of kind =
    if (kind == types.features_request) || (kind == types.get_config_request) || (kind == types.barrier_request) || (kind == types.barrier_reply) then Exactly 8
    else if (kind == types.get_config_reply) || (kind == types.set_config) || (kind == types.queue_get_config_request) then Exactly 12
    else if kind == types.flow_removed then Exactly 88
    else if kind == types.port_status then Exactly 64
    else if kind == types.port_mod then Exactly 32
    else if (kind == types.error) || (kind == types.vendor) || (kind == types.stats_request) || (kind == types.stats_reply) then AtLeast 12
    else if kind == types.features_reply then Ports 32
    else if kind == types.packet_in then AtLeast 18
    else if (kind == types.packet_out) || (kind == types.queue_get_config_reply) then AtLeast 16
    else if kind == types.flow_mod then AtLeast 72
    else AtLeast 8

-- how many bytes each frame has
abbrev pub least : Lengths → ℕ
least (Exactly n) = n
least (AtLeast n) = n
least (Ports n) = n

-- whether a frame may have so many bytes
abbrev pub allows : Lengths → ℕ → Bool
allows (Exactly n) len = len == n
allows (AtLeast n) len = nat_le n len
allows (Ports n) len = nat_le n len && ((len - n) % 48 == 0)

-- whether the layout of a type allows a frame of this length
abbrev pub allows_length : ℕ → ℕ → Bool
allows_length kind len = allows (lengths_of kind) len
