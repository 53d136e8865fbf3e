-- The header of a frame, and what it shows before the frame is whole.
use Rattle.std.specs.Prelude.{ℕ, ◌+◌, length, List, [], ◌∷◌, ◌++◌, Option, Some, None, Bool, not, ◌==◌, ◌&&◌, nat_lt, nat_le, if◌then◌else◌}
use Rattle.of10_wire.specs.declared.types.Header.{Header}
use Rattle.of10_wire.specs.declared.refusal.WireRefusal.{WireRefusal}
use Rattle.of10_wire.specs.declared.refusal.WireWhy.TheVariants.{BadVersion, BadType, BadLength}
use Rattle.of10_wire.specs.declared.rules.Opening.{Opening}
use Rattle.of10_wire.specs.declared.rules.Opening.TheVariants.{Wants, Frame, Refused}
use Rattle.of10_wire.specs.MessageTypes as types
use Rattle.of10_wire.specs.Refusals.{refusal}
use Rattle.of10_wire.specs.Layout.{Slot, Number, width, number}

abbrev pub header_slots : Header → List Slot
header_slots header = Number 1 header.version ∷ Number 1 header.kind ∷ Number 2 header.length ∷ Number 4 header.xid ∷ []

-- a whole frame: the header, whose length counts it all, and the fields behind it
abbrev pub frame : (version kind xid : ℕ) → List Slot → List Slot
frame version kind xid fields = header_slots (record { version = version; kind = kind; length = 8 + width fields; xid = xid }) ++ fields

-- the types of OpenFlow 1.0
abbrev pub is_kind : ℕ → Bool
is_kind kind = nat_le kind types.queue_get_config_reply

-- Why the header in the first 8 bytes is refused before its frame is whole: another version than 1, except in
-- a HELLO; no type of OpenFlow 1.0; a length that doesn't count the header.
unfoldable pub header_refusal : List ℕ → Option WireRefusal
header_refusal bytes =
    if not (number 1 0 bytes == 1) && not (number 1 1 bytes == types.hello) then Some (refusal 0 BadVersion)
    else if not (is_kind (number 1 1 bytes)) then Some (refusal 1 BadType)
    else if nat_lt (number 2 2 bytes) 8 then Some (refusal 2 BadLength)
    else None

-- what a header shows of its frame, of which so many bytes are there
abbrev pub opened : Option WireRefusal → (told have : ℕ) → Opening
opened (Some e) told have = Refused e
opened None told have = if nat_lt have told then Wants told else Frame told

-- What bytes show of the frame that they begin with: less than a header, or than the frame; a whole frame of so many
-- bytes; or a header that is refused by its own rules.
unfoldable pub opening_of : List ℕ → Opening
opening_of bytes = if nat_lt (length bytes) 8 then Wants 8 else opened (header_refusal bytes) (number 2 2 bytes) (length bytes)
