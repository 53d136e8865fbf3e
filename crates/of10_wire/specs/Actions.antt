-- The layout of each action, and where no action begins.
use Rattle.std.specs.Prelude.{ℕ, ◌≡◌, ◌+◌, List, [], ◌∷◌, length, Bool, false, ◌==◌, ◌||◌, ◌&&◌, nat_lt, nat_le, not, if◌then◌else◌, IsTrue, ◌%◌}
use Rattle.of10_wire.specs.declared.action.Action.{Action}
use Rattle.of10_wire.specs.declared.action.Action.TheVariants.{Output, SetVlanVid, SetVlanPcp, StripVlan, SetDlSrc, SetDlDst, SetNwSrc, SetNwDst, SetNwTos, SetTpSrc, SetTpDst, Enqueue, Vendor}
use Rattle.of10_wire.specs.declared.refusal.WireRefusal.{WireRefusal}
use Rattle.of10_wire.specs.declared.refusal.WireWhy.TheVariants.{BadAction}
use Rattle.of10_wire.specs.Refusals.{refusal}
use Rattle.of10_wire.specs.Layout.{Slot, Number, Raw, Blocks, Pad, width, number}
use Rattle.of10_wire.specs.Lists.{IsRefusedIn}

-- the type, the length of the whole, and the fields
abbrev pub typed : ℕ → List Slot → List Slot
typed kind fields = Number 2 kind ∷ Number 2 (4 + width fields) ∷ fields

unfoldable pub action_slots : Action → List Slot
action_slots (Output port max_len) = typed 0 (Number 2 port ∷ Number 2 max_len ∷ [])
action_slots (SetVlanVid vlan_vid) = typed 1 (Number 2 vlan_vid ∷ Pad 2 ∷ [])
action_slots (SetVlanPcp vlan_pcp) = typed 2 (Number 1 vlan_pcp ∷ Pad 3 ∷ [])
action_slots StripVlan = typed 3 (Pad 4 ∷ [])
action_slots (SetDlSrc dl_addr) = typed 4 (Raw 6 dl_addr ∷ Pad 6 ∷ [])
action_slots (SetDlDst dl_addr) = typed 5 (Raw 6 dl_addr ∷ Pad 6 ∷ [])
action_slots (SetNwSrc nw_addr) = typed 6 (Number 4 nw_addr ∷ [])
action_slots (SetNwDst nw_addr) = typed 7 (Number 4 nw_addr ∷ [])
action_slots (SetNwTos nw_tos) = typed 8 (Number 1 nw_tos ∷ Pad 3 ∷ [])
action_slots (SetTpSrc tp_port) = typed 9 (Number 2 tp_port ∷ Pad 2 ∷ [])
action_slots (SetTpDst tp_port) = typed 10 (Number 2 tp_port ∷ Pad 2 ∷ [])
action_slots (Enqueue port queue_id) = typed 11 (Number 2 port ∷ Pad 6 ∷ Number 4 queue_id ∷ [])
action_slots (Vendor vendor body) = typed 65535 (Number 4 vendor ∷ Blocks 8 body ∷ [])

-- a vendor's bytes are a multiple of 8
abbrev pub IsProper : Action → Type 0
IsProper (Vendor vendor body) = length body % 8 ≡ 0
IsProper action = Unit {0}

-- what a len may be for a type
abbrev pub allows_action_len : ℕ → ℕ → Bool
allows_action_len kind len =
    if nat_le kind 11 then (if (kind == 4) || (kind == 5) || (kind == 11) then len == 16 else len == 8)
    else if kind == 65535 then nat_le 8 len && (len % 8 == 0)
    else false

-- no action begins these bytes: there are fewer than 4, the type is none or hasn't this len, or the len is above what
-- is left
unfoldable pub is_no_action : List ℕ → Bool
is_no_action bytes = nat_lt (length bytes) 4 || not (allows_action_len (number 2 0 bytes) (number 2 2 bytes)) || nat_lt (length bytes) (number 2 2 bytes)

-- the refusal of bytes at a place of their frame that begin with no action
abbrev pub RefusesAction : ℕ → List ℕ → WireRefusal → Type 0
RefusesAction place bytes e = IsTrue (is_no_action bytes) × (e ≡ refusal place BadAction)

-- the refusal of bytes that stand at base in their frame and are no list of actions
abbrev pub IsRefusedAction : ℕ → List ℕ → WireRefusal → Type 0
IsRefusedAction base bytes e = IsRefusedIn action_slots RefusesAction base bytes e
