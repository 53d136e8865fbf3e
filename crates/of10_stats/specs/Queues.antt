-- The layouts of queues and their properties, and where none begins.
use Rattle.std.specs.Prelude.{ℕ, ◌≡◌, ◌≢◌, ◌+◌, List, [], ◌∷◌, length, Bool, not, ◌==◌, ◌||◌, nat_lt, nat_le, if◌then◌else◌, IsTrue}
use Rattle.std.specs.List.{flat_map, AllByRecursion}
use Rattle.of10_wire.specs.declared.refusal.WireRefusal.{WireRefusal}
use Rattle.of10_wire.specs.declared.refusal.WireWhy.TheVariants.{BadProperty}
use Rattle.of10_wire.specs.Refusals.{refusal}
use Rattle.of10_wire.specs.Layout.{Slot, Number, Except, Raw, Pad, width, number}
use Rattle.of10_wire.specs.Lists.{RefusesNest}
use Rattle.of10_stats.specs.declared.queue.QueueProperty.{QueueProperty}
use Rattle.of10_stats.specs.declared.queue.QueueProperty.TheVariants.{MinRate, Other}
use Rattle.of10_stats.specs.declared.queue.Queue.{Queue}

-- the len counts the whole property
unfoldable pub property_slots : QueueProperty → List Slot
property_slots (MinRate rate) = Number 2 1 ∷ Number 2 16 ∷ Pad 4 ∷ Number 2 rate ∷ Pad 6 ∷ []
property_slots (Other kind body) = Except 2 1 kind ∷ Number 2 (8 + length body) ∷ Pad 4 ∷ Raw (length body) body ∷ []

-- another property than MIN_RATE hasn't its kind
abbrev pub IsProperProperty : QueueProperty → Type 0
IsProperProperty (MinRate rate) = Unit {0}
IsProperProperty (Other kind body) = kind ≢ 1

-- what a len may be for a kind
abbrev pub allows_property_len : ℕ → ℕ → Bool
allows_property_len kind len = if kind == 1 then len == 16 else nat_le 8 len

-- no property begins these bytes: there are fewer than 8, its kind hasn't this len, or the len is above what is left
unfoldable pub is_no_property : List ℕ → Bool
is_no_property bytes = nat_lt (length bytes) 8 || not (allows_property_len (number 2 0 bytes) (number 2 2 bytes)) || nat_lt (length bytes) (number 2 2 bytes)

abbrev pub RefusesProperty : ℕ → List ℕ → WireRefusal → Type 0
RefusesProperty place bytes e = IsTrue (is_no_property bytes) × (e ≡ refusal place BadProperty)

-- the len counts the whole queue
unfoldable pub queue_slots : Queue → List Slot
queue_slots queue = Number 4 queue.queue_id ∷ Number 2 (8 + width (flat_map property_slots queue.properties)) ∷ Pad 2 ∷ flat_map property_slots queue.properties

abbrev pub IsProperQueue : Queue → Type 0
IsProperQueue queue = AllByRecursion IsProperProperty queue.properties

-- no queue begins these bytes: there are fewer than 8, its len is below 8, or above what is left
unfoldable pub is_no_queue : List ℕ → Bool
is_no_queue bytes = nat_lt (length bytes) 8 || nat_lt (number 2 4 bytes) 8 || nat_lt (length bytes) (number 2 4 bytes)

-- how many bytes a queue says that it has
abbrev pub queue_len : List ℕ → ℕ
queue_len bytes = number 2 4 bytes

-- the refusal of bytes at a place of their frame that begin with no queue, or with one whose properties are refused
abbrev pub RefusesQueue : ℕ → List ℕ → WireRefusal → Type 0
RefusesQueue place bytes e = RefusesNest is_no_queue queue_len 8 BadProperty property_slots RefusesProperty place bytes e
