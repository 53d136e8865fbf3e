-- How values lie in bytes. A layout is a list of slots, which stand in the bytes one after the other: numbers
-- with their highest byte first, bytes that are kept as they are, and bytes that mean nothing.
use Rattle.std.specs.Prelude.{ℕ, ◌≡◌, ◌≢◌, ◌+◌, ◌<◌, ◌^◌, ◌%◌, List, [], ◌∷◌, ◌++◌, length, take, drop, replicate}
use Rattle.byteorder.specs.Endian.{big_number, big_bytes}

pub data Slot : Type 0 where
  -- the number x in n bytes
  Number : (n x : ℕ) → Slot
  -- the number x, which isn't k, in n bytes
  Except : (n k x : ℕ) → Slot
  -- the n bytes xs
  Raw : (n : ℕ) (xs : List ℕ) → Slot
  -- the bytes xs, of which there are a multiple of k
  Blocks : (k : ℕ) (xs : List ℕ) → Slot
  -- n bytes of any value
  Pad : (n : ℕ) → Slot

-- how many bytes the slots take
abbrev pub width : List Slot → ℕ
width [] = 0
width (Number n x ∷ slots) = n + width slots
width (Except n k x ∷ slots) = n + width slots
width (Raw n xs ∷ slots) = n + width slots
width (Blocks k xs ∷ slots) = length xs + width slots
width (Pad n ∷ slots) = n + width slots

-- the number in the n bytes from place i on
unfoldable pub number : ℕ → ℕ → List ℕ → ℕ
number n i bytes = big_number n (drop i bytes)

-- the n bytes from place i on
unfoldable pub part : ℕ → ℕ → List ℕ → List ℕ
part n i bytes = take n (drop i bytes)

-- The slots stand in the bytes one after the other, from place i on.
unfoldable pub Stand : ℕ → List Slot → List ℕ → Type 0
Stand i [] bytes = Unit {0}
Stand i (Number n x ∷ slots) bytes = (number n i bytes ≡ x) × Stand (i + n) slots bytes
Stand i (Except n k x ∷ slots) bytes = (number n i bytes ≡ x) × (x ≢ k) × Stand (i + n) slots bytes
Stand i (Raw n xs ∷ slots) bytes = (part n i bytes ≡ xs) × Stand (i + n) slots bytes
Stand i (Blocks k xs ∷ slots) bytes = (part (length xs) i bytes ≡ xs) × (length xs % k ≡ 0) × Stand (i + length xs) slots bytes
Stand i (Pad n ∷ slots) bytes = Stand (i + n) slots bytes

-- The bytes are the slots, one after the other, and nothing else.
pub record Spells (slots : List Slot) (bytes : List ℕ) : Type 0 where
  pub stand : Stand 0 slots bytes
  pub whole : width slots ≡ length bytes

-- the number in n bytes, the highest first
unfoldable pub bytes_of : ℕ → ℕ → List ℕ
bytes_of n x = big_bytes n x

-- the bytes and then the slots, each pad as zeros
abbrev pub appended : List ℕ → List Slot → List ℕ
appended bytes [] = bytes
appended bytes (Number n x ∷ slots) = appended (bytes ++ bytes_of n x) slots
appended bytes (Except n k x ∷ slots) = appended (bytes ++ bytes_of n x) slots
appended bytes (Raw n xs ∷ slots) = appended (bytes ++ xs) slots
appended bytes (Blocks k xs ∷ slots) = appended (bytes ++ xs) slots
appended bytes (Pad n ∷ slots) = appended (bytes ++ replicate n 0) slots

-- Each value fits its slot.
abbrev pub Fit : List Slot → Type 0
Fit [] = Unit {0}
Fit (Number n x ∷ slots) = (x < 256 ^ n) × Fit slots
Fit (Except n k x ∷ slots) = (x < 256 ^ n) × (x ≢ k) × Fit slots
Fit (Raw n xs ∷ slots) = (length xs ≡ n) × Fit slots
Fit (Blocks k xs ∷ slots) = (length xs % k ≡ 0) × Fit slots
Fit (Pad n ∷ slots) = Fit slots
