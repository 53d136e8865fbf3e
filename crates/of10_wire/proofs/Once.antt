-- At most one list of parts.
use Rattle.std.proofs.Common.{◌≡◌, ℕ, ◌+◌, ◌<◌, ◌≤◌, List, [], ◌∷◌, refl, ap, arith}
use Rattle.std.specs.List.{flat_map}
use Rattle.of10_wire.specs.Layout.{Slot, width, Stand}
use Rattle.of10_wire.proofs.Standing.{Stand-at}
use Rattle.of10_wire.proofs.Items.{width-cons, first-stands, others-stand}

-- the laws of a part: at a place at most one stands, and it takes some bytes
pub record IsPart {X : Type 0} (slots : X → List Slot) : Type 0 where
  pub once : (i : ℕ) (x y : X) (bytes : List ℕ) → Stand i (slots x) bytes → Stand i (slots y) bytes → x ≡ y
  pub positive : (x : X) → 0 < width (slots x)

pub items-once : {X : Type 0} (slots : X → List Slot) (it : IsPart slots) (i : ℕ) (xs ys : List X) (bytes : List ℕ)
    → Stand i (flat_map slots xs) bytes → Stand i (flat_map slots ys) bytes → width (flat_map slots xs) ≡ width (flat_map slots ys) → xs ≡ ys
items-once {X = X} slots it i [] [] bytes h k e = refl
items-once {X = X} slots it i [] (y ∷ ys) bytes h k e = absurd (omega (arith, width-cons slots y ys, it.positive y, e))
items-once {X = X} slots it i (x ∷ xs) [] bytes h k e = absurd (omega (arith, width-cons slots x xs, it.positive x, e))
items-once {X = X} slots it i (x ∷ xs) (y ∷ ys) bytes h k e =
    let same : x ≡ y = it.once i x y bytes (first-stands slots i x xs bytes h) (first-stands slots i y ys bytes k) in
    let wide : width (slots x) ≡ width (slots y) = ap (λ (z : X). width (slots z)) same in
    let there : Stand (i + width (slots x)) (flat_map slots ys) bytes = Stand-at (i + width (slots y)) (i + width (slots x)) (flat_map slots ys) bytes (omega arith) (others-stand slots i y ys bytes k) in
    let rest : xs ≡ ys = items-once slots it (i + width (slots x)) xs ys bytes (others-stand slots i x xs bytes h) there (omega (arith, width-cons slots x xs, width-cons slots y ys)) in
    cc

-- Behind some of the parts the next one stands.
pub record Next {X : Type 0} (slots : X → List Slot) (i len : ℕ) (bytes : List ℕ) : Type 0 where
  pub next : X
  pub stand : Stand i (slots next) bytes
  pub within : i + width (slots next) ≤ len

pub next_item : {X : Type 0} (slots : X → List Slot) (it : IsPart slots) (i : ℕ) (xs before : List X) (bytes : List ℕ)
    → Stand i (flat_map slots xs) bytes → Stand i (flat_map slots before) bytes → width (flat_map slots before) < width (flat_map slots xs)
    → Next slots (i + width (flat_map slots before)) (i + width (flat_map slots xs)) bytes
next_item {X = X} slots it i [] before bytes h k lt = absurd (omega arith)
next_item {X = X} slots it i (x ∷ xs) [] bytes h k lt = record {
  next = x;
  stand = Stand-at i (i + 0) (slots x) bytes (omega arith) (first-stands slots i x xs bytes h);
  within = omega (arith, width-cons slots x xs);
}
next_item {X = X} slots it i (x ∷ xs) (y ∷ ys) bytes h k lt =
    let same : x ≡ y = it.once i x y bytes (first-stands slots i x xs bytes h) (first-stands slots i y ys bytes k) in
    let wide : width (slots x) ≡ width (slots y) = ap (λ (z : X). width (slots z)) same in
    let there : Stand (i + width (slots x)) (flat_map slots ys) bytes = Stand-at (i + width (slots y)) (i + width (slots x)) (flat_map slots ys) bytes (omega arith) (others-stand slots i y ys bytes k) in
    let found = next_item slots it (i + width (slots x)) xs ys bytes (others-stand slots i x xs bytes h) there (omega (arith, width-cons slots x xs, width-cons slots y ys)) in
    record {
      next = found.next;
      stand = Stand-at (i + width (slots x) + width (flat_map slots ys)) (i + width (flat_map slots (y ∷ ys))) (slots found.next) bytes (omega (arith, width-cons slots y ys)) found.stand;
      within = omega (arith, found.within, width-cons slots x xs, width-cons slots y ys);
    }
