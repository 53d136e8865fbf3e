-- Lists of parts of one width.
use Rattle.std.proofs.Common.{◌≡◌, ℕ, zero, suc, ◌+◌, ◌-◌, ◌*◌, ◌%◌, ◌<◌, ◌≤◌, List, [], ◌∷◌, length, ◌∙◌, arith}
use Rattle.std.proofs.Math.Nat.{mod-eq_of_lt}
use Rattle.std.specs.List.{flat_map}
use Rattle.of10_wire.specs.Layout.{Slot, width, Stand}
use Rattle.of10_wire.proofs.Standing.{Stand-append, Stand-at}
use Rattle.of10_wire.proofs.Items.{width-cons}
use Rattle.of10_wire.proofs.Once.{IsPart}

-- what is left of a whole number of parts
pub one_fits : (n w : ℕ) → 0 < n → 0 < w → n % w ≡ 0 → w ≤ n
one_fits n w pos wide e = grind (arith, mod-eq_of_lt)

pub one_less : (n w : ℕ) → w ≤ n → 0 < w → n % w ≡ 0 → (n - w) % w ≡ 0
one_less n w le wide e = grind arith

-- the laws of a part of one width: any bytes are one
pub record IsFixed {X : Type 0} (slots : X → List Slot) (w : ℕ) : Type 0 where
  pub part : IsPart slots
  pub wide : (x : X) → width (slots x) ≡ w
  pub there : (i : ℕ) (bytes : List ℕ) → (x : X) × Stand i (slots x) bytes

pub width-fixed : {X : Type 0} (slots : X → List Slot) (w : ℕ) (it : IsFixed slots w) (xs : List X) → width (flat_map slots xs) ≡ w * length xs
width-fixed {X = X} slots w it [] = omega arith
width-fixed {X = X} slots w it (x ∷ xs) =
    let rest : width (flat_map slots xs) ≡ w * length xs = width-fixed slots w it xs in
    let first : width (slots x) ≡ w = it.wide x in
    grind (arith, width-cons slots x xs, rest, first)

-- as many parts as fill the bytes from a place on
pub record HasFixed {X : Type 0} (slots : X → List Slot) (i n : ℕ) (bytes : List ℕ) : Type 0 where
  pub list : List X
  pub stand : Stand i (flat_map slots list) bytes
  pub wide : width (flat_map slots list) ≡ n

one_more : {X : Type 0} (slots : X → List Slot) (w : ℕ) (it : IsFixed slots w) (i n : ℕ) (bytes : List ℕ) → HasFixed slots (i + w) n bytes → HasFixed slots i (w + n) bytes
one_more slots w it i n bytes has =
    let x = (it.there i bytes).0 in
    let first : Stand i (slots x) bytes = (it.there i bytes).1 in
    let behind : Stand (i + width (slots x)) (flat_map slots has.list) bytes = Stand-at (i + w) (i + width (slots x)) (flat_map slots has.list) bytes (omega (arith, it.wide x)) has.stand in
    record {
      list = x ∷ has.list;
      stand = Stand-append i (slots x) (flat_map slots has.list) bytes first behind;
      wide = omega (arith, width-cons slots x has.list, it.wide x, has.wide);
    }

pub fixed-found : {X : Type 0} (slots : X → List Slot) (w : ℕ) (it : IsFixed slots w) (k i : ℕ) (bytes : List ℕ) → HasFixed slots i (w * k) bytes
unfolding Stand
fixed-found {X = X} slots w it zero i bytes = record { list = []; stand = tt; wide = omega arith }
fixed-found {X = X} slots w it (suc k) i bytes =
    let has : HasFixed slots i (w + w * k) bytes = one_more slots w it i (w * k) bytes (fixed-found slots w it k (i + w) bytes) in
    let same : w + w * k ≡ w * suc k = grind arith in
    record { list = has.list; stand = has.stand; wide = has.wide ∙ same }
