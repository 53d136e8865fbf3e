-- Laws of slots, whatever the layout.
use Rattle.std.proofs.Common.{◌≡◌, ℕ, zero, suc, ◌+◌, ◌-◌, ◌<◌, ◌≤◌, ◌^◌, List, [], ◌∷◌, ◌++◌, length, take, drop, replicate, refl, sym, ap, subst, ◌∙◌, append_assoc, arith, length-append, length-drop}
use Rattle.std.proofs.lemmas.List.{drop-drop, drop-take, take_at, drop_at, append-nil, length-replicate, length-take-le}
use Rattle.byteorder.specs.Endian.{big_number, big_bytes}
use Rattle.byteorder.specs.Numbers.{big_from-take, big_number-reads_back, length-bytes_high_first}
use Rattle.of10_wire.specs.Layout.{Slot, Number, Except, Raw, Blocks, Pad, width, number, part, Stand, Spells, bytes_of, appended, Fit}

abbrev At : List Slot → List ℕ → ℕ → Type 0
At slots bytes i = Stand i slots bytes

pub width-append : (xs ys : List Slot) → width (xs ++ ys) ≡ width xs + width ys
width-append [] ys = omega arith
width-append (Number n x ∷ xs) ys = omega (arith, width-append xs ys)
width-append (Except n m x ∷ xs) ys = omega (arith, width-append xs ys)
width-append (Raw n x ∷ xs) ys = omega (arith, width-append xs ys)
width-append (Blocks m x ∷ xs) ys = omega (arith, width-append xs ys)
width-append (Pad n ∷ xs) ys = omega (arith, width-append xs ys)

-- the place may be written in another way
pub Stand-at : (i j : ℕ) (slots : List Slot) (bytes : List ℕ) → i ≡ j → Stand i slots bytes → Stand j slots bytes
Stand-at i j slots bytes e h = subst (At slots bytes) e h

pub Stand-append : (i : ℕ) (xs ys : List Slot) (bytes : List ℕ) → Stand i xs bytes → Stand (i + width xs) ys bytes → Stand i (xs ++ ys) bytes
unfolding Stand
Stand-append i [] ys bytes h k = subst (At ys bytes) (omega arith) k
Stand-append i (Number n x ∷ xs) ys bytes h k = (h.0, Stand-append (i + n) xs ys bytes h.1 (subst (At ys bytes) (omega arith) k))
Stand-append i (Except n m x ∷ xs) ys bytes h k = (h.0, h.1, Stand-append (i + n) xs ys bytes h.2 (subst (At ys bytes) (omega arith) k))
Stand-append i (Raw n x ∷ xs) ys bytes h k = (h.0, Stand-append (i + n) xs ys bytes h.1 (subst (At ys bytes) (omega arith) k))
Stand-append i (Blocks m x ∷ xs) ys bytes h k = (h.0, h.1, Stand-append (i + length x) xs ys bytes h.2 (subst (At ys bytes) (omega arith) k))
Stand-append i (Pad n ∷ xs) ys bytes h k = Stand-append (i + n) xs ys bytes h (subst (At ys bytes) (omega arith) k)

pub Stand-front : (i : ℕ) (xs ys : List Slot) (bytes : List ℕ) → Stand i (xs ++ ys) bytes → Stand i xs bytes
unfolding Stand
Stand-front i [] ys bytes h = tt
Stand-front i (Number n x ∷ xs) ys bytes h = (h.0, Stand-front (i + n) xs ys bytes h.1)
Stand-front i (Except n m x ∷ xs) ys bytes h = (h.0, h.1, Stand-front (i + n) xs ys bytes h.2)
Stand-front i (Raw n x ∷ xs) ys bytes h = (h.0, Stand-front (i + n) xs ys bytes h.1)
Stand-front i (Blocks m x ∷ xs) ys bytes h = (h.0, h.1, Stand-front (i + length x) xs ys bytes h.2)
Stand-front i (Pad n ∷ xs) ys bytes h = Stand-front (i + n) xs ys bytes h

pub Stand-back : (i : ℕ) (xs ys : List Slot) (bytes : List ℕ) → Stand i (xs ++ ys) bytes → Stand (i + width xs) ys bytes
unfolding Stand
Stand-back i [] ys bytes h = subst (At ys bytes) (omega arith) h
Stand-back i (Number n x ∷ xs) ys bytes h = subst (At ys bytes) (omega arith) (Stand-back (i + n) xs ys bytes h.1)
Stand-back i (Except n m x ∷ xs) ys bytes h = subst (At ys bytes) (omega arith) (Stand-back (i + n) xs ys bytes h.2)
Stand-back i (Raw n x ∷ xs) ys bytes h = subst (At ys bytes) (omega arith) (Stand-back (i + n) xs ys bytes h.1)
Stand-back i (Blocks m x ∷ xs) ys bytes h = subst (At ys bytes) (omega arith) (Stand-back (i + length x) xs ys bytes h.2)
Stand-back i (Pad n ∷ xs) ys bytes h = subst (At ys bytes) (omega arith) (Stand-back (i + n) xs ys bytes h)

-- ---- a part of the bytes

pub number-drop : (n i j : ℕ) (bytes : List ℕ) → number n i (drop j bytes) ≡ number n (j + i) bytes
unfolding number
number-drop n i j bytes = ap (big_number n) (drop-drop i j bytes)

pub part-drop : (n i j : ℕ) (bytes : List ℕ) → part n i (drop j bytes) ≡ part n (j + i) bytes
unfolding part
part-drop n i j bytes = ap (λ (xs : List ℕ). take n xs) (drop-drop i j bytes)

pub number-take : (n i k : ℕ) (bytes : List ℕ) → i + n ≤ k → number n i (take k bytes) ≡ number n i bytes
unfolding number
number-take n i k bytes le =
    let e : i + (k - i) ≡ k = omega arith in
    let f : drop i (take k bytes) ≡ take (k - i) (drop i bytes) = ap (λ (m : ℕ). drop i (take m bytes)) (sym e) ∙ drop-take i (k - i) bytes in
    ap (big_number n) f ∙ big_from-take 0 n (k - i) (drop i bytes) (omega arith)

take-take : (n k : ℕ) (xs : List ℕ) → n ≤ k → take n (take k xs) ≡ take n xs
take-take zero k xs le = refl
take-take (suc n) zero xs le = absurd (omega arith)
take-take (suc n) (suc k) [] le = refl
take-take (suc n) (suc k) (x ∷ xs) le = ap (λ (t : List ℕ). x ∷ t) (take-take n k xs (omega arith))

pub part-take : (n i k : ℕ) (bytes : List ℕ) → i + n ≤ k → part n i (take k bytes) ≡ part n i bytes
unfolding part
part-take n i k bytes le =
    let e : i + (k - i) ≡ k = omega arith in
    let f : drop i (take k bytes) ≡ take (k - i) (drop i bytes) = ap (λ (m : ℕ). drop i (take m bytes)) (sym e) ∙ drop-take i (k - i) bytes in
    ap (λ (xs : List ℕ). take n xs) f ∙ take-take n (k - i) (drop i bytes) (omega arith)

-- what stands in a slice stands in the whole
pub Stand-drop : (i j : ℕ) (slots : List Slot) (bytes : List ℕ) → Stand i slots (drop j bytes) → Stand (j + i) slots bytes
unfolding Stand
Stand-drop i j [] bytes h = tt
Stand-drop i j (Number n x ∷ slots) bytes h = (sym (number-drop n i j bytes) ∙ h.0, subst (At slots bytes) (omega arith) (Stand-drop (i + n) j slots bytes h.1))
Stand-drop i j (Except n m x ∷ slots) bytes h = (sym (number-drop n i j bytes) ∙ h.0, h.1, subst (At slots bytes) (omega arith) (Stand-drop (i + n) j slots bytes h.2))
Stand-drop i j (Raw n x ∷ slots) bytes h = (sym (part-drop n i j bytes) ∙ h.0, subst (At slots bytes) (omega arith) (Stand-drop (i + n) j slots bytes h.1))
Stand-drop i j (Blocks m x ∷ slots) bytes h = (sym (part-drop (length x) i j bytes) ∙ h.0, h.1, subst (At slots bytes) (omega arith) (Stand-drop (i + length x) j slots bytes h.2))
Stand-drop i j (Pad n ∷ slots) bytes h = subst (At slots bytes) (omega arith) (Stand-drop (i + n) j slots bytes h)

-- and the other way
pub Stand-in_drop : (i j : ℕ) (slots : List Slot) (bytes : List ℕ) → Stand (j + i) slots bytes → Stand i slots (drop j bytes)
unfolding Stand
Stand-in_drop i j [] bytes h = tt
Stand-in_drop i j (Number n x ∷ slots) bytes h = (number-drop n i j bytes ∙ h.0, Stand-in_drop (i + n) j slots bytes (subst (At slots bytes) (omega arith) h.1))
Stand-in_drop i j (Except n m x ∷ slots) bytes h = (number-drop n i j bytes ∙ h.0, h.1, Stand-in_drop (i + n) j slots bytes (subst (At slots bytes) (omega arith) h.2))
Stand-in_drop i j (Raw n x ∷ slots) bytes h = (part-drop n i j bytes ∙ h.0, Stand-in_drop (i + n) j slots bytes (subst (At slots bytes) (omega arith) h.1))
Stand-in_drop i j (Blocks m x ∷ slots) bytes h = (part-drop (length x) i j bytes ∙ h.0, h.1, Stand-in_drop (i + length x) j slots bytes (subst (At slots bytes) (omega arith) h.2))
Stand-in_drop i j (Pad n ∷ slots) bytes h = Stand-in_drop (i + n) j slots bytes (subst (At slots bytes) (omega arith) h)

pub Stand-take : (i k : ℕ) (slots : List Slot) (bytes : List ℕ) → i + width slots ≤ k → Stand i slots (take k bytes) → Stand i slots bytes
unfolding Stand
Stand-take i k [] bytes le h = tt
Stand-take i k (Number n x ∷ slots) bytes le h = (sym (number-take n i k bytes (omega arith)) ∙ h.0, Stand-take (i + n) k slots bytes (omega arith) h.1)
Stand-take i k (Except n m x ∷ slots) bytes le h = (sym (number-take n i k bytes (omega arith)) ∙ h.0, h.1, Stand-take (i + n) k slots bytes (omega arith) h.2)
Stand-take i k (Raw n x ∷ slots) bytes le h = (sym (part-take n i k bytes (omega arith)) ∙ h.0, Stand-take (i + n) k slots bytes (omega arith) h.1)
Stand-take i k (Blocks m x ∷ slots) bytes le h = (sym (part-take (length x) i k bytes (omega arith)) ∙ h.0, h.1, Stand-take (i + length x) k slots bytes (omega arith) h.2)
Stand-take i k (Pad n ∷ slots) bytes le h = Stand-take (i + n) k slots bytes (omega arith) h

pub Stand-in_take : (i k : ℕ) (slots : List Slot) (bytes : List ℕ) → i + width slots ≤ k → Stand i slots bytes → Stand i slots (take k bytes)
unfolding Stand
Stand-in_take i k [] bytes le h = tt
Stand-in_take i k (Number n x ∷ slots) bytes le h = (number-take n i k bytes (omega arith) ∙ h.0, Stand-in_take (i + n) k slots bytes (omega arith) h.1)
Stand-in_take i k (Except n m x ∷ slots) bytes le h = (number-take n i k bytes (omega arith) ∙ h.0, h.1, Stand-in_take (i + n) k slots bytes (omega arith) h.2)
Stand-in_take i k (Raw n x ∷ slots) bytes le h = (part-take n i k bytes (omega arith) ∙ h.0, Stand-in_take (i + n) k slots bytes (omega arith) h.1)
Stand-in_take i k (Blocks m x ∷ slots) bytes le h = (part-take (length x) i k bytes (omega arith) ∙ h.0, h.1, Stand-in_take (i + length x) k slots bytes (omega arith) h.2)
Stand-in_take i k (Pad n ∷ slots) bytes le h = Stand-in_take (i + n) k slots bytes (omega arith) h

-- ---- writing

pub appended-append : (bytes : List ℕ) (xs ys : List Slot) → appended bytes (xs ++ ys) ≡ appended (appended bytes xs) ys
appended-append bytes [] ys = refl
appended-append bytes (Number n x ∷ xs) ys = appended-append (bytes ++ bytes_of n x) xs ys
appended-append bytes (Except n m x ∷ xs) ys = appended-append (bytes ++ bytes_of n x) xs ys
appended-append bytes (Raw n x ∷ xs) ys = appended-append (bytes ++ x) xs ys
appended-append bytes (Blocks m x ∷ xs) ys = appended-append (bytes ++ x) xs ys
appended-append bytes (Pad n ∷ xs) ys = appended-append (bytes ++ replicate n 0) xs ys

pub length-bytes_of : (n x : ℕ) → length (bytes_of n x) ≡ n
unfolding bytes_of
length-bytes_of n x = length-bytes_high_first n x

pub length-appended : (bytes : List ℕ) (slots : List Slot) → Fit slots → length (appended bytes slots) ≡ length bytes + width slots
length-appended bytes [] fit = omega arith
length-appended bytes (Number n x ∷ slots) fit = omega (arith, length-appended (bytes ++ bytes_of n x) slots fit.1, length-append bytes (bytes_of n x), length-bytes_of n x)
length-appended bytes (Except n m x ∷ slots) fit = omega (arith, length-appended (bytes ++ bytes_of n x) slots fit.2, length-append bytes (bytes_of n x), length-bytes_of n x)
length-appended bytes (Raw n xs ∷ slots) fit = omega (arith, length-appended (bytes ++ xs) slots fit.1, length-append bytes xs, fit.0)
length-appended bytes (Blocks m xs ∷ slots) fit = omega (arith, length-appended (bytes ++ xs) slots fit.1, length-append bytes xs)
length-appended bytes (Pad n ∷ slots) fit = omega (arith, length-appended (bytes ++ replicate n 0) slots fit, length-append bytes (replicate n 0), length-replicate {A = ℕ} n 0)

-- what is appended is written behind
pub appended-front : (front bytes : List ℕ) (slots : List Slot) → appended (front ++ bytes) slots ≡ front ++ appended bytes slots
appended-front front bytes [] = refl
appended-front front bytes (Number n x ∷ slots) = ap (λ (b : List ℕ). appended b slots) (append_assoc front bytes (bytes_of n x)) ∙ appended-front front (bytes ++ bytes_of n x) slots
appended-front front bytes (Except n m x ∷ slots) = ap (λ (b : List ℕ). appended b slots) (append_assoc front bytes (bytes_of n x)) ∙ appended-front front (bytes ++ bytes_of n x) slots
appended-front front bytes (Raw n x ∷ slots) = ap (λ (b : List ℕ). appended b slots) (append_assoc front bytes x) ∙ appended-front front (bytes ++ x) slots
appended-front front bytes (Blocks m x ∷ slots) = ap (λ (b : List ℕ). appended b slots) (append_assoc front bytes x) ∙ appended-front front (bytes ++ x) slots
appended-front front bytes (Pad n ∷ slots) = ap (λ (b : List ℕ). appended b slots) (append_assoc front bytes (replicate n 0)) ∙ appended-front front (bytes ++ replicate n 0) slots

pub appended-nil : (bytes : List ℕ) (slots : List Slot) → appended bytes slots ≡ bytes ++ appended [] slots
appended-nil bytes slots = ap (λ (b : List ℕ). appended b slots) (sym (append-nil bytes)) ∙ appended-front bytes [] slots

pub Fit-append : (xs ys : List Slot) → Fit xs → Fit ys → Fit (xs ++ ys)
Fit-append [] ys f g = g
Fit-append (Number n x ∷ xs) ys f g = (f.0, Fit-append xs ys f.1 g)
Fit-append (Except n m x ∷ xs) ys f g = (f.0, f.1, Fit-append xs ys f.2 g)
Fit-append (Raw n x ∷ xs) ys f g = (f.0, Fit-append xs ys f.1 g)
Fit-append (Blocks m x ∷ xs) ys f g = (f.0, Fit-append xs ys f.1 g)
Fit-append (Pad n ∷ xs) ys f g = Fit-append xs ys f g

-- a number, or bytes, at the end of the front
number-there : (front rest : List ℕ) (n x : ℕ) → x < 256 ^ n → number n (length front) (front ++ (bytes_of n x ++ rest)) ≡ x
unfolding number bytes_of
number-there front rest n x lt = ap (big_number n) (drop_at front (big_bytes n x ++ rest) (length front) refl) ∙ big_number-reads_back n x rest lt

part-there : (front rest xs : List ℕ) (n : ℕ) → length xs ≡ n → part n (length front) (front ++ (xs ++ rest)) ≡ xs
unfolding part
part-there front rest xs n len = ap (λ (b : List ℕ). take n b) (drop_at front (xs ++ rest) (length front) refl) ∙ take_at xs rest n len

-- the bytes behind which more is appended
behind : (front xs : List ℕ) (slots : List Slot) → appended (front ++ xs) slots ≡ front ++ (xs ++ appended [] slots)
behind front xs slots = appended-nil (front ++ xs) slots ∙ append_assoc front xs (appended [] slots)

-- What is written stands there.
pub appended-stand : (front : List ℕ) (slots : List Slot) → Fit slots → Stand (length front) slots (appended front slots)
unfolding Stand
appended-stand front [] fit = tt
appended-stand front (Number n x ∷ slots) fit =
    let len : length (front ++ bytes_of n x) ≡ length front + n = omega (arith, length-append front (bytes_of n x), length-bytes_of n x) in (
      ap (number n (length front)) (behind front (bytes_of n x) slots) ∙ number-there front (appended [] slots) n x fit.0,
      subst (At slots (appended (front ++ bytes_of n x) slots)) len (appended-stand (front ++ bytes_of n x) slots fit.1),
    )
appended-stand front (Except n m x ∷ slots) fit =
    let len : length (front ++ bytes_of n x) ≡ length front + n = omega (arith, length-append front (bytes_of n x), length-bytes_of n x) in (
      ap (number n (length front)) (behind front (bytes_of n x) slots) ∙ number-there front (appended [] slots) n x fit.0,
      fit.1,
      subst (At slots (appended (front ++ bytes_of n x) slots)) len (appended-stand (front ++ bytes_of n x) slots fit.2),
    )
appended-stand front (Raw n xs ∷ slots) fit =
    let len : length (front ++ xs) ≡ length front + n = omega (arith, length-append front xs, fit.0) in (
      ap (part n (length front)) (behind front xs slots) ∙ part-there front (appended [] slots) xs n fit.0,
      subst (At slots (appended (front ++ xs) slots)) len (appended-stand (front ++ xs) slots fit.1),
    )
appended-stand front (Blocks m xs ∷ slots) fit =
    let len : length (front ++ xs) ≡ length front + length xs = length-append front xs in (
      ap (part (length xs) (length front)) (behind front xs slots) ∙ part-there front (appended [] slots) xs (length xs) refl,
      fit.0,
      subst (At slots (appended (front ++ xs) slots)) len (appended-stand (front ++ xs) slots fit.1),
    )
appended-stand front (Pad n ∷ slots) fit =
    let len : length (front ++ replicate n 0) ≡ length front + n = omega (arith, length-append front (replicate n 0), length-replicate {A = ℕ} n 0) in
    subst (At slots (appended (front ++ replicate n 0) slots)) len (appended-stand (front ++ replicate n 0) slots fit)

-- The slots, each pad as zeros, are a spelling of themselves.
pub appended-spells : (slots : List Slot) → Fit slots → Spells slots (appended [] slots)
appended-spells slots fit = record { stand = appended-stand [] slots fit; whole = omega (arith, length-appended [] slots fit) }

-- what stands in a part stands in the whole
pub Stand-part : (n j : ℕ) (slots : List Slot) (bytes : List ℕ) → width slots ≤ n → Stand 0 slots (part n j bytes) → Stand j slots bytes
unfolding part
Stand-part n j slots bytes le h = Stand-at (j + 0) j slots bytes (omega arith) (Stand-drop 0 j slots bytes (Stand-take 0 n slots (drop j bytes) (omega arith) h))

-- ---- the bytes to the end

pub length-part : (n i : ℕ) (bytes : List ℕ) → i + n ≤ length bytes → length (part n i bytes) ≡ n
unfolding part
length-part n i bytes le = length-take-le n (drop i bytes) (omega (arith, length-drop i bytes))

-- the bytes from a place to the end
abbrev pub bytes_from : ℕ → List ℕ → List ℕ
bytes_from i bytes = part (length bytes - i) i bytes

pub length-bytes_from : (i : ℕ) (bytes : List ℕ) → i ≤ length bytes → i + length (bytes_from i bytes) ≡ length bytes
length-bytes_from i bytes le = omega (arith, length-part (length bytes - i) i bytes (omega arith))

-- as many bytes as the rest has are the rest
pub rest-stands : (i : ℕ) (bytes : List ℕ) → i ≤ length bytes → part (length (bytes_from i bytes)) i bytes ≡ bytes_from i bytes
rest-stands i bytes le = ap (λ (n : ℕ). part n i bytes) (length-part (length bytes - i) i bytes (omega arith))
