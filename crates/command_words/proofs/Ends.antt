-- Where options end, and calls.
use Rattle.std.proofs.Common.{◌≡◌, ℕ, ◌<◌, ◌≤◌, Bool, true, false, if◌then◌else◌, List, [], ◌∷◌, length, take, drop, get_or, map, ap, sym, ◌∙◌, ◌&&◌, ◌-◌, Some, None, refl, arith}
use Rattle.std.proofs.lemmas.List.{take-map, take_rest, length-map}
use Rattle.command_words.specs.Rows.{OptionRow, CommandRow}
use Rattle.command_words.specs.Options.{is_option, behind_options, value_of, is_right, are_options}
use Rattle.command_words.specs.Calls.{is_call, call_by}

pub behind_few : {X : Type 0} (rows : List OptionRow) (f : X → List ℕ) (xs : List X) → length xs < 2 → behind_options rows (map f xs) ≡ map f xs
behind_few rows f [] few = refl
behind_few rows f (x ∷ []) few = refl
behind_few rows f (x ∷ y ∷ xs) few = absurd (grind (arith, few))

pub value_in_few : {X : Type 0} (option : List ℕ) (f : X → List ℕ) (xs : List X) → length xs < 2 → value_of option (map f xs) ≡ None
value_in_few option f [] few = refl
value_in_few option f (x ∷ []) few = refl
value_in_few option f (x ∷ y ∷ xs) few = absurd (grind (arith, few))

shorter_by : (b : Bool) (behind : List (List ℕ)) (w v : List ℕ) (ws : List (List ℕ)) → length behind ≤ length ws → length (if b then behind else w ∷ v ∷ ws) ≤ length (w ∷ v ∷ ws)
shorter_by true behind w v ws le = grind (arith, le)
shorter_by false behind w v ws le = omega arith

-- what stands behind the options is no longer than all words
behind_shorter : (rows : List OptionRow) (ws : List (List ℕ)) → length (behind_options rows ws) ≤ length ws
behind_shorter rows [] = omega arith
behind_shorter rows (w ∷ []) = omega arith
behind_shorter rows (w ∷ v ∷ ws) = shorter_by (is_option rows w) (behind_options rows ws) w v ws (behind_shorter rows ws)

pub operands_within : {X : Type 0} (rows : List OptionRow) (f : X → List ℕ) (xs ys : List X) → map f ys ≡ behind_options rows (map f xs) → length ys ≤ length xs
operands_within rows f xs ys is =
    let all : length (behind_options rows (map f xs)) ≤ length (map f xs) = behind_shorter rows (map f xs) in
    let same : length (map f ys) ≡ length (behind_options rows (map f xs)) = ap (λ (zs : List (List ℕ)). length zs) is in
    omega (arith, all, same, length-map xs f, length-map ys f)

-- the words before them, as the code takes them
options_are : {X : Type 0} (f : X → List ℕ) (xs ys : List X) → map f (take (length xs - length ys) xs) ≡ take (length (map f xs) - length (map f ys)) (map f xs)
options_are f xs ys = rw (length-map xs f, length-map ys f) (sym (take-map f (length xs - length ys) xs))

pub no_call : {X : Type 0} (row : CommandRow) (f : X → List ℕ) (xs ys : List X) → map f ys ≡ behind_options row.options (map f xs) → is_call row (map f (take (length xs - length ys) xs)) (map f ys) ≡ false
    → None ≡ call_by row (map f xs)
unfolding call_by
no_call row f xs ys is other = rw (← is, ← options_are f xs ys, other) refl

pub a_call : {X : Type 0} (row : CommandRow) (f : X → List ℕ) (xs ys : List X) → map f ys ≡ behind_options row.options (map f xs) → is_call row (map f (take (length xs - length ys) xs)) (map f ys) ≡ true
    → Some (record { command = row.command; options = map f (take (length xs - length ys) xs); operands = map f ys }) ≡ call_by row (map f xs)
unfolding call_by
a_call row f xs ys is right = rw (← is, ← options_are f xs ys, right) refl

-- the first option, and those behind it
pub options_step : {X : Type 0} (rows : List OptionRow) (f : X → List ℕ) (xs : List X) (o v : X) (a b : List ℕ) → 2 ≤ length xs → o ≡ get_or xs 0 o → v ≡ get_or xs 1 v → a ≡ f o → b ≡ f v
    → are_options rows (map f xs) ≡ (is_right rows a b (map f (take (length xs - 2) (drop 2 xs))) && are_options rows (map f (take (length xs - 2) (drop 2 xs))))
options_step rows f [] o v a b long is_o is_v is_a is_b = absurd (omega (arith, long))
options_step rows f (x ∷ []) o v a b long is_o is_v is_a is_b = absurd (omega (arith, long))
options_step rows f (x ∷ y ∷ xs) o v a b long is_o is_v is_a is_b =
    let behind : take (length (x ∷ y ∷ xs) - 2) (drop 2 (x ∷ y ∷ xs)) ≡ xs = take_rest (x ∷ y ∷ xs) 2 in
    let first : a ≡ f x = is_a ∙ ap f is_o in
    let second : b ≡ f y = is_b ∙ ap f is_v in
    rw (behind, first, second) refl
