-- Facts on truth values, and on tests of lists.
use Rattle.std.proofs.Common.{◌≡◌, ◌⊎◌, inl, inr, ℕ, Bool, true, false, not, ◌&&◌, ◌||◌, List, [], ◌∷◌, refl, ap, sym, ◌∙◌, Contains, true≢false, arith}
use Rattle.std.specs.List.{list_all, list_any}
use Rattle.general_facts.proofs.Lists.{contains_later}
use Rattle.std.proofs.lemmas.List.Elements.{All-contains_itself}
use Rattle.std.proofs.lemmas.Bool.{false_from_ne_true, false≢true}
use Rattle.std.proofs.lemmas.List.Folds.{list_any_none, list_any_at}

pub none_at : (test : ℕ → Bool) (xs : List ℕ) (m : ℕ) → Contains xs m → list_any test xs ≡ false → test m ≡ false
none_at test xs m (k, within, is) none = false_from_ne_true (test m) (λ passes. false≢true (sym none ∙ list_any_at test xs k m within (ap test is ∙ passes)))

pub none_from : (test : ℕ → Bool) (xs : List ℕ) → ((m : ℕ) → Contains xs m → test m ≡ false) → list_any test xs ≡ false
none_from test xs each = list_any_none test xs (λ k d within. each _ (All-contains_itself xs k d within))

pub when_true : (p a b : Bool) → ((not p || a) && (not (not p) || b)) ≡ true → p ≡ true → a ≡ true
when_true p a b h is = grind arith

pub when_false : (p a b : Bool) → ((not p || a) && (not (not p) || b)) ≡ true → p ≡ false → b ≡ true
when_false p a b h isnt = grind arith

pub implied : (p a : Bool) → (not p || a) ≡ true → p ≡ true → a ≡ true
implied p a h is = grind arith

pub unless_any : (any b : Bool) → (not (not any) || b) ≡ true → any ≡ false → b ≡ true
unless_any any b h none = grind arith

-- The same where what is tested is false.

pub false_case : (p a b : Bool) → ((not p || a) && (not (not p) || b)) ≡ false → ((p ≡ true) × (a ≡ false)) ⊎ ((p ≡ false) × (b ≡ false))
false_case true true b h = absurd (true≢false h)
false_case true false b h = inl (refl, refl)
false_case false a true h = absurd (true≢false h)
false_case false a false h = inr (refl, refl)

pub false_side : (a b : Bool) → (a && b) ≡ false → (a ≡ false) ⊎ ((a ≡ true) × (b ≡ false))
false_side false b h = inl refl
false_side true b h = inr (refl, h)

pub not_implied : (p a : Bool) → (not p || a) ≡ false → (p ≡ true) × (a ≡ false)
not_implied true a h = (refl, h)
not_implied false a h = absurd (true≢false h)

pub none_false : (any b : Bool) → (not (not any) || b) ≡ false → (any ≡ false) × (b ≡ false)
none_false true b h = absurd (true≢false h)
none_false false b h = (refl, h)

-- an element that fails
pub failing : (test : ℕ → Bool) (xs : List ℕ) → list_all test xs ≡ false → (m : ℕ) × Contains xs m × (test m ≡ false)
failing test [] h = absurd (true≢false h)
failing test (x ∷ xs) h = elim (false_side (test x) (list_all test xs) h) [
  | inl here ↦ (x, (0, omega arith, refl), here)
  | inr later ↦ (let found = failing test xs later.1 in (found.0, contains_later xs x found.0 found.1, found.2))
]
