-- The number of a trail grows, and a trail is no longer than there are atoms.
use Rattle.std.proofs.Common.{◌≡◌, ℕ, zero, suc, ◌+◌, ◌<◌, ◌≤◌, true, cond, eqb, List, [], ◌∷◌, ◌++◌, length, Option, Some, None, refl, sym, ap, ◌∙◌, arith, inl, inr, eqb-true, length-append}
use Rattle.std.specs.Prelude.{is_none, nat_lt, nat_le}
use Rattle.std.proofs.lemmas.Bool.{and_parts, cases_Bool, ne_eqb, eq-eqb, ltb-true, leb-true, false≢true}
use Rattle.clause_log.specs.Literals.{Literal, is_within}
use Rattle.clause_log.specs.Assignments.{Assignment, assign}
use Rattle.clause_search.specs.declared.trail.Entry.{Entry}
use Rattle.clause_search.specs.Trails.{after, values_of, IsTrail, Extends, power, weight, trail_number}
use Rattle.clause_search.proofs.Places.{assign_at, assign_apart}

pub positive : (n : ℕ) → 0 < power n
positive zero = omega arith
positive (suc n) = omega (arith, positive n)

weight_small : (r : Option ℕ) (p : ℕ) → weight r p ≤ p + p
weight_small None p = omega arith
weight_small (Some r) p = omega arith

weight_some : (r : Option ℕ) (p : ℕ) → p ≤ weight r p
weight_some None p = omega arith
weight_some (Some r) p = omega arith

pub bounded : (n : ℕ) (trail : List Entry) → trail_number n trail < power n
bounded zero es = omega arith
bounded (suc n) [] = omega (arith, positive n)
bounded (suc n) (e ∷ es) = omega (arith, weight_small e.reason (power n), bounded n es)

-- an entry more makes it greater
pub grows : (n : ℕ) (front : List Entry) (e : Entry) → length front < n → trail_number n front < trail_number n (front ++ e ∷ [])
grows zero front e l = absurd (omega arith)
grows (suc n) [] e l = omega (arith, positive n, weight_some e.reason (power n))
grows (suc n) (d ∷ ds) e l = (let deep = grows n ds e (omega arith) in omega (arith, deep))

pub never_falls : (n : ℕ) (front more : List Entry) → trail_number n front ≤ trail_number n (front ++ more)
never_falls zero front more = omega arith
never_falls (suc n) [] more = omega arith
never_falls (suc n) (d ∷ ds) more = (let deep = never_falls n ds more in omega (arith, deep))

-- so does a forced literal in place of a decision and all behind it
pub flipped : (n : ℕ) (front back : List Entry) (d e : Literal) (h : ℕ) → length front < n
    → trail_number n (front ++ record { literal = d; reason = None } ∷ back) < trail_number n (front ++ record { literal = e; reason = Some h } ∷ [])
flipped zero front back d e h l = absurd (omega arith)
flipped (suc n) [] back d e h l = omega (arith, bounded n back)
flipped (suc n) (x ∷ xs) back d e h l = (let deep = flipped n xs back d e h (omega arith) in omega (arith, deep))

-- how many of the atoms from 1 to n have no value
abbrev pub unset : Assignment → ℕ → ℕ
unset f zero = 0
unset f (suc n) = cond (is_none (f (suc n))) 1 0 + unset f n

unset_most : (f : Assignment) (n : ℕ) → unset f n ≤ n
unset_most f zero = omega arith
unset_most f (suc n) = elim (cases_Bool (is_none (f (suc n)))) [
  | inl e ↦ (let a = ap {B = ℕ} (λ t. cond t 1 0) e in omega (arith, a, unset_most f n))
  | inr e ↦ (let a = ap {B = ℕ} (λ t. cond t 1 0) e in omega (arith, a, unset_most f n))
]

-- past n, nothing changes
unset_past : (f : Assignment) (l : Literal) (n : ℕ) → n < l.atom → unset (assign l f) n ≡ unset f n
unset_past f l zero h = refl
unset_past f l (suc n) h =
    let same : assign l f (suc n) ≡ f (suc n) = assign_apart f l (suc n) (ne_eqb (suc n) l.atom (λ e. omega (arith, e, h))) in
    let deep = unset_past f l n (omega (arith, h)) in
    let head = ap {B = ℕ} (λ o. cond (is_none o) 1 0) same in
    omega (arith, deep, head)

unset_less : (f : Assignment) (l : Literal) (n : ℕ) → 0 < l.atom → l.atom ≤ n → f l.atom ≡ None → unset (assign l f) n + 1 ≡ unset f n
unset_less f l zero low high e = absurd (omega (arith, low, high))
unset_less f l (suc n) low high e =
    elim (cases_Bool (eqb (suc n) l.atom)) [
      | inl t ↦
          (let same : suc n ≡ l.atom = eqb-true (suc n) l.atom t in
          let now = ap {B = ℕ} (λ o. cond (is_none o) 1 0) (assign_at f l (suc n) t) in
          let before = ap {B = ℕ} (λ o. cond (is_none o) 1 0) (ap f same ∙ e) in
          let rest = unset_past f l n (omega (arith, same)) in
          omega (arith, now, before, rest))
      | inr t ↦
          (let apart : suc n ≡ l.atom → ⊥ = λ q. false≢true (sym t ∙ eq-eqb (suc n) l.atom q) in
          let small : l.atom ≤ n = omega (arith, high, apart) in
          let now = ap {B = ℕ} (λ o. cond (is_none o) 1 0) (assign_apart f l (suc n) t) in
          let rest = unset_less f l n low small e in
          omega (arith, now, rest))
    ]

pub within_least : (atoms : ℕ) (l : Literal) → is_within atoms l ≡ true → 0 < l.atom
within_least atoms l h = ltb-true 0 l.atom (and_parts (nat_lt 0 l.atom) (nat_le l.atom atoms) h).0

pub within_most : (atoms : ℕ) (l : Literal) → is_within atoms l ≡ true → l.atom ≤ atoms
within_most atoms l h = leb-true l.atom atoms (and_parts (nat_lt 0 l.atom) (nat_le l.atom atoms) h).1

-- each entry takes one of the atoms without a value
used : (atoms : ℕ) (cs : List (List Literal)) (f : Assignment) (es : List Entry) → IsTrail atoms cs f es → length es + unset (after f es) atoms ≡ unset f atoms
used atoms cs f [] h = omega arith
used atoms cs f (e ∷ es) h =
    let deep = used atoms cs (assign e.literal f) es h.1 in
    let one = unset_less f e.literal atoms (within_least atoms e.literal h.0.within) (within_most atoms e.literal h.0.within) h.0.new in
    omega (arith, deep, one)

pub not_longer : (atoms : ℕ) (cs : List (List Literal)) (f : Assignment) (es : List Entry) → IsTrail atoms cs f es → length es ≤ atoms
not_longer atoms cs f es h = omega (arith, used atoms cs f es h, unset_most f atoms)

-- no more literals are forced than there are atoms
pub extends_short : (atoms : ℕ) (cs : List (List Literal)) (old new : List Entry) → Extends atoms cs old new → length new ≤ length old + atoms
extends_short atoms cs old new h = omega (arith, not_longer atoms cs (values_of old) h.more h.fits, ap length h.is, length-append old h.more)
