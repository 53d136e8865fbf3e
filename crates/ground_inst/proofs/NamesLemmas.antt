-- What the loops over names count.
use Rattle.std.proofs.Common.{Bool, List, None, Some, [], ap, arith, cond, eq-eqb, false, get_or, length, map, nat_eq, ne_eqb, refl, slice_get, subst, suc, sym, true, zero, ℕ, ◌++◌, ◌+◌, ◌<◌, ◌∙◌, ◌∷◌, ◌≡◌, ◌≤◌}
use Rattle.std.proofs.lemmas.Bool.{false≢true}
use Rattle.csdn_core.specs.declared.terms.Sort.{Sort}
use Rattle.csdn_core.specs.declared.terms.Sort.TheVariants.{Pr}
use Rattle.csdn_core.specs.declared.terms.Term.{Term}
use Rattle.csdn_core.specs.declared.terms.Term.TheVariants.{Const, Port}
use Rattle.csdn_core.specs.declared.program.Parts.{Parts}
use Rattle.csdn_core.specs.declared.program.Constant.{Constant}
use Rattle.std.proofs.lemmas.List.{length-map, length-take-le, map-append, take-append-drop, take_more}
use Rattle.std.specs.Prelude.{drop, take}
use Rattle.csdn_core.specs.Same.{same_sort, same_term}
use Rattle.csdn_core.proofs.Same.{same_sort-refl}
use Rattle.decision_laws.specs.Copies.{index_of}
use Rattle.decision_laws.specs.Vocabulary.{sort_of_constant, sort_or}
use Rattle.fol_forms.specs.Constants.{constants_from, names_of, numerals_of}

append_step : (b : Bool) (n m p q : ℕ) → cond b 0 (suc n) ≡ suc m → (n ≡ m → p ≡ m + q) → cond b 0 (suc p) ≡ suc m + q
append_step true n m p q e h = absurd (omega arith)
append_step false n m p q e h = (let r = h (omega arith) in omega (arith, r))

pub index_of-append : (t : Term) (xs ys : List Term) → index_of t xs ≡ length xs → index_of t (xs ++ ys) ≡ length xs + index_of t ys
index_of-append t [] ys e = omega arith
index_of-append t (x ∷ xs) ys e = append_step (same_term t x) (index_of t xs) (length xs) (index_of t (xs ++ ys)) (index_of t ys) e (index_of-append t xs ys)

first_step : (b : Bool) (n m p : ℕ) → cond b 0 (suc n) < suc m → (n < m → p ≡ n) → cond b 0 (suc p) ≡ cond b 0 (suc n)
first_step true n m p l h = refl
first_step false n m p l h = ap suc (h (omega arith))

pub index_of-first : (t : Term) (xs ys : List Term) → index_of t xs < length xs → index_of t (xs ++ ys) ≡ index_of t xs
index_of-first t [] ys l = absurd (omega arith)
index_of-first t (x ∷ xs) ys l = first_step (same_term t x) (index_of t xs) (length xs) (index_of t (xs ++ ys)) l (index_of-first t xs ys)

module _ (k : ℕ) (ks : List ℕ) where
  taken : (i : ℕ) (d : ℕ) → i < length ks → map Port (take (i + 1) ks) ≡ map Port (take i ks) ++ Port (get_or ks i d) ∷ []
  taken i d l = ap (map Port) (take_more ks i d l) ∙ map-append Port (take i ks) (get_or ks i d ∷ [])

  so_long : (i : ℕ) → i ≤ length ks → length (map Port (take i ks)) ≡ i
  so_long i l = length-map (take i ks) Port ∙ length-take-le i ks l

  -- a numeral that isn't among the first i stands at the next place or later
  next_is : (i d : ℕ) → i < length ks → index_of (Port k) (map Port (take i ks)) ≡ i → index_of (Port k) (map Port (take (i + 1) ks)) ≡ i + cond (nat_eq k (get_or ks i d)) 0 1
  next_is i d l e =
      ap (index_of (Port k)) (taken i d l)
      ∙ index_of-append (Port k) (map Port (take i ks)) (Port (get_or ks i d) ∷ []) (e ∙ sym (so_long i (omega arith)))
      ∙ ap (λ z. z + cond (nat_eq k (get_or ks i d)) 0 1) (so_long i (omega arith))

  pub passed_by : (i d : ℕ) → i < length ks → (get_or ks i d ≡ k → ⊥) → index_of (Port k) (map Port (take i ks)) ≡ i → index_of (Port k) (map Port (take (i + 1) ks)) ≡ i + 1
  passed_by i d l n e = next_is i d l e ∙ ap (λ b. i + cond b 0 1) (ne_eqb k (get_or ks i d) (λ q. n (sym q)))

  pub found_there : (i d : ℕ) → i < length ks → get_or ks i d ≡ k → index_of (Port k) (map Port (take i ks)) ≡ i → index_of (Port k) (map Port ks) ≡ i
  found_there i d l n e =
      let here : index_of (Port k) (map Port (take (i + 1) ks)) ≡ i + 0 = next_is i d l e ∙ ap (λ b. i + cond b 0 1) (eq-eqb k (get_or ks i d) (sym n)) in
      let long = so_long (i + 1) (omega arith) in
      ap (λ z. index_of (Port k) (map Port z)) (sym (take-append-drop (i + 1) ks)) ∙ ap (index_of (Port k)) (map-append Port (take (i + 1) ks) (drop (i + 1) ks))
      ∙ index_of-first (Port k) (map Port (take (i + 1) ks)) (map Port (drop (i + 1) ks)) (omega (arith, here, long)) ∙ here ∙ omega arith

not_step : (b : Bool) (t x : Term) (xs : List Term) → same_term t x ≡ false → index_of t xs ≡ length xs → index_of t (cond b (x ∷ xs) xs) ≡ length (cond b (x ∷ xs) xs)
not_step true t x xs n e = ap (λ c. cond c 0 (suc (index_of t xs))) n ∙ ap suc e
not_step false t x xs n e = e

nothing_left : (s : Sort) (i k : ℕ) (rest : List Term) → rest ≡ [] → index_of (Const (record { 0 = k + i })) rest ≡ length (constants_from s k (take i []))
nothing_left s zero k rest e = ap (index_of (Const (record { 0 = k + 0 }))) e
nothing_left s (suc i) k rest e = ap (index_of (Const (record { 0 = k + suc i }))) e

first_here : (b : Bool) (t x : Term) (xs rest : List Term) → b ≡ true → same_term t x ≡ true → index_of t (cond b (x ∷ xs) xs ++ rest) ≡ 0
first_here true t x xs rest e q = ap (λ c. cond c 0 (suc (index_of t (xs ++ rest)))) q
first_here false t x xs rest e q = absurd (false≢true e)

later_here : (b : Bool) (t x : Term) (xs rest ys : List Term) → same_term t x ≡ false → index_of t (xs ++ rest) ≡ length ys → index_of t (cond b (x ∷ xs) xs ++ rest) ≡ length (cond b (x ∷ ys) ys)
later_here true t x xs rest ys q e = ap (λ c. cond c 0 (suc (index_of t (xs ++ rest)))) q ∙ ap suc e
later_here false t x xs rest ys q e = e

-- Where a constant stands among the names of its sort.

not_there : (s : Sort) (k : ℕ) (cs : List Constant) (t : Term) → ((i : ℕ) → same_term t (Const (record { 0 = k + i })) ≡ false) → index_of t (constants_from s k cs) ≡ length (constants_from s k cs)
not_there s k [] t h = refl
not_there s k (c ∷ cs) t h =
    let z : k + 0 ≡ k = omega arith in
    not_step (same_sort c.sort s) t (Const (record { 0 = k })) (constants_from s (suc k) cs) (subst (λ y. same_term t (Const (record { 0 = y })) ≡ false) z (h 0))
    (not_there s (suc k) cs t (λ i. (let e : k + suc i ≡ suc k + i = omega arith in subst (λ y. same_term t (Const (record { 0 = y })) ≡ false) e (h (suc i)))))

-- a numeral stands after the constants
pub numeral_index : (k : ℕ) (cs : List Constant) (ks : List ℕ) → index_of (Port k) (constants_from Pr 0 cs ++ map Port ks) ≡ length (constants_from Pr 0 cs) + index_of (Port k) (map Port ks)
numeral_index k cs ks = index_of-append (Port k) (constants_from Pr 0 cs) (map Port ks) (not_there Pr 0 cs (Port k) (λ i. refl))

constant_here : (s : Sort) (k : ℕ) (cs : List Constant) (i : ℕ) (rest : List Term) → ((c : Constant) → slice_get cs i ≡ Some c → c.sort ≡ s) → (slice_get cs i ≡ None → rest ≡ []) → index_of (Const (record { 0 = k + i })) (constants_from s k cs ++ rest) ≡ length (constants_from s k (take i cs))
constant_here s k [] i rest h n = nothing_left s i k rest (n refl)
constant_here s k (c ∷ cs) zero rest h n =
    let z : k ≡ k + 0 = omega arith in
    first_here (same_sort c.sort s) (Const (record { 0 = k + 0 })) (Const (record { 0 = k })) (constants_from s (suc k) cs) rest
    (ap (λ y. same_sort y s) (h c refl) ∙ same_sort-refl s) (eq-eqb (k + 0) k (sym z))
constant_here s k (c ∷ cs) (suc i) rest h n =
    let z : suc k + i ≡ k + suc i = omega arith in
    later_here (same_sort c.sort s) (Const (record { 0 = k + suc i })) (Const (record { 0 = k })) (constants_from s (suc k) cs) rest (constants_from s (suc k) (take i cs)) (ne_eqb (k + suc i) k (λ e. omega arith))
    (subst (λ y. index_of (Const (record { 0 = y })) (constants_from s (suc k) cs ++ rest) ≡ length (constants_from s (suc k) (take i cs))) z (constant_here s (suc k) cs i rest h n))

pub constant_index : (P : Parts) (i : ℕ) → index_of (Const (record { 0 = i })) (names_of P (sort_of_constant P i)) ≡ length (constants_from (sort_of_constant P i) 0 (take i P.constants))
constant_index P i =
    let s = sort_of_constant P i in
    let z : 0 + i ≡ i = omega arith in
    subst (λ y. index_of (Const (record { 0 = y })) (names_of P s) ≡ length (constants_from s 0 (take i P.constants))) z
    (constant_here s 0 P.constants i (numerals_of s P.numerals) (λ c e. sym (ap sort_or e)) (λ e. ap (λ o. numerals_of (sort_or o) P.numerals) e))
