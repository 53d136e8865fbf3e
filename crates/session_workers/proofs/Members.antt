-- What holds of members of lists.
use Rattle.std.proofs.Common.{◌≡◌, ℕ, ◌<◌, ◌≤◌, List, [], ◌∷◌, ◌++◌, length, get_or, Bool, true, false, refl, sym, ap, ◌∙◌, subst, ⊎_elim, arith, length-append}
use Rattle.std.specs.Prelude.{All, filter}
use Rattle.std.proofs.lemmas.Bool.{cases_lt}
use Rattle.std.proofs.lemmas.List.Elements.{All-cons, All-head, All-nil, All-tail}
use Rattle.std.proofs.Math.ListN.{get_or-append}
use Rattle.std.proofs.Math.Seq.{get_or-append_seam}
use Rattle.session_workers.specs.Teams.{EachAt}

module _ {X : Type 0} where
  -- ---- a member and its place

  each_last : (P : ℕ → X → Type 0) (xs : List X) (x : X) → EachAt P (xs ++ x ∷ []) → P (length xs) x
  each_last P xs x h = subst (P (length xs)) (get_or-append_seam xs x [] x) (h (length xs) x (omega (arith, length-append xs (x ∷ []))))

  each_front : (P : ℕ → X → Type 0) (xs : List X) (x : X) → EachAt P (xs ++ x ∷ []) → EachAt P xs
  each_front P xs x h k d lt = subst (P k) (get_or-append xs (x ∷ []) d k lt) (h k d (omega (arith, length-append xs (x ∷ []))))

  -- what holds of each place holds of the last, and of the others
  pub each_popped : (P : ℕ → X → Type 0) (old now : List X) (x : X) → old ≡ now ++ x ∷ [] → EachAt P old → EachAt P now × P (length now) x
  each_popped P old now x is h =
      let t : EachAt P (now ++ x ∷ []) = subst (EachAt P) is h in
      (each_front P now x t, each_last P now x t)

  each_more : (P : ℕ → X → Type 0) (xs : List X) (x : X) → EachAt P xs → P (length xs) x → EachAt P (xs ++ x ∷ [])
  each_more P xs x h last k d lt = ⊎_elim old new (cases_lt k (length xs))
    where
      old : k < length xs → P k (get_or (xs ++ x ∷ []) k d)
      old l = subst (P k) (sym (get_or-append xs (x ∷ []) d k l)) (h k d l)

      new : length xs ≤ k → P k (get_or (xs ++ x ∷ []) k d)
      new le =
          let n = length-append xs (x ∷ []) in
          let is : length xs ≡ k = omega arith in
          subst (λ (j : ℕ). P j (get_or (xs ++ x ∷ []) j d)) is (subst (P (length xs)) (sym (get_or-append_seam xs x [] d)) last)

  pub each_pushed : (P : ℕ → X → Type 0) (old now : List X) (x : X) → now ≡ old ++ x ∷ [] → EachAt P old → P (length old) x → EachAt P now
  each_pushed P old now x is h last = subst (EachAt P) (sym is) (each_more P old x h last)

  -- ---- members that pass a test

  -- what holds of all that pass
  pub filter_all : (P : X → Type 0) (test : X → Bool) (xs : List X) → All P (filter test xs) → All (λ x. test x ≡ true → P x) xs
  filter_all P test [] h = All-nil (λ x. test x ≡ true → P x)
  filter_all P test (x ∷ xs) h = cases (λ t. filter_all P test xs t) (test x) refl
    where
      cases : (All P (filter test xs) → All (λ y. test y ≡ true → P y) xs) → (b : Bool) → test x ≡ b → All (λ y. test y ≡ true → P y) (x ∷ xs)
      cases rest true is =
          let t : All P (x ∷ filter test xs) = rw is at h in
          All-cons (λ y. test y ≡ true → P y) x xs (λ e. All-head P x (filter test xs) t) (rest (All-tail P x (filter test xs) t))
      cases rest false is =
          let t : All P (filter test xs) = rw is at h in
          All-cons (λ y. test y ≡ true → P y) x xs (λ e. let n : false ≡ true = sym is ∙ e in absurd (cc)) (rest t)

  -- none passes
  pub filter_none : (test : X → Bool) (xs : List X) → All (λ x. test x ≡ false) xs → filter test xs ≡ []
  filter_none test [] h = refl
  filter_none test (x ∷ xs) h = rw (All-head (λ y. test y ≡ false) x xs h) (filter_none test xs (All-tail (λ y. test y ≡ false) x xs h))

  -- a narrower test after a wider one
  pub filter_twice : (narrow wide : X → Bool) (xs : List X) → All (λ x. narrow x ≡ true → wide x ≡ true) xs → filter narrow xs ≡ filter narrow (filter wide xs)
  filter_twice narrow wide [] h = refl
  filter_twice narrow wide (x ∷ xs) h =
      cases (filter_twice narrow wide xs (All-tail (λ y. narrow y ≡ true → wide y ≡ true) x xs h)) (narrow x) (wide x) refl refl
    where
      first : narrow x ≡ true → wide x ≡ true
      first = All-head (λ y. narrow y ≡ true → wide y ≡ true) x xs h

      cases : filter narrow xs ≡ filter narrow (filter wide xs) → (n w : Bool) → narrow x ≡ n → wide x ≡ w → filter narrow (x ∷ xs) ≡ filter narrow (filter wide (x ∷ xs))
      cases rest true true a b = rw (b, a) (ap (λ (l : List X). x ∷ l) rest)
      cases rest true false a b = let e : false ≡ true = sym b ∙ first a in absurd (cc)
      cases rest false true a b = rw (b, a) rest
      cases rest false false a b = rw (a, b) rest

  -- what holds of each holds of a beginning
  pub all_beginning : (P : X → Type 0) (xs ys : List X) → All P (xs ++ ys) → All P xs
  all_beginning P xs ys h k d lt = subst P (get_or-append xs ys d k lt) (h k d (omega (arith, length-append xs ys)))
