-- Marks on atoms, one by one.
use Rattle.std.proofs.Common.{◌≡◌, ℕ, Bool, true, false, cond, eqb, ◌&&◌, List, ◌⊎◌, refl, sym, ap, ◌∙◌, inl, inr}
use Rattle.std.proofs.lemmas.Bool.{cases_Bool, false≢true}
use Rattle.clause_log.specs.Literals.{Literal, has_atom}
use Rattle.clause_search.specs.declared.marks.Mark.{Mark}
use Rattle.clause_search.specs.declared.marks.Mark.TheVariants.{Unseen, Open, Resolved}
use Rattle.clause_search.specs.Cuts.{is_unseen, is_open, is_resolved, marked, opened}

-- the mark of an atom, after a clause that has it or not
abbrev pub up : Bool → Mark → Mark
up h m = cond (h && is_unseen m) Open m

up_open : (h : Bool) (m : Mark) → is_open m ≡ true → is_open (up h m) ≡ true
up_open h Unseen e = absurd (false≢true e)
up_open true Open e = refl
up_open false Open e = refl
up_open h Resolved e = absurd (false≢true e)

up_resolved : (h : Bool) (m : Mark) → is_resolved m ≡ true → is_resolved (up h m) ≡ true
up_resolved h Unseen e = absurd (false≢true e)
up_resolved h Open e = absurd (false≢true e)
up_resolved true Resolved e = refl
up_resolved false Resolved e = refl

up_has : (m : Mark) → is_resolved m ≡ false → is_open (up true m) ≡ true
up_has Unseen e = refl
up_has Open e = refl
up_has Resolved e = absurd (false≢true (sym e))

was_open : (h : Bool) (m : Mark) → is_open (up h m) ≡ true → (is_open m ≡ true) ⊎ (h ≡ true)
was_open true m e = inr refl
was_open false m e = inl e

was_resolved : (h : Bool) (m : Mark) → is_resolved (up h m) ≡ true → is_resolved m ≡ true
was_resolved true Unseen e = e
was_resolved true Open e = e
was_resolved true Resolved e = e
was_resolved false m e = e

pub not_both : (m : Mark) → is_open m ≡ true → is_resolved m ≡ true → ⊥
not_both Unseen e k = false≢true e
not_both Open e k = false≢true k
not_both Resolved e k = false≢true e

-- ---- one atom resolved, and the others of a clause opened

abbrev pub resolved_by : ℕ → (ℕ → Mark) → List Literal → ℕ → Mark
resolved_by x of c = opened (marked x Resolved of) c

mark_here : (x : ℕ) (of : ℕ → Mark) (a : ℕ) → eqb a x ≡ true → marked x Resolved of a ≡ Resolved
mark_here x of a t = ap (λ b. cond b Resolved (of a)) t

mark_apart : (x : ℕ) (of : ℕ → Mark) (a : ℕ) → eqb a x ≡ false → marked x Resolved of a ≡ of a
mark_apart x of a t = ap (λ b. cond b Resolved (of a)) t

pub is_now_resolved : (x : ℕ) (of : ℕ → Mark) (c : List Literal) (a : ℕ) → eqb a x ≡ true → is_resolved (resolved_by x of c a) ≡ true
is_now_resolved x of c a t = up_resolved (has_atom a c) (marked x Resolved of a) (ap is_resolved (mark_here x of a t))

pub stays_open : (x : ℕ) (of : ℕ → Mark) (c : List Literal) (a : ℕ) → eqb a x ≡ false → is_open (of a) ≡ true → is_open (resolved_by x of c a) ≡ true
stays_open x of c a t e = up_open (has_atom a c) (marked x Resolved of a) (ap is_open (mark_apart x of a t) ∙ e)

pub stays_resolved : (x : ℕ) (of : ℕ → Mark) (c : List Literal) (a : ℕ) → eqb a x ≡ false → is_resolved (of a) ≡ true → is_resolved (resolved_by x of c a) ≡ true
stays_resolved x of c a t e = up_resolved (has_atom a c) (marked x Resolved of a) (ap is_resolved (mark_apart x of a t) ∙ e)

pub gets_open : (x : ℕ) (of : ℕ → Mark) (c : List Literal) (a : ℕ) → eqb a x ≡ false → has_atom a c ≡ true → is_resolved (of a) ≡ false → is_open (resolved_by x of c a) ≡ true
gets_open x of c a t h e =
    ap (λ b. is_open (up b (marked x Resolved of a))) h ∙ up_has (marked x Resolved of a) (ap is_resolved (mark_apart x of a t) ∙ e)

pub open_from : (x : ℕ) (of : ℕ → Mark) (c : List Literal) (a : ℕ) → is_open (resolved_by x of c a) ≡ true → (eqb a x ≡ false) × ((is_open (of a) ≡ true) ⊎ (has_atom a c ≡ true))
open_from x of c a e =
    elim (cases_Bool (eqb a x)) [
      | inl t ↦ absurd (not_both (resolved_by x of c a) e (is_now_resolved x of c a t))
      | inr t ↦ (
        t,
        elim (was_open (has_atom a c) (marked x Resolved of a) e) [
          | inl o ↦ inl (sym (ap is_open (mark_apart x of a t)) ∙ o)
          | inr h ↦ inr h
        ],
      )
    ]

pub resolved_from : (x : ℕ) (of : ℕ → Mark) (c : List Literal) (a : ℕ) → is_resolved (resolved_by x of c a) ≡ true → (eqb a x ≡ true) ⊎ (is_resolved (of a) ≡ true)
resolved_from x of c a e =
    elim (cases_Bool (eqb a x)) [
      | inl t ↦ inl t
      | inr t ↦ inr (sym (ap is_resolved (mark_apart x of a t)) ∙ was_resolved (has_atom a c) (marked x Resolved of a) e)
    ]

-- ---- the atoms of a first clause opened

pub first_open : (c : List Literal) (a : ℕ) → has_atom a c ≡ true → is_open (opened (λ x. Unseen) c a) ≡ true
first_open c a h = ap (λ b. is_open (up b Unseen)) h

pub open_first : (c : List Literal) (a : ℕ) → is_open (opened (λ x. Unseen) c a) ≡ true → has_atom a c ≡ true
open_first c a e = elim (was_open (has_atom a c) Unseen e) [
  | inl o ↦ absurd (false≢true o)
  | inr h ↦ h
]

pub never_resolved : (c : List Literal) (a : ℕ) → is_resolved (opened (λ x. Unseen) c a) ≡ true → ⊥
never_resolved c a e = false≢true (was_resolved (has_atom a c) Unseen e)
