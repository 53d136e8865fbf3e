-- The table of a trail keeps the values that its entries give.
use Rattle.std.proofs.Common.{◌≡◌, ◌<◌, ℕ, Bool, false, cond, eqb, get_or, length, List, [], ◌∷◌, ◌++◌, Option, Some, None, Result, Ok, Err, OnOk, sym, ap, ap₂, ◌∙◌, subst, inl, inr, eqb-true}
use Rattle.std.specs.Prelude.{is_ok, is_err}
use Rattle.std.proofs.Math.Path.{fun_ext}
use Rattle.std.proofs.lemmas.Bool.{cases_Bool, cases_lt, false≢true}
use Rattle.std.proofs.lemmas.List.{get_or_past}
use Rattle.general_facts.proofs.Numbers.{self_equal}
use Rattle.clause_log.specs.Literals.{Literal}
use Rattle.clause_log.specs.Assignments.{Assignment, no_values, assign}
use Rattle.clause_search.specs.declared.trail.Entry.{Entry}
use Rattle.clause_search.specs.Trails.{values_of, AreNew}
use Rattle.clause_search.proofs.Places.{none_some, assign_at, assign_apart}
use Rattle.clause_search.proofs.Entries.{after-append, new-append, new-front, new-back}

pub when_ok : {T E : Type 0} (r : Result T E) (P : Type 0) → is_err r ≡ false → OnOk r P → P
when_ok (Ok x) P e h = h
when_ok (Err x) P e h = absurd (false≢true (sym e))

pub items_ok : {T E X : Type 0} (r : Result T E) (xs ys zs : List X) → is_err r ≡ false → zs ≡ (cond (is_ok r) xs ys) → zs ≡ xs
items_ok (Ok x) xs ys zs e h = h
items_ok (Err x) xs ys zs e h = absurd (false≢true (sym e))

put_is : (f g : Assignment) (l : Literal) (key : ℕ) (w : Bool) → key ≡ l.atom → w ≡ l.positive → ((q : ℕ) → g q ≡ cond (eqb q key) (Some w) (f q)) → g ≡ assign l f
put_is f g l key w k p u = fun_ext (λ q. u q ∙ ap₂ (λ t v. cond t (Some v) (f q)) (ap (eqb q) k) p)

taken_at : (f : Assignment) (l : Literal) (q : ℕ) → f l.atom ≡ None → cond (eqb q l.atom) None (assign l f q) ≡ f q
taken_at f l q n =
    elim (cases_Bool (eqb q l.atom)) [
      | inl t ↦ ap (λ b. cond b None (assign l f q)) t ∙ sym (ap f (eqb-true q l.atom t) ∙ n)
      | inr t ↦ ap (λ b. cond b None (assign l f q)) t ∙ assign_apart f l q t
    ]

taken_is : (f g h : Assignment) (l : Literal) (key : ℕ) → key ≡ l.atom → f l.atom ≡ None → h ≡ assign l f → ((q : ℕ) → g q ≡ cond (eqb q key) None (h q)) → g ≡ f
taken_is f g h l key k n e u = fun_ext (λ q. u q ∙ ap₂ (λ t o. cond t None o) (ap (eqb q) k) (ap (λ z. z q) e) ∙ taken_at f l q n)

-- an entry more
pub pushed : (f g : Assignment) (old new : List Entry) (l : Literal) (r : Option ℕ) (key : ℕ) (w : Bool) → key ≡ l.atom → w ≡ l.positive → new ≡ old ++ record { literal = l; reason = r } ∷ []
    → (f ≡ values_of old) × AreNew no_values old → values_of old l.atom ≡ None → ((q : ℕ) → g q ≡ cond (eqb q key) (Some w) (f q)) → (g ≡ values_of new) × AreNew no_values new
pushed f g old new l r key w k p made tied n u =
    let more : List Entry = record { literal = l; reason = r } ∷ [] in (
      put_is f g l key w k p u ∙ ap (assign l) tied.0 ∙ sym (after-append no_values old more) ∙ sym (ap values_of made),
      subst (AreNew no_values) (sym made) (new-append no_values old more tied.1 (n, tt)),
    )

-- the last entry gone
pub popped : (f g : Assignment) (old new : List Entry) (e : Entry) (key : ℕ) → key ≡ e.literal.atom → old ≡ new ++ e ∷ [] → (f ≡ values_of old) × AreNew no_values old
    → ((q : ℕ) → g q ≡ cond (eqb q key) None (f q)) → (g ≡ values_of new) × AreNew no_values new
popped f g old new e key k is tied u =
    let whole = subst (AreNew no_values) is tied.1 in (
      taken_is (values_of new) g f e.literal key k (new-back no_values new (e ∷ []) whole).0 (tied.0 ∙ ap values_of is ∙ after-append no_values new (e ∷ [])) u,
      new-front no_values new (e ∷ []) whole,
    )

-- the last entry's atom has a place in the table
pub last_place : (values : List (Option Bool)) (old new : List Entry) (e : Entry) → old ≡ new ++ e ∷ [] → (λ a. get_or values a None) ≡ values_of old → e.literal.atom < length values
last_place values old new e is tied =
    elim (cases_lt e.literal.atom (length values)) [
      | inl inside ↦ inside
      | inr past ↦
          absurd (none_some e.literal.positive
          (sym (ap (λ f. f e.literal.atom) (tied ∙ ap values_of is ∙ after-append no_values new (e ∷ [])) ∙ assign_at (values_of new) e.literal e.literal.atom (self_equal e.literal.atom)) ∙ get_or_past values e.literal.atom None past))
    ]
