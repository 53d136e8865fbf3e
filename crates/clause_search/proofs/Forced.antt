-- What a clause forces, and the values that stay.
use Rattle.std.proofs.Common.{◌≡◌, ℕ, Bool, true, false, cond, not, eqb, List, [], ◌∷◌, ◌++◌, Option, Some, None, refl, sym, ap, ap₂, ◌∙◌, subst, inl, inr, eqb-true}
use Rattle.std.specs.Prelude.{is_none}
use Rattle.std.specs.Option.{option_map}
use Rattle.std.proofs.Math.Bool.{or-false}
use Rattle.std.proofs.lemmas.Bool.{or_left, or_right, or_cases, false≢true}
use Rattle.std.proofs.lemmas.Option.{same_Some}
use Rattle.general_facts.proofs.Numbers.{self_equal}
use Rattle.clause_log.specs.Literals.{Literal, has_atom, signed}
use Rattle.clause_log.specs.Assignments.{Assignment, no_values, says_false, is_false, assign, open_literals, only_new, unit_literal, is_empty, is_conflict}
use Rattle.clause_search.specs.declared.trail.Entry.{Entry}
use Rattle.clause_search.specs.Trails.{after, values_of, IsTrail}
use Rattle.clause_search.proofs.Places.{none_some, value_stays}
use Rattle.clause_search.proofs.Entries.{after-append, trail-back}

pub none_open : (f : Assignment) (m : Literal) → f m.atom ≡ None → is_false f m ≡ false
none_open f m e = ap (λ o. says_false (option_map (signed m.positive) o)) e

chosen : (t : Bool) (l k : Literal) → cond t (Some l) None ≡ Some k → (t ≡ true) × (l ≡ k)
chosen true l k e = (refl, same_Some l k e)
chosen false l k e = absurd (none_some k (sym e))

none_by : (o : Option Bool) → is_none o ≡ true → o ≡ None
none_by None e = refl
none_by (Some b) e = absurd (false≢true e)

pub only_is : (f : Assignment) (ls : List Literal) (l : Literal) → only_new f ls ≡ Some l → (ls ≡ l ∷ []) × (f l.atom ≡ None)
only_is f [] l e = absurd (none_some l (sym e))
only_is f (k ∷ []) l e =
    let p = chosen (is_none (f k.atom)) k l e in
    (ap (λ z. z ∷ []) p.1, ap (λ z. f z.atom) (sym p.1) ∙ none_by (f k.atom) p.0)
only_is f (k ∷ m ∷ ls) l e = absurd (none_some l (sym e))

pub only_from : (f : Assignment) (ls : List Literal) (l : Literal) → ls ≡ l ∷ [] → f l.atom ≡ None → only_new f ls ≡ Some l
only_from f ls l e n = ap (only_new f) e ∙ ap (λ o. cond (is_none o) (Some l) None) n

-- ---- clauses look at their own atoms alone

abbrev pub Agree : Assignment → Assignment → List Literal → Type 0
Agree g f c = (a : ℕ) → has_atom a c ≡ true → g a ≡ f a

pub open_same : (g f : Assignment) (c : List Literal) → Agree g f c → open_literals g c ≡ open_literals f c
open_same g f [] h = refl
open_same g f (l ∷ ls) h =
    let here : g l.atom ≡ f l.atom = h l.atom (or_left (eqb l.atom l.atom) (has_atom l.atom ls) (self_equal l.atom)) in
    let deep : open_literals g ls ≡ open_literals f ls = open_same g f ls (λ a e. h a (or_right (eqb a l.atom) (has_atom a ls) e)) in
    ap₂ (λ o z. cond (not (says_false (option_map (signed l.positive) o))) (l ∷ z) z) here deep

pub unit_same : (g f : Assignment) (c : List Literal) (l : Literal) → Agree g f c → g l.atom ≡ None → unit_literal f c ≡ Some l → unit_literal g c ≡ Some l
unit_same g f c l h n u = only_from g (open_literals g c) l (open_same g f c h ∙ (only_is f (open_literals f c) l u).0) n

later_has : (a : ℕ) (m : Literal) (ls : List Literal) (b : Bool) → has_atom a ls ≡ true → has_atom a (cond b (m ∷ ls) ls) ≡ true
later_has a m ls true e = or_right (eqb a m.atom) (has_atom a ls) e
later_has a m ls false e = e

here_has : (a : ℕ) (m : Literal) (ls : List Literal) (b : Bool) → b ≡ false → eqb a m.atom ≡ true → has_atom a (cond (not b) (m ∷ ls) ls) ≡ true
here_has a m ls true e t = absurd (false≢true (sym e))
here_has a m ls false e t = or_left (eqb a m.atom) (has_atom a ls) t

-- an atom without a value is left open
pub open_has : (f : Assignment) (c : List Literal) (a : ℕ) → has_atom a c ≡ true → f a ≡ None → has_atom a (open_literals f c) ≡ true
open_has f [] a h n = absurd (false≢true h)
open_has f (m ∷ ms) a h n =
    elim (or_cases (eqb a m.atom) (has_atom a ms) h) [
      | inl t ↦ here_has a m (open_literals f ms) (is_false f m) (none_open f m (sym (ap f (eqb-true a m.atom t)) ∙ n)) t
      | inr t ↦ later_has a m (open_literals f ms) (not (is_false f m)) (open_has f ms a t n)
    ]

-- so it is that of the literal that the clause forces
pub none_is_forced : (f : Assignment) (c : List Literal) (l : Literal) (a : ℕ) → unit_literal f c ≡ Some l → has_atom a c ≡ true → f a ≡ None → eqb a l.atom ≡ true
none_is_forced f c l a u h n =
    sym (or-false (eqb a l.atom)) ∙ sym (ap (has_atom a) (only_is f (open_literals f c) l u).0) ∙ open_has f c a h n

has_none : (a : ℕ) (ls : List Literal) → is_empty ls ≡ true → has_atom a ls ≡ true → ⊥
has_none a [] e h = false≢true h
has_none a (l ∷ ls) e h = false≢true e

-- of a clause with false literals alone, each atom has a value
pub conflict_valued : (f : Assignment) (c : List Literal) (a : ℕ) → is_conflict f c ≡ true → has_atom a c ≡ true → f a ≡ None → ⊥
conflict_valued f c a k h n = has_none a (open_literals f c) k (open_has f c a h n)

-- ---- values stay

pub keeps : (atoms : ℕ) (cs : List (List Literal)) (f : Assignment) (es : List Entry) (a : ℕ) (b : Bool) → IsTrail atoms cs f es → f a ≡ Some b → after f es a ≡ Some b
keeps atoms cs f [] a b h e = e
keeps atoms cs f (x ∷ xs) a b h e = keeps atoms cs (assign x.literal f) xs a b h.1 (value_stays f x.literal a b h.0.new e)

pub stays : (atoms : ℕ) (cs : List (List Literal)) (trail rest gone : List Entry) → IsTrail atoms cs no_values trail → trail ≡ rest ++ gone → (a : ℕ) (b : Bool) → values_of rest a ≡ Some b → values_of trail a ≡ Some b
stays atoms cs trail rest gone t is a b e =
    ap (λ z. values_of z a) is
    ∙ ap (λ f. f a) (after-append no_values rest gone)
    ∙ keeps atoms cs (values_of rest) gone a b (trail-back atoms cs no_values rest gone (subst (IsTrail atoms cs no_values) is t)) e

valued_by : (o : Option Bool) → is_none o ≡ false → (b : Bool) × (o ≡ Some b)
valued_by None e = absurd (false≢true (sym e))
valued_by (Some b) e = (b, refl)

pub value_of : (f : Assignment) (a : ℕ) → is_none (f a) ≡ false → (b : Bool) × (f a ≡ Some b)
value_of f a e = valued_by (f a) e

pub some_value : (o : Option Bool) (b : Bool) → o ≡ Some b → is_none o ≡ false
some_value o b e = ap is_none e

none_by_cases : (o : Option Bool) → ((b : Bool) → o ≡ Some b → ⊥) → o ≡ None
none_by_cases None k = refl
none_by_cases (Some b) k = absurd (k b refl)

pub none_before_too : (atoms : ℕ) (cs : List (List Literal)) (trail rest gone : List Entry) → IsTrail atoms cs no_values trail → trail ≡ rest ++ gone → (a : ℕ) → values_of trail a ≡ None → values_of rest a ≡ None
none_before_too atoms cs trail rest gone t is a n = none_by_cases (values_of rest a) (λ b e. none_some b (sym (stays atoms cs trail rest gone t is a b e) ∙ n))
