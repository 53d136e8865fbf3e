-- Trails, entry by entry.
use Rattle.std.proofs.Common.{◌≡◌, ℕ, zero, suc, List, [], ◌∷◌, ◌++◌, Option, Some, None, refl, sym, ap, ◌∙◌, subst}
use Rattle.std.proofs.lemmas.List.{append_assoc, append-nil}
use Rattle.general_facts.proofs.Lists.{slice_get-append}
use Rattle.clause_log.specs.Literals.{Literal}
use Rattle.clause_log.specs.Assignments.{Assignment, no_values, assign}
use Rattle.clause_log.specs.Refutations.{clause_at, unit_at}
use Rattle.clause_search.specs.Trails.{after, values_of, AreNew, IsForced, Fits, IsTrail, Extends}
use Rattle.clause_search.specs.declared.trail.Entry.{Entry}

pub after-append : (f : Assignment) (xs ys : List Entry) → after f (xs ++ ys) ≡ after (after f xs) ys
after-append f [] ys = refl
after-append f (x ∷ xs) ys = after-append (assign x.literal f) xs ys

pub new-append : (f : Assignment) (xs ys : List Entry) → AreNew f xs → AreNew (after f xs) ys → AreNew f (xs ++ ys)
new-append f [] ys h k = k
new-append f (x ∷ xs) ys h k = (h.0, new-append (assign x.literal f) xs ys h.1 k)

pub new-front : (f : Assignment) (xs ys : List Entry) → AreNew f (xs ++ ys) → AreNew f xs
new-front f [] ys h = tt
new-front f (x ∷ xs) ys h = (h.0, new-front (assign x.literal f) xs ys h.1)

pub new-back : (f : Assignment) (xs ys : List Entry) → AreNew f (xs ++ ys) → AreNew (after f xs) ys
new-back f [] ys h = h
new-back f (x ∷ xs) ys h = new-back (assign x.literal f) xs ys h.1

pub trail-append : (atoms : ℕ) (cs : List (List Literal)) (f : Assignment) (xs ys : List Entry) → IsTrail atoms cs f xs → IsTrail atoms cs (after f xs) ys → IsTrail atoms cs f (xs ++ ys)
trail-append atoms cs f [] ys h k = k
trail-append atoms cs f (x ∷ xs) ys h k = (h.0, trail-append atoms cs (assign x.literal f) xs ys h.1 k)

pub trail-front : (atoms : ℕ) (cs : List (List Literal)) (f : Assignment) (xs ys : List Entry) → IsTrail atoms cs f (xs ++ ys) → IsTrail atoms cs f xs
trail-front atoms cs f [] ys h = tt
trail-front atoms cs f (x ∷ xs) ys h = (h.0, trail-front atoms cs (assign x.literal f) xs ys h.1)

pub trail-back : (atoms : ℕ) (cs : List (List Literal)) (f : Assignment) (xs ys : List Entry) → IsTrail atoms cs f (xs ++ ys) → IsTrail atoms cs (after f xs) ys
trail-back atoms cs f [] ys h = h
trail-back atoms cs f (x ∷ xs) ys h = trail-back atoms cs (assign x.literal f) xs ys h.1

pub clause_at-more : (cs ds : List (List Literal)) (h : ℕ) (c : List Literal) → clause_at cs h ≡ Some c → clause_at (cs ++ ds) h ≡ Some c
clause_at-more cs ds zero c e = absurd (let n : None ≡ Some c = e in cc)
clause_at-more cs ds (suc i) c e = slice_get-append cs ds i c e

unit_at-by : (cs ds : List (List Literal)) (f : Assignment) (h : ℕ) (l : Literal) (o : Option (List Literal)) → clause_at cs h ≡ o → unit_at f o ≡ Some l → unit_at f (clause_at (cs ++ ds) h) ≡ Some l
unit_at-by cs ds f h l None e u = absurd (let n : None ≡ Some l = u in cc)
unit_at-by cs ds f h l (Some c) e u = ap (unit_at f) (clause_at-more cs ds h c e) ∙ u

forced-more : (cs ds : List (List Literal)) (f : Assignment) (l : Literal) (r : Option ℕ) → IsForced cs f l r → IsForced (cs ++ ds) f l r
forced-more cs ds f l None h = tt
forced-more cs ds f l (Some r) h = (unit_at-by cs ds f r l (clause_at cs r) refl h.0, h.1)

-- more clauses change nothing
pub trail-more : (atoms : ℕ) (cs ds : List (List Literal)) (f : Assignment) (es : List Entry) → IsTrail atoms cs f es → IsTrail atoms (cs ++ ds) f es
trail-more atoms cs ds f [] h = tt
trail-more atoms cs ds f (e ∷ es) h =
    (record { new = h.0.new; within = h.0.within; forced = forced-more cs ds f e.literal e.reason h.0.forced }, trail-more atoms cs ds (assign e.literal f) es h.1)

pub extends_not : (atoms : ℕ) (cs : List (List Literal)) (old : List Entry) → Extends atoms cs old old
extends_not atoms cs old = record { more = []; is = sym (append-nil old); fits = tt }

pub extends_one : (atoms : ℕ) (cs : List (List Literal)) (old new : List Entry) (l : Literal) (h : ℕ) → new ≡ old ++ record { literal = l; reason = Some h } ∷ []
    → (let e : Entry = record { literal = l; reason = Some h } in Fits atoms cs (values_of old) e) → Extends atoms cs old new
extends_one atoms cs old new l h e f = record { more = record { literal = l; reason = Some h } ∷ []; is = e; fits = (f, tt) }

pub extends_on : (atoms : ℕ) (cs : List (List Literal)) (old mid new : List Entry) → Extends atoms cs old mid → Extends atoms cs mid new → Extends atoms cs old new
extends_on atoms cs old mid new h k = record {
  more = h.more ++ k.more;
  is = k.is ∙ ap (λ z. z ++ k.more) h.is ∙ append_assoc old h.more k.more;
  fits = trail-append atoms cs (values_of old) h.more k.more h.fits
      (subst (λ f. IsTrail atoms cs f k.more) (ap values_of h.is ∙ after-append no_values old h.more) k.fits);
}

-- a trail stays one
pub extended : (atoms : ℕ) (cs : List (List Literal)) (old new : List Entry) → Extends atoms cs old new → IsTrail atoms cs no_values old → IsTrail atoms cs no_values new
extended atoms cs old new h t = subst (IsTrail atoms cs no_values) (sym h.is) (trail-append atoms cs no_values old h.more t h.fits)
