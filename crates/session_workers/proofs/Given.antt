-- Links that are given back, one after another.
use Rattle.std.proofs.Common.{◌≡◌, ℕ, ◌+◌, List, [], ◌∷◌, ◌++◌, suc, length, refl, sym, ap, ◌∙◌, arith, append_assoc, length-append}
use Rattle.std.specs.Prelude.{Option, Some, None, map, sum_by}
use Rattle.std.proofs.lemmas.List.{append-nil, length-map, map-append}
use Rattle.std.proofs.lemmas.List.Sums.{sum_by-append}
use Rattle.vericon_links.specs.Listeners.{GivenOneMore}
use Rattle.link_sessions.specs.Links.{LinkView}
use Rattle.session_workers.specs.Told.{told_given}
use Rattle.session_workers.specs.declared.row.Links.{Links}
use Rattle.session_workers.specs.declared.terms.Terms.{Terms}
use Rattle.session_workers.specs.Teams.{views_of}
use Rattle.session_workers.specs.Endings.{GivenMore, numbered, numbered_from}

pub given_none : (given : Option (List (ℕ × LinkView))) → GivenMore given given []
given_none None = refl
given_none (Some l) = ap (λ (x : List (ℕ × LinkView)). Some x) (sym (append-nil l))

-- after some links the others are given back
pub given_both : (old new final : Option (List (ℕ × LinkView))) (some more : List (ℕ × LinkView)) → GivenMore old new some → GivenMore new final more → GivenMore old final (some ++ more)
given_both None new final some more one rest = after new one rest
  where
    after : (new : Option (List (ℕ × LinkView))) → new ≡ None → GivenMore new final more → final ≡ None
    after None is h = h
    after (Some l) is h = absurd (cc)
given_both (Some l) new final some more one rest = after new one rest
  where
    after : (new : Option (List (ℕ × LinkView))) → new ≡ Some (l ++ some) → GivenMore new final more → final ≡ Some (l ++ (some ++ more))
    after None is h = absurd (cc)
    after (Some m) is h =
        let e : m ≡ l ++ some = cc in
        h ∙ ap (λ (x : List (ℕ × LinkView)). Some x) (ap (λ (x : List (ℕ × LinkView)). x ++ more) e ∙ append_assoc l some more)

-- what one link that is given back adds to what is told
pub given_one : {K : Type 0} (see : K → LinkView) (old new : Option (List (ℕ × K))) (q : ℕ) (k : K) → GivenOneMore old new q k → GivenMore (told_given see old) (told_given see new) ((q, see k) ∷ [])
given_one see None new q k is = ap (told_given see) is
given_one {K = K} see (Some l) new q k is =
    ap (told_given see) is ∙ ap (λ (x : List (ℕ × LinkView)). Some x) (map-append (λ (pair : ℕ × K). (pair.0, see pair.1)) l ((q, k) ∷ []))

pub given_next : {K : Type 0} (see : K → LinkView) (old new : Option (List (ℕ × K))) (final : Option (List (ℕ × LinkView))) (q : ℕ) (k : K) (rest : List (ℕ × LinkView)) → GivenOneMore old new q k → GivenMore (told_given see new) final rest
    → GivenMore (told_given see old) final ((q, see k) ∷ rest)
given_next see old new final q k rest is more = given_both (told_given see old) (told_given see new) final ((q, see k) ∷ []) rest (given_one see old new q k is) more

-- ---- links as they are kept, and what is told of them
no_length : {X : Type 0} (xs : List X) → length xs ≡ 0 → xs ≡ []
no_length [] e = refl
no_length (x ∷ xs) e = absurd (omega arith)

pub none_left : {X : Type 0} (xs : List X) (n : ℕ) → n ≡ length xs → n ≡ 0 → xs ≡ []
none_left xs n e z = no_length xs (sym e ∙ z)

module _ {K : Type 0} (see : K → LinkView) where
  pub views_more : (links : List (Links K)) (left : Links K) → views_of see (links ++ left ∷ []) ≡ views_of see links ++ map see left.links.items ∷ []
  views_more [] left = refl
  views_more (x ∷ links) left = ap (λ (l : List (List LinkView)). map see x.links.items ∷ l) (views_more links left)

  pub views_length : (links : List (Links K)) → length (views_of see links) ≡ length links
  views_length [] = refl
  views_length (x ∷ links) = ap suc (views_length links)

  -- as many numbers as links
  numbered_from_length : (t : Terms) (q : ℕ) (views : List LinkView) → length (numbered_from t q views) ≡ length views
  numbered_from_length t q [] = refl
  numbered_from_length t q (k ∷ views) = ap suc (numbered_from_length t (q + t.workers) views)

  pub numbered_length : (t : Terms) (seat : ℕ) (links : List (Links K)) → length (numbered t seat (views_of see links)) ≡ sum_by (λ left. length left.links.items) links
  numbered_length t seat [] = refl
  numbered_length t seat (x ∷ links) =
      let all = length-append (numbered_from t (1 + seat) (map see x.links.items)) (numbered t (seat + 1) (views_of see links)) in
      let first = numbered_from_length t (1 + seat) (map see x.links.items) ∙ length-map x.links.items see in
      let rest = numbered_length t (seat + 1) links in
      let sum = sum_by-append (λ (left : Links K). length left.links.items) (x ∷ []) links in
      omega (arith, all, first, rest, sum)
