-- Marks and the list of the atoms that have been seen.
use Rattle.std.proofs.Common.{◌≡◌, ℕ, ◌<◌, Bool, true, false, cond, not, eqb, ◌&&◌, ◌||◌, List, [], ◌∷◌, ◌++◌, get_or, length, refl, sym, ap, ap₂, ◌∙◌, inl, inr, eqb-true}
use Rattle.std.proofs.Math.Bool.{or-false}
use Rattle.std.proofs.lemmas.Bool.{cases_Bool, cases_lt, false≢true, and_parts, and_from, or_parts, or_right}
use Rattle.std.proofs.lemmas.List.{get_or_past}
use Rattle.std.proofs.lemmas.List.Folds.{list_any-append}
use Rattle.general_facts.proofs.Numbers.{self_equal, eqb-turned}
use Rattle.clause_log.specs.Literals.{Literal, has_atom, has_distinct_atoms}
use Rattle.clause_search.specs.declared.marks.Mark.{Mark}
use Rattle.clause_search.specs.declared.marks.Mark.TheVariants.{Unseen, Open, Resolved}
use Rattle.clause_search.specs.Cuts.{is_unseen, marked, opened, IsListed}

last_has : (a : ℕ) (rest : List Literal) (l : Literal) → has_atom a (rest ++ l ∷ []) ≡ (has_atom a rest || eqb a l.atom)
last_has a rest l = list_any-append (λ m. eqb a m.atom) rest (l ∷ []) ∙ ap (λ b. has_atom a rest || b) (or-false (eqb a l.atom))

not_by : (b : Bool) → not b ≡ true → b ≡ false
not_by true e = absurd (false≢true e)
not_by false e = refl

neither : (b c : Bool) → (b || c) ≡ false → (b ≡ false) × (c ≡ false)
neither true c e = absurd (false≢true (sym e))
neither false c e = (refl, e)

front_distinct : (rest : List Literal) (l : Literal) → has_distinct_atoms (rest ++ l ∷ []) ≡ true → (has_distinct_atoms rest ≡ true) × (has_atom l.atom rest ≡ false)
front_distinct [] l h = (refl, refl)
front_distinct (m ∷ ms) l h =
    let p = and_parts (not (has_atom m.atom (ms ++ l ∷ []))) (has_distinct_atoms (ms ++ l ∷ [])) h in
    let deep = front_distinct ms l p.1 in
    let apart = neither (has_atom m.atom ms) (eqb m.atom l.atom) (sym (last_has m.atom ms l) ∙ not_by (has_atom m.atom (ms ++ l ∷ [])) p.0) in
    (and_from (not (has_atom m.atom ms)) (has_distinct_atoms ms) (ap not apart.0) deep.0, ap₂ (λ b c. b || c) (eqb-turned l.atom m.atom ∙ apart.1) deep.1)

more_distinct : (seen : List Literal) (l : Literal) → has_distinct_atoms seen ≡ true → has_atom l.atom seen ≡ false → has_distinct_atoms (seen ++ l ∷ []) ≡ true
more_distinct [] l h n = refl
more_distinct (m ∷ ms) l h n =
    let p = and_parts (not (has_atom m.atom ms)) (has_distinct_atoms ms) h in
    let q = or_parts (eqb l.atom m.atom) (has_atom l.atom ms) n in
    and_from (not (has_atom m.atom (ms ++ l ∷ []))) (has_distinct_atoms (ms ++ l ∷ []))
    (ap not (last_has m.atom ms l ∙ ap₂ (λ b c. b || c) (not_by (has_atom m.atom ms) p.0) (eqb-turned m.atom l.atom ∙ q.0)))
    (more_distinct ms l p.1 q.1)

abbrev pub at : List Mark → ℕ → Mark
at ms a = get_or ms a Unseen

-- an atom that has been seen has a mark
pub has_place : (ms : List Mark) (seen : List Literal) (l : Literal) → IsListed (at ms) seen → has_atom l.atom seen ≡ true → l.atom < length ms
has_place ms seen l listed h =
    elim (cases_lt l.atom (length ms)) [
      | inl inside ↦ inside
      | inr past ↦ absurd (false≢true (sym (listed.tied l.atom ∙ ap not h) ∙ ap is_unseen (get_or_past ms l.atom Unseen past)))
    ]

pub last_place : (ms : List Mark) (seen rest : List Literal) (l : Literal) → IsListed (at ms) seen → seen ≡ rest ++ l ∷ [] → l.atom < length ms
last_place ms seen rest l listed is =
    has_place ms seen l listed (ap (has_atom l.atom) is ∙ last_has l.atom rest l ∙ or_right (has_atom l.atom rest) (eqb l.atom l.atom) (self_equal l.atom))

-- the last one taken away
pub cleared : (ms now : List Mark) (seen rest : List Literal) (l : Literal) → IsListed (at ms) seen → seen ≡ rest ++ l ∷ [] → ((a : ℕ) → at now a ≡ cond (eqb a l.atom) Unseen (at ms a)) → IsListed (at now) rest
cleared ms now seen rest l listed is put =
    let d = front_distinct rest l (sym (ap has_distinct_atoms is) ∙ listed.distinct) in
    record {
      tied = λ a. elim (cases_Bool (eqb a l.atom)) [
        | inl t ↦ ap is_unseen (put a ∙ ap (λ b. cond b Unseen (at ms a)) t) ∙ sym (ap not (ap (λ z. has_atom z rest) (eqb-true a l.atom t) ∙ d.1))
        | inr t ↦
            ap is_unseen (put a ∙ ap (λ b. cond b Unseen (at ms a)) t)
            ∙ listed.tied a
            ∙ ap not (ap (has_atom a) is ∙ last_has a rest l ∙ ap (λ b. has_atom a rest || b) t ∙ or-false (has_atom a rest))
      ];
      distinct = d.0;
    }

unseen_is : (m : Mark) → is_unseen m ≡ true → m ≡ Unseen
unseen_is Unseen e = refl
unseen_is Open e = absurd (false≢true e)
unseen_is Resolved e = absurd (false≢true e)

pub all_unseen : (ms : List Mark) (seen : List Literal) → IsListed (at ms) seen → seen ≡ [] → (a : ℕ) → at ms a ≡ Unseen
all_unseen ms seen listed is a = unseen_is (at ms a) (listed.tied a ∙ ap (λ z. not (has_atom a z)) is)

-- one more
pub listed_more : (ms now : List Mark) (seen more : List Literal) (l : Literal) → IsListed (at ms) seen → is_unseen (at ms l.atom) ≡ true → more ≡ seen ++ l ∷ [] → ((a : ℕ) → at now a ≡ cond (eqb a l.atom) Open (at ms a)) → IsListed (at now) more
listed_more ms now seen more l listed new is put =
    let absent : has_atom l.atom seen ≡ false = not_by (has_atom l.atom seen) (sym (listed.tied l.atom) ∙ new) in
    record {
      tied = λ a. elim (cases_Bool (eqb a l.atom)) [
        | inl t ↦ ap is_unseen (put a ∙ ap (λ b. cond b Open (at ms a)) t) ∙ sym (ap not (ap (has_atom a) is ∙ last_has a seen l ∙ or_right (has_atom a seen) (eqb a l.atom) t))
        | inr t ↦
            ap is_unseen (put a ∙ ap (λ b. cond b Open (at ms a)) t)
            ∙ listed.tied a
            ∙ sym (ap not (ap (has_atom a) is ∙ last_has a seen l ∙ ap (λ b. has_atom a seen || b) t ∙ or-false (has_atom a seen)))
      ];
      distinct = ap has_distinct_atoms is ∙ more_distinct seen l listed.distinct absent;
    }

pub listed_same : (ms now : List Mark) (seen more : List Literal) → IsListed (at ms) seen → more ≡ seen → ((a : ℕ) → at now a ≡ at ms a) → IsListed (at now) more
listed_same ms now seen more listed is same = record {
  tied = λ a. ap is_unseen (same a) ∙ listed.tied a ∙ sym (ap (λ z. not (has_atom a z)) is);
  distinct = ap has_distinct_atoms is ∙ listed.distinct;
}

-- ---- a clause, literal by literal

pub see_new : (of now : ℕ → Mark) (l : Literal) (ls : List Literal) → is_unseen (of l.atom) ≡ true → ((a : ℕ) → now a ≡ marked l.atom Open of a) → (a : ℕ) → opened now ls a ≡ opened of (l ∷ ls) a
see_new of now l ls new put a =
    elim (cases_Bool (eqb a l.atom)) [
      | inl t ↦
          (let open_now : now a ≡ Open = put a ∙ ap (λ b. cond b Open (of a)) t in
          ap (λ m. cond (has_atom a ls && is_unseen m) Open m) open_now
          ∙ and_false (has_atom a ls)
          ∙ sym (ap₂ (λ b c. cond ((b || has_atom a ls) && c) Open (of a)) t (ap (λ z. is_unseen (of z)) (eqb-true a l.atom t) ∙ new)))
      | inr t ↦
          ap (λ m. cond (has_atom a ls && is_unseen m) Open m) (put a ∙ ap (λ b. cond b Open (of a)) t)
          ∙ sym (ap (λ b. cond ((b || has_atom a ls) && is_unseen (of a)) Open (of a)) t)
    ]
  where
    and_false : (b : Bool) → cond (b && false) Open Open ≡ Open
    and_false true = refl
    and_false false = refl

pub see_old : (of : ℕ → Mark) (l : Literal) (ls : List Literal) → is_unseen (of l.atom) ≡ false → (a : ℕ) → opened of ls a ≡ opened of (l ∷ ls) a
see_old of l ls old a =
    elim (cases_Bool (eqb a l.atom)) [
      | inl t ↦
          (let seen : is_unseen (of a) ≡ false = ap (λ z. is_unseen (of z)) (eqb-true a l.atom t) ∙ old in
          ap (λ c. cond (has_atom a ls && c) Open (of a)) seen
          ∙ and_false (has_atom a ls) (of a)
          ∙ sym (ap (λ c. cond ((eqb a l.atom || has_atom a ls) && c) Open (of a)) seen ∙ and_false (eqb a l.atom || has_atom a ls) (of a)))
      | inr t ↦ sym (ap (λ b. cond ((b || has_atom a ls) && is_unseen (of a)) Open (of a)) t)
    ]
  where
    and_false : (b : Bool) (m : Mark) → cond (b && false) Open m ≡ m
    and_false true m = refl
    and_false false m = refl
