-- The valuation of a trail.
use Rattle.std.proofs.Common.{◌≡◌, ℕ, Bool, true, false, cond, eqb, ◌||◌, List, [], ◌∷◌, Option, Some, None, refl, sym, ap, ◌∙◌, inl, inr, eqb-true}
use Rattle.std.specs.Option.{option_map}
use Rattle.std.specs.List.{list_all}
use Rattle.std.proofs.Math.Bool.{or-true, or-false}
use Rattle.std.proofs.lemmas.Bool.{and_parts, and_from, or_left, cases_Bool, false≢true}
use Rattle.general_facts.proofs.Numbers.{eqb-turned}
use Rattle.clause_log.specs.Literals.{Literal, signed, literal_true, clause_true, IsModel, truths}
use Rattle.clause_log.specs.Assignments.{Assignment, no_values, assign, literal_value}
use Rattle.clause_search.specs.declared.trail.Entry.{Entry}
use Rattle.clause_search.specs.Trails.{after, values_of, AreNew, positives}
use Rattle.clause_search.specs.Searches.{says_true, is_satisfied}
use Rattle.clause_search.proofs.Places.{assign_at, assign_apart}

-- the atom's truth: among the positive ones, or before
step_true : (f : Assignment) (l : Literal) (a : ℕ) (rest : List ℕ) (s : Bool) → l.positive ≡ s → f l.atom ≡ None
    → (truths (cond s (l.atom ∷ rest) rest) a || says_true (f a)) ≡ (truths rest a || says_true (assign l f a))
step_true f l a rest true p n =
    elim (cases_Bool (eqb l.atom a)) [
      | inl t ↦
          (let e : eqb a l.atom ≡ true = eqb-turned a l.atom ∙ t in
          or_left (eqb l.atom a || truths rest a) (says_true (f a)) (or_left (eqb l.atom a) (truths rest a) t) ∙ sym (ap (λ o. truths rest a || says_true o) (assign_at f l a e ∙ ap Some p) ∙ or-true (truths rest a)))
      | inr t ↦
          (let e : eqb a l.atom ≡ false = eqb-turned a l.atom ∙ t in
          ap (λ b. (b || truths rest a) || says_true (f a)) t ∙ sym (ap (λ o. truths rest a || says_true o) (assign_apart f l a e)))
    ]
step_true f l a rest false p n =
    elim (cases_Bool (eqb a l.atom)) [
      | inl t ↦ ap (λ o. truths rest a || says_true o) (ap f (eqb-true a l.atom t) ∙ n) ∙ sym (ap (λ o. truths rest a || says_true o) (assign_at f l a t ∙ ap Some p))
      | inr t ↦ sym (ap (λ o. truths rest a || says_true o) (assign_apart f l a t))
    ]

positives_true : (f : Assignment) (es : List Entry) (a : ℕ) → AreNew f es → (truths (positives es) a || says_true (f a)) ≡ says_true (after f es a)
positives_true f [] a h = refl
positives_true f (e ∷ es) a h = step_true f e.literal a (positives es) e.literal.positive refl h.0 ∙ positives_true (assign e.literal f) es a h.1

pub trues_are : (es : List Entry) (a : ℕ) → AreNew no_values es → truths (positives es) a ≡ says_true (values_of es a)
trues_are es a h = sym (or-false (truths (positives es) a)) ∙ positives_true no_values es a h

literal_by : (s t : Bool) (o : Option Bool) → t ≡ says_true o → says_true (option_map (signed s) o) ≡ true → signed s t ≡ true
literal_by s t None e h = absurd (false≢true h)
literal_by s t (Some b) e h = ap (signed s) e ∙ h

either_by : (b c p q : Bool) → (b ≡ true → p ≡ true) → (c ≡ true → q ≡ true) → (b || c) ≡ true → (p || q) ≡ true
either_by true c p q k l h = ap (λ z. z || q) (k refl)
either_by false c true q k l h = refl
either_by false c false q k l h = l h

clause_by : (v : ℕ → Bool) (f : Assignment) → ((a : ℕ) → v a ≡ says_true (f a)) → (c : List Literal) → is_satisfied f c ≡ true → clause_true v c ≡ true
clause_by v f k [] h = h
clause_by v f k (l ∷ ls) h =
    either_by (says_true (literal_value f l)) (is_satisfied f ls) (literal_true v l) (clause_true v ls)
    (literal_by l.positive (v l.atom) (f l.atom) (k l.atom)) (clause_by v f k ls) h

-- a valuation that makes true what the assignment does
pub model_by : (v : ℕ → Bool) (f : Assignment) → ((a : ℕ) → v a ≡ says_true (f a)) → (cs : List (List Literal)) → list_all (is_satisfied f) cs ≡ true → IsModel v cs
model_by v f k [] h = h
model_by v f k (c ∷ cs) h =
    let p = and_parts (is_satisfied f c) (list_all (is_satisfied f) cs) h in
    and_from (clause_true v c) (list_all (clause_true v) cs) (clause_by v f k c p.0) (model_by v f k cs p.1)
