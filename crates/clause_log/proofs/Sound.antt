-- A log that refutes clauses shows that no valuation makes them true.
use Rattle.std.proofs.Common.{◌≡◌, ℕ, zero, suc, Bool, true, false, cond, not, ◌||◌, List, [], ◌∷◌, ◌++◌, Option, Some, None, eqb, length, drop, ◌≤◌, refl, sym, ap, ◌∙◌, inl, inr, eqb-true}
use Rattle.std.specs.Prelude.{slice_get, is_none}
use Rattle.std.specs.Option.{option_map}
use Rattle.std.specs.List.{list_all}
use Rattle.std.proofs.Math.Bool.{or-false}
use Rattle.std.proofs.lemmas.Bool.{and_parts, and_from, or_parts, cases_Bool, false≢true}
use Rattle.std.proofs.lemmas.Option.{same_Some}
use Rattle.std.proofs.lemmas.List.{drop_all}
use Rattle.clause_log.specs.Literals.{Literal, negated, signed, literal_true, clause_true, IsModel}
use Rattle.clause_log.specs.Assignments.{Assignment, no_values, says_false, is_false, assign, with_false, open_literals, only_new, unit_literal, is_empty, is_conflict}
use Rattle.clause_log.proofs.Flat.{all_more}
use Rattle.clause_log.specs.Refutations.{Step, clause_at, is_conflict_at, unit_at, with_unit, reaches_conflict, step_holds, steps_hold, ends_empty, is_refutation, known}

-- the valuation gives each atom the value that the assignment gives it
abbrev pub Extends : (ℕ → Bool) → Assignment → Type 0
Extends v f = (a : ℕ) (b : Bool) → f a ≡ Some b → v a ≡ b

value_kept : (v : ℕ → Bool) (s : Bool) (a : ℕ) (o : Option Bool) → ((b : Bool) → o ≡ Some b → v a ≡ b) → says_false (option_map (signed s) o) ≡ true → signed s (v a) ≡ false
value_kept v s a None k e = absurd (false≢true e)
value_kept v true a (Some true) k e = absurd (false≢true e)
value_kept v true a (Some false) k e = k false refl
value_kept v false a (Some true) k e = ap not (k true refl)
value_kept v false a (Some false) k e = absurd (false≢true e)

false_stays : (v : ℕ → Bool) (f : Assignment) → Extends v f → (l : Literal) → is_false f l ≡ true → literal_true v l ≡ false
false_stays v f x l e = value_kept v l.positive l.atom (f l.atom) (x l.atom) e

left_false : (b c : Bool) → b ≡ false → (b || c) ≡ true → c ≡ true
left_false true c e h = absurd (false≢true (sym e))
left_false false c e h = h

either_from : (b c d : Bool) → (c ≡ true → d ≡ true) → (b || c) ≡ true → (b || d) ≡ true
either_from true c d k h = refl
either_from false c d k h = k h

open_step : (v : ℕ → Bool) (f : Assignment) (l : Literal) (ls : List Literal) (t : Bool) → is_false f l ≡ t → Extends v f → (clause_true v ls ≡ true → clause_true v (open_literals f ls) ≡ true) → clause_true v (l ∷ ls) ≡ true
    → clause_true v (cond (not t) (l ∷ open_literals f ls) (open_literals f ls)) ≡ true
open_step v f l ls true e x k h = k (left_false (literal_true v l) (clause_true v ls) (false_stays v f x l e) h)
open_step v f l ls false e x k h = either_from (literal_true v l) (clause_true v ls) (clause_true v (open_literals f ls)) k h

-- a true clause has a true literal among those that are not false
open_true : (v : ℕ → Bool) (f : Assignment) → Extends v f → (c : List Literal) → clause_true v c ≡ true → clause_true v (open_literals f c) ≡ true
open_true v f x [] h = h
open_true v f x (l ∷ ls) h = open_step v f l ls (is_false f l) refl x (open_true v f x ls) h

empty_false : (v : ℕ → Bool) (c : List Literal) → is_empty c ≡ true → clause_true v c ≡ true → ⊥
empty_false v [] h e = false≢true e
empty_false v (l ∷ ls) h e = false≢true h

no_conflict : (v : ℕ → Bool) (f : Assignment) → Extends v f → (c : List Literal) → clause_true v c ≡ true → is_conflict f c ≡ true → ⊥
no_conflict v f x c h e = empty_false v (open_literals f c) e (open_true v f x c h)

chosen_true : (v : ℕ → Bool) (t : Bool) (l k : Literal) → cond t (Some l) None ≡ Some k → literal_true v l ≡ true → literal_true v k ≡ true
chosen_true v true l k e h = ap (literal_true v) (sym (same_Some l k e)) ∙ h
chosen_true v false l k e h = absurd cc

only_true : (v : ℕ → Bool) (f : Assignment) (ls : List Literal) (k : Literal) → only_new f ls ≡ Some k → clause_true v ls ≡ true → literal_true v k ≡ true
only_true v f [] k e h = absurd (false≢true h)
only_true v f (l ∷ []) k e h = chosen_true v (is_none (f l.atom)) l k e (sym (or-false (literal_true v l)) ∙ h)
only_true v f (l ∷ m ∷ ls) k e h = absurd cc

-- the literal that a true clause forces is true
unit_true : (v : ℕ → Bool) (f : Assignment) → Extends v f → (c : List Literal) (k : Literal) → clause_true v c ≡ true → unit_literal f c ≡ Some k → literal_true v k ≡ true
unit_true v f x c k h e = only_true v f (open_literals f c) k e (open_true v f x c h)

signed_is : (s b : Bool) → signed s b ≡ true → b ≡ s
signed_is true b e = e
signed_is false true e = absurd (false≢true e)
signed_is false false e = refl

assign_step : (v : ℕ → Bool) (f : Assignment) (l : Literal) (a : ℕ) (b t : Bool) → eqb a l.atom ≡ t → Extends v f → literal_true v l ≡ true → cond t (Some l.positive) (f a) ≡ Some b → v a ≡ b
assign_step v f l a b true q x h e = ap v (eqb-true a l.atom q) ∙ signed_is l.positive (v l.atom) h ∙ same_Some l.positive b e
assign_step v f l a b false q x h e = x a b e

assign_extends : (v : ℕ → Bool) (f : Assignment) (l : Literal) → Extends v f → literal_true v l ≡ true → Extends v (assign l f)
assign_extends v f l x h a b e = assign_step v f l a b (eqb a l.atom) refl x h e

negated_by : (s b : Bool) → signed s b ≡ false → signed (not s) b ≡ true
negated_by true b e = ap not e
negated_by false true e = refl
negated_by false false e = absurd (false≢true (sym e))

false_extends : (v : ℕ → Bool) (f : Assignment) (ls : List Literal) → Extends v f → clause_true v ls ≡ false → Extends v (with_false f ls)
false_extends v f [] x h = x
false_extends v f (l ∷ ls) x h =
    let p = or_parts (literal_true v l) (clause_true v ls) h in
    false_extends v (assign (negated l) f) ls (assign_extends v f (negated l) x (negated_by l.positive (v l.atom) p.0)) p.1

-- the clause of a number, if there is one, is true
abbrev IsTrueClause : (ℕ → Bool) → Option (List Literal) → Type 0
IsTrueClause v None = Unit {0}
IsTrueClause v (Some c) = clause_true v c ≡ true

true_at : (v : ℕ → Bool) (cs : List (List Literal)) → IsModel v cs → (i : ℕ) → IsTrueClause v (slice_get cs i)
true_at v [] m i = tt
true_at v (c ∷ cs) m zero = (and_parts (clause_true v c) (list_all (clause_true v) cs) m).0
true_at v (c ∷ cs) m (suc i) = true_at v cs (and_parts (clause_true v c) (list_all (clause_true v) cs) m).1 i

true_numbered : (v : ℕ → Bool) (cs : List (List Literal)) → IsModel v cs → (h : ℕ) → IsTrueClause v (clause_at cs h)
true_numbered v cs m zero = tt
true_numbered v cs m (suc i) = true_at v cs m i

last_hint : (v : ℕ → Bool) (f : Assignment) → Extends v f → (o : Option (List Literal)) → IsTrueClause v o → is_conflict_at f o ≡ true → ⊥
last_hint v f x None t e = false≢true e
last_hint v f x (Some c) t e = no_conflict v f x c t e

forced_true : (v : ℕ → Bool) (f : Assignment) → Extends v f → (o : Option (List Literal)) → IsTrueClause v o → (k : Literal) → unit_at f o ≡ Some k → literal_true v k ≡ true
forced_true v f x None t k e = absurd cc
forced_true v f x (Some c) t k e = unit_true v f x c k t e

next_hint : (v : ℕ → Bool) (f : Assignment) → Extends v f → (o : Option Literal) → ((k : Literal) → o ≡ Some k → literal_true v k ≡ true) → (rest : Assignment → Bool) → ((g : Assignment) → Extends v g → rest g ≡ true → ⊥) → with_unit o f rest ≡ true → ⊥
next_hint v f x None t rest k e = false≢true e
next_hint v f x (Some l) t rest k e = k (assign l f) (assign_extends v f l x (t l refl)) e

-- no valuation that makes the clauses true extends an assignment from which hints reach a conflict
pub reaches_sound : (v : ℕ → Bool) (cs : List (List Literal)) → IsModel v cs → (hs : List ℕ) (f : Assignment) → Extends v f → reaches_conflict cs hs f ≡ true → ⊥
reaches_sound v cs m [] f x e = false≢true e
reaches_sound v cs m (h ∷ []) f x e = last_hint v f x (clause_at cs h) (true_numbered v cs m h) e
reaches_sound v cs m (h ∷ k ∷ hs) f x e =
    next_hint v f x (unit_at f (clause_at cs h)) (forced_true v f x (clause_at cs h) (true_numbered v cs m h)) (reaches_conflict cs (k ∷ hs)) (reaches_sound v cs m (k ∷ hs)) e

-- the clause of a step that holds is true where the clauses are
pub step_sound : (v : ℕ → Bool) (cs : List (List Literal)) → IsModel v cs → (s : Step) → step_holds cs s ≡ true → clause_true v s.literals ≡ true
step_sound v cs m s h =
    elim (cases_Bool (clause_true v s.literals)) [
      | inl e ↦ e
      | inr e ↦ absurd (reaches_sound v cs m s.hints (with_false no_values s.literals) (false_extends v no_values s.literals (λ a b n. absurd cc) e) h)
    ]

model_more : (v : ℕ → Bool) (cs : List (List Literal)) (c : List Literal) → IsModel v cs → clause_true v c ≡ true → IsModel v (cs ++ c ∷ [])
model_more v cs c m e = all_more (clause_true v) cs (cs ++ c ∷ []) c refl m e

all_steps : (ss : List Step) (cs : List (List Literal)) (v : ℕ → Bool) → steps_hold cs ss ≡ true → ends_empty ss ≡ true → IsModel v cs → ⊥
all_steps [] cs v h e m = false≢true e
all_steps (s ∷ []) cs v h e m = empty_false v s.literals e (step_sound v cs m s (and_parts (step_holds cs s) true h).0)
all_steps (s ∷ t ∷ ss) cs v h e m =
    let p = and_parts (step_holds cs s) (steps_hold (cs ++ s.literals ∷ []) (t ∷ ss)) h in
    all_steps (t ∷ ss) (cs ++ s.literals ∷ []) v p.1 e (model_more v cs s.literals m (step_sound v cs m s p.0))

pub refutation_sound : (cs : List (List Literal)) (ss : List Step) → is_refutation cs ss ≡ true → (v : ℕ → Bool) → IsModel v cs → ⊥
refutation_sound cs ss h v m = (let p = and_parts (steps_hold cs ss) (ends_empty ss) h in all_steps ss cs v p.0 p.1 m)

-- where all steps were looked at
pub accepted : (cs : List (List Literal)) (ss : List Step) (at : ℕ) (b : Bool) → length ss ≤ at → steps_hold (known cs ss at) (drop at ss) ≡ steps_hold cs ss → b ≡ ends_empty ss → b ≡ true → is_refutation cs ss ≡ true
accepted cs ss at b l h e t = and_from (steps_hold cs ss) (ends_empty ss) (sym h ∙ ap (steps_hold (known cs ss at)) (drop_all at ss l)) (sym e ∙ t)
