-- Passes one after another.
use Rattle.std.proofs.Common.{◌≡◌, ◌∙◌, ℕ, Bool, true, false, not, ◌||◌, List, [], ◌∷◌, ◌++◌, refl, sym, ap, ap₂, subst, inl, inr, nat_eq, cond, eqb-true, suc, ◌+◌, arith, flat_map, map, if◌then◌else◌}
use Rattle.std.proofs.lemmas.Bool.{false≢true}
use Rattle.csdn_core.specs.Members.{IsIn}
use Rattle.csdn_core.proofs.Members.{in_both, in_left, in_right, one_in}
use Rattle.csdn_core.specs.Truth.{same_truth}
use Rattle.fol_forms.proofs.NormalTruth.{same_truth-is}
use Rattle.clause_log.specs.Literals.{Literal, clause_true, literal_true, signed}
use Rattle.decision_laws.specs.Clauses.{either_clauses, member_clause, no}
use Rattle.decision_laws.specs.Vocabulary.{places_from}
use Rattle.decision_laws.proofs.Read.{AllTrue}
use Rattle.ground_inst.proofs.Steps.{flat-more}
use Rattle.lazy_ground.specs.Found.{Finds, IsOpen}

pub not_more : {X : Type 0} (xs : List X) (y : X) (ys : List X) → xs ++ y ∷ ys ≡ [] → ⊥
not_more [] y ys e = absurd cc
not_more (x ∷ xs) y ys e = absurd cc

left_empty : {X : Type 0} (xs ys : List X) → xs ++ ys ≡ [] → xs ≡ []
left_empty [] ys e = refl
left_empty (x ∷ xs) ys e = absurd cc

right_empty : {X : Type 0} (xs ys : List X) → xs ++ ys ≡ [] → ys ≡ []
right_empty [] ys e = e
right_empty (x ∷ xs) ys e = absurd cc

pub finds_true : (w : ℕ → Bool) (cs old : List (List Literal)) → AllTrue w cs → Finds w cs old old
finds_true w cs old h = record { within = λ c i. inl i; nothing = λ e. e; all = λ e. h }

pub finds_false : (w : ℕ → Bool) (cs old : List (List Literal)) → ((c : List Literal) → IsIn c cs → clause_true w c ≡ false) → Finds w cs old (old ++ cs)
finds_false w cs old h = record {
  within = λ c i. elim (in_both old cs c i) [ inl x ↦ inl x | inr x ↦ inr (x, h c x) ];
  nothing = λ e. left_empty old cs e;
  all = λ e c i. absurd (subst (λ z. IsIn c z) (right_empty old cs e) i);
}

pub finds_both : (w : ℕ → Bool) (a b old mid new : List (List Literal)) → Finds w a old mid → Finds w b mid new → Finds w (a ++ b) old new
finds_both w a b old mid new f g = record {
  within = λ c i.
      elim (g.within c i) [
        | inl x ↦ elim (f.within c x) [ inl y ↦ inl y | inr y ↦ inr (in_left a b c y.0, y.1) ]
        | inr x ↦ inr (in_right a b c x.0, x.1)
      ];
  nothing = λ e. f.nothing (g.nothing e);
  all = λ e c i. elim (in_both a b c i) [ inl x ↦ f.all (g.nothing e) c x | inr x ↦ g.all e c x ];
}

-- where something was found, clauses need not be looked at
pub finds_some : (w : ℕ → Bool) (a b old new : List (List Literal)) → Finds w a old new → (old ≡ [] → ⊥) → Finds w (a ++ b) old new
finds_some w a b old new f some = record {
  within = λ c i. elim (f.within c i) [ inl y ↦ inl y | inr y ↦ inr (in_left a b c y.0, y.1) ];
  nothing = f.nothing;
  all = λ e. absurd (some (f.nothing e));
}

-- The clauses of a node.

pub one_true : (w : ℕ → Bool) (c : List Literal) → clause_true w c ≡ true → AllTrue w (c ∷ [])
one_true w c h d i = subst (λ z. clause_true w z ≡ true) (sym (one_in d c i)) h

pub one_false : (w : ℕ → Bool) (c : List Literal) → clause_true w c ≡ false → (d : List Literal) → IsIn d (c ∷ []) → clause_true w d ≡ false
one_false w c h d i = subst (λ z. clause_true w z ≡ false) (sym (one_in d c i)) h

pub all_append : (w : ℕ → Bool) (a b : List (List Literal)) → AllTrue w a → AllTrue w b → AllTrue w (a ++ b)
all_append w a b f g c i = elim (in_both a b c i) [ inl x ↦ f c x | inr x ↦ g c x ]

two_true : (x a : Bool) → (x ≡ true → a ≡ true) → (not x || (a || false)) ≡ true
two_true true true h = refl
two_true true false h = h refl
two_true false a h = refl

two_false : (x a : Bool) → x ≡ true → a ≡ false → (not x || (a || false)) ≡ false
two_false true true e f = f
two_false true false e f = refl
two_false false a e f = absurd (false≢true e)

three_true : (x a b : Bool) → (x ≡ true → (a || b) ≡ true) → (not x || (a || (b || false))) ≡ true
three_true true true b h = refl
three_true true false true h = refl
three_true true false false h = h refl
three_true false a b h = refl

three_false : (x a b : Bool) → x ≡ true → a ≡ false → b ≡ false → (not x || (a || (b || false))) ≡ false
three_false true true b e f g = f
three_false true false true e f g = g
three_false true false false e f g = refl
three_false false a b e f g = absurd (false≢true e)

pub member_true : (w : ℕ → Bool) (x : ℕ) (a : Literal) → (w x ≡ true → literal_true w a ≡ true) → clause_true w (member_clause x a) ≡ true
member_true w x a h = two_true (w x) (literal_true w a) h

pub member_false : (w : ℕ → Bool) (x : ℕ) (a : Literal) → w x ≡ true → literal_true w a ≡ false → clause_true w (member_clause x a) ≡ false
member_false w x a e f = two_false (w x) (literal_true w a) e f

same_literal : (a b : Literal) → nat_eq a.atom b.atom ≡ true → same_truth a.positive b.positive ≡ true → (w : ℕ → Bool) → literal_true w b ≡ literal_true w a
same_literal a b p q w = ap₂ (λ s x. signed s (w x)) (sym (same_truth-is a.positive b.positive q)) (sym (eqb-true a.atom b.atom p))

or_same : (a b : Bool) → b ≡ a → (a || b) ≡ true → a ≡ true
or_same true b e h = refl
or_same false b e h = sym e ∙ h

either_true_by : (w : ℕ → Bool) (x : ℕ) (a b : Literal) (t s : Bool) → nat_eq a.atom b.atom ≡ t → same_truth a.positive b.positive ≡ s → (w x ≡ true → (literal_true w a || literal_true w b) ≡ true) → AllTrue w (cond t (cond s ((no x ∷ a ∷ []) ∷ []) []) ((no x ∷ a ∷ b ∷ []) ∷ []))
either_true_by w x a b true true p q h = one_true w (no x ∷ a ∷ []) (two_true (w x) (literal_true w a) (λ e. or_same (literal_true w a) (literal_true w b) (same_literal a b p q w) (h e)))
either_true_by w x a b true false p q h = λ c i. absurd i
either_true_by w x a b false s p q h = one_true w (no x ∷ a ∷ b ∷ []) (three_true (w x) (literal_true w a) (literal_true w b) h)

pub either_true : (w : ℕ → Bool) (x : ℕ) (a b : Literal) → (w x ≡ true → (literal_true w a || literal_true w b) ≡ true) → AllTrue w (either_clauses x a b)
either_true w x a b = either_true_by w x a b (nat_eq a.atom b.atom) (same_truth a.positive b.positive) refl refl

either_false_by : (w : ℕ → Bool) (x : ℕ) (a b : Literal) (t s : Bool) → w x ≡ true → literal_true w a ≡ false → literal_true w b ≡ false → (c : List Literal) → IsIn c (cond t (cond s ((no x ∷ a ∷ []) ∷ []) []) ((no x ∷ a ∷ b ∷ []) ∷ [])) → clause_true w c ≡ false
either_false_by w x a b true true e f g = one_false w (no x ∷ a ∷ []) (two_false (w x) (literal_true w a) e f)
either_false_by w x a b true false e f g = λ c i. absurd i
either_false_by w x a b false s e f g = one_false w (no x ∷ a ∷ b ∷ []) (three_false (w x) (literal_true w a) (literal_true w b) e f g)

pub either_false : (w : ℕ → Bool) (x : ℕ) (a b : Literal) → w x ≡ true → literal_true w a ≡ false → literal_true w b ≡ false → (c : List Literal) → IsIn c (either_clauses x a b) → clause_true w c ≡ false
either_false w x a b = either_false_by w x a b (nat_eq a.atom b.atom) (same_truth a.positive b.positive)

-- Whether members are looked at.

pub open_at : (value b : Bool) (out : List (List Literal)) → b ≡ value → IsOpen value b out
open_at value b out e = record { on = λ o. e ∙ o; off = λ o t n. false≢true (sym o ∙ sym e ∙ t) }

-- Loops.

pub finds_next : (w : ℕ → Bool) (f : ℕ → List (List Literal)) (old now new : List (List Literal)) (i : ℕ) → Finds w (flat_map f (places_from 0 i)) old now → Finds w (f i) now new → Finds w (flat_map f (places_from 0 (i + 1))) old new
finds_next w f old now new i so_far turn =
    let next : suc i ≡ i + 1 = omega arith in
    let same : 0 + i ≡ i = omega arith in
    let more : flat_map f (places_from 0 i) ++ f i ≡ flat_map f (places_from 0 (i + 1)) = ap (λ k. flat_map f (places_from 0 i) ++ f k) (sym same) ∙ sym (flat-more f 0 i) ∙ ap (λ k. flat_map f (places_from 0 k)) next in
    subst (λ z. Finds w z old new) more (finds_both w (flat_map f (places_from 0 i)) (f i) old now new so_far turn)

pub finds_none : (w : ℕ → Bool) (old : List (List Literal)) → Finds w [] old old
finds_none w old = finds_true w [] old (λ c i. absurd i)

pub flat_single : {X Y : Type 0} (f : X → Y) (xs : List X) → flat_map (λ x. f x ∷ []) xs ≡ map f xs
flat_single f [] = refl
flat_single f (x ∷ xs) = ap (λ z. f x ∷ z) (flat_single f xs)

-- each of these clauses is true
pub flat_true : {X : Type 0} (w : ℕ → Bool) (f : X → List (List Literal)) (xs : List X) → ((x : X) → AllTrue w (f x)) → AllTrue w (flat_map f xs)
flat_true w f [] h = λ c i. absurd i
flat_true w f (x ∷ xs) h = all_append w (f x) (flat_map f xs) (h x) (flat_true w f xs h)

pub cond_true : (w : ℕ → Bool) (b : Bool) (c : List Literal) → clause_true w c ≡ true → AllTrue w (if b then c ∷ [] else [])
cond_true w true c h = one_true w c h
cond_true w false c h = λ d i. absurd i

-- the clauses of a part that is there or not
pub finds_cond : (w : ℕ → Bool) (b t : Bool) (cs old new : List (List Literal)) → b ≡ t → (t ≡ true → Finds w cs old new) → (t ≡ false → old ≡ new) → Finds w (if b then cs else []) old new
finds_cond w b true cs old new e f g = subst (λ z. Finds w (if z then cs else []) old new) (sym e) (f refl)
finds_cond w b false cs old new e f g = subst (λ z. Finds w (if z then cs else []) old new) (sym e) (subst (Finds w [] old) (g refl) (finds_none w old))

-- a loop over a list has found what it has to, where what it finds of the rest completes it
abbrev pub GoesOn : (ℕ → Bool) → List (List Literal) → List (List Literal) → List (List Literal) → List (List Literal) → Type 0
GoesOn w rest all old now = (new : List (List Literal)) → Finds w rest now new → Finds w all old new

pub goes_next : (w : ℕ → Bool) (part rest later all old now mid : List (List Literal)) → GoesOn w rest all old now → rest ≡ part ++ later → Finds w part now mid → GoesOn w later all old mid
goes_next w part rest later all old now mid g e turn new h = g new (subst (λ z. Finds w z now new) (sym e) (finds_both w part later now mid new turn h))

pub goes_out : (w : ℕ → Bool) (rest all old now : List (List Literal)) → GoesOn w rest all old now → rest ≡ [] → Finds w all old now
goes_out w rest all old now g e = g now (subst (λ z. Finds w z now now) (sym e) (finds_none w now))

pub finds_five : (w : ℕ → Bool) (a b c d e old one two three four last : List (List Literal)) → Finds w a old one → Finds w b one two → Finds w c two three → Finds w d three four → Finds w e four last → Finds w ((a ++ (b ++ (c ++ []))) ++ (d ++ e)) old last
finds_five w a b c d e old one two three four last fa fb fc fd fe =
    finds_both w (a ++ (b ++ (c ++ []))) (d ++ e) old three last
    (finds_both w a (b ++ (c ++ [])) old one three fa (finds_both w b (c ++ []) one two three fb (finds_both w c [] two three three fc (finds_none w three))))
    (finds_both w d e three four last fd fe)

first_true : (x b : Bool) → x ≡ false → (not x || b) ≡ true
first_true true b e = absurd (false≢true (sym e))
first_true false b e = refl

-- clauses with a negated atom that is false are true
pub first_cond : (w : ℕ → Bool) (b : Bool) (x : ℕ) (c : List Literal) → w x ≡ false → AllTrue w (if b then (no x ∷ c) ∷ [] else [])
first_cond w b x c e = cond_true w b (no x ∷ c) (first_true (w x) (clause_true w c) e)
