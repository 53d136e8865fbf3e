-- The queries of a map of marks, and the marks that it keeps.
use Rattle.std.proofs.Common.{◌≡◌, ◌∙◌, ◌<◌, ◌≤◌, ◌-◌, ap, subst, length, take, drop, get_or, arith, ap₂, sym, refl, ℕ, ◌==◌, Bool, true, false, cond, ◌&&◌, ◌||◌, if◌then◌else◌, List, [], ◌∷◌, Option, Some, eqb-true}
use Rattle.std.proofs.Math.Bool.{or-false}
use Rattle.std.proofs.Math.Path.{fun_ext}
use Rattle.std.specs.List.{list_all, list_any}
use Rattle.std.specs.Ordering.{is_eq, nat_cmp, ordering_then}
use Rattle.std.specs.declared.cmp.Ordering.{Ordering}
use Rattle.std.specs.declared.cmp.Ordering.TheVariants.{Less, Equal, Greater}
use Rattle.std.specs.BTreeMap.{get, is_at}
use Rattle.std.proofs.lemmas.Bool.{and_from, and_parts}
use Rattle.std.proofs.lemmas.Cmp.{eq_by_cmp_equiv}
use Rattle.general_facts.proofs.Lists.{rest_is}
use Rattle.csdn_core.specs.declared.event.Match.{Match}
use Rattle.net_structs.proofs.Tied.{is_eq-nat_cmp}
use Rattle.csdn_step.specs.Courses.{same_match}
use Rattle.csdn_run.specs.declared.marks.Marks.{Marks}
use Rattle.csdn_run.specs.Places.{match_cmp, match_total}
use Rattle.csdn_run.specs.Marked.{has_room, mark_of, or_zero}
use Rattle.csdn_run.specs.Standings.{with_marks}

is_eq-then : (a b : Ordering) → is_eq (ordering_then a b) ≡ (is_eq a && is_eq b)
is_eq-then Less b = refl
is_eq-then Equal b = refl
is_eq-then Greater b = refl

-- whether two matches are one
pub match_is : (k m : Match) → is_eq (match_cmp k m) ≡ same_match k m
match_is k m =
    is_eq-then (nat_cmp k.s m.s) (ordering_then (nat_cmp k.a m.a) (ordering_then (nat_cmp k.b m.b) (nat_cmp k.i m.i)))
    ∙ ap₂ (λ a b. a && b) (is_eq-nat_cmp k.s m.s)
    (is_eq-then (nat_cmp k.a m.a) (ordering_then (nat_cmp k.b m.b) (nat_cmp k.i m.i))
    ∙ ap₂ (λ a b. a && b) (is_eq-nat_cmp k.a m.a)
    (is_eq-then (nat_cmp k.b m.b) (nat_cmp k.i m.i)
    ∙ ap₂ (λ a b. a && b) (is_eq-nat_cmp k.b m.b) (is_eq-nat_cmp k.i m.i)))

-- .. either way round
pub match_turned : (k m : Match) → is_eq (match_cmp k m) ≡ same_match m k
match_turned k m = (eq_by_cmp_equiv match_total).symm k m ∙ match_is m k

pub same_match-is : (k m : Match) → same_match k m ≡ true → k ≡ m
same_match-is k m e =
    let one = and_parts (k.s == m.s) ((k.a == m.a) && ((k.b == m.b) && (k.i == m.i))) e in
    let two = and_parts (k.a == m.a) ((k.b == m.b) && (k.i == m.i)) one.1 in
    let three = and_parts (k.b == m.b) (k.i == m.i) two.1 in
    ap {B = Match} (λ (s : ℕ). record { s = s; a = k.a; b = k.b; i = k.i }) (eqb-true k.s m.s one.0)
    ∙ ap {B = Match} (λ (a : ℕ). record { s = m.s; a = a; b = k.b; i = k.i }) (eqb-true k.a m.a two.0)
    ∙ ap {B = Match} (λ (b : ℕ). record { s = m.s; a = m.a; b = b; i = k.i }) (eqb-true k.b m.b three.0)
    ∙ ap {B = Match} (λ (i : ℕ). record { s = m.s; a = m.a; b = m.b; i = i }) (eqb-true k.i m.i three.1)

abbrev Sets : Marks → Marks → Match → ℕ → Type 0
Sets old new k n = (q : Match) → get match_cmp new.numbers q ≡ cond (is_at (match_cmp k) q) (Some n) (get match_cmp old.numbers q)

zero_in : (b : Bool) (n : ℕ) (o : Option ℕ) → or_zero (cond b (Some n) o) ≡ (if b then n else or_zero o)
zero_in true n o = refl
zero_in false n o = refl

-- a mark more
pub set_is : (old new : Marks) (k key : Match) (n : ℕ) → Sets old new k n → k ≡ key → mark_of new ≡ with_marks (mark_of old) (key ∷ []) n
set_is old new k key n up copy =
    fun_ext (λ m.
    ap or_zero (up m) ∙ zero_in (is_at (match_cmp k) m) n (get match_cmp old.numbers m)
    ∙ ap (λ b. if b then n else mark_of old m) (match_turned k m ∙ ap (same_match m) copy ∙ sym (or-false (same_match m key))))

-- the mark that is there again
pub again_is : (marks : Match → ℕ) (key : Match) → with_marks marks (key ∷ []) (marks key) ≡ marks
again_is marks key = fun_ext (λ m. by m (same_match m key) refl)
  where
    by : (m : Match) (b : Bool) → same_match m key ≡ b → with_marks marks (key ∷ []) (marks key) m ≡ marks m
    by m true is = ap (λ b. if b || false then marks key else marks m) is ∙ ap marks (sym (same_match-is m key is))
    by m false is = ap (λ b. if b || false then marks key else marks m) is

-- one mark, and then those of others
pub with_more : (marks : Match → ℕ) (key : Match) (keys : List Match) (n : ℕ) → with_marks (with_marks marks (key ∷ []) n) keys n ≡ with_marks marks (key ∷ keys) n
with_more marks key keys n = fun_ext (λ m. both (same_match m key) (list_any (same_match m) keys) (marks m))
  where
    both : (a b : Bool) (o : ℕ) → (if b then n else (if a || false then n else o)) ≡ (if a || b then n else o)
    both true true o = refl
    both true false o = refl
    both false true o = refl
    both false false o = refl

all_through : (p q : Match → Bool) (ms : List Match) → ((m : Match) → p m ≡ true → q m ≡ true) → list_all p ms ≡ true → list_all q ms ≡ true
all_through p q [] each all = refl
all_through p q (m ∷ ms) each all =
    let parts = and_parts (p m) (list_all p ms) all in
    and_from (q m) (list_all q ms) (each m parts.0) (all_through p q ms each parts.1)

-- the next of the matches got its mark
pub next_set : (old new : Marks) (rest : List Match) (other : Match) (n : ℕ) (answer : Match → ℕ) → 1 ≤ length rest
    → mark_of new ≡ with_marks (mark_of old) (get_or rest 0 other ∷ []) n → ((m : Match) → has_room old m ≡ true → has_room new m ≡ true)
    → list_all (has_room old) rest ≡ true → with_marks (mark_of old) rest n ≡ answer
    → (list_all (has_room new) (take (length rest - 1) (drop 1 rest)) ≡ true) × (with_marks (mark_of new) (take (length rest - 1) (drop 1 rest)) n ≡ answer)
next_set old new [] other n answer some made others all h = absurd (omega arith)
next_set old new (x ∷ xs) other n answer some made others all h =
    subst (λ (zs : List Match). (list_all (has_room new) zs ≡ true) × (with_marks (mark_of new) zs n ≡ answer)) (sym (rest_is x xs)) (
      all_through (has_room old) (has_room new) xs others (and_parts (has_room old x) (list_all (has_room old) xs) all).1,
      ap (λ (f : Match → ℕ). with_marks f xs n) made ∙ with_more (mark_of old) x xs n ∙ h,
    )

-- no mark is to be set any more
pub none_left : (marks : Match → ℕ) (rest : List Match) (n : ℕ) (answer : Match → ℕ) → length rest < 1 → with_marks marks rest n ≡ answer → marks ≡ answer
none_left marks [] n answer below h = h
none_left marks (x ∷ xs) n answer below h = absurd (omega arith)
