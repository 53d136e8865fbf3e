-- Nothing changes where names stand for small atoms.
use Rattle.std.proofs.Common.{◌≡◌, ℕ, zero, suc, ◌<◌, ◌≤◌, ◌+◌, ◌-◌, Bool, true, false, cond, not, eqb, ◌&&◌, ◌||◌, List, [], ◌∷◌, ◌++◌, map, get_or, length, Option, Some, None, refl, sym, ap, ap₂, ◌∙◌, subst, inl, inr, eqb-true, arith, length-append}
use Rattle.std.specs.Prelude.{is_none, nat_lt, nat_le}
use Rattle.std.specs.Option.{option_map}
use Rattle.std.specs.List.{list_all}
use Rattle.std.proofs.Math.Bool.{or-false}
use Rattle.std.proofs.lemmas.Bool.{cases_Bool, cases_lt, ne_eqb, false≢true, and_parts, and_from, lt-ltb, le-leb}
use Rattle.std.proofs.lemmas.List.{map-append, get_or_append_left}
use Rattle.std.proofs.lemmas.List.Folds.{list_any-append}
use Rattle.std.proofs.lemmas.Option.{slice_get-map}
use Rattle.std.proofs.Math.Seq.{get_or-append_seam}
use Rattle.general_facts.proofs.Numbers.{self_equal}
use Rattle.clause_log.specs.Literals.{Literal, ClauseList, signed, negated, clause_true, IsModel, has_atom, has_distinct_atoms, is_within, is_clause, truths}
use Rattle.clause_log.specs.Assignments.{Assignment, no_values, says_false, is_false, assign, with_false, open_literals, only_new, unit_literal, is_empty, is_conflict}
use Rattle.clause_log.specs.Refutations.{Step, clause_at, is_conflict_at, unit_at, with_unit, reaches_conflict, step_holds, steps_hold, ends_empty, is_refutation}
use Rattle.clause_log.specs.Limits.{is_hint, is_step}
use Rattle.clause_search.specs.Outcomes.{IsRefutationOf}
use Rattle.clause_search.specs.Names.{named_atom, named, named_clause, named_step, AreNames, IsNamedValuation}
use Rattle.clause_search.proofs.Growth.{within_least, within_most}
use Rattle.clause_search.proofs.Clauses.{all_within, open_pass, numbered_passes, forced_passes}

-- ---- names are distinct

names_apart : (atoms : ℕ) (names : List ℕ) → AreNames atoms names → (a b : ℕ) → 0 < a → a ≤ length names → 0 < b → b ≤ length names → named_atom names a ≡ named_atom names b → a ≡ b
names_apart atoms names n a b low high low_b high_b e =
    elim (cases_lt a b) [
      | inl less ↦ absurd (let rises = n.rising (a - 1) (b - 1) (omega (arith, less, low)) (omega (arith, low_b, high_b)) in omega (arith, rises, e))
      | inr most ↦ elim (cases_lt b a) [
        | inl less ↦ absurd (let rises = n.rising (b - 1) (a - 1) (omega (arith, less, low_b)) (omega (arith, low, high)) in omega (arith, rises, e))
        | inr least ↦ omega (arith, most, least)
      ]
    ]

names_equal : (atoms : ℕ) (names : List ℕ) → AreNames atoms names → (a b : ℕ) → 0 < a → a ≤ length names → 0 < b → b ≤ length names → eqb (named_atom names a) (named_atom names b) ≡ eqb a b
names_equal atoms names n a b low high low_b high_b =
    elim (cases_Bool (eqb a b)) [
      | inl t ↦ ap (λ z. eqb (named_atom names z) (named_atom names b)) (eqb-true a b t) ∙ self_equal (named_atom names b) ∙ sym t
      | inr t ↦
          ne_eqb (named_atom names a) (named_atom names b) (λ e. false≢true (sym t ∙ ap (λ z. eqb z b) (names_apart atoms names n a b low high low_b high_b e) ∙ self_equal b))
          ∙ sym t
    ]

-- ---- assignments of small atoms and of their names

abbrev pub Same : List ℕ → Assignment → Assignment → Type 0
Same names small wide = (a : ℕ) → 0 < a → a ≤ length names → wide (named_atom names a) ≡ small a

same_at : (names : List ℕ) (small wide : Assignment) → Same names small wide → (l : Literal) → is_within (length names) l ≡ true → wide (named_atom names l.atom) ≡ small l.atom
same_at names small wide s l w = s l.atom (within_least (length names) l w) (within_most (length names) l w)

assign_same : (atoms : ℕ) (names : List ℕ) → AreNames atoms names → (small wide : Assignment) (l : Literal) → is_within (length names) l ≡ true → Same names small wide → Same names (assign l small) (assign (named names l) wide)
assign_same atoms names n small wide l w s a low high =
    ap₂ (λ t o. cond t (Some l.positive) o) (names_equal atoms names n a l.atom low high (within_least (length names) l w) (within_most (length names) l w)) (s a low high)

with_false_same : (atoms : ℕ) (names : List ℕ) → AreNames atoms names → (small wide : Assignment) (ls : List Literal) → list_all (is_within (length names)) ls ≡ true → Same names small wide → Same names (with_false small ls) (with_false wide (named_clause names ls))
with_false_same atoms names n small wide [] w s = s
with_false_same atoms names n small wide (l ∷ ls) w s =
    let p = and_parts (is_within (length names) l) (list_all (is_within (length names)) ls) w in
    with_false_same atoms names n (assign (negated l) small) (assign (negated (named names l)) wide) ls p.1 (assign_same atoms names n small wide (negated l) p.0 s)

-- ---- what clauses do

named_if : (names : List ℕ) (b : Bool) (l : Literal) (ls : List Literal) → cond b (named names l ∷ named_clause names ls) (named_clause names ls) ≡ named_clause names (cond b (l ∷ ls) ls)
named_if names true l ls = refl
named_if names false l ls = refl

open_named : (names : List ℕ) (small wide : Assignment) (c : List Literal) → list_all (is_within (length names)) c ≡ true → Same names small wide → open_literals wide (named_clause names c) ≡ named_clause names (open_literals small c)
open_named names small wide [] w s = refl
open_named names small wide (l ∷ ls) w s =
    let p = and_parts (is_within (length names) l) (list_all (is_within (length names)) ls) w in
    ap₂ (λ o z. cond (not (says_false (option_map (signed l.positive) o))) (named names l ∷ z) z) (same_at names small wide s l p.0) (open_named names small wide ls p.1 s)
    ∙ named_if names (not (is_false small l)) l (open_literals small ls)

empty_named : (names : List ℕ) (ls : List Literal) → is_empty (named_clause names ls) ≡ is_empty ls
empty_named names [] = refl
empty_named names (l ∷ ls) = refl

if_named : (names : List ℕ) (b : Bool) (l : Literal) → cond b (Some (named names l)) None ≡ option_map (named names) (cond b (Some l) None)
if_named names true l = refl
if_named names false l = refl

only_named : (names : List ℕ) (small wide : Assignment) (ls : List Literal) → list_all (is_within (length names)) ls ≡ true → Same names small wide → only_new wide (named_clause names ls) ≡ option_map (named names) (only_new small ls)
only_named names small wide [] w s = refl
only_named names small wide (l ∷ []) w s =
    ap (λ o. cond (is_none o) (Some (named names l)) None) (same_at names small wide s l (and_parts (is_within (length names) l) true w).0) ∙ if_named names (is_none (small l.atom)) l
only_named names small wide (l ∷ m ∷ ls) w s = refl

unit_named : (names : List ℕ) (small wide : Assignment) (c : List Literal) → list_all (is_within (length names)) c ≡ true → Same names small wide → unit_literal wide (named_clause names c) ≡ option_map (named names) (unit_literal small c)
unit_named names small wide c w s = ap (only_new wide) (open_named names small wide c w s) ∙ only_named names small wide (open_literals small c) (open_pass (is_within (length names)) small c w) s

conflict_named : (names : List ℕ) (small wide : Assignment) (c : List Literal) → list_all (is_within (length names)) c ≡ true → Same names small wide → is_conflict wide (named_clause names c) ≡ is_conflict small c
conflict_named names small wide c w s = ap is_empty (open_named names small wide c w s) ∙ empty_named names (open_literals small c)

-- ---- hints

abbrev Named : List ℕ → List (List Literal) → List (List Literal)
Named names cs = map (named_clause names) cs

numbered_named : (names : List ℕ) (cs : List (List Literal)) (h : ℕ) → clause_at (Named names cs) h ≡ option_map (named_clause names) (clause_at cs h)
numbered_named names cs zero = refl
numbered_named names cs (suc i) = slice_get-map (named_clause names) cs i

abbrev AllWithin : List ℕ → Option (List Literal) → Type 0
AllWithin names None = Unit {0}
AllWithin names (Some c) = list_all (is_within (length names)) c ≡ true

within_at : (names : List ℕ) (cs : List (List Literal)) (h : ℕ) (o : Option (List Literal)) → list_all (is_clause (length names)) cs ≡ true → clause_at cs h ≡ o → AllWithin names o
within_at names cs h None k e = tt
within_at names cs h (Some c) k e = all_within (length names) c (numbered_passes (is_clause (length names)) cs h c e k)

last_named : (names : List ℕ) (small wide : Assignment) (o : Option (List Literal)) → AllWithin names o → Same names small wide → is_conflict_at wide (option_map (named_clause names) o) ≡ is_conflict_at small o
last_named names small wide None w s = refl
last_named names small wide (Some c) w s = conflict_named names small wide c w s

unit_at_named : (names : List ℕ) (small wide : Assignment) (o : Option (List Literal)) → AllWithin names o → Same names small wide → unit_at wide (option_map (named_clause names) o) ≡ option_map (named names) (unit_at small o)
unit_at_named names small wide None w s = refl
unit_at_named names small wide (Some c) w s = unit_named names small wide c w s

forced_within : (names : List ℕ) (small : Assignment) (o : Option (List Literal)) → AllWithin names o → (l : Literal) → unit_at small o ≡ Some l → is_within (length names) l ≡ true
forced_within names small None w l e = absurd cc
forced_within names small (Some c) w l e = forced_passes (is_within (length names)) small c l e w

goes_on : (atoms : ℕ) (names : List ℕ) → AreNames atoms names → (small wide : Assignment) → Same names small wide → (o : Option Literal) → ((l : Literal) → o ≡ Some l → is_within (length names) l ≡ true) → (few many : Assignment → Bool)
    → ((f g : Assignment) → Same names f g → many g ≡ few f) → with_unit (option_map (named names) o) wide many ≡ with_unit o small few
goes_on atoms names n small wide s None w few many k = refl
goes_on atoms names n small wide s (Some l) w few many k = k (assign l small) (assign (named names l) wide) (assign_same atoms names n small wide l (w l refl) s)

reaches_named : (atoms : ℕ) (names : List ℕ) → AreNames atoms names → (cs : List (List Literal)) → list_all (is_clause (length names)) cs ≡ true → (hs : List ℕ) (small wide : Assignment) → Same names small wide
    → reaches_conflict (Named names cs) hs wide ≡ reaches_conflict cs hs small
reaches_named atoms names n cs k [] small wide s = refl
reaches_named atoms names n cs k (h ∷ []) small wide s =
    ap (is_conflict_at wide) (numbered_named names cs h) ∙ last_named names small wide (clause_at cs h) (within_at names cs h (clause_at cs h) k refl) s
reaches_named atoms names n cs k (h ∷ j ∷ hs) small wide s =
    let w = within_at names cs h (clause_at cs h) k refl in
    ap (λ o. with_unit o wide (reaches_conflict (Named names cs) (j ∷ hs))) (ap (unit_at wide) (numbered_named names cs h) ∙ unit_at_named names small wide (clause_at cs h) w s)
    ∙ goes_on atoms names n small wide s (unit_at small (clause_at cs h)) (forced_within names small (clause_at cs h) w) (reaches_conflict cs (j ∷ hs)) (reaches_conflict (Named names cs) (j ∷ hs))
    (reaches_named atoms names n cs k (j ∷ hs))

-- ---- logs

one_clause : (m : ℕ) (s : Step) → is_step m s ≡ true → is_clause m s.literals ≡ true
one_clause m s h = (and_parts (is_clause m s.literals) (list_all is_hint s.hints) h).0

step_named : (atoms : ℕ) (names : List ℕ) → AreNames atoms names → (cs : List (List Literal)) → list_all (is_clause (length names)) cs ≡ true → (s : Step) → is_step (length names) s ≡ true → step_holds (Named names cs) (named_step names s) ≡ step_holds cs s
step_named atoms names n cs k s h =
    reaches_named atoms names n cs k s.hints (with_false no_values s.literals) (with_false no_values (named_clause names s.literals))
    (with_false_same atoms names n no_values no_values s.literals (all_within (length names) s.literals (one_clause (length names) s h)) (λ a low high. refl))

more_clauses : (m : ℕ) (cs : List (List Literal)) (c : List Literal) → list_all (is_clause m) cs ≡ true → is_clause m c ≡ true → list_all (is_clause m) (cs ++ c ∷ []) ≡ true
more_clauses m [] c k h = and_from (is_clause m c) true h refl
more_clauses m (d ∷ cs) c k h =
    let p = and_parts (is_clause m d) (list_all (is_clause m) cs) k in
    and_from (is_clause m d) (list_all (is_clause m) (cs ++ c ∷ [])) p.0 (more_clauses m cs c p.1 h)

steps_named : (atoms : ℕ) (names : List ℕ) → AreNames atoms names → (ss : List Step) (cs : List (List Literal)) → list_all (is_clause (length names)) cs ≡ true → list_all (is_step (length names)) ss ≡ true
    → steps_hold (Named names cs) (map (named_step names) ss) ≡ steps_hold cs ss
steps_named atoms names n [] cs k h = refl
steps_named atoms names n (s ∷ ss) cs k h =
    let p = and_parts (is_step (length names) s) (list_all (is_step (length names)) ss) h in
    ap₂ (λ b c. b && c) (step_named atoms names n cs k s p.0)
    (ap (λ z. steps_hold z (map (named_step names) ss)) (sym (map-append (named_clause names) cs (s.literals ∷ [])))
    ∙ steps_named atoms names n ss (cs ++ s.literals ∷ []) (more_clauses (length names) cs s.literals k (one_clause (length names) s p.0)) p.1)

ends_named : (names : List ℕ) (ss : List Step) → ends_empty (map (named_step names) ss) ≡ ends_empty ss
ends_named names [] = refl
ends_named names (s ∷ []) = empty_named names s.literals
ends_named names (s ∷ t ∷ ss) = ends_named names (t ∷ ss)

-- ---- clauses

has_named : (atoms : ℕ) (names : List ℕ) → AreNames atoms names → (l : Literal) (ls : List Literal) → is_within (length names) l ≡ true → list_all (is_within (length names)) ls ≡ true → has_atom (named_atom names l.atom) (named_clause names ls) ≡ has_atom l.atom ls
has_named atoms names n l [] w k = refl
has_named atoms names n l (m ∷ ms) w k =
    let p = and_parts (is_within (length names) m) (list_all (is_within (length names)) ms) k in
    ap₂ (λ b c. b || c) (names_equal atoms names n l.atom m.atom (within_least (length names) l w) (within_most (length names) l w) (within_least (length names) m p.0) (within_most (length names) m p.0))
    (has_named atoms names n l ms w p.1)

pub distinct_named : (atoms : ℕ) (names : List ℕ) → AreNames atoms names → (ls : List Literal) → list_all (is_within (length names)) ls ≡ true → has_distinct_atoms (named_clause names ls) ≡ has_distinct_atoms ls
distinct_named atoms names n [] k = refl
distinct_named atoms names n (l ∷ ls) k =
    let p = and_parts (is_within (length names) l) (list_all (is_within (length names)) ls) k in
    ap₂ (λ b c. not b && c) (has_named atoms names n l ls p.0 p.1) (distinct_named atoms names n ls p.1)

named_within : (atoms : ℕ) (names : List ℕ) → AreNames atoms names → (ls : List Literal) → list_all (is_within (length names)) ls ≡ true → list_all (is_within atoms) (named_clause names ls) ≡ true
named_within atoms names n [] k = refl
named_within atoms names n (l ∷ ls) k =
    let p = and_parts (is_within (length names) l) (list_all (is_within (length names)) ls) k in
    let low = within_least (length names) l p.0 in
    let high = within_most (length names) l p.0 in
    let inside : l.atom - 1 < length names = omega (arith, low, high) in
    and_from (is_within atoms (named names l)) (list_all (is_within atoms) (named_clause names ls))
    (and_from (nat_lt 0 (named_atom names l.atom)) (nat_le (named_atom names l.atom) atoms) (lt-ltb 0 (named_atom names l.atom) (n.from_one (l.atom - 1) inside)) (le-leb (named_atom names l.atom) atoms (n.most (l.atom - 1) inside)))
    (named_within atoms names n ls p.1)

step_fits : (atoms : ℕ) (names : List ℕ) → AreNames atoms names → (s : Step) → is_step (length names) s ≡ true → is_step atoms (named_step names s) ≡ true
step_fits atoms names n s h =
    let p = and_parts (is_clause (length names) s.literals) (list_all is_hint s.hints) h in
    let w = all_within (length names) s.literals p.0 in
    let ls = named_clause names s.literals in
    and_from (is_clause atoms ls) (list_all is_hint s.hints)
    (and_from (has_distinct_atoms ls) (list_all (is_within atoms) ls) (distinct_named atoms names n s.literals w ∙ (and_parts (has_distinct_atoms s.literals) (list_all (is_within (length names)) s.literals) p.0).0) (named_within atoms names n s.literals w)) p.1

log_fits : (atoms : ℕ) (names : List ℕ) → AreNames atoms names → (ss : List Step) → list_all (is_step (length names)) ss ≡ true → list_all (is_step atoms) (map (named_step names) ss) ≡ true
log_fits atoms names n [] h = refl
log_fits atoms names n (s ∷ ss) h =
    let p = and_parts (is_step (length names) s) (list_all (is_step (length names)) ss) h in
    and_from (is_step atoms (named_step names s)) (list_all (is_step atoms) (map (named_step names) ss)) (step_fits atoms names n s p.0) (log_fits atoms names n ss p.1)

-- the log that names make of a refutation refutes the clauses that they make
pub refutation_named : (atoms : ℕ) (names : List ℕ) (wide small : ClauseList) (log now : List Step) → AreNames atoms names → wide.atoms ≡ atoms → small.atoms ≡ length names → list_all (is_clause small.atoms) small.clauses ≡ true → map (named_clause names) small.clauses ≡ wide.clauses
    → IsRefutationOf small log → now ≡ map (named_step names) log → IsRefutationOf wide now
refutation_named atoms names wide small log now n most few clauses is r made =
    let k : list_all (is_clause (length names)) small.clauses ≡ true = subst (λ m. list_all (is_clause m) small.clauses ≡ true) few clauses in
    let h : list_all (is_step (length names)) log ≡ true = subst (λ m. list_all (is_step m) log ≡ true) few r.within in
    record {
      accepted =
          ap₂ (λ cs ss. is_refutation cs ss) (sym is) made
          ∙ ap₂ (λ b c. b && c) (steps_named atoms names n log small.clauses k h) (ends_named names log)
          ∙ r.accepted;
      within = subst (λ m. list_all (is_step m) now ≡ true) (sym most) (ap (list_all (is_step atoms)) made ∙ log_fits atoms names n log h);
    }

-- ---- models

clause_named : (names : List ℕ) (small wide : ℕ → Bool) → IsNamedValuation names small wide → (c : List Literal) → list_all (is_within (length names)) c ≡ true → clause_true wide (named_clause names c) ≡ clause_true small c
clause_named names small wide v [] w = refl
clause_named names small wide v (l ∷ ls) w =
    let p = and_parts (is_within (length names) l) (list_all (is_within (length names)) ls) w in
    ap₂ (λ b c. signed l.positive b || c) (v l.atom (within_least (length names) l p.0) (within_most (length names) l p.0)) (clause_named names small wide v ls p.1)

clauses_named : (names : List ℕ) (small wide : ℕ → Bool) → IsNamedValuation names small wide → (cs : List (List Literal)) → list_all (is_clause (length names)) cs ≡ true → IsModel small cs → IsModel wide (Named names cs)
clauses_named names small wide v [] k m = refl
clauses_named names small wide v (c ∷ cs) k m =
    let p = and_parts (is_clause (length names) c) (list_all (is_clause (length names)) cs) k in
    let q = and_parts (clause_true small c) (list_all (clause_true small) cs) m in
    and_from (clause_true wide (named_clause names c)) (list_all (clause_true wide) (Named names cs))
    (clause_named names small wide v c (all_within (length names) c p.0) ∙ q.0) (clauses_named names small wide v cs p.1 q.1)

pub model_named : (names : List ℕ) (wide small : ClauseList) (u v : ℕ → Bool) → small.atoms ≡ length names → list_all (is_clause small.atoms) small.clauses ≡ true → map (named_clause names) small.clauses ≡ wide.clauses → IsNamedValuation names u v → IsModel u small.clauses
    → IsModel v wide.clauses
model_named names wide small u v few clauses is named m =
    subst (IsModel v) is (clauses_named names u v named small.clauses (subst (λ z. list_all (is_clause z) small.clauses ≡ true) few clauses) m)

-- ---- making names

-- a greater atom is a name more
pub record AreUpTo (atoms : ℕ) (names : List ℕ) (last : ℕ) : Type 0 where
  pub names_fit : AreNames atoms names
  pub below : (i : ℕ) → i < length names → get_or names i 0 ≤ last

pub no_names : (atoms last : ℕ) (names : List ℕ) → names ≡ [] → AreUpTo atoms names last
no_names atoms last names is =
    let none : (i : ℕ) → i < length names → ⊥ = λ i l. (let e = ap length is in omega (arith, l, e)) in
    record {
      names_fit = record { rising = λ i j l h. absurd (none j h); from_one = λ i l. absurd (none i l); most = λ i l. absurd (none i l) };
      below = λ i l. absurd (none i l);
    }

pub name_more : (atoms : ℕ) (names more : List ℕ) (last x : ℕ) → AreUpTo atoms names last → last < x → x ≤ atoms → more ≡ names ++ x ∷ [] → AreUpTo atoms more x
name_more atoms names more last x u greater most is = record {
  names_fit = record {
    rising = λ i j less within. elim (cases_lt j (length names)) [
      | inl old ↦ (let rises = u.names_fit.rising i j less old in let a = at_old i (omega (arith, less, old)) in let b = at_old j old in omega (arith, rises, a, b))
      | inr new ↦ (let a = at_old i (omega (arith, less, within, len, new)) in let low = u.below i (omega (arith, less, within, len, new)) in let b = at_new j (omega (arith, within, len, new)) in omega (arith, a, b, low, greater))
    ];
    from_one = λ i within. elim (cases_lt i (length names)) [
      | inl old ↦ (let a = at_old i old in let low = u.names_fit.from_one i old in omega (arith, a, low))
      | inr new ↦ (let b = at_new i (omega (arith, within, len, new)) in omega (arith, b, greater))
    ];
    most = λ i within. elim (cases_lt i (length names)) [
      | inl old ↦ (let a = at_old i old in let high = u.names_fit.most i old in omega (arith, a, high))
      | inr new ↦ (let b = at_new i (omega (arith, within, len, new)) in omega (arith, b, most))
    ];
  };
  below = λ i within. elim (cases_lt i (length names)) [
    | inl old ↦ (let a = at_old i old in let low = u.below i old in omega (arith, a, low, greater))
    | inr new ↦ (let b = at_new i (omega (arith, within, len, new)) in omega (arith, b))
  ];
}
  where
    len : length more ≡ length names + 1
    len = ap length is ∙ length-append names (x ∷ [])

    at_old : (i : ℕ) → i < length names → get_or more i 0 ≡ get_or names i 0
    at_old i l = ap (λ z. get_or z i 0) is ∙ get_or_append_left names (x ∷ []) 0 i l

    at_new : (i : ℕ) → i ≡ length names → get_or more i 0 ≡ x
    at_new i e = ap₂ (λ z k. get_or z k 0) is e ∙ get_or-append_seam names x [] 0

-- ---- the atoms that are true

-- of the names up to a place those that are true, and none behind it
pub record IsNamedUpTo (names : List ℕ) (small : ℕ → Bool) (trues : List ℕ) (at : ℕ) : Type 0 where
  pub so_far : (a : ℕ) → 0 < a → a ≤ at → truths trues (named_atom names a) ≡ small a
  pub later : (a : ℕ) → at < a → a ≤ length names → truths trues (named_atom names a) ≡ false

pub none_true : (names : List ℕ) (small : ℕ → Bool) (trues : List ℕ) → trues ≡ [] → IsNamedUpTo names small trues 0
none_true names small trues is = record {
  so_far = λ a low high. absurd (omega (arith, low, high));
  later = λ a low high. ap (λ z. truths z (named_atom names a)) is;
}

last_truth : (trues more : List ℕ) (x a : ℕ) → more ≡ trues ++ x ∷ [] → truths more a ≡ (truths trues a || eqb x a)
last_truth trues more x a is = ap (λ z. truths z a) is ∙ list_any-append (λ t. eqb t a) trues (x ∷ []) ∙ ap (λ b. truths trues a || b) (or-false (eqb x a))

pub next_true : (atoms : ℕ) (names : List ℕ) (small : ℕ → Bool) (trues more : List ℕ) (at : ℕ) → AreNames atoms names → at < length names → small (at + 1) ≡ true → more ≡ trues ++ get_or names at 0 ∷ [] → IsNamedUpTo names small trues at → IsNamedUpTo names small more (at + 1)
next_true atoms names small trues more at n inside t is h = record {
  so_far = λ a low high. elim (cases_lt at a) [
    | inl new ↦ (let same : a ≡ at + 1 = omega (arith, new, high) in
        subst (λ z. truths more (named_atom names z) ≡ small z) (sym same)
        (last_truth trues more (named_atom names (at + 1)) (named_atom names (at + 1)) here ∙ or_true (truths trues (named_atom names (at + 1))) (eqb (named_atom names (at + 1)) (named_atom names (at + 1))) (self_equal (named_atom names (at + 1))) ∙ sym t))
    | inr old ↦
        last_truth trues more (named_atom names (at + 1)) (named_atom names a) here
        ∙ ap₂ (λ b c. b || c) (h.so_far a low old) (differs a low (omega (arith, old, inside)) (λ e. omega (arith, e, old)))
        ∙ or-false (small a)
  ];
  later = λ a low high.
      last_truth trues more (named_atom names (at + 1)) (named_atom names a) here
      ∙ ap₂ (λ b c. b || c) (h.later a (omega (arith, low)) high) (differs a (omega (arith, low)) high (λ e. omega (arith, e, low)));
}
  where
    here : more ≡ trues ++ named_atom names (at + 1) ∷ []
    here = (let e : at ≡ at + 1 - 1 = omega arith in is ∙ ap (λ k. trues ++ get_or names k 0 ∷ []) e)

    or_true : (b c : Bool) → c ≡ true → (b || c) ≡ true
    or_true true c e = refl
    or_true false c e = e

    differs : (a : ℕ) → 0 < a → a ≤ length names → (at + 1 ≡ a → ⊥) → eqb (named_atom names (at + 1)) (named_atom names a) ≡ false
    differs a low high apart = names_equal atoms names n (at + 1) a (omega arith) (omega (arith, inside)) low high ∙ ne_eqb (at + 1) a apart

pub next_false : (names : List ℕ) (small : ℕ → Bool) (trues : List ℕ) (at : ℕ) → at < length names → small (at + 1) ≡ false → IsNamedUpTo names small trues at → IsNamedUpTo names small trues (at + 1)
next_false names small trues at inside f h = record {
  so_far = λ a low high. elim (cases_lt at a) [
    | inl new ↦ (let same : a ≡ at + 1 = omega (arith, new, high) in subst (λ z. truths trues (named_atom names z) ≡ small z) (sym same) (h.later (at + 1) (omega arith) (omega (arith, inside)) ∙ sym f))
    | inr old ↦ h.so_far a low old
  ];
  later = λ a low high. h.later a (omega (arith, low)) high;
}

pub all_named : (names : List ℕ) (small : ℕ → Bool) (trues : List ℕ) (at : ℕ) → length names ≤ at → IsNamedUpTo names small trues at → IsNamedValuation names small (truths trues)
all_named names small trues at all h a low high = h.so_far a low (omega (arith, all, high))

pub next_either : (atoms : ℕ) (names : List ℕ) (small : ℕ → Bool) (trues more : List ℕ) (at : ℕ) (holds : Bool) → AreNames atoms names → at < length names → holds ≡ small (at + 1) → (holds ≡ true → more ≡ trues ++ get_or names at 0 ∷ []) → (holds ≡ false → more ≡ trues)
    → IsNamedUpTo names small trues at → IsNamedUpTo names small more (at + 1)
next_either atoms names small trues more at true n inside is put left h = next_true atoms names small trues more at n inside (sym is) (put refl) h
next_either atoms names small trues more at false n inside is put left h =
    subst (λ z. IsNamedUpTo names small z (at + 1)) (sym (left refl)) (next_false names small trues at inside (sym is) h)

-- ---- one clause and one step

pub small_fits : (atoms m : ℕ) (names : List ℕ) (c wide : List Literal) → AreNames atoms names → m ≡ length names → list_all (is_within (length names)) c ≡ true → named_clause names c ≡ wide → is_clause atoms wide ≡ true → is_clause m c ≡ true
small_fits atoms m names c wide n few w is h =
    subst (λ k. is_clause k c ≡ true) (sym few)
    (and_from (has_distinct_atoms c) (list_all (is_within (length names)) c) (sym (distinct_named atoms names n c w) ∙ ap has_distinct_atoms is ∙ (and_parts (has_distinct_atoms wide) (list_all (is_within atoms) wide) h).0) w)

pub named_distinct : (atoms : ℕ) (names : List ℕ) (s : Step) (small wide : List Literal) → AreNames atoms names → is_step (length names) s ≡ true → small ≡ s.literals → wide ≡ named_clause names small → has_distinct_atoms wide ≡ true
named_distinct atoms names s small wide n h is made =
    ap has_distinct_atoms (made ∙ ap (named_clause names) is)
    ∙ distinct_named atoms names n s.literals (all_within (length names) s.literals (one_clause (length names) s h))
    ∙ (and_parts (has_distinct_atoms s.literals) (list_all (is_within (length names)) s.literals) (one_clause (length names) s h)).0
