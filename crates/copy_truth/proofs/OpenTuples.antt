-- Terms with open variables, and true tuples.
use Rattle.std.proofs.Common.{◌≡◌, ◌∙◌, ℕ, zero, suc, Ok, Err, nat_cmp, ◌+◌, ◌-◌, ◌<◌, ◌≤◌, ◌==◌, length, Bool, true, false, not, ◌&&◌, ◌||◌, Option, Some, List, [], ◌∷◌, map, refl, sym, ap, subst, arith, cond, inl, inr, nat_lt, lt-ltb, ltb-true, get_or, take, drop, eqb, eqb-true, eq-eqb, if◌then◌else◌}
use Rattle.std.proofs.lemmas.Bool.{and_from, and_parts, cases_Bool, cases_lt, false_from_ne_true, false≢true, or_cases, or_left, or_right}
use Rattle.std.specs.List.Sorted.{IsBinarySearchResult, IsNonDecreasing}
use Rattle.std.proofs.lemmas.List.{take_rest}
use Rattle.std.proofs.lemmas.List.Sorted.{searched}
use Rattle.general_facts.proofs.Lists.{rest_is}
use Rattle.csdn_core.specs.Members.{IsIn}
use Rattle.csdn_core.specs.Network.{same_pred}
use Rattle.csdn_core.specs.declared.terms.Pred.{Pred}
use Rattle.csdn_core.specs.declared.terms.Sort.{Sort}
use Rattle.csdn_core.specs.declared.terms.Term.{Term}
use Rattle.csdn_core.specs.declared.terms.Term.TheVariants.{Const, Port, Var}
use Rattle.clause_log.specs.Literals.{truths}
use Rattle.copy_truth.specs.declared.candidates.Candidates.{Candidates}
use Rattle.copy_truth.specs.declared.opened.Variable.{Variable}
use Rattle.fol_forms.specs.Forms.{Atom}
use Rattle.decision_laws.specs.Copies.{AreBelow, Scope, Tuple, nothing, place, place_sort}
use Rattle.decision_laws.specs.Numbers.{tuple_count, tuple_number, tuple_of}
use Rattle.decision_laws.specs.Vocabulary.{Vocabulary, find_or}
use Rattle.decision_laws.proofs.Basics.{any_gives}
use Rattle.decision_laws.proofs.Facts.{tuple_number-below, tuple_of-number}
use Rattle.ground_inst.specs.Facts.{num_of, sorts_in, tuple_place}
use Rattle.ground_inst.specs.Walk.{Ways, ways_of}
use Rattle.ground_inst.specs.declared.facts.UsedRelation.{UsedRelation}
use Rattle.copy_truth.specs.declared.opened.TheConstants.{OPEN}
use Rattle.copy_truth.specs.declared.reading.Reading.{Reading}
use Rattle.copy_truth.specs.Early.{AreColumns, AreNoneElsewhere, Fits, HoldsElsewhere, IsColumn, at_constant, is_known, is_this, is_variable, may_be, may_be_atom, place_of_variable, used_in}
use Rattle.copy_truth.specs.Matrix.{matrix}
use Rattle.copy_truth.specs.Said.{said_by}
use Rattle.copy_truth.proofs.FitsLaws.{fits_at, is_open, same_place}

-- the relation that is used

used_step : (b : Bool) (u : UsedRelation) (o : Option UsedRelation) (w : UsedRelation) (P : UsedRelation → Type 0) → (if b then Some u else o) ≡ Some w → (b ≡ true → P u) → (b ≡ false → o ≡ Some w → P w) → P w
used_step true u o w P e f g = subst P (let same : u ≡ w = cc in same) (f refl)
used_step false u o w P e f g = g refl e

pub sorts_used : (us : List UsedRelation) (r : Pred) (w : UsedRelation) → used_in us r ≡ Some w → sorts_in us r ≡ w.sorts
sorts_used [] r w e = absurd cc
sorts_used (u ∷ us) r w e =
    used_step (same_pred u.relation r) u (used_in us r) w (λ z. sorts_in (u ∷ us) r ≡ z.sorts) e
    (λ t. ap (λ b. cond b u.sorts (sorts_in us r)) t)
    (λ t q. ap (λ b. cond b u.sorts (sorts_in us r)) t ∙ sorts_used us r w q)

pub place_used : (n : Sort → ℕ) (us : List UsedRelation) (none : ℕ) (r : Pred) (w : UsedRelation) (xs : List ℕ) → used_in us r ≡ Some w → tuple_place n us none r xs ≡ w.before + tuple_number n w.sorts xs
place_used n [] none r w xs e = absurd cc
place_used n (u ∷ us) none r w xs e =
    used_step (same_pred u.relation r) u (used_in us r) w (λ z. tuple_place n (u ∷ us) none r xs ≡ z.before + tuple_number n z.sorts xs) e
    (λ t. ap (λ b. cond b (u.before + tuple_number n u.sorts xs) (tuple_place n us none r xs)) t)
    (λ t q. ap (λ b. cond b (u.before + tuple_number n u.sorts xs) (tuple_place n us none r xs)) t ∙ place_used n us none r w xs q)

pub true_in : (x : ℕ) (ts : List ℕ) → truths ts x ≡ true → IsIn x ts
true_in x ts e = (let w = any_gives (λ t. eqb t x) ts e in subst (λ z. IsIn z ts) (eqb-true w.0 x w.2) w.1)

module _ (m : Ways) (env : Scope) where
  pub column_open : (t : Term) (s : Sort) → place_sort m.voc env t ≡ s → place m.voc env t ≡ OPEN → is_variable t ≡ true → IsColumn m env t s
  column_open t s e o h = record { sort = e; known = λ k. absurd (false≢true (sym (ap (λ x. not (x == OPEN)) o) ∙ k)); open' = λ k. h }

  pub column_known : (t : Term) (s : Sort) → place_sort m.voc env t ≡ s → (place m.voc env t ≡ OPEN → ⊥) → place m.voc env t < m.count s → IsColumn m env t s
  column_known t s e ne l = record { sort = e; known = λ k. l; open' = λ k. absurd (ne (eqb-true (place m.voc env t) OPEN (is_open (place m.voc env t == OPEN) k))) }

  module _ (full : Scope) (fits : Fits m.count env full) where
    open_below : (t : Term) (s : Sort) → place_sort m.voc env t ≡ s → is_variable t ≡ true → is_known m.voc env t ≡ false → place m.voc full t < m.count s
    open_below (Var v) s e i k = subst (λ z. (find_or nothing full v.0).1 < m.count z) (sym (fits v.0).sort ∙ e) ((fits v.0).below k)
    open_below (Const c) s e i k = absurd (false≢true i)
    open_below (Port p) s e i k = absurd (false≢true i)

    column_below : (t : Term) (s : Sort) → IsColumn m env t s → place m.voc full t < m.count s
    column_below t s h =
        elim (cases_Bool (is_known m.voc env t)) [
          | inl k ↦ subst (λ x. x < m.count s) (same_place m.count m.voc env full fits t k) (h.known k)
          | inr k ↦ open_below t s h.sort (h.open' k) k
        ]

    columns_below : (ts : List Term) (ss : List Sort) → AreColumns m env ts ss → AreBelow m.count ss (map (place m.voc full) ts)
    columns_below [] [] h = tt
    columns_below [] (s ∷ ss) h = absurd h
    columns_below (t ∷ ts) [] h = absurd h
    columns_below (t ∷ ts) (s ∷ ss) h = (column_below t s h.0, columns_below ts ss h.1)

    may_be_one : (t : Term) → (place m.voc env t == OPEN || place m.voc env t == place m.voc full t) ≡ true
    may_be_one t =
        elim (cases_Bool (place m.voc env t == OPEN)) [
          | inl o ↦ or_left (place m.voc env t == OPEN) (place m.voc env t == place m.voc full t) o
          | inr k ↦ or_right (place m.voc env t == OPEN) (place m.voc env t == place m.voc full t) (eq-eqb (place m.voc env t) (place m.voc full t) (same_place m.count m.voc env full fits t (ap not k)))
        ]

    may_be_these : (ts : List Term) → may_be m.voc env ts (map (place m.voc full) ts) ≡ true
    may_be_these [] = refl
    may_be_these (t ∷ ts) = and_from (place m.voc env t == OPEN || place m.voc env t == place m.voc full t) (may_be m.voc env ts (map (place m.voc full) ts)) (may_be_one t) (may_be_these ts)

    -- an atom that is numbered as these constants say may be it
    may_be_numbered : (u : UsedRelation) (ts : List Term) (x : ℕ) → AreBelow m.count u.sorts (map (place m.voc full) ts) → x ≡ suc (u.before + tuple_number m.count u.sorts (map (place m.voc full) ts)) → may_be_atom m env u ts x ≡ true
    may_be_numbered u ts x below e =
        let xs = map (place m.voc full) ts in
        let small = tuple_number-below m.count u.sorts xs below in
        let k : x - u.before - 1 ≡ tuple_number m.count u.sorts xs = omega (arith, e) in
        let low : u.before < x = omega (arith, e) in
        let high : x - u.before - 1 < tuple_count m.count u.sorts = omega (arith, k, small) in
        and_from (nat_lt u.before x && nat_lt (x - u.before - 1) (tuple_count m.count u.sorts)) (may_be m.voc env ts (tuple_of m.count u.sorts (x - u.before - 1)))
        (and_from (nat_lt u.before x) (nat_lt (x - u.before - 1) (tuple_count m.count u.sorts)) (lt-ltb u.before x low) (lt-ltb (x - u.before - 1) (tuple_count m.count u.sorts) high))
        (ap (may_be m.voc env ts) (ap (tuple_of m.count u.sorts) k ∙ tuple_of-number m.count u.sorts xs below) ∙ may_be_these ts)

-- where no true atom may be one of the relation over these terms, the negated atom is true
module _ (r : Reading) (env : Scope) (rel : Pred) (u : UsedRelation) (ts : List Term) (is : used_in r.names.facts.now.relations rel ≡ Some u) where
  number_is : (xs : List ℕ) → num_of r.names.facts.now (Tuple rel xs) ≡ suc (u.before + tuple_number (ways_of r.names).count u.sorts xs)
  unfolding num_of
  number_is xs = ap suc (place_used (ways_of r.names).count r.names.facts.now.relations r.names.facts.now.count rel u xs is)

  none_at : (here full : Scope) → AreColumns (ways_of r.names) env ts u.sorts → Fits (ways_of r.names).count env full → Fits (ways_of r.names).count here full → ((t : ℕ) → IsIn t r.trues.now → may_be_atom (ways_of r.names) here u ts t ≡ false) → matrix r (Atom false rel ts) full ≡ true
  unfolding said_by
  none_at here full h fits fits_here none =
      let xs = map (place (ways_of r.names).voc full) ts in
      let x = num_of r.names.facts.now (Tuple rel xs) in
      let below = columns_below (ways_of r.names) env full fits ts u.sorts h in
      elim (cases_Bool (truths r.trues.now x)) [
        | inl t ↦ absurd (false≢true (sym (none x (true_in x r.trues.now t)) ∙ may_be_numbered (ways_of r.names) here full fits_here u ts x below (number_is xs)))
        | inr f ↦ ap not f
      ]

  pub rows_elsewhere : (x : Variable) (within missed : Candidates) → AreColumns (ways_of r.names) env ts u.sorts → AreNoneElsewhere (ways_of r.names) env x within missed u ts r.trues.now → HoldsElsewhere r (Atom false rel ts) env x within missed
  rows_elsewhere x within missed h none full fits at =
      let p = find_or nothing full x.var.0 in
      none_at (at_constant x p.1 env) full h fits (fits_at (ways_of r.names).count env full x.var.0 x.sort fits at.sort at.below) (none p.1 at.inside at.outside)

-- A variable that is open is bound to a constant.

module _ (voc : Vocabulary) (env : Scope) (x : Variable) (k : ℕ) (open' : is_known voc env (Var x.var) ≡ false) where
  may_by : (b : Bool) (q : ℕ) (o p : Sort × ℕ) → (b ≡ true → (o.1 == OPEN) ≡ true) → ((cond b p o).1 == OPEN || (cond b p o).1 == q) ≡ true → (o.1 == OPEN || o.1 == q) ≡ true
  may_by true q o p f h = or_left (o.1 == OPEN) (o.1 == q) (f refl)
  may_by false q o p f h = h

  may_still : (t : Term) (q : ℕ) → (place voc (at_constant x k env) t == OPEN || place voc (at_constant x k env) t == q) ≡ true → (place voc env t == OPEN || place voc env t == q) ≡ true
  may_still (Var v) q h =
      may_by (v.0 == x.var.0) q (find_or nothing env v.0) (x.sort, k) (λ t. subst (λ w. ((find_or nothing env w).1 == OPEN) ≡ true) (sym (eqb-true v.0 x.var.0 t)) (is_open ((find_or nothing env x.var.0).1 == OPEN) open')) h
  may_still (Const c) q h = h
  may_still (Port n) q h = h

  may_be_still : (ts : List Term) (qs : List ℕ) → may_be voc (at_constant x k env) ts qs ≡ true → may_be voc env ts qs ≡ true
  may_be_still [] [] h = refl
  may_be_still [] (q ∷ qs) h = h
  may_be_still (t ∷ ts) [] h = h
  may_be_still (t ∷ ts) (q ∷ qs) h =
      let parts = and_parts (place voc (at_constant x k env) t == OPEN || place voc (at_constant x k env) t == q) (may_be voc (at_constant x k env) ts qs) h in
      and_from (place voc env t == OPEN || place voc env t == q) (may_be voc env ts qs) (may_still t q parts.0) (may_be_still ts qs parts.1)

-- where a tuple has another constant for the variable, the atom is not this one
module _ (voc : Vocabulary) (env : Scope) (x : Variable) (k : ℕ) (small : k < 128) where
  stands_here : (b : Bool) (q : ℕ) (o : Sort × ℕ) → b ≡ true → ((cond b (x.sort, k) o).1 == OPEN || (cond b (x.sort, k) o).1 == q) ≡ true → k ≡ q
  stands_here true q o e h =
      elim (or_cases (k == OPEN) (k == q) h) [ inl t ↦ absurd (omega (arith, small, eqb-true k OPEN t)) | inr t ↦ eqb-true k q t ]
  stands_here false q o e h = absurd (false≢true e)

  this_place : (t : Term) (q : ℕ) → is_this x.var t ≡ true → (place voc (at_constant x k env) t == OPEN || place voc (at_constant x k env) t == q) ≡ true → k ≡ q
  this_place (Var v) q e h = stands_here (v.0 == x.var.0) q (find_or nothing env v.0) e h
  this_place (Const c) q e h = absurd (false≢true e)
  this_place (Port n) q e h = absurd (false≢true e)

  place_by : (b : Bool) (q p : ℕ) (o : Option ℕ) → (if b then Some q else o) ≡ Some p → (b ≡ true → k ≡ q) → (o ≡ Some p → k ≡ p) → k ≡ p
  place_by true q p o e f g = f refl ∙ (let same : q ≡ p = cc in same)
  place_by false q p o e f g = g e

  pub column_is : (ts : List Term) (qs : List ℕ) (p : ℕ) → place_of_variable x.var ts qs ≡ Some p → may_be voc (at_constant x k env) ts qs ≡ true → k ≡ p
  column_is [] qs p e h = absurd cc
  column_is (t ∷ ts) [] p e h = absurd cc
  column_is (t ∷ ts) (q ∷ qs) p e h =
      let parts = and_parts (place voc (at_constant x k env) t == OPEN || place voc (at_constant x k env) t == q) (may_be voc (at_constant x k env) ts qs) h in
      place_by (is_this x.var t) q p (place_of_variable x.var ts qs) e (λ i. this_place t q i parts.0) (λ i. column_is ts qs p i parts.1)

module _ (m : Ways) (env : Scope) (x : Variable) (u : UsedRelation) (ts : List Term) (t k : ℕ) where
  pub none_still : is_known m.voc env (Var x.var) ≡ false → may_be_atom m env u ts t ≡ false → may_be_atom m (at_constant x k env) u ts t ≡ false
  none_still open' h =
      let inside = nat_lt u.before t && nat_lt (t - u.before - 1) (tuple_count m.count u.sorts) in
      let xs = tuple_of m.count u.sorts (t - u.before - 1) in
      false_from_ne_true (may_be_atom m (at_constant x k env) u ts t)
      (λ e. let parts = and_parts inside (may_be m.voc (at_constant x k env) ts xs) e in
      false≢true (sym h ∙ and_from inside (may_be m.voc env ts xs) parts.0 (may_be_still m.voc env x k open' ts xs parts.1)))

  pub none_beside : (n p : ℕ) → k < 128 → n ≡ t - u.before - 1 → place_of_variable x.var ts (tuple_of m.count u.sorts n) ≡ Some p → (k == p) ≡ false → may_be_atom m (at_constant x k env) u ts t ≡ false
  none_beside n p small e is other =
      let inside = nat_lt u.before t && nat_lt (t - u.before - 1) (tuple_count m.count u.sorts) in
      let xs = tuple_of m.count u.sorts (t - u.before - 1) in
      false_from_ne_true (may_be_atom m (at_constant x k env) u ts t)
      (λ h. let parts = and_parts inside (may_be m.voc (at_constant x k env) ts xs) h in
      false≢true (sym other ∙ eq-eqb k p (column_is m.voc env x k small ts xs p (subst (λ z. place_of_variable x.var ts (tuple_of m.count u.sorts z) ≡ Some p) e is) parts.1)))

-- no terms stand for some constants
pub none_there : (voc : Vocabulary) (env : Scope) (n : Sort → ℕ) (ts : List Term) (ss : List Sort) (k : ℕ) → length ts < 1 → 1 ≤ length ss → false ≡ may_be voc env ts (tuple_of n ss k)
none_there voc env n [] [] k l m = absurd (omega (arith, m))
none_there voc env n [] (s ∷ ss) k l m = refl
none_there voc env n (t ∷ ts) ss k l m = absurd (omega (arith, l))

-- A look at the true atoms, which rise.

index_of_in : (ys : List ℕ) (t : ℕ) → IsIn t ys → (k : ℕ) × (k < length ys) × (get_or ys k 0 ≡ t)
index_of_in [] t i = absurd i
index_of_in (y ∷ ys) t i =
    elim i [ inl e ↦ (0, omega arith, sym e) | inr j ↦ (let w = index_of_in ys t j in (suc w.0, omega (arith, w.1), w.2)) ]

rising_first : (x : ℕ) (xs : List ℕ) → IsNonDecreasing (x ∷ xs) → (t : ℕ) → IsIn t (x ∷ xs) → x ≤ t
rising_first x xs h t i =
    elim i [
      | inl e ↦ omega (arith, e)
      | inr j ↦ (let w = index_of_in xs t j in let l : x ≤ get_or (x ∷ xs) (suc w.0) 0 = h 0 (suc w.0) 0 (omega arith) (omega (arith, w.1)) in omega (arith, l, w.2))
    ]

rising_rest : (x : ℕ) (xs : List ℕ) → IsNonDecreasing (x ∷ xs) → IsNonDecreasing xs
rising_rest x xs h i j d l m = h (suc i) (suc j) d (omega (arith, l)) (omega (arith, m))

-- members that are more than all those before a place stand from it on
passed_in : (xs : List ℕ) (place low : ℕ) → ((k : ℕ) → k < place → k < length xs → get_or xs k 0 ≤ low) → (t : ℕ) → IsIn t xs → low < t → IsIn t (drop place xs)
passed_in xs zero low h t i l = i
passed_in [] (suc p) low h t i l = absurd i
passed_in (x ∷ xs) (suc p) low h t i l =
    elim i [
      | inl e ↦ (let first : x ≤ low = h 0 (omega arith) (omega arith) in absurd (omega (arith, e, l, first)))
      | inr j ↦ passed_in xs p low (λ k m n. h (suc k) (omega (arith, m)) (omega (arith, n))) t j l
    ]

module _ (xs : List ℕ) (low place : ℕ) (rises : IsNonDecreasing xs) where
  pub in_from_equal : IsBinarySearchResult (λ y. nat_cmp y low) xs (Ok place) → (t : ℕ) → IsIn t xs → low < t → IsIn t (take (length xs - place) (drop place xs))
  in_from_equal found t i l =
      let at = searched xs low (Ok place) found (λ i j d m. rises i j 0 d m) in
      subst (IsIn t) (sym (take_rest xs place)) (passed_in xs place low (λ k m n. (let b = rises k place 0 (omega (arith, m)) at.0 in omega (arith, b, at.1))) t i l)

  pub in_from_next : IsBinarySearchResult (λ y. nat_cmp y low) xs (Err place) → (t : ℕ) → IsIn t xs → low < t → IsIn t (take (length xs - place) (drop place xs))
  in_from_next found t i l =
      let at = searched xs low (Err place) found (λ i j d m. rises i j 0 d m) in
      subst (IsIn t) (sym (take_rest xs place)) (passed_in xs place low (λ k m n. (let b = at.1 k m in omega (arith, b))) t i l)

not_lt : (a b : ℕ) → b ≤ a → nat_lt a b ≡ false
not_lt a b h = false_from_ne_true (nat_lt a b) (λ e. absurd (omega (arith, h, ltb-true a b e)))

module _ (m : Ways) (env : Scope) (u : UsedRelation) (ts : List Term) where
  abbrev pub AreNone : List ℕ → Type 0
  AreNone xs = (t : ℕ) → IsIn t xs → may_be_atom m env u ts t ≡ false

  -- none of all is one, where none of the rest is
  pub record LooksOn (all rest : List ℕ) : Type 0 where
    pub whole : AreNone rest → AreNone all
    pub rises : IsNonDecreasing rest

  not_near : (t : ℕ) → t ≤ u.before → may_be_atom m env u ts t ≡ false
  not_near t l =
      ap (λ b. (b && nat_lt (t - u.before - 1) (tuple_count m.count u.sorts)) && may_be m.voc env ts (tuple_of m.count u.sorts (t - u.before - 1))) (not_lt u.before t l)

  pub looks_begin : (all rest : List ℕ) → ((t : ℕ) → IsIn t all → u.before < t → IsIn t rest) → IsNonDecreasing rest → LooksOn all rest
  looks_begin all rest behind h = record {
    whole = λ n t i. elim (cases_lt u.before t) [ inl l ↦ n t (behind t i l) | inr l ↦ not_near t l ];
    rises = h;
  }

  far_by : (t : ℕ) (b c : Bool) → (b ≡ true → u.before < t) → (u.before < t → c ≡ false) → (b && c) ≡ false
  far_by t true c f g = g (f refl)
  far_by t false c f g = refl

  not_far : (t : ℕ) → u.before + tuple_count m.count u.sorts < t → may_be_atom m env u ts t ≡ false
  not_far t l =
      let n = tuple_count m.count u.sorts in
      let out : nat_lt (t - u.before - 1) n ≡ false = not_lt (t - u.before - 1) n (omega (arith, l)) in
      let inner : (nat_lt u.before t && nat_lt (t - u.before - 1) n) ≡ false = far_by t (nat_lt u.before t) (nat_lt (t - u.before - 1) n) (λ e. ltb-true u.before t e) (λ z. out) in
      ap (λ b. b && may_be m.voc env ts (tuple_of m.count u.sorts (t - u.before - 1))) inner

  pub looks_behind : (all rest : List ℕ) (d n : ℕ) → LooksOn all rest → 1 ≤ length rest → n ≡ tuple_count m.count u.sorts → u.before + n < get_or rest 0 d → AreNone all
  looks_behind all [] d n h l e b = absurd (omega (arith, l))
  looks_behind all (x ∷ xs) d n h l e b = h.whole (λ t i. not_far t (let low = rising_first x xs h.rises t i in omega (arith, low, b, e)))

  pub looks_next : (all rest : List ℕ) (d : ℕ) → LooksOn all rest → 1 ≤ length rest → may_be_atom m env u ts (get_or rest 0 d) ≡ false → LooksOn all (take (length rest - 1) (drop 1 rest))
  looks_next all [] d h l e = absurd (omega (arith, l))
  looks_next all (x ∷ xs) d h l e = subst (LooksOn all) (sym (rest_is x xs)) (record {
    whole = λ n. h.whole (λ t i. elim i [ inl q ↦ subst (λ z. may_be_atom m env u ts z ≡ false) (sym q) e | inr j ↦ n t j ]);
    rises = rising_rest x xs h.rises;
  })
