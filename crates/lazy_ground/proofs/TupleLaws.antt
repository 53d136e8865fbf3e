-- The clauses of true tuples are all that say something.
use Rattle.std.proofs.Common.{◌≡◌, ◌∙◌, ℕ, suc, ◌+◌, ◌-◌, ◌<◌, Bool, true, false, not, ◌||◌, ◌&&◌, Option, Some, None, List, [], ◌∷◌, ◌++◌, refl, sym, ap, ap₂, subst, arith, cond, inl, inr, flat_map, nat_lt, lt-ltb, ltb-true, append_assoc, length, get_or, take, drop, if◌then◌else◌}
use mathlib.Core.Path.{fun_ext}
use Rattle.csdn_core.specs.declared.terms.Sort.TheVariants.{Sw}
use Rattle.std.proofs.lemmas.Bool.{and_from, and_parts, cases_Bool}
use Rattle.csdn_core.specs.Members.{IsIn}
use Rattle.csdn_core.proofs.Members.{flat_in, in_both, in_flat, one_in}
use Rattle.csdn_core.specs.Network.{same_pred}
use Rattle.csdn_core.specs.declared.program.Parts.{Parts}
use Rattle.csdn_core.specs.declared.terms.Pred.{Pred}
use Rattle.csdn_core.specs.declared.terms.Sort.{Sort}
use Rattle.clause_log.specs.Literals.{Literal, clause_true, truths}
use Rattle.fol_forms.specs.Counts.{count_of}
use Rattle.decision_laws.specs.Classes.{all_tuples}
use Rattle.decision_laws.specs.Clauses.{may_meet, no, replace_clause, replace_clauses, replace_from, yes}
use Rattle.decision_laws.specs.Copies.{AreBelow, Equation, Fact, Tuple}
use Rattle.decision_laws.specs.Numbers.{tuple_count, tuple_number, tuple_of}
use Rattle.decision_laws.specs.Vocabulary.{Vocabulary, places_from}
use Rattle.decision_laws.proofs.Facts.{tuple_number-below, tuple_of-below, tuple_of-number}
use Rattle.decision_laws.proofs.Lists.{in_tuples, tuple_in}
use Rattle.decision_laws.proofs.Read.{AllTrue}
use Rattle.ground_inst.specs.Equality.{exchange_at, exchanges}
use Rattle.ground_inst.proofs.Turns.{exchanged_clause, next_place}
use Rattle.ground_inst.specs.Facts.{num_of, sorts_in, vocabulary_of}
use Rattle.ground_inst.specs.declared.facts.Facts.{Facts}
use Rattle.ground_inst.specs.declared.facts.UsedRelation.{UsedRelation}
use Rattle.lazy_ground.specs.Found.{Finds}
use Rattle.copy_truth.specs.Early.{used_in}
use Rattle.copy_truth.proofs.OpenTuples.{place_used, sorts_used, true_in}
use Rattle.lazy_ground.specs.Tuples.{tuple_clauses}
use Rattle.lazy_ground.proofs.FindLaws.{finds_none}

-- a relation that is not used

unused_step : (b : Bool) (u : UsedRelation) (o : Option UsedRelation) (ss : List Sort) → (o ≡ None → ss ≡ []) → (if b then Some u else o) ≡ None → (if b then u.sorts else ss) ≡ []
unused_step true u o ss h q = absurd cc
unused_step false u o ss h q = h q

pub sorts_unused : (us : List UsedRelation) (r : Pred) → used_in us r ≡ None → sorts_in us r ≡ []
sorts_unused [] r e = refl
sorts_unused (u ∷ us) r e = unused_step (same_pred u.relation r) u (used_in us r) (sorts_in us r) (sorts_unused us r) e

-- the clauses of a column, and those of the columns after it
pub column_split : (P : Parts) (facts : Facts) (r : Pred) (cols : List Sort) (at : ℕ) (s : Sort) (ys zs : List ℕ) → at < length cols → at < length ys → s ≡ get_or cols at Sw → zs ≡ ys
    → replace_from (num_of facts) (count_of facts.counts) (vocabulary_of P facts) r (take at ys) (drop at cols) (drop at ys)
    ≡ flat_map (λ b. exchange_at P facts r s ys (no (num_of facts (Tuple r ys))) at (get_or ys at 0) b) (places_from 0 (count_of facts.counts s))
    ++ replace_from (num_of facts) (count_of facts.counts) (vocabulary_of P facts) r (take (at + 1) zs) (drop (at + 1) cols) (drop (at + 1) zs)
column_split P facts r cols at s ys zs in_cols in_ys is kept =
    let num = num_of facts in
    let n = count_of facts.counts in
    let voc = vocabulary_of P facts in
    let one : ℕ → List (List Literal) = λ b. exchange_at P facts r s ys (no (num (Tuple r ys))) at (get_or ys at 0) b in
    let part : ℕ → List (List Literal) = λ b. if may_meet voc s (get_or ys at 0) b then replace_clause num r s (take at ys) (drop (at + 1) ys) (get_or ys at 0) b ∷ [] else [] in
    let same : (b : ℕ) → part b ≡ one b =
    λ b. ap (λ z. if may_meet voc s (get_or ys at 0) b then z ∷ [] else []) (exchanged_clause num n voc r s at ys b in_ys) in
    next_place num n voc r at cols s ys in_cols in_ys is
    ∙ ap₂ (λ f xs. flat_map f (places_from 0 (n s)) ++ replace_from num n voc r (take (at + 1) xs) (drop (at + 1) cols) (drop (at + 1) xs)) (fun_ext same) (sym kept)

-- a clause with a negated atom that is false
second_true : (x y z : Bool) → y ≡ false → (not x || (not y || (z || false))) ≡ true
second_true true y z e = ap (λ b. not b || (z || false)) e
second_true false y z e = refl

pub third_cond : (v : ℕ → Bool) (b : Bool) (x y z : ℕ) → v y ≡ false → (c : List Literal) → IsIn c (cond b ((no x ∷ no y ∷ yes z ∷ []) ∷ []) []) → clause_true v c ≡ true
third_cond v true x y z e c i = subst (λ d. clause_true v d ≡ true) (sym (one_in c (no x ∷ no y ∷ yes z ∷ []) i)) (second_true (v x) (v y) (v z) e)
third_cond v false x y z e c i = elim i [ ]

replace_true : (num : Fact → ℕ) (n : Sort → ℕ) (voc : Vocabulary) (r : Pred) (v : ℕ → Bool) (whole front : List ℕ) (ss : List Sort) (xs : List ℕ) → front ++ xs ≡ whole → v (num (Tuple r whole)) ≡ false → AllTrue v (replace_from num n voc r front ss xs)
replace_true num n voc r v whole front [] xs e f c i = elim i [ ]
replace_true num n voc r v whole front (s ∷ ss) [] e f c i = elim i [ ]
replace_true num n voc r v whole front (s ∷ ss) (a ∷ back) e f c i =
    let make : ℕ → List (List Literal) = λ b. if may_meet voc s a b then replace_clause num r s front back a b ∷ [] else [] in
    elim (in_both (flat_map make (places_from 0 (n s))) (replace_from num n voc r (front ++ a ∷ []) ss back) c i) [
      | inl x ↦ (
          let w = flat_in make (places_from 0 (n s)) c x in
          third_cond v (may_meet voc s a w.0) (num (Equation s a w.0)) (num (Tuple r (front ++ a ∷ back))) (num (Tuple r (front ++ w.0 ∷ back))) (ap (λ z. v (num (Tuple r z))) e ∙ f) c w.2)
      | inr x ↦ replace_true num n voc r v whole (front ++ a ∷ []) ss back (append_assoc front (a ∷ []) back ∙ e) f c x
    ]

module _ (P : Parts) (facts : Facts) (r : Pred) (u : UsedRelation) (is : used_in facts.relations r ≡ Some u) (trues : List ℕ) where
  abbrev n : Sort → ℕ
  n = count_of facts.counts

  abbrev voc : Vocabulary
  voc = vocabulary_of P facts

  abbrev v : ℕ → Bool
  v = truths trues

  abbrev parts : ℕ → List (List Literal)
  parts t = tuple_clauses P facts r u t

  abbrev by_sorts : List Sort → List (List Literal)
  by_sorts ss = flat_map (λ xs. replace_from (num_of facts) n voc r [] ss xs) (all_tuples n ss)

  by_used : replace_clauses (num_of facts) n voc r ≡ by_sorts u.sorts
  by_used = ap by_sorts (sorts_used facts.relations r u is)

  clauses_at : (b : Bool) (t : ℕ) (c : List Literal) → (nat_lt u.before t && nat_lt (t - u.before - 1) (tuple_count n u.sorts)) ≡ b → IsIn c (if b then exchanges P facts r u.sorts (tuple_of n u.sorts (t - u.before - 1)) else []) → IsIn c (by_sorts u.sorts)
  clauses_at true t c e i =
      let l = ltb-true (t - u.before - 1) (tuple_count n u.sorts) (and_parts (nat_lt u.before t) (nat_lt (t - u.before - 1) (tuple_count n u.sorts)) e).1 in
      let xs = tuple_of n u.sorts (t - u.before - 1) in
      in_flat (λ ys. replace_from (num_of facts) n voc r [] u.sorts ys) (all_tuples n u.sorts) xs c (tuple_in n u.sorts xs (tuple_of-below n u.sorts (t - u.before - 1) l)) i
  clauses_at false t c e i = elim i [ ]

  number_is : (xs : List ℕ) → num_of facts (Tuple r xs) ≡ suc (u.before + tuple_number n u.sorts xs)
  unfolding num_of
  number_is xs = ap suc (place_used n facts.relations facts.count r u xs is)

  at_true : (xs : List ℕ) → AreBelow n u.sorts xs → parts (num_of facts (Tuple r xs)) ≡ exchanges P facts r u.sorts xs
  at_true xs below =
      let t = num_of facts (Tuple r xs) in
      let k : t - u.before - 1 ≡ tuple_number n u.sorts xs = omega (arith, number_is xs) in
      let small = tuple_number-below n u.sorts xs below in
      let low : u.before < t = omega (arith, number_is xs) in
      let high : t - u.before - 1 < tuple_count n u.sorts = omega (arith, k, small) in
      ap (λ b. if b then exchanges P facts r u.sorts (tuple_of n u.sorts (t - u.before - 1)) else []) (and_from (nat_lt u.before t) (nat_lt (t - u.before - 1) (tuple_count n u.sorts)) (lt-ltb u.before t low) (lt-ltb (t - u.before - 1) (tuple_count n u.sorts) high))
      ∙ ap (exchanges P facts r u.sorts) (ap (tuple_of n u.sorts) k ∙ tuple_of-number n u.sorts xs below)

  -- what is found of the tuples of true atoms
  pub replaced_found : (old new : List (List Literal)) → Finds v (flat_map parts trues) old new → Finds v (replace_clauses (num_of facts) n voc r) old new
  replaced_found old new h = subst (λ z. Finds v z old new) (sym by_used) (record {
    within = λ c i.
        elim (h.within c i) [
          | inl x ↦ inl x
          | inr x ↦ (let w = flat_in parts trues c x.0 in inr (clauses_at (nat_lt u.before w.0 && nat_lt (w.0 - u.before - 1) (tuple_count n u.sorts)) w.0 c refl w.2, x.1))
        ];
    nothing = h.nothing;
    all = λ e c i.
        let w = flat_in (λ ys. replace_from (num_of facts) n voc r [] u.sorts ys) (all_tuples n u.sorts) c i in
        let below = in_tuples n u.sorts w.0 w.1 in
        elim (cases_Bool (v (num_of facts (Tuple r w.0)))) [
          | inl t ↦ h.all e c (in_flat parts trues (num_of facts (Tuple r w.0)) c (true_in (num_of facts (Tuple r w.0)) trues t) (subst (IsIn c) (sym (at_true w.0 below)) w.2))
          | inr f ↦ replace_true (num_of facts) n voc r v w.0 [] u.sorts w.0 refl f c w.2
        ];
  })

-- of a relation that is not used nothing is replaced
pub none_replaced : (P : Parts) (facts : Facts) (r : Pred) (trues : List ℕ) (rows : List (List Literal)) → used_in facts.relations r ≡ None → Finds (truths trues) (replace_clauses (num_of facts) (count_of facts.counts) (vocabulary_of P facts) r) rows rows
none_replaced P facts r trues rows e =
    subst (λ ss. Finds (truths trues) (flat_map (λ xs. replace_from (num_of facts) (count_of facts.counts) (vocabulary_of P facts) r [] ss xs) (all_tuples (count_of facts.counts) ss)) rows rows) (sym (sorts_unused facts.relations r e)) (finds_none (truths trues) rows)
