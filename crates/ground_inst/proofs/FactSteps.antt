-- How the facts of a sentence are gathered.
use Rattle.std.proofs.Common.{Bool, List, [], ap, ap₂, arith, cond, false, filter, get_or, length, map, refl, suc, sym, true, zero, ℕ, ◌*◌, ◌+◌, ◌++◌, ◌-◌, ◌<◌, ◌^◌, ◌∙◌, ◌∷◌, ◌≡◌, ◌≤◌}
use Rattle.std.proofs.Math.Nat.{one-mul, le-mul_of_pos_right}
use Rattle.std.proofs.Math.Path.{fun_ext}
use Rattle.std.proofs.lemmas.List.{append_assoc, append-nil}
use Rattle.std.proofs.lemmas.Option.{slice_get-get_or}
use Rattle.std.specs.Prelude.{option_map, Some}
use Rattle.csdn_core.specs.Sorted.{sorts_of, flow_sorts}
use Rattle.csdn_core.specs.WellSorted.{signature}
use Rattle.csdn_core.specs.declared.program.Parts.{Parts}
use Rattle.csdn_core.specs.declared.program.Relation.{Relation}
use Rattle.csdn_core.specs.declared.syntax.Formula.{Formula}
use Rattle.csdn_core.specs.declared.terms.Pred.{Pred}
use Rattle.csdn_core.specs.declared.terms.Pred.TheVariants.{Ft, Sent, Stored}
use Rattle.csdn_core.specs.declared.terms.Sort.{Sort}
use Rattle.csdn_core.specs.declared.terms.Sort.TheVariants.{Ho, Pr, Sw}
use Rattle.fol_forms.specs.Constants.{counts}
use Rattle.fol_forms.specs.Counts.{count_of}
use Rattle.fol_forms.specs.Forms.{form_of}
use Rattle.fol_forms.specs.Limits.{capped}
use Rattle.decision_laws.specs.Laws.{words}
use Rattle.decision_laws.specs.Numbers.{Tuples, fact_count, total, tuple_count}
use Rattle.decision_laws.specs.Vocabulary.{Vocabulary, all_relations, places_from, sorts_or, uses}
use Rattle.ground_inst.specs.Facts.{AreFactsOf, declared, equation_count, numbered, with_relation, with_relations}
use Rattle.ground_inst.specs.declared.facts.Facts.{Facts}
use Rattle.ground_inst.specs.declared.facts.UsedRelation.{UsedRelation}

abbrev pub stored : ℕ → Pred
stored k = Stored (record { 0 = k })

abbrev pub columns : Parts → Pred → List Sort
columns P r = sorts_or (sorts_of (signature P) r)

pub sorts_at : (P : Parts) (i : ℕ) (d : Relation) → i < length P.relations → d ≡ get_or P.relations i d → columns P (stored i) ≡ d.sorts
sorts_at P i d l e = ap (λ o. sorts_or (option_map (λ r. r.sorts) o)) (slice_get-get_or P.relations i d l ∙ ap Some (sym e))

module _ (used : Pred → Bool) (cols : Pred → List Sort) where
  pub with_relations-append : (facts : Facts) (rs qs : List Pred) → with_relations used cols facts (rs ++ qs) ≡ with_relations used cols (with_relations used cols facts rs) qs
  with_relations-append facts [] qs = refl
  with_relations-append facts (r ∷ rs) qs = with_relations-append (with_relation (used r) facts r (cols r)) rs qs

  -- one more of the declared relations
  pub next_relation : (facts new : Facts) (i m : ℕ) (ss : List Sort) → i < m → cols (stored i) ≡ ss → new ≡ with_relation (used (stored i)) facts (stored i) ss
      → with_relations used cols new (map stored (places_from (i + 1) (m - (i + 1)))) ≡ with_relations used cols facts (map stored (places_from i (m - i)))
  next_relation facts new i m ss l e q =
      let one : m - i ≡ suc (m - (i + 1)) = omega arith in
      let next : i + 1 ≡ suc i = omega arith in
      ap (λ z. with_relations used cols z (map stored (places_from (i + 1) (m - (i + 1))))) (q ∙ ap (λ z. with_relation (used (stored i)) facts (stored i) z) (sym e))
      ∙ ap (λ z. with_relations used cols (with_relation (used (stored i)) facts (stored i) (cols (stored i))) (map stored (places_from z (m - (i + 1))))) next
      ∙ ap (λ z. with_relations used cols facts (map stored (places_from i z))) (sym one)

  counts_step : (b : Bool) (facts : Facts) (r : Pred) (ss : List Sort) → (with_relation b facts r ss).counts ≡ facts.counts
  counts_step true facts r ss = refl
  counts_step false facts r ss = refl

  pub kept_counts : (facts : Facts) (rs : List Pred) → (with_relations used cols facts rs).counts ≡ facts.counts
  kept_counts facts [] = refl
  kept_counts facts (r ∷ rs) = kept_counts (with_relation (used r) facts r (cols r)) rs ∙ counts_step (used r) facts r (cols r)

  module _ (n : Sort → ℕ) where
    listed_step : (b : Bool) (facts : Facts) (r : Pred) (rs : List Pred) (us : List UsedRelation) → count_of facts.counts ≡ n
        → us ≡ (with_relation b facts r (cols r)).relations ++ numbered n cols (with_relation b facts r (cols r)).count rs
        → us ≡ facts.relations ++ numbered n cols facts.count (cond b (r ∷ rs) rs)
    listed_step true facts r rs us e q =
        q ∙ append_assoc facts.relations ((record { relation = r; sorts = cols r; before = facts.count }) ∷ []) (numbered n cols (facts.count + tuple_count (count_of facts.counts) (cols r)) rs)
        ∙ ap (λ z. facts.relations ++ (record { relation = r; sorts = cols r; before = facts.count }) ∷ numbered n cols (facts.count + tuple_count z (cols r)) rs) e
    listed_step false facts r rs us e q = q

    pub listed : (facts : Facts) (rs : List Pred) → count_of facts.counts ≡ n → (with_relations used cols facts rs).relations ≡ facts.relations ++ numbered n cols facts.count (filter used rs)
    listed facts [] e = sym (append-nil facts.relations)
    listed facts (r ∷ rs) e =
        listed_step (used r) facts r (filter used rs) _ e
        (listed (with_relation (used r) facts r (cols r)) rs (ap count_of (counts_step (used r) facts r (cols r)) ∙ e))

    counted_step : (b : Bool) (facts : Facts) (r : Pred) (rs : List Pred) (voc : Vocabulary) (k : ℕ) → voc.columns ≡ cols → count_of facts.counts ≡ n
        → k ≡ (with_relation b facts r (cols r)).count + total n voc (map (λ q. Tuples q) rs)
        → k ≡ facts.count + total n voc (map (λ q. Tuples q) (cond b (r ∷ rs) rs))
    counted_step true facts r rs voc k v e q =
        let more : tuple_count (count_of facts.counts) (cols r) ≡ tuple_count n (voc.columns r) = ap₂ (λ z c. tuple_count z (c r)) e (sym v) in
        omega (arith, q, more)
    counted_step false facts r rs voc k v e q = q

    pub counted : (facts : Facts) (rs : List Pred) (voc : Vocabulary) → voc.columns ≡ cols → count_of facts.counts ≡ n → (with_relations used cols facts rs).count ≡ facts.count + total n voc (map (λ q. Tuples q) (filter used rs))
    counted facts [] voc v e = omega arith
    counted facts (r ∷ rs) voc v e =
        counted_step (used r) facts r (filter used rs) voc _ v e
        (counted (with_relation (used r) facts r (cols r)) rs voc v (ap count_of (counts_step (used r) facts r (cols r)) ∙ e))

-- `ft` and `sent` stand behind the declared relations
pub gathered_all : (used : Pred → Bool) (P : Parts) (facts first second last : Facts) → first ≡ with_relations used (columns P) facts (declared P)
    → second ≡ with_relation (used Ft) first Ft flow_sorts → last ≡ with_relation (used Sent) second Sent flow_sorts
    → last ≡ with_relations used (columns P) facts (all_relations P)
gathered_all used P facts first second last p q r =
    r ∙ ap (λ z. with_relation (used Sent) z Sent flow_sorts) (q ∙ ap (λ z. with_relation (used Ft) z Ft flow_sorts) p)
    ∙ sym (with_relations-append used (columns P) facts (declared P) (Ft ∷ Sent ∷ []))

pub square_is : (a : ℕ) → 1 * a * a ≡ a * a
square_is a = ap (λ z. z * a) (one-mul a)

-- the equations of all sorts and the tuples are all facts
pub all_facts : (n : Sort → ℕ) (voc : Vocabulary) → equation_count n + total n voc (map (λ q. Tuples q) voc.relations) ≡ fact_count n voc
all_facts n voc =
    let a = square_is (n Sw) in
    let b = square_is (n Ho) in
    let c = square_is (n Pr) in
    omega (arith, a, b, c)

below_square : (a : ℕ) → a ≤ a * a
below_square zero = omega arith
below_square (suc a) = le-mul_of_pos_right (suc a) (omega arith)

-- a sort has no more constants than there are equations
below_equations : (n : Sort → ℕ) (s : Sort) → n s ≤ equation_count n
below_equations n Sw = omega (arith, below_square (n Sw))
below_equations n Ho = omega (arith, below_square (n Ho))
below_equations n Pr = omega (arith, below_square (n Pr))

uncapped : (k m : ℕ) → k ≡ capped m → k < 2 ^ 62 → k ≡ m
unfolding capped
uncapped k m e l = omega arith

pub gathered_are_facts : (P : Parts) (F : Formula) (start facts : Facts) → ((s : Sort) → count_of start.counts s ≡ capped (counts P F s)) → start.relations ≡ [] → start.count ≡ equation_count (count_of start.counts)
    → facts ≡ with_relations (uses (form_of F)) (columns P) start (all_relations P) → facts.count < 2 ^ 62 → AreFactsOf P F facts
gathered_are_facts P F start facts c r k q few =
    let used = uses (form_of F) in
    let rs = all_relations P in
    let m : facts.count ≡ start.count + total (count_of start.counts) (words P F) (map (λ p. Tuples p) (filter used rs)) =
    ap (λ z. z.count) q ∙ counted used (columns P) (count_of start.counts) start rs (words P F) refl refl in
    let exact : (s : Sort) → count_of start.counts s ≡ counts P F s =
    λ s. uncapped (count_of start.counts s) (counts P F s) (c s) (let b = below_equations (count_of start.counts) s in omega (arith, b, k, m, few)) in
    let same : count_of start.counts ≡ counts P F = fun_ext exact in
    let kept : facts.counts ≡ start.counts = ap (λ z. z.counts) q ∙ kept_counts used (columns P) start rs in
    let total_of : facts.count ≡ equation_count (counts P F) + total (counts P F) (words P F) (map (λ p. Tuples p) (words P F).relations) =
    m ∙ ap₂ (λ x n. x + total n (words P F) (map (λ p. Tuples p) (filter used rs))) (k ∙ ap equation_count same) same in
    record {
      constants = λ s. ap (λ z. count_of z s) kept ∙ exact s;
      relations =
          ap (λ z. z.relations) q ∙ listed used (columns P) (counts P F) start rs same
          ∙ ap₂ (λ us x. us ++ numbered (counts P F) (columns P) x (filter used rs)) r (k ∙ ap equation_count same);
      count = total_of ∙ all_facts (counts P F) (words P F);
      few = few;
    }
