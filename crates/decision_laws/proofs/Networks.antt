-- The network and state of a fair judgement, with the numbers that its classes get.
use Rattle.std.proofs.Common.{AllPairs, Bool, not, Contains, List, Option, Some, [], ap, arith, cond, eq-eqb, eqb-true, false, inl, inr, length, map, nat_eq, refl, slice_get, slice_index, slice_index_or, subst, suc, sym, true, zero, ℕ, ◌&&◌, ◌+◌, ◌<◌, ◌∙◌, ◌∷◌, ◌≡◌, ◌≤◌, ◌≢◌}
use Rattle.std.proofs.lemmas.Bool.{and_from, and_parts, false≢true}
use Rattle.std.specs.List.{list_any}
use Rattle.csdn_core.specs.declared.terms.Sort.{Sort}
use Rattle.csdn_core.specs.declared.terms.Sort.TheVariants.{Ho, Pr, Sw}
use Rattle.csdn_core.specs.declared.terms.Term.TheVariants.{Const}
use Rattle.csdn_core.specs.declared.terms.Pred.{Pred}
use Rattle.csdn_core.specs.declared.terms.Pred.TheVariants.{Ft, RcvThis, Sent, Stored}
use Rattle.csdn_core.specs.declared.terms.RelId.{RelId}
use Rattle.csdn_core.specs.declared.event.Packet.TheVariants.{Nothing}
use Rattle.csdn_core.specs.declared.program.Parts.{Parts}
use Rattle.csdn_core.specs.declared.program.Constant.{Constant}
use Rattle.csdn_core.specs.declared.program.Relation.{Relation}
use Rattle.csdn_core.specs.declared.syntax.Formula.{Formula}
use Rattle.csdn_core.specs.Network.{HaveElements, IsNetwork, Network, State, IsStaticTuple, StaticRow, elements, holds_in, is_fixed, is_fixed_in, is_static_row, same_cells, same_pred}
use Rattle.std.specs.Prelude.{option_map}
use Rattle.std.proofs.lemmas.List.Elements.{All-contains}
use Rattle.std.proofs.lemmas.List.{length-map}
use Rattle.std.proofs.lemmas.Option.{slice_get_within}
use Rattle.std.specs.Cmp.{both_ways}
use Rattle.csdn_core.proofs.Same.{same_pred-refl, same_cells-refl}
use Rattle.decision_laws.proofs.Basics.{any_from, any_gives, in_place, index_of-below}
use Rattle.decision_laws.proofs.Distinct.{apart_at, filter_distinct, length-places, map_distinct, member_at, places_distinct, counted_off}
use Rattle.decision_laws.proofs.Downward.{law_down}
use Rattle.decision_laws.proofs.Lists.{filter_in, in_filter, in_term, in_tuples, tuple_in}
use Rattle.decision_laws.proofs.Numbering.{IsReadable, class_below, class_first, first_of-alike, first_of-below, first_of-same, first_of_in, is_readable, numbering_of, numeral_below}
use Rattle.decision_laws.proofs.Words.{is_vocabulary, constant_has}
use Rattle.decision_laws.specs.Classes.{AreOfJudgement, IsNumbering, Meaning, all_tuples, class_elements, classes_of, constant_value, first_of, is_static, ListTheSame, network_of, number, sizes, state_of, static_rows, true_tuples, values_of, position_in}
use Rattle.decision_laws.specs.Copies.{AreAlike, AreBelow, Equation, Fact, IsFair, Tuple, index_of, known, numeral_place}
use Rattle.csdn_core.specs.Satisfied.{IsTrueIn}
use Rattle.decision_laws.specs.Laws.{IsJudgement, IsSentence}
use Rattle.decision_laws.specs.Vocabulary.{all_relations, has_term, places_from, sort_or, sorts_or, uses, vocabulary}
use Rattle.fol_forms.specs.Forms.{Form, form_of}
use Rattle.fol_forms.specs.Constants.{constants_from, numerals_of}
use Rattle.csdn_core.specs.Members.{AreDistinct, IsIn}
use Rattle.csdn_core.proofs.Members.{contains_in, flat_in, in_both, in_contains, in_flat, in_left, in_map, map_in}

-- Lists of declarations.

get_some : {X : Type 0} (xs : List X) (k : ℕ) → k < length xs → (x : X) × (slice_get xs k ≡ Some x)
get_some [] k l = absurd (omega arith)
get_some (y ∷ ys) zero l = (y, refl)
get_some (y ∷ ys) (suc k) l = get_some ys k (omega arith)

index_map : (g : ℕ → ℕ) (i m k : ℕ) → k < m → slice_index (map g (places_from i m)) k ≡ g (i + k)
index_map g i zero k l = absurd (omega arith)
index_map g i (suc m) zero l = (let z : i ≡ i + 0 = omega arith in ap g z)
index_map g i (suc m) (suc k) l = (let z : suc i + k ≡ i + suc k = omega arith in index_map g (suc i) m k (omega arith) ∙ ap g z)

abbrev pred_number : Pred → ℕ
pred_number (Stored r) = r.0
pred_number _ = 0

-- the relations that a sentence uses are declared, or `ft` or `sent`
declared : (P : Parts) (f : Form) (r : RelId) → IsIn (Stored r) (vocabulary P f).relations → (d : Relation) × (slice_get P.relations r.0 ≡ Some d)
declared P f r i =
    let stored : ℕ → Pred = λ k. Stored (record { 0 = k }) in
    elim (in_both (map stored (places_from 0 (length P.relations))) (Ft ∷ Sent ∷ []) (Stored r) (filter_in (uses f) (all_relations P) (Stored r) i).0) [
      | inl a ↦ (
          let w = map_in stored (places_from 0 (length P.relations)) (Stored r) a in
          let e : r.0 ≡ w.0 = ap pred_number w.2 in
          get_some P.relations r.0 (omega (arith, (in_place 0 (length P.relations) w.0 w.1).1)))
      | inr a ↦ elim a [
        | inl e ↦ absurd (false≢true (sym (ap (same_pred (Stored r)) e) ∙ same_pred-refl (Stored r)))
        | inr b ↦ elim b [ inl e ↦ absurd (false≢true (sym (ap (same_pred (Stored r)) e) ∙ same_pred-refl (Stored r))) | inr c ↦ elim c [ ] ]
      ]
    ]

no_packet : (P : Parts) (f : Form) → IsIn RcvThis (vocabulary P f).relations → ⊥
no_packet P f i =
    let stored : ℕ → Pred = λ k. Stored (record { 0 = k }) in
    elim (in_both (map stored (places_from 0 (length P.relations))) (Ft ∷ Sent ∷ []) RcvThis (filter_in (uses f) (all_relations P) RcvThis i).0) [
      | inl a ↦ (let w = map_in stored (places_from 0 (length P.relations)) RcvThis a in false≢true (sym (ap (same_pred RcvThis) w.2)))
      | inr a ↦ elim a [
        | inl e ↦ false≢true (sym (ap (same_pred RcvThis) e))
        | inr b ↦ elim b [ inl e ↦ false≢true (sym (ap (same_pred RcvThis) e)) | inr c ↦ elim c [ ] ]
      ]
    ]

-- tuples of constants with the same elements are judged equal one by one
alike : (n : Sort → ℕ) (j : Fact → Bool) (ρ : Meaning) → ((s : Sort) (a b : ℕ) → a < n s → b < n s → j (Equation s a b) ≡ nat_eq (ρ s a) (ρ s b)) → (ss : List Sort) (xs ys : List ℕ) → AreBelow n ss xs → AreBelow n ss ys → same_cells (values_of ρ ss xs) (values_of ρ ss ys) ≡ true → AreAlike n j ss xs ys
alike n j ρ c [] [] [] h k e = tt
alike n j ρ c [] [] (y ∷ ys) h k e = elim k [ ]
alike n j ρ c [] (x ∷ xs) ys h k e = elim h [ ]
alike n j ρ c (s ∷ ss) [] ys h k e = elim h [ ]
alike n j ρ c (s ∷ ss) (x ∷ xs) [] h k e = elim k [ ]
alike n j ρ c (s ∷ ss) (x ∷ xs) (y ∷ ys) h k e =
    let p = and_parts (nat_eq (ρ s x) (ρ s y)) (same_cells (values_of ρ ss xs) (values_of ρ ss ys)) e in
    (h.0, k.0, c s x y h.0 k.0 ∙ p.0, alike n j ρ c ss xs ys h.1 k.1 p.1)

pub in_if : {X : Type 0} (b : Bool) (xs : List X) (x : X) → IsIn x (cond b xs []) → (b ≡ true) × IsIn x xs
in_if true xs x i = (refl, i)
in_if false xs x i = elim i [ ]

if_in : {X : Type 0} (b : Bool) (xs : List X) (x : X) → b ≡ true → IsIn x xs → IsIn x (cond b xs [])
if_in true xs x e i = i
if_in false xs x e i = absurd (false≢true e)

fixed_some : (o : Option Relation) (d : Relation) → o ≡ Some d → is_fixed_in o ≡ d.fixed
fixed_some o d e = ap is_fixed_in e

if_same : (b t u v : Bool) → (b ≡ true → t ≡ v) → (b ≡ false → u ≡ v) → cond b t u ≡ v
if_same true t u v f g = f refl
if_same false t u v f g = g refl

module _ (P : Parts) (f : Form) (j : Fact → Bool) (fair : IsFair (vocabulary P f) (sizes P f) j) where
  ready : IsReadable (vocabulary P f) (sizes P f) j
  ready = is_readable (vocabulary P f) (sizes P f) j (is_vocabulary P f) fair (λ s. omega arith)

  numbers : IsNumbering (vocabulary P f) (sizes P f) j (number P f j)
  numbers = numbering_of (vocabulary P f) (sizes P f) j ready

  -- Elements.

  element_of : (s : Sort) (a : ℕ) → a < sizes P f s → IsIn (number P f j s a) (class_elements P f j s)
  element_of s a l =
      let voc = vocabulary P f in
      let x = first_of voc (sizes P f) j s a in
      let lx = first_of-below voc (sizes P f) j ready s a l in
      let e : number P f j s x ≡ number P f j s a = eqb-true (number P f j s x) (number P f j s a) (sym (numbers.classes s x a lx l) ∙ first_of-alike voc (sizes P f) j ready s a l) in
      subst (λ z. IsIn z (class_elements P f j s)) e (in_map (number P f j s) (classes_of voc (sizes P f) j s) x (first_of_in voc (sizes P f) j ready s a l))

  element_is : (s : Sort) (m : ℕ) → IsIn m (class_elements P f j s) → (a : ℕ) × (a < sizes P f s) × (m ≡ number P f j s a)
  element_is s m i =
      let w = map_in (number P f j s) (classes_of (vocabulary P f) (sizes P f) j s) m i in
      (w.0, class_below (vocabulary P f) (sizes P f) j ready s w.0 w.1, w.2)

  elements_distinct : (s : Sort) → AreDistinct (class_elements P f j s)
  elements_distinct s =
      let voc = vocabulary P f in
      let n = sizes P f in
      map_distinct (number P f j s) (classes_of voc n j s)
      (λ x y i k e.
      let lx = class_below voc n j ready s x i in
      let ly = class_below voc n j ready s y k in
      let same : j (Equation s x y) ≡ true = numbers.classes s x y lx ly ∙ eq-eqb (number P f j s x) (number P f j s y) e in
      sym (class_first voc n j ready s x i) ∙ first_of-same voc n j fair s x y lx ly same ∙ class_first voc n j ready s y k)
      (filter_distinct (λ a. nat_eq (first_of voc n j s a) a) (places_from 0 (n s)) (places_distinct 0 (n s)))

  element_list : (s : Sort) → elements (network_of P f j) s ≡ class_elements P f j s
  element_list Sw = refl
  element_list Ho = refl
  element_list Pr = refl

  home : (s : Sort) (a : ℕ) → a < sizes P f s → Contains (elements (network_of P f j) s) (number P f j s a)
  home s a l = subst (λ z. Contains z (number P f j s a)) (sym (element_list s)) (in_contains (class_elements P f j s) (number P f j s a) (element_of s a l))

  covered : (s : Sort) (m : ℕ) → Contains (elements (network_of P f j) s) m → (a : ℕ) × (a < sizes P f s) × (m ≡ number P f j s a)
  covered s m h = element_is s m (contains_in (class_elements P f j s) m (subst (λ z. Contains z m) (element_list s) h))

  value_of : (k : ℕ) (c : Constant) → slice_get P.constants k ≡ Some c → slice_index (network_of P f j).constants k ≡ number P f j c.sort (index_of (Const (record { 0 = k })) ((vocabulary P f).names c.sort))
  value_of k c e =
      let names = (vocabulary P f).names in
      let z : 0 + k ≡ k = omega arith in
      index_map (constant_value P f j) 0 (length P.constants) k (slice_get_within P.constants k c e) ∙ ap (constant_value P f j) z
      ∙ ap (λ s. number P f j s (index_of (Const (record { 0 = k })) (names s))) (ap sort_or e)

  counted_in : (s : Sort) → ((a : ℕ) → number P f j s a ≡ suc (position_in (first_of (vocabulary P f) (sizes P f) j s a) (classes_of (vocabulary P f) (sizes P f) j s))) → class_elements P f j s ≡ places_from 1 (length (class_elements P f j s))
  counted_in s h =
      let voc = vocabulary P f in
      let n = sizes P f in
      let cs = classes_of voc n j s in
      counted_off (number P f j s) [] cs (filter_distinct (λ a. nat_eq (first_of voc n j s a) a) (places_from 0 (n s)) (places_distinct 0 (n s)))
      (λ a i. h a ∙ ap (λ z. suc (position_in z cs)) (class_first voc n j ready s a i))
      ∙ ap (places_from 1) (sym (length-map cs (number P f j s)))

  -- switches and hosts are 1, 2, 3 ..
  pub elements_counted : (s : Sort) → s ≢ Pr → elements (network_of P f j) s ≡ places_from 1 (length (elements (network_of P f j) s))
  elements_counted Sw n = counted_in Sw (λ a. refl)
  elements_counted Ho n = counted_in Ho (λ a. refl)
  elements_counted Pr n = absurd (n refl)

  -- Tuples.

  true_tuple : (r : Pred) (xs : List ℕ) → IsIn xs (true_tuples P f j r) → AreBelow (sizes P f) ((vocabulary P f).columns r) xs × (j (Tuple r xs) ≡ true)
  true_tuple r xs i =
      let w = filter_in (λ ys. j (Tuple r ys)) (all_tuples (sizes P f) ((vocabulary P f).columns r)) xs i in
      (in_tuples (sizes P f) ((vocabulary P f).columns r) xs w.0, w.1)

  tuple_true : (r : Pred) (xs : List ℕ) → AreBelow (sizes P f) ((vocabulary P f).columns r) xs → j (Tuple r xs) ≡ true → IsIn xs (true_tuples P f j r)
  tuple_true r xs l e = in_filter (λ ys. j (Tuple r ys)) (all_tuples (sizes P f) ((vocabulary P f).columns r)) xs (tuple_in (sizes P f) ((vocabulary P f).columns r) xs l) e

  -- a tuple with the same elements as one that is judged true is judged true
  same_tuple : (r : Pred) (xs ys : List ℕ) → IsIn r (vocabulary P f).relations → IsIn xs (true_tuples P f j r) → AreBelow (sizes P f) ((vocabulary P f).columns r) ys → same_cells (values_of (number P f j) ((vocabulary P f).columns r) xs) (values_of (number P f j) ((vocabulary P f).columns r) ys) ≡ true → j (Tuple r ys) ≡ true
  same_tuple r xs ys i t l e =
      let w = true_tuple r xs t in
      fair.replaced r xs ys i (alike (sizes P f) j (number P f j) numbers.classes ((vocabulary P f).columns r) xs ys w.0 l e) w.1

  state_holds : (r : Pred) (xs : List ℕ) → is_static P r ≡ false → IsIn r (vocabulary P f).relations → AreBelow (sizes P f) ((vocabulary P f).columns r) xs → state_of P f j r (values_of (number P f j) ((vocabulary P f).columns r) xs) ≡ j (Tuple r xs)
  state_holds r xs kept i l =
      let voc = vocabulary P f in
      let cells = values_of (number P f j) (voc.columns r) xs in
      let test : List ℕ → Bool = λ ys. same_cells (values_of (number P f j) (voc.columns r) ys) cells in
      let used = list_any (same_pred r) voc.relations in
      let listed = list_any test (true_tuples P f j r) in
      both_ways (state_of P f j r cells) (j (Tuple r xs))
      (λ e. (let w = any_gives test (true_tuples P f j r) (and_parts used listed (and_parts (not (is_static P r)) (used && listed) e).1).1 in same_tuple r w.0 xs i w.1 l w.2))
      (λ e.
      and_from (not (is_static P r)) (used && listed) (ap not kept)
      (and_from used listed (any_from (same_pred r) voc.relations r i (same_pred-refl r)) (any_from test (true_tuples P f j r) xs (tuple_true r xs l e) (same_cells-refl cells))))

  -- what a row of a static relation is
  abbrev IsRowOf : StaticRow → Pred → Type 0
  IsRowOf row q =
      (r : RelId) × (q ≡ Stored r) × (is_fixed P r.0 ≡ true) × (xs : List ℕ) × IsIn xs (true_tuples P f j (Stored r)) × (row ≡ record { rel = r.0; cells = values_of (number P f j) ((vocabulary P f).columns (Stored r)) xs })

  abbrev row_of : RelId → List ℕ → StaticRow
  row_of r xs = record { rel = r.0; cells = values_of (number P f j) ((vocabulary P f).columns (Stored r)) xs }

  row_is : (row : StaticRow) (q : Pred) → IsIn row (static_rows P f j q) → IsRowOf row q
  row_is row (Stored r) i =
      let w = in_if (is_fixed P r.0) (map (row_of r) (true_tuples P f j (Stored r))) row i in
      let m = map_in (row_of r) (true_tuples P f j (Stored r)) row w.1 in
      (r, refl, w.0, m.0, m.1, m.2)
  row_is row Ft i = elim i [ ]
  row_is row Sent i = elim i [ ]
  row_is row RcvThis i = elim i [ ]

  static_holds : (r : RelId) (xs : List ℕ) → IsIn (Stored r) (vocabulary P f).relations → is_fixed P r.0 ≡ true → AreBelow (sizes P f) ((vocabulary P f).columns (Stored r)) xs → is_static_row (network_of P f j) r.0 (values_of (number P f j) ((vocabulary P f).columns (Stored r)) xs) ≡ j (Tuple (Stored r) xs)
  static_holds r xs i fixed l =
      let voc = vocabulary P f in
      let cells = values_of (number P f j) (voc.columns (Stored r)) xs in
      let test : StaticRow → Bool = λ row. nat_eq row.rel r.0 && same_cells row.cells cells in
      let rows = (network_of P f j).rows in
      both_ways (list_any test rows) (j (Tuple (Stored r) xs))
      (λ e.
      let w = any_gives test rows e in
      let p = and_parts (nat_eq w.0.rel r.0) (same_cells w.0.cells cells) w.2 in
      let q = flat_in (static_rows P f j) voc.relations w.0 w.1 in
      let is = row_is w.0 q.0 q.2 in
      let one : is.0.0 ≡ r.0 = sym (ap (λ z. z.rel) is.5) ∙ eqb-true w.0.rel r.0 p.0 in
      let same : Stored is.0 ≡ Stored r = ap (λ k. Stored (record { 0 = k })) one in
      let here : IsIn is.3 (true_tuples P f j (Stored r)) = subst (λ z. IsIn is.3 (true_tuples P f j z)) same is.4 in
      let row : w.0.cells ≡ values_of (number P f j) (voc.columns (Stored r)) is.3 = ap (λ z. z.cells) is.5 ∙ ap (λ z. values_of (number P f j) (voc.columns z) is.3) same in
      same_tuple (Stored r) is.3 xs i here l (subst (λ z. same_cells z cells ≡ true) row p.1))
      (λ e.
      let mine = in_map (row_of r) (true_tuples P f j (Stored r)) xs (tuple_true (Stored r) xs l e) in
      let there = in_flat (static_rows P f j) voc.relations (Stored r) (row_of r xs) i (if_in (is_fixed P r.0) (map (row_of r) (true_tuples P f j (Stored r))) (row_of r xs) fixed mine) in
      any_from test rows (row_of r xs) there (and_from (nat_eq r.0 r.0) (same_cells cells cells) (eq-eqb r.0 r.0 refl) (same_cells-refl cells)))

  tuple_holds : (r : Pred) (xs : List ℕ) → IsIn r (vocabulary P f).relations → AreBelow (sizes P f) ((vocabulary P f).columns r) xs → holds_in P (network_of P f j) (state_of P f j) Nothing r (values_of (number P f j) ((vocabulary P f).columns r) xs) ≡ j (Tuple r xs)
  tuple_holds (Stored r) xs i l =
      let cells = values_of (number P f j) ((vocabulary P f).columns (Stored r)) xs in
      if_same (is_fixed P r.0) (is_static_row (network_of P f j) r.0 cells) (state_of P f j (Stored r) cells) (j (Tuple (Stored r) xs)) (λ e. static_holds r xs i e l) (λ e. state_holds (Stored r) xs e i l)
  tuple_holds Ft xs i l = state_holds Ft xs refl i l
  tuple_holds Sent xs i l = state_holds Sent xs refl i l
  tuple_holds RcvThis xs i l = absurd (no_packet P f i)

  pub of_judgement : AreOfJudgement P f j (number P f j) (network_of P f j) (state_of P f j)
  of_judgement = record {
    numbering = numbers;
    home = home;
    covered = covered;
    values = value_of;
    tuples = tuple_holds;
  }

  -- The network is one of the program.

  have_elements : (ss : List Sort) (xs : List ℕ) → AreBelow (sizes P f) ss xs → HaveElements (network_of P f j) ss (values_of (number P f j) ss xs)
  unfolding HaveElements
  have_elements [] [] l = tt
  have_elements [] (x ∷ xs) l = elim l [ ]
  have_elements (s ∷ ss) [] l = elim l [ ]
  have_elements (s ∷ ss) (x ∷ xs) l = (home s x l.0, have_elements ss xs l.1)

  static_tuple : (row : StaticRow) → IsIn row (network_of P f j).rows → IsStaticTuple P (network_of P f j) row
  static_tuple row i =
      let voc = vocabulary P f in
      let q = flat_in (static_rows P f j) voc.relations row i in
      let is = row_is row q.0 q.2 in
      let d = declared P f is.0 (subst (λ z. IsIn z voc.relations) is.1 q.1) in
      let columns : voc.columns (Stored is.0) ≡ d.0.sorts = ap (λ o. sorts_or (option_map (λ z. z.sorts) o)) d.1 in
      let whole : IsStaticTuple P (network_of P f j) (row_of is.0 is.3) = record {
        relation = d.0;
        declared = d.1;
        static = sym (fixed_some (slice_get P.relations is.0.0) d.0 d.1) ∙ is.2;
        cells = subst (λ z. HaveElements (network_of P f j) z (values_of (number P f j) (voc.columns (Stored is.0)) is.3)) columns (have_elements (voc.columns (Stored is.0)) is.3 (true_tuple (Stored is.0) is.3 is.4).0);
      } in
      subst (IsStaticTuple P (network_of P f j)) (sym is.5) whole

  not_empty : (s : Sort) → elements (network_of P f j) s ≡ [] → ⊥
  not_empty s e =
      let l : 0 < sizes P f s = omega arith in
      elim (subst (λ z. IsIn (number P f j s 0) z) (sym (element_list s) ∙ e) (element_of s 0 l)) [ ]

  pub is_network : IsNetwork P (network_of P f j)
  is_network = record {
    some = not_empty;
    distinct = λ s i k d l m. apart_at (elements (network_of P f j) s) i k d (subst AreDistinct (sym (element_list s)) (elements_distinct s)) l m;
    numerals = λ k d l.
        let m = slice_index_or P.numerals k d in
        let i = member_at P.numerals k d l in
        let at = numeral_place (vocabulary P f) m in
        let b : at < sizes P f Pr = numeral_below (vocabulary P f) (sizes P f) j ready m i in
        subst (λ z. Contains (network_of P f j).ports z) (numbers.ports m i) (home Pr at b);
    as_many = length-map (places_from 0 (length P.constants)) (constant_value P f j) ∙ length-places 0 (length P.constants);
    sorted = λ k c e.
        let voc = vocabulary P f in
        let z : 0 + k ≡ k = omega arith in
        let t = Const (record { 0 = k }) in
        let h : has_term t (voc.names c.sort) ≡ true = in_term t (voc.names c.sort) (in_left (constants_from c.sort 0 P.constants) (numerals_of c.sort P.numerals) t (subst (λ y. IsIn (Const (record { 0 = y })) (constants_from c.sort 0 P.constants)) z (constant_has c.sort 0 P.constants k c e refl))) in
        let few : known voc c.sort ≤ sizes P f c.sort = omega arith in
        subst (λ y. Contains (elements (network_of P f j) c.sort) y) (sym (value_of k c e)) (home c.sort (index_of t (voc.names c.sort)) (omega (arith, few, index_of-below t (voc.names c.sort) h)));
    rows = λ k d l. static_tuple (slice_index_or (network_of P f j).rows k d) (member_at (network_of P f j).rows k d l);
  }

-- Order and repeats of what is listed.

some_in : (xs ys : List ℕ) → ((m : ℕ) → Contains xs m → Contains ys m) → (xs ≡ [] → ⊥) → ys ≡ [] → ⊥
some_in [] ys h n e = n refl
some_in (x ∷ xs) ys h n e = elim (contains_in [] x (subst (λ z. Contains z x) e (h x (in_contains (x ∷ xs) x (inl refl))))) [ ]

rows_same : (N M : Network) → ListTheSame N M → (r : ℕ) (cells : List ℕ) → is_static_row M r cells ≡ is_static_row N r cells
rows_same N M same r cells =
    let test : StaticRow → Bool = λ row. nat_eq row.rel r && same_cells row.cells cells in
    both_ways (list_any test M.rows) (list_any test N.rows)
    (λ e. (let w = any_gives test M.rows e in any_from test N.rows w.0 (contains_in N.rows w.0 ((same.rows w.0).1 (in_contains M.rows w.0 w.1))) w.2))
    (λ e. (let w = any_gives test N.rows e in any_from test M.rows w.0 (contains_in M.rows w.0 ((same.rows w.0).0 (in_contains N.rows w.0 w.1))) w.2))

holds_same : (P : Parts) (N M : Network) → ListTheSame N M → (x : State) (r : Pred) (cells : List ℕ) → holds_in P M x Nothing r cells ≡ holds_in P N x Nothing r cells
holds_same P N M same x (Stored r) cells = ap (λ b. cond (is_fixed P r.0) b (x (Stored r) cells)) (rows_same N M same r.0 cells)
holds_same P N M same x Ft cells = refl
holds_same P N M same x Sent cells = refl
holds_same P N M same x RcvThis cells = refl

elements_same : (N M : Network) → ListTheSame N M → (ss : List Sort) (xs : List ℕ) → HaveElements N ss xs → HaveElements M ss xs
unfolding HaveElements
elements_same N M same [] [] h = tt
elements_same N M same [] (x ∷ xs) h = elim h [ ]
elements_same N M same (s ∷ ss) [] h = elim h [ ]
elements_same N M same (s ∷ ss) (x ∷ xs) h = ((same.elements s x).0 h.0, elements_same N M same ss xs h.1)

judgement_same : (P : Parts) (f : Form) (j : Fact → Bool) (ρ : Meaning) (N M : Network) (x : State) → ListTheSame N M → AreOfJudgement P f j ρ N x → AreOfJudgement P f j ρ M x
judgement_same P f j ρ N M x same o = record {
  numbering = o.numbering;
  home = λ s a l. (same.elements s (ρ s a)).0 (o.home s a l);
  covered = λ s m c. o.covered s m ((same.elements s m).1 c);
  values = λ k c e. ap (λ z. slice_index z k) (sym same.constants) ∙ o.values k c e;
  tuples = λ r xs i l. holds_same P N M same x r (values_of ρ ((vocabulary P f).columns r) xs) ∙ o.tuples r xs i l;
}

network_same : (P : Parts) (N M : Network) → ListTheSame N M → ((s : Sort) → AllPairs (λ m n. m ≢ n) (elements M s)) → IsNetwork P N → IsNetwork P M
network_same P N M same once is = record {
  some = λ s e. some_in (elements N s) (elements M s) (λ m. (same.elements s m).0) (is.some s) e;
  distinct = once;
  numerals = λ k d l. (same.elements Pr (slice_index_or P.numerals k d)).0 (is.numerals k d l);
  as_many = ap length (sym same.constants) ∙ is.as_many;
  sorted = λ k c e. subst (λ z. Contains (elements M c.sort) (slice_index z k)) same.constants ((same.elements c.sort (slice_index N.constants k)).0 (is.sorted k c e));
  rows = λ k d l.
      let row = slice_index_or M.rows k d in
      let t = All-contains (IsStaticTuple P N) N.rows row is.rows ((same.rows row).1 (in_contains M.rows row (member_at M.rows k d l))) in
      record { relation = t.relation; declared = t.declared; static = t.static; cells = elements_same N M same t.relation.sorts row.cells t.cells };
}

-- the network and state of a judgement make the sentence true
pub law_network : (P : Parts) (F : Formula) (j : Fact → Bool) → IsSentence P F → IsJudgement P F j → IsNetwork P (network_of P (form_of F) j) × IsTrueIn P F (network_of P (form_of F) j) (state_of P (form_of F) j)
law_network P F j is h =
    let f = form_of F in
    (is_network P f j h.fair, law_down P F j (number P f j) (network_of P f j) (state_of P f j) is h (of_judgement P f j h.fair))

pub law_numbers : (P : Parts) (F : Formula) (j : Fact → Bool) → IsJudgement P F j → AreOfJudgement P (form_of F) j (number P (form_of F) j) (network_of P (form_of F) j) (state_of P (form_of F) j)
law_numbers P F j h = of_judgement P (form_of F) j h.fair

pub law_counted : (P : Parts) (F : Formula) (j : Fact → Bool) → IsJudgement P F j → (s : Sort) → s ≢ Pr → elements (network_of P (form_of F) j) s ≡ places_from 1 (length (elements (network_of P (form_of F) j) s))
law_counted P F j h = elements_counted P (form_of F) j h.fair

pub law_listed : (P : Parts) (F : Formula) (j : Fact → Bool) → IsJudgement P F j → (M : Network) → ListTheSame (network_of P (form_of F) j) M → ((s : Sort) → AllPairs (λ m n. m ≢ n) (elements M s)) → IsNetwork P M × AreOfJudgement P (form_of F) j (number P (form_of F) j) M (state_of P (form_of F) j)
law_listed P F j h M same once =
    let N = network_of P (form_of F) j in
    (network_same P N M same once (is_network P (form_of F) j h.fair), judgement_same P (form_of F) j (number P (form_of F) j) N M (state_of P (form_of F) j) same (law_numbers P F j h))
