-- What is found of a whole sentence.
use Rattle.std.proofs.Common.{◌≡◌, ◌∙◌, ℕ, suc, ◌+◌, Bool, true, false, ◌&&◌, ◌||◌, None, Some, List, [], ◌∷◌, ◌++◌, length, refl, sym, ap, ap₂, subst, arith, cond, inl, inr}
use mathlib.Core.Path.{fun_ext}
use Rattle.std.specs.List.{list_all}
use Rattle.csdn_core.specs.Members.{IsIn}
use Rattle.csdn_core.specs.declared.program.Parts.{Parts}
use Rattle.csdn_core.specs.declared.syntax.Formula.{Formula}
use Rattle.csdn_core.specs.declared.terms.Sort.{Sort}
use Rattle.clause_log.specs.Literals.{Literal, clause_true, is_clause, literal_true}
use Rattle.fol_forms.specs.Constants.{counts, names_of}
use Rattle.fol_forms.specs.Counts.{count_of}
use Rattle.fol_forms.specs.Forms.{Form, form_of}
use Rattle.decision_laws.specs.Vocabulary.{vocabulary}
use Rattle.decision_laws.specs.Copies.{Copy, Known, Leaf, Both, Either, Each, Fact, copies, judge, known}
use Rattle.decision_laws.specs.Clauses.{equality_clauses, node_clauses, size, sum_from, top, whole_clauses}
use Rattle.decision_laws.specs.Laws.{IsSentence, atoms, clauses, name, naming, sentence_copies, words}
use Rattle.decision_laws.proofs.Basics.{all_at, all_from}
use Rattle.decision_laws.proofs.Bridge.{clauses_bounded, numbers_named}
use Rattle.decision_laws.proofs.Complete.{AreNodes, some_first, whole_named}
use Rattle.decision_laws.proofs.Made.{AllOver, copies_simple}
use Rattle.decision_laws.proofs.Read.{IsPlain, IsSimple}
use Rattle.ground_inst.specs.Copies.{copies_over}
use Rattle.ground_inst.specs.Facts.{AreFactsOf, num_of, vocabulary_of}
use Rattle.ground_inst.specs.Walk.{State, copied_value, copies_at, named_clauses, ways_of}
use Rattle.ground_inst.proofs.FactLaws.{facts_equality, facts_number}
use Rattle.ground_inst.proofs.Wholes.{copies_of_facts, whole_false, whole_named as whole_by_name, whole_true}
use Rattle.copy_truth.specs.declared.reading.Reading.{Reading}
use Rattle.lazy_ground.specs.declared.looking.Seen.{Seen}
use Rattle.lazy_ground.specs.Completed.{completed, is_named, said}
use Rattle.lazy_ground.specs.Found.{Finds, IsPickedFrom, Looks, once}
use Rattle.lazy_ground.specs.Lazy.{AreAllBroken}
use Rattle.lazy_ground.specs.Readings.{Completes, named_by, node_value, true_by}
use Rattle.copy_truth.specs.Said.{said_by}
use Rattle.lazy_ground.specs.Whole.{CompletesWhole, FindsBoth, FindsNodes, FindsWhole, copy_clauses, equal_clauses, first_node, form_copies}
use Rattle.lazy_ground.proofs.Agree.{fact_completed, numerals_below, sentence_over}
use Rattle.lazy_ground.proofs.EqualityAtoms.{clause_same, equality_atoms}
use Rattle.lazy_ground.proofs.FindLaws.{finds_both, finds_false, finds_none, finds_true, one_false, one_true}
use Rattle.lazy_ground.proofs.OnceLaws.{once_distinct, once_empty, once_within}

one_or : (b c : Bool) → b ≡ c → (b || false) ≡ c
one_or true c e = e
one_or false c e = e

module _ (r : Reading) (f : Form) where
  abbrev num : Fact → ℕ
  num = num_of r.names.facts.now

  -- The walk over the whole.

  record LooksWhole (seen : Seen) (before after : List (List Literal)) : Type 0 where
    lit : seen.literal ≡ top num (first_node r f) (form_copies r f)
    value : (w : ℕ → Bool) → Completes r w (first_node r f) (form_copies r f) → seen.value ≡ literal_true w (top num (first_node r f) (form_copies r f))
    finds : (w : ℕ → Bool) → Completes r w (first_node r f) (form_copies r f) → Finds w (node_clauses num (first_node r f) (form_copies r f)) before after

  looked : (old new : State) (seen : Seen) (before : List (List Literal)) → old.env ≡ [] → ((t : Sort) → old.base t ≡ length (names_of r.names.parts.now t)) → old.next ≡ first_node r f → old.out ≡ before → Looks r f None old new seen → LooksWhole seen before new.out
  looked old new seen before e b k o h =
      let m = ways_of r.names in
      let c : copies_at m f old ≡ form_copies r f =
      ap₂ (λ x y. copies (vocabulary_of r.names.parts.now r.names.facts.now) m.count f x y) e (fun_ext b) ∙ copies_of_facts r.names.parts.now r.names.facts.now f m.count f [] (known (vocabulary r.names.parts.now f)) in
      record {
        lit = h.lit ∙ ap₂ (λ x y. top num x y) k c;
        value = λ w i. h.value w (subst (λ z. Completes r w z (copies_at m f old)) (sym k) (subst (Completes r w (first_node r f)) (sym c) i)) tt ∙ ap₂ (λ x y. literal_true w (top num x y)) k c;
        finds = λ w i.
            subst (λ z. Finds w (node_clauses num (first_node r f) (form_copies r f)) z new.out) o
            (subst (λ z. Finds w (node_clauses num (first_node r f) z) old.out new.out) c
            (subst (λ z. Finds w (node_clauses num z (copies_at m f old)) old.out new.out) k
            (h.finds w (subst (λ z. Completes r w z (copies_at m f old)) (sym k) (subst (Completes r w (first_node r f)) (sym c) i)))));
      }

  pub nodes_kept : (old new : State) (seen : Seen) (before after : List (List Literal)) → old.env ≡ [] → ((t : Sort) → old.base t ≡ length (names_of r.names.parts.now t)) → old.next ≡ first_node r f → old.out ≡ before → Looks r f None old new seen → seen.value ≡ true → after ≡ new.out → FindsNodes r f before after
  nodes_kept old new seen before after e b k o h v a w i =
      let l = looked old new seen before e b k o h in
      let t = top num (first_node r f) (form_copies r f) in
      subst (Finds w (named_clauses num (first_node r f) (form_copies r f)) before) (sym a)
      (finds_both w (node_clauses num (first_node r f) (form_copies r f)) ((t ∷ []) ∷ []) before new.out new.out (l.finds w i)
      (finds_true w ((t ∷ []) ∷ []) new.out (one_true w (t ∷ []) (one_or (literal_true w t) true (sym (l.value w i) ∙ v)))))

  pub nodes_pushed : (old new : State) (seen : Seen) (before after : List (List Literal)) → old.env ≡ [] → ((t : Sort) → old.base t ≡ length (names_of r.names.parts.now t)) → old.next ≡ first_node r f → old.out ≡ before → Looks r f None old new seen → seen.value ≡ false → after ≡ new.out ++ (seen.literal ∷ []) ∷ [] → FindsNodes r f before after
  nodes_pushed old new seen before after e b k o h v a w i =
      let l = looked old new seen before e b k o h in
      let t = top num (first_node r f) (form_copies r f) in
      let out : after ≡ new.out ++ (t ∷ []) ∷ [] = a ∙ ap (λ z. new.out ++ (z ∷ []) ∷ []) l.lit in
      subst (Finds w (named_clauses num (first_node r f) (form_copies r f)) before) (sym out)
      (finds_both w (node_clauses num (first_node r f) (form_copies r f)) ((t ∷ []) ∷ []) before new.out (new.out ++ (t ∷ []) ∷ []) (l.finds w i)
      (finds_false w ((t ∷ []) ∷ []) new.out (one_false w (t ∷ []) (one_or (literal_true w t) false (sym (l.value w i) ∙ v)))))

  -- Copies that are a truth value.

  pub whole_found_true : (before : List (List Literal)) → copied_value (count_of r.names.facts.now.counts) f ≡ Some true → FindsWhole r f before before
  whole_found_true before e w h =
      subst (λ z. Finds w z before before) (sym (whole_true r.names.parts.now (count_of r.names.facts.now.counts) num (first_node r f) f e)) (finds_none w before)

  pub whole_found_false : (before after : List (List Literal)) → copied_value (count_of r.names.facts.now.counts) f ≡ Some false → after ≡ before ++ [] ∷ [] → FindsWhole r f before after
  whole_found_false before after e a w h =
      subst (λ z. Finds w z before after) (sym (whole_false r.names.parts.now (count_of r.names.facts.now.counts) num (first_node r f) f e))
      (subst (Finds w ([] ∷ []) before) (sym a) (finds_false w ([] ∷ []) before (one_false w [] refl)))

  not_value : (k : ℕ) (b : Bool) → whole_clauses num k (Known b) ≡ named_clauses num k (Known b) → ⊥
  not_value k true e = absurd cc
  not_value k false e = absurd cc

  pub whole_found_nodes : (before after : List (List Literal)) → copied_value (count_of r.names.facts.now.counts) f ≡ None → FindsNodes r f before after → FindsWhole r f before after
  whole_found_nodes before after e h w i =
      let named = whole_by_name r.names.parts.now (count_of r.names.facts.now.counts) num (first_node r f) f e in
      subst (λ z. Finds w z before after) (sym named)
      (h w (i (λ b q. not_value (first_node r f) b (subst (λ c. whole_clauses num (first_node r f) c ≡ named_clauses num (first_node r f) c) q named))))

  -- Both.

  pub finds_same : (v w : ℕ → Bool) (cs old new : List (List Literal)) → ((c : List Literal) → IsIn c cs → clause_true w c ≡ clause_true v c) → Finds v cs old new → Finds w cs old new
  finds_same v w cs old new same h = record {
    within = λ c i. elim (h.within c i) [ inl x ↦ inl x | inr x ↦ inr (x.0, same c x.0 ∙ x.1) ];
    nothing = h.nothing;
    all = λ e c i. same c i ∙ h.all e c i;
  }

  pub both_of : (none mid rows : List (List Literal)) → none ≡ [] → FindsWhole r f none mid → Finds (true_by r) (equal_clauses r f) mid rows → FindsBoth r f rows
  both_of none mid rows e h k w i same =
      finds_both w (copy_clauses r f) (equal_clauses r f) [] mid rows (subst (λ z. Finds w (copy_clauses r f) z mid) e (h w i)) (finds_same (true_by r) w (equal_clauses r f) mid rows same k)

-- The completed valuation.

module _ (r : Reading) (F : Formula) (is : IsSentence r.names.parts.now F) (are : AreFactsOf r.names.parts.now F r.names.facts.now) (cs : List (List Literal)) (v : ℕ → Bool) (named : (x : ℕ) → named_by r x ≡ is_named cs x) (trues : (x : ℕ) → true_by r x ≡ (named_by r x && v x)) where
  abbrev P : Parts
  P = r.names.parts.now

  abbrev w : ℕ → Bool
  w = completed P F cs v

  true_is : (x : ℕ) → true_by r x ≡ (is_named cs x && v x)
  true_is x = trues x ∙ ap (λ b. b && v x) (named x)

  said_is : (fact : Fact) → said_by r fact ≡ said P F cs v fact
  unfolding said_by
  said_is fact = ap (true_by r) (facts_number P F r.names.facts.now are fact) ∙ true_is ((naming P F).num fact)

  node_by : (k : ℕ) (c : Copy) (b : Bool) → is_named cs k ≡ b → name P F k ≡ c → w k ≡ node_value r k c
  node_by k c true e q =
      ap (λ b. cond b (v k) (judge (said P F cs v) (name P F k))) e
      ∙ sym (ap (λ b. cond b (true_by r k) (judge (said_by r) c)) (named k ∙ e) ∙ true_is k ∙ ap (λ b. b && v k) e)
  node_by k c false e q =
      ap (λ b. cond b (v k) (judge (said P F cs v) (name P F k))) e
      ∙ ap₂ (λ j x. judge j x) (sym (fun_ext said_is)) q
      ∙ sym (ap (λ b. cond b (true_by r k) (judge (said_by r) c)) (named k ∙ e))

  completes : (k : ℕ) (c : Copy) → AreNodes (name P F) k c → AllOver (counts P F) (words P F) c → IsPlain c → Completes r w k c
  completes k (Known b) a o i = absurd i
  completes k (Leaf sign fact) a o i = ap w (facts_number P F r.names.facts.now are fact) ∙ fact_completed P F is cs v fact o ∙ sym (said_is fact)
  completes k (Both p q) a o i = (node_by k (Both p q) (is_named cs k) refl a.0, completes (suc k) p a.1 o.0 i.0, completes (suc k + size p) q a.2 o.1 i.1)
  completes k (Either p q) a o i = (node_by k (Either p q) (is_named cs k) refl a.0, completes (suc k) p a.1 o.0 i.0, completes (suc k + size p) q a.2 o.1 i.1)
  completes k (Each n c) a o i = (node_by k (Each n c) (is_named cs k) refl a.0, λ x l. completes (suc k + sum_from (λ h. size (c h)) 0 x) (c x) (a.1 x l) (o x l) (i x l))

  plain_by : (c : Copy) → IsSimple c → ((b : Bool) → c ≡ Known b → ⊥) → IsPlain c
  plain_by (Known b) s n = absurd (n b refl)
  plain_by (Leaf sign fact) s n = s
  plain_by (Both p q) s n = s
  plain_by (Either p q) s n = s
  plain_by (Each m c) s n = s

  module _ (f : Form) (same_copies : form_copies r f ≡ sentence_copies P F) where
    first_is : first_node r f ≡ (naming P F).first
    first_is = ap suc are.count

    whole_completes : CompletesWhole r f w
    whole_completes n =
        subst (λ z. Completes r w z (form_copies r f)) (sym first_is)
        (subst (Completes r w (naming P F).first) (sym same_copies)
        (completes (naming P F).first (sentence_copies P F) (whole_named (words P F) (counts P F) (naming P F) (numbers_named P F) (sentence_copies P F) (some_first (words P F) (counts P F) (naming P F) (numbers_named P F) (omega arith)))
        (sentence_over P F is)
        (plain_by (sentence_copies P F) (copies_simple (words P F) (counts P F) (λ s. omega arith) (form_of F) [] (known (words P F))) (λ b e. n b (same_copies ∙ e)))))

    equal_are : equal_clauses r f ≡ equality_clauses (naming P F).num (counts P F) (words P F)
    equal_are = facts_equality P F r.names.facts.now are

    equal_same : (c : List Literal) → IsIn c (equal_clauses r f) → clause_true w c ≡ clause_true (true_by r) c
    equal_same c i =
        clause_same w (true_by r) c (λ l k.
        let g = equality_atoms (naming P F).num (counts P F) (words P F) (numerals_below P F is) c (subst (IsIn c) equal_are i) l k in
        ap w g.2 ∙ fact_completed P F is cs v g.0 g.1 ∙ sym (ap (true_by r) g.2 ∙ true_is ((naming P F).num g.0)))

    all_are : copy_clauses r f ++ equal_clauses r f ≡ clauses P F
    all_are =
        ap₂ (λ x y. x ++ y)
        (ap₂ (λ n c. whole_clauses n (first_node r f) c) (fun_ext (facts_number P F r.names.facts.now are)) same_copies ∙ ap (λ k. whole_clauses (naming P F).num k (sentence_copies P F)) first_is)
        equal_are

    pub rows_found : (rows : List (List Literal)) → FindsBoth r f rows → Finds w (clauses P F) [] rows
    rows_found rows h = subst (λ z. Finds w z [] rows) all_are (h w whole_completes equal_same)

    in_all : (rows : List (List Literal)) → FindsBoth r f rows → (c : List Literal) → IsIn c rows → IsIn c (clauses P F) × (clause_true w c ≡ false)
    in_all rows h c i = elim ((rows_found rows h).within c i) [ inl x ↦ absurd x | inr x ↦ x ]

    pub rows_bounded : (rows : List (List Literal)) (k : ℕ) → FindsBoth r f rows → k ≡ atoms P F → list_all (is_clause k) rows ≡ true
    rows_bounded rows k h e =
        all_from (is_clause k) rows (λ c i. ap (λ a. is_clause a c) e ∙ all_at (is_clause (atoms P F)) (clauses P F) c (in_all rows h c i).0 (clauses_bounded P F is))

    pub rows_broken : (rows some kept : List (List Literal)) → FindsBoth r f rows → IsPickedFrom rows some → kept ≡ once [] some → AreAllBroken P F w kept
    rows_broken rows some kept h p e =
        subst (AreAllBroken P F w) (sym e)
        (record {
          broken = record {
            part = record { distinct = once_distinct [] some tt; within = λ c i. (in_all rows h c (p.within c (once_within some c i))).0 };
            broken = λ c i. (in_all rows h c (p.within c (once_within some c i))).1;
          };
          none = λ q. all_from (clause_true w) (clauses P F) (λ c i. (rows_found rows h).all (p.one (once_empty some q)) c i);
        })

-- The same, as the code comes to it.

abbrev pub IsReading : Reading → Parts → List (List Literal) → (ℕ → Bool) → Type 0
IsReading r P cs v = (r.names.parts.now ≡ P) × ((x : ℕ) → named_by r x ≡ is_named cs x) × ((x : ℕ) → true_by r x ≡ (named_by r x && v x))

pub bounded_from : (r : Reading) (P : Parts) (F : Formula) (cs : List (List Literal)) (v : ℕ → Bool) → IsReading r P cs v → IsSentence P F → AreFactsOf P F r.names.facts.now → (f : Form) → copies_over P (count_of r.names.facts.now.counts) f ≡ sentence_copies P F → (rows : List (List Literal)) (k : ℕ) → FindsBoth r f rows → k ≡ atoms P F → list_all (is_clause k) rows ≡ true
bounded_from r P F cs v reads is are f same rows k h e =
    rows_bounded r F (subst (λ Q. IsSentence Q F) (sym reads.0) is) (subst (λ Q. AreFactsOf Q F r.names.facts.now) (sym reads.0) are) cs v reads.1 reads.2 f (subst (λ Q. copies_over Q (count_of r.names.facts.now.counts) f ≡ sentence_copies Q F) (sym reads.0) same) rows k h (e ∙ ap (λ Q. atoms Q F) (sym reads.0))

pub broken_from : (r : Reading) (P : Parts) (F : Formula) (cs : List (List Literal)) (v : ℕ → Bool) → IsReading r P cs v → IsSentence P F → AreFactsOf P F r.names.facts.now → (f : Form) → copies_over P (count_of r.names.facts.now.counts) f ≡ sentence_copies P F → (rows some kept : List (List Literal)) → FindsBoth r f rows → IsPickedFrom rows some → kept ≡ once [] some → AreAllBroken P F (completed P F cs v) kept
broken_from r P F cs v reads is are f same rows some kept h p e =
    subst (λ Q. AreAllBroken Q F (completed Q F cs v) kept) reads.0
    (rows_broken r F (subst (λ Q. IsSentence Q F) (sym reads.0) is) (subst (λ Q. AreFactsOf Q F r.names.facts.now) (sym reads.0) are) cs v reads.1 reads.2 f (subst (λ Q. copies_over Q (count_of r.names.facts.now.counts) f ≡ sentence_copies Q F) (sym reads.0) same) rows some kept h p e)
