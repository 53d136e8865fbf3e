-- Clauses that are added, and the first ones.
use Rattle.std.proofs.Common.{◌≡◌, ◌∙◌, ℕ, suc, ◌+◌, Bool, true, false, List, [], ◌∷◌, ◌++◌, length, refl, sym, ap, ap₂, subst, arith, cond, inl, inr, eqb, eq-eqb}
use mathlib.Core.Path.{fun_ext}
use Rattle.std.proofs.lemmas.Bool.{false≢true}
use Rattle.std.specs.List.{list_all}
use Rattle.csdn_core.specs.Members.{IsIn}
use Rattle.csdn_core.proofs.Members.{in_both, in_left, in_right}
use Rattle.csdn_core.specs.declared.program.Parts.{Parts}
use Rattle.csdn_core.specs.declared.syntax.Formula.{Formula}
use Rattle.clause_log.specs.Literals.{ClauseList, IsModel, Literal, clause_true, has_atom, is_clause}
use Rattle.fol_forms.specs.Constants.{counts}
use Rattle.decision_laws.specs.Copies.{judge, Both, Copy, Each, Either, Fact, Known, Leaf}
use Rattle.decision_laws.specs.Clauses.{either_clauses, equality_clauses, member_clause, node_clauses, size, top, whole_clauses}
use Rattle.decision_laws.specs.Laws.{IsSentence, atoms, clauses, name, naming, sentence_copies, words}
use Rattle.decision_laws.specs.Sublists.{ArePart, left_of}
use Rattle.decision_laws.proofs.Basics.{all_at, all_from, any_from}
use Rattle.decision_laws.proofs.Bridge.{clauses_bounded}
use Rattle.decision_laws.proofs.Left.{falls, still_part}
use Rattle.ground_inst.specs.Facts.{AreFactsOf, num_of}
use Rattle.ground_inst.specs.declared.facts.Facts.{Facts}
use Rattle.ground_inst.proofs.FactLaws.{facts_number}
use Rattle.lazy_ground.specs.declared.sentence.LazyGround.{LazyGround}
use Rattle.lazy_ground.specs.Completed.{completed, is_named, said}
use Rattle.lazy_ground.specs.First.{AreFirst, first_clauses, open_clauses, open_named, open_whole}
use Rattle.lazy_ground.specs.Lazy.{AddsBroken, AreAllBroken, IsLazy}
use Rattle.lazy_ground.proofs.EqualityAtoms.{clause_same}

-- A model of clauses is one with the valuation that is completed for them.

atom_there : (l : Literal) (c : List Literal) → IsIn l c → has_atom l.atom c ≡ true
atom_there l c i = any_from (λ k. eqb l.atom k.atom) c l i (eq-eqb l.atom l.atom refl)

pub named_there : (cs : List (List Literal)) (c : List Literal) (l : Literal) → IsIn c cs → IsIn l c → is_named cs l.atom ≡ true
named_there cs c l i k = any_from (has_atom l.atom) cs c i (atom_there l c k)

pub completed_model : (P : Parts) (F : Formula) (cs : List (List Literal)) (v : ℕ → Bool) → IsModel v cs → IsModel (completed P F cs v) cs
completed_model P F cs v m =
    all_from (clause_true (completed P F cs v)) cs (λ c i.
    clause_same (completed P F cs v) v c (λ l k. ap (λ b. cond b (v l.atom) (judge (said P F cs v) (name P F l.atom))) (named_there cs c l i k)) ∙ all_at (clause_true v) cs c i m)

none_is : {X : Type 0} (xs : List X) → length xs ≡ 0 → xs ≡ []
none_is [] e = refl
none_is (x ∷ xs) e = absurd (omega (arith, e))

none_in : {X : Type 0} (xs : List X) → ((x : X) → IsIn x xs → ⊥) → length xs ≡ 0
none_in [] h = refl
none_in (x ∷ xs) h = absurd (h x (inl refl))

pub added_broken : (P : Parts) (F : Formula) (v : ℕ → Bool) (old : LazyGround) (added : List (List Literal)) (all : ClauseList) (n : ℕ) → IsLazy P F old → IsModel v old.made.clauses.clauses → AreAllBroken P F (completed P F old.made.clauses.clauses v) added
    → all ≡ record { atoms = old.made.clauses.atoms; clauses = old.made.clauses.clauses ++ added } → n ≡ length added
    → AddsBroken P F v old (record { made = record { sentence = old.made.sentence; facts = old.made.facts; clauses = all }; tree = old.tree }) n
added_broken P F v old added all n lazy model broken e count =
    let w = completed P F old.made.clauses.clauses v in
    let cs = old.made.clauses.clauses in
    let m = completed_model P F cs v model in
    let behind : all.clauses ≡ cs ++ added = ap (λ z. z.clauses) e in
    record {
      added = added;
      behind = behind;
      count = count;
      broken = broken.broken;
      is_lazy = record {
        sentence = lazy.sentence;
        facts = lazy.facts;
        copies = lazy.copies;
        measured = lazy.measured;
        atoms = ap (λ z. z.atoms) e ∙ lazy.atoms;
        part = subst (ArePart (clauses P F)) (sym behind) (still_part (clauses P F) cs added w lazy.part m broken.broken);
      };
      left = ap₂ (λ x y. left_of (clauses P F) x + y) behind count ∙ falls (clauses P F) cs added w lazy.part m broken.broken;
      exact = (
        (λ z. broken.none (none_is added (sym count ∙ z))),
        (λ h. count ∙ none_in added (λ c i. false≢true (sym (broken.broken.broken c i) ∙ all_at (clause_true w) (clauses P F) c (broken.broken.part.within c i) h))),
      );
    }

-- The first clauses are clauses of the sentence.

open_within : (num : Fact → ℕ) (k : ℕ) (c : Copy) (d : List Literal) → IsIn d (open_clauses num k c) → IsIn d (node_clauses num k c)
open_within num k (Known b) d i = i
open_within num k (Leaf sign fact) d i = i
open_within num k (Both p q) d i =
    let a = member_clause k (top num (suc k) p) in
    let b = member_clause k (top num (suc k + size p) q) in
    elim (in_both (open_clauses num (suc k) p ++ a ∷ []) (open_clauses num (suc k + size p) q ++ b ∷ []) d i) [
      | inl x ↦ in_left (node_clauses num (suc k) p ++ a ∷ []) (node_clauses num (suc k + size p) q ++ b ∷ []) d
          (elim (in_both (open_clauses num (suc k) p) (a ∷ []) d x) [ inl y ↦ in_left (node_clauses num (suc k) p) (a ∷ []) d (open_within num (suc k) p d y) | inr y ↦ in_right (node_clauses num (suc k) p) (a ∷ []) d y ])
      | inr x ↦ in_right (node_clauses num (suc k) p ++ a ∷ []) (node_clauses num (suc k + size p) q ++ b ∷ []) d
          (elim (in_both (open_clauses num (suc k + size p) q) (b ∷ []) d x) [ inl y ↦ in_left (node_clauses num (suc k + size p) q) (b ∷ []) d (open_within num (suc k + size p) q d y) | inr y ↦ in_right (node_clauses num (suc k + size p) q) (b ∷ []) d y ])
    ]
open_within num k (Either p q) d i =
    let e = either_clauses k (top num (suc k) p) (top num (suc k + size p) q) in
    elim (in_both (open_clauses num (suc k) p) (open_clauses num (suc k + size p) q ++ e) d i) [
      | inl x ↦ in_left (node_clauses num (suc k) p) (node_clauses num (suc k + size p) q ++ e) d (open_within num (suc k) p d x)
      | inr x ↦ in_right (node_clauses num (suc k) p) (node_clauses num (suc k + size p) q ++ e) d
          (elim (in_both (open_clauses num (suc k + size p) q) e d x) [ inl y ↦ in_left (node_clauses num (suc k + size p) q) e d (open_within num (suc k + size p) q d y) | inr y ↦ in_right (node_clauses num (suc k + size p) q) e d y ])
    ]
open_within num k (Each n c) d i = elim i [ ]

named_within : (num : Fact → ℕ) (k : ℕ) (c : Copy) (d : List Literal) → IsIn d (open_named num k c) → IsIn d (node_clauses num k c ++ (top num k c ∷ []) ∷ [])
named_within num k c d i =
    elim (in_both (open_clauses num k c) ((top num k c ∷ []) ∷ []) d i) [
      | inl x ↦ in_left (node_clauses num k c) ((top num k c ∷ []) ∷ []) d (open_within num k c d x)
      | inr x ↦ in_right (node_clauses num k c) ((top num k c ∷ []) ∷ []) d x
    ]

whole_within : (num : Fact → ℕ) (k : ℕ) (c : Copy) (d : List Literal) → IsIn d (open_whole num k c) → IsIn d (whole_clauses num k c)
whole_within num k (Known true) d i = i
whole_within num k (Known false) d i = i
whole_within num k (Leaf sign fact) d i = named_within num k (Leaf sign fact) d i
whole_within num k (Both p q) d i = named_within num k (Both p q) d i
whole_within num k (Either p q) d i = named_within num k (Either p q) d i
whole_within num k (Each n c) d i = named_within num k (Each n c) d i

pub first_within : (P : Parts) (F : Formula) (c : List Literal) → IsIn c (first_clauses P F) → IsIn c (clauses P F)
first_within P F c i =
    in_left (whole_clauses (naming P F).num (naming P F).first (sentence_copies P F)) (equality_clauses (naming P F).num (counts P F) (words P F)) c
    (whole_within (naming P F).num (naming P F).first (sentence_copies P F) c i)

pub rows_first : (P : Parts) (F : Formula) (facts : Facts) → AreFactsOf P F facts → (c : Copy) → c ≡ sentence_copies P F → (rows : List (List Literal)) → rows ≡ open_whole (num_of facts) (suc facts.count) c → rows ≡ first_clauses P F
rows_first P F facts are c same rows e =
    e ∙ ap₂ (λ num d. open_whole num (suc facts.count) d) (fun_ext (facts_number P F facts are)) same
    ∙ ap (λ k. open_whole (naming P F).num (suc k) (sentence_copies P F)) are.count

pub first_bounded : (P : Parts) (F : Formula) → IsSentence P F → (rows : List (List Literal)) (k : ℕ) → rows ≡ first_clauses P F → k ≡ atoms P F → list_all (is_clause k) rows ≡ true
first_bounded P F is rows k e q =
    all_from (is_clause k) rows (λ c i. ap (λ a. is_clause a c) q ∙ all_at (is_clause (atoms P F)) (clauses P F) c (first_within P F c (subst (IsIn c) e i)) (clauses_bounded P F is))

pub first_part : (P : Parts) (F : Formula) (cs : List (List Literal)) → AreFirst P F cs → ArePart (clauses P F) cs
first_part P F cs h = record { distinct = h.distinct; within = λ c i. first_within P F c ((h.all c).0 i) }
