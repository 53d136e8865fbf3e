-- Each clause of a sentence is tied to it.
use Rattle.std.proofs.Common.{Bool, List, [], ap, append_assoc, ap₂, arith, cond, eqb-true, false, flat_map, get_or, get_or-append-add, inl, inr, le-ltb, length, length-append, lt-ltb, ltb-true, nat_eq, nat_lt, refl, subst, suc, sym, true, zero, ℕ, ◌++◌, ◌+◌, ◌-◌, ◌<◌, ◌∙◌, ◌∷◌, ◌≡◌, ◌≤◌}
use Rattle.std.proofs.Math.ListN.{get_or-append}
use Rattle.csdn_core.specs.declared.terms.Sort.{Sort}
use Rattle.csdn_core.specs.declared.terms.Sort.TheVariants.{Ho, Pr, Sw}
use Rattle.csdn_core.specs.declared.terms.Term.TheVariants.{Port}
use Rattle.csdn_core.specs.declared.terms.Pred.{Pred}
use Rattle.decision_laws.proofs.Basics.{IsClosed, IsVocabulary, in_place, index_of-below}
use Rattle.decision_laws.proofs.Lists.{in_tuples}
use Rattle.decision_laws.proofs.Made.{AllOver, copies_over, copies_simple}
use Rattle.decision_laws.proofs.Read.{meets_apart, IsPlain, IsSimple, below_append}
use Rattle.decision_laws.proofs.Simplify.{fits-simplified, inside-simplified, need-simplified}
use Rattle.decision_laws.proofs.Tied.{tied_true}
use Rattle.decision_laws.specs.Classes.{all_tuples}
use Rattle.decision_laws.specs.Clauses.{IsNaming, Naming, may_meet, IsOver, all_clauses, chain_clause, chain_clauses, either_clauses, equality_clauses, is_chain, member_clause, no, node_clauses, nodes, numeral_clauses, replace_clause, replace_clauses, replace_from, same_clauses, size, sum_from, top, whole_clauses, yes}
use Rattle.csdn_core.specs.Truth.{same_truth}
use Rattle.clause_log.specs.Literals.{Literal, clause_true, negated}
use Rattle.decision_laws.specs.Copies.{AreBelow, Both, Copy, Each, Either, Equation, Fact, IsFair, Known, Leaf, Tuple, constants, copies_of, judge, known, numeral_place}
use Rattle.decision_laws.specs.Tied.{AreDifferences, IsForm, IsLiteralOf, IsTied, Names, apart, chain, choice, member, name_of, replaced, same, whole_false, whole_true}
use Rattle.decision_laws.specs.Vocabulary.{Vocabulary, places_from, vocabulary}
use Rattle.fol_forms.specs.Forms.{Form}
use Rattle.fol_forms.proofs.NormalTruth.{same_truth-is}
use Rattle.decision_laws.specs.Simplified.{simplified}
use Rattle.csdn_core.specs.Members.{IsIn}
use Rattle.csdn_core.proofs.Members.{flat_in, in_both, in_flat, in_left, in_right, map_in, one_in}

-- the names of the nodes, numbered from k on
abbrev pub AreNodes : (ℕ → Copy) → ℕ → Copy → Type 0
AreNodes name k (Known b) = Unit {0}
AreNodes name k (Leaf sign f) = Unit {0}
AreNodes name k (Both p q) = (name k ≡ Both p q) × AreNodes name (suc k) p × AreNodes name (suc k + size p) q
AreNodes name k (Either p q) = (name k ≡ Either p q) × AreNodes name (suc k) p × AreNodes name (suc k + size p) q
AreNodes name k (Each n c) = (name k ≡ Each n c) × ((i : ℕ) → i < n → AreNodes name (suc k + sum_from (λ h. size (c h)) 0 i) (c i))

-- what a clause's names have to meet
pub record IsReady (n : Sort → ℕ) (voc : Vocabulary) (name : ℕ → Copy) (num : Fact → ℕ) : Type 0 where
  pub facts : (f : Fact) → IsOver n voc f → Names n voc name (num f) f
  pub few : (s : Sort) → known voc s ≤ n s
  pub vocabulary : IsVocabulary voc

exact : (n : Sort → ℕ) (voc : Vocabulary) (whole : Copy) (name : ℕ → Copy) (c form : List Literal) → c ≡ form → IsForm n voc whole name form → IsTied n voc whole name c
exact n voc whole name c form e h = record { form = form; has_form = h; all = λ l i. subst (λ z. IsIn l z) (sym e) i; only = λ l i. subst (λ z. IsIn l z) e i }

-- the nodes of p are nodes of the whole
abbrev AreWithin : Copy → Copy → Type 0
AreWithin p whole = (x : Copy) → IsIn x (nodes p) → IsIn x (nodes whole)

top_is : (n : Sort → ℕ) (voc : Vocabulary) (whole : Copy) (name : ℕ → Copy) (num : Fact → ℕ) → IsReady n voc name num → (k : ℕ) (p : Copy) → IsPlain p → AllOver n voc p → AreNodes name k p → AreWithin p whole → IsLiteralOf n voc whole name p (top num k p)
top_is n voc whole name num r k (Known b) i o a w = elim i [ ]
top_is n voc whole name num r k (Leaf sign f) i o a w = (refl, r.facts f o)
top_is n voc whole name num r k (Both p q) i o a w = (refl, a.0, w (Both p q) (inl refl))
top_is n voc whole name num r k (Either p q) i o a w = (refl, a.0, w (Either p q) (inl refl))
top_is n voc whole name num r k (Each m c) i o a w = (refl, a.0, w (Each m c) (inl refl))

-- a disjunction of one literal twice
twice : (n : Sort → ℕ) (voc : Vocabulary) (whole : Copy) (name : ℕ → Copy) (p q : Copy) (x a b : Literal) → a ≡ b → IsLiteralOf n voc whole name (Either p q) x → IsLiteralOf n voc whole name p a → IsLiteralOf n voc whole name q b → IsTied n voc whole name (negated x ∷ a ∷ [])
twice n voc whole name p q x a b e o k l = record {
  form = negated x ∷ a ∷ b ∷ [];
  has_form = choice p q x a b o k l;
  all = λ z i. elim i [ inl u ↦ inl u | inr u ↦ elim u [ inl w ↦ inr (inl w) | inr w ↦ inr (inl (one_in z b w ∙ sym e)) ] ];
  only = λ z i. elim i [ inl u ↦ inl u | inr u ↦ inr (inl (one_in z a u)) ];
}

same_literal : (a b : Literal) → a.atom ≡ b.atom → a.positive ≡ b.positive → a ≡ b
same_literal a b e f = ap₂ (λ s x. let l : Literal = record { positive = s; atom = x } in l) f e

either_by : (n : Sort → ℕ) (voc : Vocabulary) (whole : Copy) (name : ℕ → Copy) (p q : Copy) (x : ℕ) (a b : Literal) (t s : Bool) → nat_eq a.atom b.atom ≡ t → same_truth a.positive b.positive ≡ s → IsLiteralOf n voc whole name (Either p q) (yes x) → IsLiteralOf n voc whole name p a → IsLiteralOf n voc whole name q b → (c : List Literal) → IsIn c (cond t (cond s ((no x ∷ a ∷ []) ∷ []) []) ((no x ∷ a ∷ b ∷ []) ∷ [])) → IsTied n voc whole name c
either_by n voc whole name p q x a b true true e f o k l c i =
    subst (λ z. IsTied n voc whole name z) (sym (one_in c (no x ∷ a ∷ []) i)) (twice n voc whole name p q (yes x) a b (same_literal a b (eqb-true a.atom b.atom e) (same_truth-is a.positive b.positive f)) o k l)
either_by n voc whole name p q x a b true false e f o k l c i = elim i [ ]
either_by n voc whole name p q x a b false s e f o k l c i =
    exact n voc whole name c (no x ∷ a ∷ b ∷ []) (one_in c (no x ∷ a ∷ b ∷ []) i) (choice p q (yes x) a b o k l)

either_tied : (n : Sort → ℕ) (voc : Vocabulary) (whole : Copy) (name : ℕ → Copy) (p q : Copy) (x : ℕ) (a b : Literal) → IsLiteralOf n voc whole name (Either p q) (yes x) → IsLiteralOf n voc whole name p a → IsLiteralOf n voc whole name q b → (c : List Literal) → IsIn c (either_clauses x a b) → IsTied n voc whole name c
either_tied n voc whole name p q x a b = either_by n voc whole name p q x a b (nat_eq a.atom b.atom) (same_truth a.positive b.positive) refl refl

node_tied : (n : Sort → ℕ) (voc : Vocabulary) (whole : Copy) (name : ℕ → Copy) (num : Fact → ℕ) → IsReady n voc name num → (k : ℕ) (p : Copy) → IsPlain p → AllOver n voc p → AreNodes name k p → AreWithin p whole → (c : List Literal) → IsIn c (node_clauses num k p) → IsTied n voc whole name c
node_tied n voc whole name num r k (Known b) i o a w c h = elim h [ ]
node_tied n voc whole name num r k (Leaf sign f) i o a w c h = elim h [ ]
node_tied n voc whole name num r k (Both p q) i o a w c h =
    let wp : AreWithin p whole = λ y z. w y (inr (in_left (nodes p) (nodes q) y z)) in
    let wq : AreWithin q whole = λ y z. w y (inr (in_right (nodes p) (nodes q) y z)) in
    let me = top_is n voc whole name num r k (Both p q) i o a w in
    let x = top num (suc k) p in
    let y = top num (suc k + size p) q in
    elim (in_both (node_clauses num (suc k) p ++ member_clause k x ∷ []) (node_clauses num (suc k + size p) q ++ member_clause k y ∷ []) c h) [
      | inl u ↦ elim (in_both (node_clauses num (suc k) p) (member_clause k x ∷ []) c u) [
        | inl z ↦ node_tied n voc whole name num r (suc k) p i.0 o.0 a.1 wp c z
        | inr z ↦ exact n voc whole name c (member_clause k x) (one_in c (member_clause k x) z) (member (Both p q) p (yes k) x (inl refl) me (top_is n voc whole name num r (suc k) p i.0 o.0 a.1 wp))
      ]
      | inr u ↦ elim (in_both (node_clauses num (suc k + size p) q) (member_clause k y ∷ []) c u) [
        | inl z ↦ node_tied n voc whole name num r (suc k + size p) q i.1 o.1 a.2 wq c z
        | inr z ↦ exact n voc whole name c (member_clause k y) (one_in c (member_clause k y) z) (member (Both p q) q (yes k) y (inr refl) me (top_is n voc whole name num r (suc k + size p) q i.1 o.1 a.2 wq))
      ]
    ]
node_tied n voc whole name num r k (Either p q) i o a w c h =
    let wp : AreWithin p whole = λ y z. w y (inr (in_left (nodes p) (nodes q) y z)) in
    let wq : AreWithin q whole = λ y z. w y (inr (in_right (nodes p) (nodes q) y z)) in
    let me = top_is n voc whole name num r k (Either p q) i o a w in
    let one = top_is n voc whole name num r (suc k) p i.0 o.0 a.1 wp in
    let two = top_is n voc whole name num r (suc k + size p) q i.1 o.1 a.2 wq in
    elim (in_both (node_clauses num (suc k) p) (node_clauses num (suc k + size p) q ++ either_clauses k (top num (suc k) p) (top num (suc k + size p) q)) c h) [
      | inl u ↦ node_tied n voc whole name num r (suc k) p i.0 o.0 a.1 wp c u
      | inr u ↦ elim (in_both (node_clauses num (suc k + size p) q) (either_clauses k (top num (suc k) p) (top num (suc k + size p) q)) c u) [
        | inl z ↦ node_tied n voc whole name num r (suc k + size p) q i.1 o.1 a.2 wq c z
        | inr z ↦ either_tied n voc whole name p q k (top num (suc k) p) (top num (suc k + size p) q) me one two c z
      ]
    ]
node_tied n voc whole name num r k (Each m d) i o a w c h =
    let at : ℕ → ℕ = λ y. suc k + sum_from (λ z. size (d z)) 0 y in
    let g = flat_in (λ y. node_clauses num (at y) (d y) ++ member_clause k (top num (at y) (d y)) ∷ []) (places_from 0 m) c h in
    let x = g.0 in
    let l : x < m = omega (arith, (in_place 0 m x g.1).1) in
    let within : AreWithin (d x) whole = λ y z. w y (inr (in_flat (λ b. nodes (d b)) (places_from 0 m) x y g.1 z)) in
    let t = top num (at x) (d x) in
    elim (in_both (node_clauses num (at x) (d x)) (member_clause k t ∷ []) c g.2) [
      | inl z ↦ node_tied n voc whole name num r (at x) (d x) (i x l) (o x l) (a.1 x l) within c z
      | inr z ↦ exact n voc whole name c (member_clause k t) (one_in c (member_clause k t) z) (member (Each m d) (d x) (yes k) t (x, l, refl) (top_is n voc whole name num r k (Each m d) i o a w) (top_is n voc whole name num r (at x) (d x) (i x l) (o x l) (a.1 x l) within))
    ]

plain_tied : (n : Sort → ℕ) (voc : Vocabulary) (whole : Copy) (name : ℕ → Copy) (num : Fact → ℕ) → IsReady n voc name num → (k : ℕ) → IsPlain whole → AllOver n voc whole → AreNodes name k whole → (c : List Literal) → IsIn c (node_clauses num k whole ++ (top num k whole ∷ []) ∷ []) → IsTied n voc whole name c
plain_tied n voc whole name num r k i o a c h =
    elim (in_both (node_clauses num k whole) ((top num k whole ∷ []) ∷ []) c h) [
      | inl u ↦ node_tied n voc whole name num r k whole i o a (λ x y. y) c u
      | inr u ↦ exact n voc whole name c (top num k whole ∷ []) (one_in c (top num k whole ∷ []) u) (whole_true (top num k whole) (top_is n voc whole name num r k whole i o a (λ x y. y)))
    ]

whole_tied : (n : Sort → ℕ) (voc : Vocabulary) (whole : Copy) (name : ℕ → Copy) (num : Fact → ℕ) → IsReady n voc name num → (k : ℕ) → IsSimple whole → AllOver n voc whole → AreNodes name k whole → (c : List Literal) → IsIn c (whole_clauses num k whole) → IsTied n voc whole name c
whole_tied n voc (Known true) name num r k i o a c h = elim h [ ]
whole_tied n voc (Known false) name num r k i o a c h = exact n voc (Known false) name c [] (one_in c [] h) (whole_false refl)
whole_tied n voc (Leaf sign f) name num r k i o a c h = plain_tied n voc (Leaf sign f) name num r k i o a c h
whole_tied n voc (Both p q) name num r k i o a c h = plain_tied n voc (Both p q) name num r k i o a c h
whole_tied n voc (Either p q) name num r k i o a c h = plain_tied n voc (Either p q) name num r k i o a c h
whole_tied n voc (Each m d) name num r k i o a c h = plain_tied n voc (Each m d) name num r k i o a c h

-- Equality.

fact_is : (n : Sort → ℕ) (voc : Vocabulary) (whole : Copy) (name : ℕ → Copy) (num : Fact → ℕ) → IsReady n voc name num → (f : Fact) → IsOver n voc f → IsLiteralOf n voc whole name (Leaf true f) (yes (num f))
fact_is n voc whole name num r f o = (refl, r.facts f o)

cond_in : {X : Type 0} (b : Bool) (x y : X) → IsIn x (cond b (y ∷ []) []) → (b ≡ true) × (x ≡ y)
cond_in true x y h = (refl, one_in x y h)
cond_in false x y h = elim h [ ]

same_tied : (n : Sort → ℕ) (voc : Vocabulary) (whole : Copy) (name : ℕ → Copy) (num : Fact → ℕ) → IsReady n voc name num → (s : Sort) (c : List Literal) → IsIn c (same_clauses num n s) → IsTied n voc whole name c
same_tied n voc whole name num r s c h =
    let w = map_in (λ a. yes (num (Equation s a a)) ∷ []) (places_from 0 (n s)) c h in
    let l : w.0 < n s = omega (arith, (in_place 0 (n s) w.0 w.1).1) in
    exact n voc whole name c (yes (num (Equation s w.0 w.0)) ∷ []) w.2 (same s w.0 (yes (num (Equation s w.0 w.0))) (fact_is n voc whole name num r (Equation s w.0 w.0) (l, l)))

chain_tied : (n : Sort → ℕ) (voc : Vocabulary) (whole : Copy) (name : ℕ → Copy) (num : Fact → ℕ) → IsReady n voc name num → (s : Sort) (c : List Literal) → IsIn c (chain_clauses num n voc s) → IsTied n voc whole name c
chain_tied n voc whole name num r s c h =
    let ps = places_from 0 (n s) in
    let x = flat_in (λ a. flat_map (λ b. flat_map (λ d. cond (is_chain voc s a b d) (chain_clause num s a b d ∷ []) []) ps) ps) ps c h in
    let y = flat_in (λ b. flat_map (λ d. cond (is_chain voc s x.0 b d) (chain_clause num s x.0 b d ∷ []) []) ps) ps c x.2 in
    let z = flat_in (λ d. cond (is_chain voc s x.0 y.0 d) (chain_clause num s x.0 y.0 d ∷ []) []) ps c y.2 in
    let lx : x.0 < n s = omega (arith, (in_place 0 (n s) x.0 x.1).1) in
    let ly : y.0 < n s = omega (arith, (in_place 0 (n s) y.0 y.1).1) in
    let lz : z.0 < n s = omega (arith, (in_place 0 (n s) z.0 z.1).1) in
    exact n voc whole name c (chain_clause num s x.0 y.0 z.0) (cond_in (is_chain voc s x.0 y.0 z.0) c (chain_clause num s x.0 y.0 z.0) z.2).1
    (chain s x.0 y.0 z.0 (yes (num (Equation s x.0 y.0))) (yes (num (Equation s y.0 z.0))) (yes (num (Equation s x.0 z.0)))
    (fact_is n voc whole name num r (Equation s x.0 y.0) (lx, ly)) (fact_is n voc whole name num r (Equation s y.0 z.0) (ly, lz)) (fact_is n voc whole name num r (Equation s x.0 z.0) (lx, lz)))

no_differences : (n : Sort → ℕ) (voc : Vocabulary) (whole : Copy) (name : ℕ → Copy) (ss : List Sort) (xs : List ℕ) → AreBelow n ss xs → AreDifferences n voc whole name ss xs xs []
no_differences n voc whole name [] [] h = refl
no_differences n voc whole name [] (x ∷ xs) h = elim h [ ]
no_differences n voc whole name (s ∷ ss) [] h = elim h [ ]
no_differences n voc whole name (s ∷ ss) (x ∷ xs) h = inl (refl, h.0, no_differences n voc whole name ss xs h.1)

one_difference : (n : Sort → ℕ) (voc : Vocabulary) (whole : Copy) (name : ℕ → Copy) (s : Sort) (a b : ℕ) → (a ≡ b → ⊥) → (l : Literal) → IsLiteralOf n voc whole name (Leaf true (Equation s a b)) l → (post : List Sort) (back : List ℕ) → AreBelow n post back → (pre : List Sort) (front : List ℕ) → AreBelow n pre front → AreDifferences n voc whole name (pre ++ s ∷ post) (front ++ a ∷ back) (front ++ b ∷ back) (negated l ∷ [])
one_difference n voc whole name s a b d l o post back k [] [] h = inr (d, l, [], refl, o, no_differences n voc whole name post back k)
one_difference n voc whole name s a b d l o post back k [] (x ∷ front) h = elim h [ ]
one_difference n voc whole name s a b d l o post back k (t ∷ pre) [] h = elim h [ ]
one_difference n voc whole name s a b d l o post back k (t ∷ pre) (x ∷ front) h = inl (refl, h.0, one_difference n voc whole name s a b d l o post back k pre front h.1)

replace_tied : (n : Sort → ℕ) (voc : Vocabulary) (whole : Copy) (name : ℕ → Copy) (num : Fact → ℕ) → IsReady n voc name num → (rel : Pred) → IsIn rel voc.relations → (pre : List Sort) (front : List ℕ) → AreBelow n pre front → (ss : List Sort) (xs : List ℕ) → voc.columns rel ≡ pre ++ ss → AreBelow n ss xs → (c : List Literal) → IsIn c (replace_from num n voc rel front ss xs) → IsTied n voc whole name c
replace_tied n voc whole name num r rel i pre front f [] xs q b c h = elim h [ ]
replace_tied n voc whole name num r rel i pre front f (s ∷ ss) [] q b c h = elim h [ ]
replace_tied n voc whole name num r rel i pre front f (s ∷ ss) (a ∷ back) q b c h =
    let make : ℕ → List (List Literal) = λ d. cond (may_meet voc s a d) (replace_clause num rel s front back a d ∷ []) [] in
    elim (in_both (flat_map make (places_from 0 (n s))) (replace_from num n voc rel (front ++ a ∷ []) ss back) c h) [
      | inl u ↦ (
          let w = flat_in make (places_from 0 (n s)) c u in
          let l : w.0 < n s = omega (arith, (in_place 0 (n s) w.0 w.1).1) in
          let e = cond_in (may_meet voc s a w.0) c (replace_clause num rel s front back a w.0) w.2 in
          let eq = fact_is n voc whole name num r (Equation s a w.0) (b.0, l) in
          let over : (d : ℕ) → d < n s → IsOver n voc (Tuple rel (front ++ d ∷ back)) = λ d k. (i, subst (λ z. AreBelow n z (front ++ d ∷ back)) (sym q) (below_append n pre (s ∷ ss) front (d ∷ back) f (k, b.1))) in
          exact n voc whole name c (replace_clause num rel s front back a w.0) e.1
          (replaced rel (front ++ a ∷ back) (front ++ w.0 ∷ back) (no (num (Equation s a w.0)) ∷ []) (yes (num (Tuple rel (front ++ a ∷ back)))) (yes (num (Tuple rel (front ++ w.0 ∷ back))))
          (subst (λ z. AreDifferences n voc whole name z (front ++ a ∷ back) (front ++ w.0 ∷ back) (no (num (Equation s a w.0)) ∷ [])) (sym q) (one_difference n voc whole name s a w.0 (meets_apart voc s a w.0 e.0) (yes (num (Equation s a w.0))) eq ss back b.1 pre front f))
          (fact_is n voc whole name num r (Tuple rel (front ++ a ∷ back)) (over a b.0))
          (fact_is n voc whole name num r (Tuple rel (front ++ w.0 ∷ back)) (over w.0 l))))
      | inr u ↦ replace_tied n voc whole name num r rel i (pre ++ s ∷ []) (front ++ a ∷ []) (below_append n pre (s ∷ []) front (a ∷ []) f (b.0, tt)) ss back (q ∙ sym (append_assoc pre (s ∷ []) ss)) b.1 c u
    ]

apart_tied : (n : Sort → ℕ) (voc : Vocabulary) (whole : Copy) (name : ℕ → Copy) (num : Fact → ℕ) → IsReady n voc name num → (k m : ℕ) → IsIn k voc.numerals → IsIn m voc.numerals → (c : List Literal) → IsIn c (cond (nat_lt k m) ((no (num (Equation Pr (numeral_place voc k) (numeral_place voc m))) ∷ []) ∷ []) []) → IsTied n voc whole name c
apart_tied n voc whole name num r k m ik im c h =
    let f = Equation Pr (numeral_place voc k) (numeral_place voc m) in
    let w = cond_in (nat_lt k m) c (no (num f) ∷ []) h in
    let lk = index_of-below (Port k) (voc.names Pr) (r.vocabulary.numbered k ik) in
    let lm = index_of-below (Port m) (voc.names Pr) (r.vocabulary.numbered m im) in
    let o : IsOver n voc f = (omega (arith, lk, r.few Pr), omega (arith, lm, r.few Pr)) in
    let l : k < m = ltb-true k m w.0 in
    exact n voc whole name c (no (num f) ∷ []) w.1 (apart k m (yes (num f)) ik im (λ e. omega arith) (fact_is n voc whole name num r f o))

equality_tied : (n : Sort → ℕ) (voc : Vocabulary) (whole : Copy) (name : ℕ → Copy) (num : Fact → ℕ) → IsReady n voc name num → (c : List Literal) → IsIn c (equality_clauses num n voc) → IsTied n voc whole name c
equality_tied n voc whole name num r c h =
    let ss : List Sort = Sw ∷ Ho ∷ Pr ∷ [] in
    let one : Sort → List (List Literal) = λ s. same_clauses num n s ++ chain_clauses num n voc s in
    let replaces : Pred → List (List Literal) = λ rel. replace_clauses num n voc rel in
    elim (in_both (flat_map one ss) (flat_map replaces voc.relations ++ numeral_clauses num voc) c h) [
      | inl u ↦ (
          let w = flat_in one ss c u in
          elim (in_both (same_clauses num n w.0) (chain_clauses num n voc w.0) c w.2) [ inl x ↦ same_tied n voc whole name num r w.0 c x | inr x ↦ chain_tied n voc whole name num r w.0 c x ])
      | inr u ↦ elim (in_both (flat_map replaces voc.relations) (numeral_clauses num voc) c u) [
        | inl x ↦ (
            let w = flat_in replaces voc.relations c x in
            let y = flat_in (λ xs. replace_from num n voc w.0 [] (voc.columns w.0) xs) (all_tuples n (voc.columns w.0)) c w.2 in
            replace_tied n voc whole name num r w.0 w.1 [] [] tt (voc.columns w.0) y.0 refl (in_tuples n (voc.columns w.0) y.0 y.1) c y.2)
        | inr x ↦ (
            let pair : ℕ → ℕ → List (List Literal) = λ k m. cond (nat_lt k m) ((no (num (Equation Pr (numeral_place voc k) (numeral_place voc m))) ∷ []) ∷ []) [] in
            let w = flat_in (λ k. flat_map (pair k) voc.numerals) voc.numerals c x in
            let y = flat_in (pair w.0) voc.numerals c w.2 in
            apart_tied n voc whole name num r w.0 y.0 w.1 y.1 c y.2)
      ]
    ]

pub all_tied : (n : Sort → ℕ) (voc : Vocabulary) (whole : Copy) (name : ℕ → Copy) (num : Fact → ℕ) → IsReady n voc name num → (k : ℕ) → IsSimple whole → AllOver n voc whole → AreNodes name k whole → (c : List Literal) → IsIn c (whole_clauses num k whole ++ equality_clauses num n voc) → IsTied n voc whole name c
all_tied n voc whole name num r k i o a c h =
    elim (in_both (whole_clauses num k whole) (equality_clauses num n voc) c h) [
      | inl u ↦ whole_tied n voc whole name num r k i o a c u
      | inr u ↦ equality_tied n voc whole name num r c u
    ]

-- The names.

flat_length : (f : ℕ → List Copy) (g : ℕ → ℕ) → ((i : ℕ) → length (f i) ≡ g i) → (i m : ℕ) → length (flat_map f (places_from i m)) ≡ sum_from g i m
flat_length f g h i zero = refl
flat_length f g h i (suc m) = length-append (f i) (flat_map f (places_from (suc i) m)) ∙ ap₂ (λ x y. x + y) (h i) (flat_length f g h (suc i) m)

pub node_length : (p : Copy) → length (nodes p) ≡ size p
node_length (Known b) = refl
node_length (Leaf sign f) = refl
node_length (Both p q) = ap suc (length-append (nodes p) (nodes q) ∙ ap₂ (λ x y. x + y) (node_length p) (node_length q))
node_length (Either p q) = ap suc (length-append (nodes p) (nodes q) ∙ ap₂ (λ x y. x + y) (node_length p) (node_length q))
node_length (Each n c) = ap suc (flat_length (λ i. nodes (c i)) (λ i. size (c i)) (λ i. node_length (c i)) 0 n)

-- names that stand in a list from k on are those of its parts
abbrev StandsFrom : (ℕ → Copy) → ℕ → List Copy → Type 0
StandsFrom name k xs = (i : ℕ) → i < length xs → name (k + i) ≡ get_or xs i (Known true)

first_part : (name : ℕ → Copy) (k : ℕ) (xs ys : List Copy) → StandsFrom name k (xs ++ ys) → StandsFrom name k xs
first_part name k xs ys h i l = h i (omega (arith, length-append xs ys)) ∙ get_or-append xs ys (Known true) i l

second_part : (name : ℕ → Copy) (k m : ℕ) (xs ys : List Copy) → length xs ≡ m → StandsFrom name k (xs ++ ys) → StandsFrom name (k + m) ys
second_part name k m xs ys e h i l =
    let at : k + m + i ≡ k + (length xs + i) = omega arith in
    ap name at ∙ h (length xs + i) (omega (arith, length-append xs ys)) ∙ get_or-append-add xs ys i (Known true)

rest_part : (name : ℕ → Copy) (k : ℕ) (x : Copy) (xs : List Copy) → StandsFrom name k (x ∷ xs) → StandsFrom name (suc k) xs
rest_part name k x xs h i l = (let at : suc k + i ≡ k + suc i = omega arith in ap name at ∙ h (suc i) (omega arith))

head_part : (name : ℕ → Copy) (k : ℕ) (x : Copy) (xs : List Copy) → StandsFrom name k (x ∷ xs) → name k ≡ x
head_part name k x xs h = (let at : k ≡ k + 0 = omega arith in ap name at ∙ h 0 (omega arith))

flat_part : (name : ℕ → Copy) (f : ℕ → List Copy) (g : ℕ → ℕ) → ((i : ℕ) → length (f i) ≡ g i) → (k i m x : ℕ) → StandsFrom name k (flat_map f (places_from i m)) → x < m → StandsFrom name (k + sum_from g i x) (f (i + x))
flat_part name f g e k i zero x h l = absurd (omega arith)
flat_part name f g e k i (suc m) zero h l =
    let at : k + 0 ≡ k = omega arith in
    let here : i + 0 ≡ i = omega arith in
    subst (λ z. StandsFrom name z (f (i + 0))) (sym at) (subst (λ z. StandsFrom name k (f z)) (sym here) (first_part name k (f i) (flat_map f (places_from (suc i) m)) h))
flat_part name f g e k i (suc m) (suc x) h l =
    let deep = flat_part name f g e (k + g i) (suc i) m x (second_part name k (g i) (f i) (flat_map f (places_from (suc i) m)) (e i) h) (omega arith) in
    let at : k + g i + sum_from g (suc i) x ≡ k + (g i + sum_from g (suc i) x) = omega arith in
    let here : suc i + x ≡ i + suc x = omega arith in
    subst (λ z. StandsFrom name z (f (i + suc x))) at (subst (λ z. StandsFrom name (k + g i + sum_from g (suc i) x) (f z)) here deep)

nodes_named : (name : ℕ → Copy) (k : ℕ) (p : Copy) → StandsFrom name k (nodes p) → AreNodes name k p
nodes_named name k (Known b) h = tt
nodes_named name k (Leaf sign f) h = tt
nodes_named name k (Both p q) h =
    let rest = rest_part name k (Both p q) (nodes p ++ nodes q) h in
    (head_part name k (Both p q) (nodes p ++ nodes q) h, nodes_named name (suc k) p (first_part name (suc k) (nodes p) (nodes q) rest), nodes_named name (suc k + size p) q (second_part name (suc k) (size p) (nodes p) (nodes q) (node_length p) rest))
nodes_named name k (Either p q) h =
    let rest = rest_part name k (Either p q) (nodes p ++ nodes q) h in
    (head_part name k (Either p q) (nodes p ++ nodes q) h, nodes_named name (suc k) p (first_part name (suc k) (nodes p) (nodes q) rest), nodes_named name (suc k + size p) q (second_part name (suc k) (size p) (nodes p) (nodes q) (node_length p) rest))
nodes_named name k (Each n c) h =
    let rest = rest_part name k (Each n c) (flat_map (λ i. nodes (c i)) (places_from 0 n)) h in (
      head_part name k (Each n c) (flat_map (λ i. nodes (c i)) (places_from 0 n)) h,
      (λ i l.
          nodes_named name (suc k + sum_from (λ x. size (c x)) 0 i) (c i)
          (let here : 0 + i ≡ i = omega arith in subst (λ z. StandsFrom name (suc k + sum_from (λ x. size (c x)) 0 i) (nodes (c z))) here (flat_part name (λ x. nodes (c x)) (λ x. size (c x)) (λ x. node_length (c x)) (suc k) 0 n i rest l))),
    )

-- the names of facts and nodes are those of the numbering

fact_named : (m : Naming) (whole : Copy) (x : ℕ) → 0 < x → x < m.first → name_of m whole x ≡ Leaf true (m.fact_at x)
fact_named m whole zero l k = absurd (omega arith)
fact_named m whole (suc x) l k = ap (λ b. cond b (Leaf true (m.fact_at (suc x))) (get_or (nodes whole) (suc x - m.first) (Known true))) (lt-ltb (suc x) m.first k)

pub node_named : (m : Naming) (whole : Copy) (x : ℕ) → 0 < x → m.first ≤ x → name_of m whole x ≡ get_or (nodes whole) (x - m.first) (Known true)
node_named m whole zero l k = absurd (omega arith)
node_named m whole (suc x) l k = ap (λ b. cond b (Leaf true (m.fact_at (suc x))) (get_or (nodes whole) (suc x - m.first) (Known true))) (le-ltb (suc x) m.first k)

module _ (voc : Vocabulary) (n : Sort → ℕ) (m : Naming) (o : IsNaming voc n m) (whole : Copy) where
  pub ready : IsVocabulary voc → ((s : Sort) → known voc s ≤ n s) → IsReady n voc (name_of m whole) m.num
  ready vocabulary few = record {
    facts = λ f i.
        (let e = fact_named m whole (m.num f) (o.some f) (o.below f i) in
        (i, elim (o.back f i) [ inl q ↦ inl (e ∙ ap (λ g. Leaf true g) q) | inr q ↦ inr (e ∙ ap (λ g. Leaf true g) q) ]));
    few = few;
    vocabulary = vocabulary;
  }

  pub whole_named : 0 < m.first → AreNodes (name_of m whole) m.first whole
  whole_named l =
      nodes_named (name_of m whole) m.first whole (λ i k.
      let back : m.first + i - m.first ≡ i = omega arith in
      node_named m whole (m.first + i) (omega arith) (omega arith) ∙ ap (λ z. get_or (nodes whole) z (Known true)) back)

pub some_first : (voc : Vocabulary) (n : Sort → ℕ) (m : Naming) → IsNaming voc n m → 0 < n Sw → 0 < m.first
some_first voc n m o l =
    let f = Equation Sw 0 0 in
    omega (arith, o.some f, o.below f (l, l))

pub sentence_tied : (voc : Vocabulary) (f : Form) (m : Naming) → IsClosed voc f → IsNaming voc (constants voc f) m → (c : List Literal) → IsIn c (all_clauses m (constants voc f) voc (copies_of voc f)) → IsTied (constants voc f) voc (copies_of voc f) (name_of m (copies_of voc f)) c
sentence_tied voc f m is o =
    let n = constants voc f in
    let few : (s : Sort) → known voc s ≤ n s = λ s. omega arith in
    all_tied n voc (copies_of voc f) (name_of m (copies_of voc f)) m.num (ready voc n m o (copies_of voc f) is.vocabulary few) m.first (copies_simple voc n (λ s. omega arith) f [] (known voc))
    (copies_over voc n few (simplified f) [] (known voc) tt (fits-simplified voc f [] is.closed) (inside-simplified f is.inside) (λ s. omega (arith, need-simplified f s))) (whole_named voc n m o (copies_of voc f) (some_first voc n m o (omega arith)))

-- a fair judgement that makes the copies true, read by the names, is a model
pub judged_model : (voc : Vocabulary) (f : Form) (m : Naming) → IsClosed voc f → IsNaming voc (constants voc f) m → (j : Fact → Bool) → IsFair voc (constants voc f) j → judge j (copies_of voc f) ≡ true → (c : List Literal) → IsIn c (all_clauses m (constants voc f) voc (copies_of voc f)) → clause_true (λ x. judge j (name_of m (copies_of voc f) x)) c ≡ true
judged_model voc f m is o j fair h c i =
    let n = constants voc f in
    let whole = copies_of voc f in
    let name = name_of m whole in
    tied_true voc n j fair whole h name (λ x. judge j (name x)) (λ x. refl) c (sentence_tied voc f m is o c i)
