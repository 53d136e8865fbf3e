-- Equal clauses among the first ones stand side by side.
use Rattle.std.proofs.Common.{◌≡◌, ◌∙◌, ℕ, suc, ◌+◌, ◌<◌, ◌≤◌, ◌⊎◌, Bool, true, false, List, [], ◌∷◌, ◌++◌, drop, length, get_or, nat_eq, refl, sym, ap, ap₂, subst, append_assoc, arith, cond, inl, inr}
use Rattle.std.proofs.lemmas.Bool.{false≢true}
use Rattle.std.proofs.lemmas.List.{append-nil, drop_all, drop_more}
use Rattle.csdn_core.specs.Members.{AreDistinct, IsIn}
use Rattle.csdn_core.proofs.Members.{in_both, one_in}
use Rattle.csdn_core.specs.Truth.{same_truth}
use Rattle.csdn_core.specs.declared.terms.Sort.{Sort}
use Rattle.csdn_core.specs.declared.program.Parts.{Parts}
use Rattle.csdn_core.specs.declared.syntax.Formula.{Formula}
use Rattle.clause_log.specs.Literals.{ClauseList, Literal}
use Rattle.fol_forms.specs.Constants.{counts}
use Rattle.fol_forms.specs.Forms.{form_of}
use Rattle.decision_laws.specs.Simplified.{simplified}
use Rattle.decision_laws.specs.Vocabulary.{Vocabulary}
use Rattle.decision_laws.specs.Copies.{Both, Copy, Each, Either, Fact, Known, Leaf, known}
use Rattle.decision_laws.specs.Clauses.{IsNaming, Naming, either_clauses, member_clause, no, size, top}
use Rattle.decision_laws.specs.Laws.{IsSentence, naming, sentence_copies, words}
use Rattle.decision_laws.proofs.Bridge.{numbers_named}
use Rattle.decision_laws.proofs.Fitting.{is_closed}
use Rattle.decision_laws.proofs.Made.{AllOver, copies_over, copies_simple}
use Rattle.decision_laws.proofs.Read.{IsPlain, IsSimple}
use Rattle.decision_laws.proofs.Simplify.{fits-simplified, inside-simplified, need-simplified}
use Rattle.lazy_ground.specs.First.{AreFirst, first_clauses, open_clauses, open_named, open_whole}
use Rattle.lazy_ground.specs.Found.{begins_with, same_literals, untwinned}
use Rattle.lazy_ground.proofs.OnceLaws.{same_clause-is, same_clause-refl}

-- The loop that leaves them out.

-- so far these were kept
pub record AreKept (found : ClauseList) (at : ℕ) (kept : ClauseList) : Type 0 where
  pub atoms : kept.atoms ≡ found.atoms
  pub on : kept.clauses ++ untwinned (drop at found.clauses) ≡ untwinned found.clauses

next_by : (cs : List (List Literal)) (at : ℕ) → at < length cs → (b : Bool) → b ≡ begins_with (get_or cs at []) (drop (at + 1) cs) → untwinned (drop at cs) ≡ cond b (untwinned (drop (at + 1) cs)) (get_or cs at [] ∷ untwinned (drop (at + 1) cs))
next_by cs at l b e = ap untwinned (drop_more cs at [] l) ∙ ap (λ z. cond z (untwinned (drop (at + 1) cs)) (get_or cs at [] ∷ untwinned (drop (at + 1) cs))) (sym e)

pub left_out : (found kept : ClauseList) (at : ℕ) → AreKept found at kept → at < length found.clauses → (b : Bool) → b ≡ begins_with (get_or found.clauses at []) (drop (at + 1) found.clauses) → b ≡ true → AreKept found (at + 1) kept
left_out found kept at h l b e t = record {
  atoms = h.atoms;
  on = ap (λ z. kept.clauses ++ z) (sym (next_by found.clauses at l b e ∙ ap (λ z. cond z (untwinned (drop (at + 1) found.clauses)) (get_or found.clauses at [] ∷ untwinned (drop (at + 1) found.clauses))) t)) ∙ h.on;
}

pub put_on : (found kept new : ClauseList) (at : ℕ) (c : List Literal) → AreKept found at kept → at < length found.clauses → (b : Bool) → b ≡ begins_with (get_or found.clauses at []) (drop (at + 1) found.clauses) → b ≡ false → c ≡ get_or found.clauses at [] → new ≡ record { atoms = kept.atoms; clauses = kept.clauses ++ c ∷ [] } → AreKept found (at + 1) new
put_on found kept new at c h l b e f q n =
    let rest = untwinned (drop (at + 1) found.clauses) in
    record {
      atoms = ap (λ z. z.atoms) n ∙ h.atoms;
      on = ap (λ z. z.clauses ++ rest) n ∙ append_assoc kept.clauses (c ∷ []) rest ∙ ap (λ z. kept.clauses ++ z ∷ rest) q
          ∙ ap (λ z. kept.clauses ++ z) (sym (next_by found.clauses at l b e ∙ ap (λ z. cond z rest (get_or found.clauses at [] ∷ rest)) f)) ∙ h.on;
    }

pub all_kept : (found kept : ClauseList) (at : ℕ) → AreKept found at kept → length found.clauses ≤ at → kept ≡ record { atoms = found.atoms; clauses = untwinned found.clauses }
all_kept found kept at h l =
    ap₂ (λ a cs. let k : ClauseList = record { atoms = a; clauses = cs } in k) h.atoms
    (sym (append-nil kept.clauses) ∙ ap (λ z. kept.clauses ++ untwinned z) (sym (drop_all at found.clauses l)) ∙ h.on)

-- What is left where equal clauses stand side by side.

abbrev AreNear : List (List Literal) → Type 0
AreNear [] = Unit {0}
AreNear (c ∷ cs) = (IsIn c cs → begins_with c cs ≡ true) × AreNear cs

begins_is : (c : List Literal) (cs : List (List Literal)) → begins_with c cs ≡ true → IsIn c cs
begins_is c [] e = absurd (false≢true e)
begins_is c (d ∷ ds) e = inl (same_clause-is c d e)

left_by : (c : List Literal) (rest : List (List Literal)) (b : Bool) (d : List Literal) → IsIn d (cond b rest (c ∷ rest)) → IsIn d (c ∷ rest)
left_by c rest true d i = inr i
left_by c rest false d i = i

untwinned_within : (cs : List (List Literal)) (d : List Literal) → IsIn d (untwinned cs) → IsIn d cs
untwinned_within [] d i = i
untwinned_within (c ∷ cs) d i =
    elim (left_by c (untwinned cs) (begins_with c cs) d i) [ inl e ↦ inl e | inr k ↦ inr (untwinned_within cs d k) ]

still_by : (c : List Literal) (rest : List (List Literal)) (b : Bool) (d : List Literal) → (b ≡ true → IsIn c rest) → (d ≡ c) ⊎ IsIn d rest → IsIn d (cond b rest (c ∷ rest))
still_by c rest true d h (inl e) = subst (λ z. IsIn z rest) (sym e) (h refl)
still_by c rest true d h (inr k) = k
still_by c rest false d h k = k

untwinned_keeps : (cs : List (List Literal)) (d : List Literal) → IsIn d cs → IsIn d (untwinned cs)
untwinned_keeps [] d i = i
untwinned_keeps (c ∷ cs) d i =
    still_by c (untwinned cs) (begins_with c cs) d (λ e. untwinned_keeps cs c (begins_is c cs e)) (elim i [ inl e ↦ inl e | inr k ↦ inr (untwinned_keeps cs d k) ])

distinct_by : (c : List Literal) (rest : List (List Literal)) (b : Bool) → (b ≡ false → IsIn c rest → ⊥) → AreDistinct rest → AreDistinct (cond b rest (c ∷ rest))
distinct_by c rest true h d = d
distinct_by c rest false h d = (h refl, d)

untwinned_distinct : (cs : List (List Literal)) → AreNear cs → AreDistinct (untwinned cs)
untwinned_distinct [] h = tt
untwinned_distinct (c ∷ cs) h =
    distinct_by c (untwinned cs) (begins_with c cs) (λ f i. false≢true (sym f ∙ h.0 (untwinned_within cs c i))) (untwinned_distinct cs h.1)

begins_still : (c : List Literal) (cs ds : List (List Literal)) → begins_with c cs ≡ true → begins_with c (cs ++ ds) ≡ true
begins_still c [] ds e = absurd (false≢true e)
begins_still c (x ∷ cs) ds e = e

near_both : (cs ds : List (List Literal)) → AreNear cs → AreNear ds → ((c : List Literal) → IsIn c cs → IsIn c ds → ⊥) → AreNear (cs ++ ds)
near_both [] ds h k apart = k
near_both (c ∷ cs) ds h k apart = (
  (λ i. elim (in_both cs ds c i) [ inl x ↦ begins_still c cs ds (h.0 x) | inr x ↦ absurd (apart c (inl refl) x) ]),
  near_both cs ds h.1 k (λ x i j. apart x (inr i) j),
)

-- The clauses of nodes with these numbers.

abbrev IsNumbered : ℕ → ℕ → List Literal → Type 0
IsNumbered low high [] = ⊥
IsNumbered low high (l ∷ []) = ⊥
IsNumbered low high (l ∷ m ∷ ls) = (low ≤ l.atom) × (l.atom < high)

wider : (low high under over : ℕ) (c : List Literal) → IsNumbered low high c → under ≤ low → high ≤ over → IsNumbered under over c
wider low high under over [] h l k = h
wider low high under over (x ∷ []) h l k = h
wider low high under over (x ∷ y ∷ ls) h l k = (omega (arith, h.0, l), omega (arith, h.1, k))

numbered_apart : (low mid under high : ℕ) (c : List Literal) → IsNumbered low mid c → IsNumbered under high c → mid ≤ under → ⊥
numbered_apart low mid under high [] h k l = h
numbered_apart low mid under high (x ∷ []) h k l = h
numbered_apart low mid under high (x ∷ y ∷ ls) h k l = omega (arith, h.1, k.0, l)

member_numbered : (k : ℕ) (a : Literal) (c : List Literal) → IsIn c (member_clause k a ∷ []) → IsNumbered k (suc k) c
member_numbered k a c i = subst (IsNumbered k (suc k)) (sym (one_in c (member_clause k a) i)) (omega arith, omega arith)

either_by : (k : ℕ) (a b : Literal) (t s : Bool) (c : List Literal) → IsIn c (cond t (cond s ((no k ∷ a ∷ []) ∷ []) []) ((no k ∷ a ∷ b ∷ []) ∷ [])) → IsNumbered k (suc k) c
either_by k a b true true c i = subst (IsNumbered k (suc k)) (sym (one_in c (no k ∷ a ∷ []) i)) (omega arith, omega arith)
either_by k a b true false c i = elim i [ ]
either_by k a b false s c i = subst (IsNumbered k (suc k)) (sym (one_in c (no k ∷ a ∷ b ∷ []) i)) (omega arith, omega arith)

either_numbered : (k : ℕ) (a b : Literal) (c : List Literal) → IsIn c (either_clauses k a b) → IsNumbered k (suc k) c
either_numbered k a b = either_by k a b (nat_eq a.atom b.atom) (same_truth a.positive b.positive)

either_near_by : (k : ℕ) (a b : Literal) (t s : Bool) → AreNear (cond t (cond s ((no k ∷ a ∷ []) ∷ []) []) ((no k ∷ a ∷ b ∷ []) ∷ []))
either_near_by k a b true true = ((λ i. elim i [ ]), tt)
either_near_by k a b true false = tt
either_near_by k a b false s = ((λ i. elim i [ ]), tt)

either_near : (k : ℕ) (a b : Literal) → AreNear (either_clauses k a b)
either_near k a b = either_near_by k a b (nat_eq a.atom b.atom) (same_truth a.positive b.positive)

open_numbered : (num : Fact → ℕ) (k : ℕ) (p : Copy) (c : List Literal) → IsIn c (open_clauses num k p) → IsNumbered k (k + size p) c
open_numbered num k (Known b) c i = elim i [ ]
open_numbered num k (Leaf sign fact) c i = elim i [ ]
open_numbered num k (Both p q) c i =
    let x = top num (suc k) p in
    let y = top num (suc k + size p) q in
    elim (in_both (open_clauses num (suc k) p ++ member_clause k x ∷ []) (open_clauses num (suc k + size p) q ++ member_clause k y ∷ []) c i) [
      | inl u ↦ elim (in_both (open_clauses num (suc k) p) (member_clause k x ∷ []) c u) [
        | inl z ↦ wider (suc k) (suc k + size p) k (k + size (Both p q)) c (open_numbered num (suc k) p c z) (omega arith) (omega arith)
        | inr z ↦ wider k (suc k) k (k + size (Both p q)) c (member_numbered k x c z) (omega arith) (omega arith)
      ]
      | inr u ↦ elim (in_both (open_clauses num (suc k + size p) q) (member_clause k y ∷ []) c u) [
        | inl z ↦ wider (suc k + size p) (suc k + size p + size q) k (k + size (Both p q)) c (open_numbered num (suc k + size p) q c z) (omega arith) (omega arith)
        | inr z ↦ wider k (suc k) k (k + size (Both p q)) c (member_numbered k y c z) (omega arith) (omega arith)
      ]
    ]
open_numbered num k (Either p q) c i =
    let x = top num (suc k) p in
    let y = top num (suc k + size p) q in
    elim (in_both (open_clauses num (suc k) p) (open_clauses num (suc k + size p) q ++ either_clauses k x y) c i) [
      | inl z ↦ wider (suc k) (suc k + size p) k (k + size (Either p q)) c (open_numbered num (suc k) p c z) (omega arith) (omega arith)
      | inr u ↦ elim (in_both (open_clauses num (suc k + size p) q) (either_clauses k x y) c u) [
        | inl z ↦ wider (suc k + size p) (suc k + size p + size q) k (k + size (Either p q)) c (open_numbered num (suc k + size p) q c z) (omega arith) (omega arith)
        | inr z ↦ wider k (suc k) k (k + size (Either p q)) c (either_numbered k x y c z) (omega arith) (omega arith)
      ]
    ]
open_numbered num k (Each n d) c i = elim i [ ]

-- the clauses of the first part, one of this node, those of the second, and another one of this node, which may be the same one where
-- the second part has none
pair_near : (k : ℕ) (a b : Literal) (xs ys : List (List Literal)) → AreNear xs → AreNear ys → ((c : List Literal) → IsIn c xs → IsNumbered k (suc k) c → ⊥) → ((c : List Literal) → IsIn c ys → IsNumbered k (suc k) c → ⊥) → ((c : List Literal) → IsIn c xs → IsIn c ys → ⊥) → (a ≡ b → ys ≡ [])
    → AreNear ((xs ++ member_clause k a ∷ []) ++ (ys ++ member_clause k b ∷ []))
pair_near k a b xs ys hx hy nx ny apart one =
    let c = member_clause k a in
    let d = member_clause k b in
    let last : AreNear (ys ++ d ∷ []) = near_both ys (d ∷ []) hy ((λ i. elim i [ ]), tt) (λ z i j. ny z i (member_numbered k b z j)) in
    subst AreNear (sym (append_assoc xs (c ∷ []) (ys ++ d ∷ [])))
    (near_both xs (c ∷ (ys ++ d ∷ [])) hx (
      (λ i. elim (in_both ys (d ∷ []) c i) [
        | inl z ↦ absurd (ny c z (omega arith, omega arith))
        | inr z ↦ (let e = one_in c d z in subst (λ w. begins_with c (w ++ d ∷ []) ≡ true) (sym (one (same_member e))) (subst (λ w. same_literals c w ≡ true) e (same_clause-refl c)))
      ]),
      last,
    )
    (λ z i j. elim j [
      | inl e ↦ nx z i (member_numbered k a z (inl e))
      | inr u ↦ elim (in_both ys (d ∷ []) z u) [ inl w ↦ apart z i w | inr w ↦ nx z i (member_numbered k b z w) ]
    ])) where
      second_of : List Literal → Literal
      second_of [] = a
      second_of (l ∷ []) = a
      second_of (l ∷ m ∷ ls) = m

      same_member : member_clause k a ≡ member_clause k b → a ≡ b
      same_member e = ap second_of e

module _ (voc : Vocabulary) (n : Sort → ℕ) (m : Naming) (o : IsNaming voc n m) where
  top_below : (k : ℕ) (p : Copy) → m.first ≤ k → IsPlain p → AllOver n voc p → (top m.num k p).atom < k + size p
  top_below k (Known b) l u a = absurd u
  top_below k (Leaf sign f) l u a = (let b = o.below f a in omega (arith, b, l))
  top_below k (Both p q) l u a = omega arith
  top_below k (Either p q) l u a = omega arith
  top_below k (Each c d) l u a = omega arith

  -- a part with the same literal as one whose numbers come before has no clauses
  none_by : (k : ℕ) (x : Literal) (q : Copy) → x.atom < k → IsPlain q → x ≡ top m.num k q → open_clauses m.num k q ≡ []
  none_by k x (Known b) l u e = refl
  none_by k x (Leaf sign f) l u e = refl
  none_by k x (Both p q) l u e = (let s = ap (λ z. z.atom) e in absurd (omega (arith, s, l)))
  none_by k x (Either p q) l u e = (let s = ap (λ z. z.atom) e in absurd (omega (arith, s, l)))
  none_by k x (Each c d) l u e = refl

  open_near : (k : ℕ) (p : Copy) → m.first ≤ k → IsPlain p → AllOver n voc p → AreNear (open_clauses m.num k p)
  open_near k (Known b) l u a = tt
  open_near k (Leaf sign f) l u a = tt
  open_near k (Both p q) l u a =
      let mid = suc k + size p in
      let xs = open_clauses m.num (suc k) p in
      let ys = open_clauses m.num mid q in
      pair_near k (top m.num (suc k) p) (top m.num mid q) xs ys (open_near (suc k) p (omega (arith, l)) u.0 a.0) (open_near mid q (omega (arith, l)) u.1 a.1)
      (λ c i h. numbered_apart k (suc k) (suc k) mid c h (open_numbered m.num (suc k) p c i) (omega arith))
      (λ c i h. numbered_apart k (suc k) mid (mid + size q) c h (open_numbered m.num mid q c i) (omega arith))
      (λ c i j. numbered_apart (suc k) mid mid (mid + size q) c (open_numbered m.num (suc k) p c i) (open_numbered m.num mid q c j) (omega arith))
      (none_by mid (top m.num (suc k) p) q (top_below (suc k) p (omega (arith, l)) u.0 a.0) u.1)
  open_near k (Either p q) l u a =
      let mid = suc k + size p in
      let x = top m.num (suc k) p in
      let y = top m.num mid q in
      let xs = open_clauses m.num (suc k) p in
      let ys = open_clauses m.num mid q in
      near_both xs (ys ++ either_clauses k x y) (open_near (suc k) p (omega (arith, l)) u.0 a.0)
      (near_both ys (either_clauses k x y) (open_near mid q (omega (arith, l)) u.1 a.1) (either_near k x y)
      (λ c i j. numbered_apart k (suc k) mid (mid + size q) c (either_numbered k x y c j) (open_numbered m.num mid q c i) (omega arith)))
      (λ c i j. elim (in_both ys (either_clauses k x y) c j) [
        | inl z ↦ numbered_apart (suc k) mid mid (mid + size q) c (open_numbered m.num (suc k) p c i) (open_numbered m.num mid q c z) (omega arith)
        | inr z ↦ numbered_apart k (suc k) (suc k) mid c (either_numbered k x y c z) (open_numbered m.num (suc k) p c i) (omega arith)
      ])
  open_near k (Each c d) l u a = tt

  named_near : (p : Copy) → IsPlain p → AllOver n voc p → AreNear (open_named m.num m.first p)
  named_near p u a =
      let whole : List Literal = top m.num m.first p ∷ [] in
      near_both (open_clauses m.num m.first p) (whole ∷ []) (open_near m.first p (omega arith) u a) ((λ i. elim i [ ]), tt)
      (λ c i j. subst (IsNumbered m.first (m.first + size p)) (one_in c whole j) (open_numbered m.num m.first p c i))

  whole_near : (p : Copy) → IsSimple p → AllOver n voc p → AreNear (open_whole m.num m.first p)
  whole_near (Known true) u a = tt
  whole_near (Known false) u a = ((λ i. elim i [ ]), tt)
  whole_near (Leaf sign f) u a = named_near (Leaf sign f) u a
  whole_near (Both p q) u a = named_near (Both p q) u a
  whole_near (Either p q) u a = named_near (Either p q) u a
  whole_near (Each c d) u a = named_near (Each c d) u a

first_near : (P : Parts) (F : Formula) → IsSentence P F → AreNear (first_clauses P F)
first_near P F is =
    let voc = words P F in
    let n = counts P F in
    let f = form_of F in
    let few : (s : Sort) → known voc s ≤ n s = λ s. omega arith in
    let closed = is_closed P F is in
    whole_near voc n (naming P F) (numbers_named P F) (sentence_copies P F) (copies_simple voc n (λ s. omega arith) f [] (known voc))
    (copies_over voc n few (simplified f) [] (known voc) tt (fits-simplified voc f [] closed.closed) (inside-simplified f closed.inside) (λ s. omega (arith, need-simplified f s)))

pub first_untwinned : (P : Parts) (F : Formula) → IsSentence P F → (rows kept : List (List Literal)) → rows ≡ first_clauses P F → kept ≡ untwinned rows → AreFirst P F kept
first_untwinned P F is rows kept e q = subst (AreFirst P F) (sym (q ∙ ap untwinned e)) (record {
  distinct = untwinned_distinct (first_clauses P F) (first_near P F is);
  all = λ c. (untwinned_within (first_clauses P F) c, untwinned_keeps (first_clauses P F) c);
})
