-- What one step of the walk adds.
use Rattle.std.proofs.Common.{◌≡◌, ℕ, zero, suc, ◌+◌, max, Bool, List, [], ◌∷◌, ◌++◌, flat_map, Result, Ok, Err, IfOk, refl, sym, ap, ap₂, ◌∙◌, subst, arith, append_assoc, append-nil, add-one, add-zero}
use mathlib.Core.Path.{fun_ext}
use Rattle.csdn_core.specs.declared.terms.Sort.{Sort}
use Rattle.csdn_core.specs.declared.terms.VarId.{VarId}
use Rattle.csdn_core.specs.declared.terms.Pred.{Pred}
use Rattle.csdn_core.specs.declared.terms.Term.{Term}
use Rattle.clause_log.specs.Literals.{Literal}
use Rattle.fol_forms.specs.Forms.{Form, Atom, And, Or, ForSome}
use Rattle.fol_forms.specs.Constants.{need, one_if}
use Rattle.decision_laws.specs.Vocabulary.{places_from}
use Rattle.decision_laws.specs.Copies.{Copy, Each, each, Scope, copies}
use Rattle.decision_laws.specs.Clauses.{yes, size, sum_from, top, node_clauses, member_clause, either_clauses}
use Rattle.ground_inst.specs.Walk.{Ways, State, tuple_fact, literal_of, numbered, copies_at, each_at, AddsCopies, AddsMember, AddsBound, AddsEach}

-- the copies where an earlier part was added
pub moved : (m : Ways) (f g : Form) (old mid : State) → mid.env ≡ old.env → ((s : Sort) → mid.base s ≡ old.base s + need f s) → copies_at m g mid ≡ copies m.voc m.count g old.env (λ t. old.base t + need f t)
moved m f g old mid e b = ap₂ (λ x y. copies m.voc m.count g x y) e (fun_ext b)

pub both_added : (m : Ways) (f g : Form) (old mid new : State) → AddsMember m f (numbered old) mid old.next → AddsMember m g mid new old.next → AddsCopies m (And f g) old new (yes old.next)
both_added m f g old mid new a b =
    let p = copies_at m f old in
    let plus : old.next + 1 ≡ suc old.next = add-one old.next in
    let q = copies m.voc m.count g old.env (λ t. old.base t + need f t) in
    let e = moved m f g old mid a.env a.base in
    let x = old.next in
    let one = node_clauses m.num (suc x) p ++ member_clause x (top m.num (suc x) p) ∷ [] in
    let two = node_clauses m.num (suc x + size p) q ++ member_clause x (top m.num (suc x + size p) q) ∷ [] in
    let at : mid.next ≡ suc x + size p = omega (arith, a.next) in
    let first : mid.out ≡ old.out ++ one = a.clauses ∙ ap (λ k. old.out ++ (node_clauses m.num k p ++ member_clause x (top m.num k p) ∷ [])) plus in
    let second : node_clauses m.num mid.next (copies_at m g mid) ++ member_clause x (top m.num mid.next (copies_at m g mid)) ∷ [] ≡ two =
    ap₂ (λ k c. node_clauses m.num k c ++ member_clause x (top m.num k c) ∷ []) at e in
    record {
      lit = refl;
      clauses = b.clauses ∙ ap₂ (λ u v. u ++ v) first second ∙ append_assoc old.out one two;
      next = omega (arith, b.next, a.next, ap size e);
      base = λ s. omega (arith, b.base s, a.base s);
      env = b.env ∙ a.env;
    }

pub either_added : (m : Ways) (f g : Form) (old mid new w : State) (a b : Literal) → AddsCopies m f (numbered old) mid a → AddsCopies m g (record { env = mid.env; base = old.base; next = mid.next; out = mid.out }) new b → w.env ≡ new.env → ((s : Sort) → w.base s ≡ max (mid.base s) (new.base s)) → w.next ≡ new.next → w.out ≡ new.out ++ either_clauses old.next a b → AddsCopies m (Or f g) old w (yes old.next)
either_added m f g old mid new w a b h k we wb wn wo =
    let p = copies_at m f old in
    let q = copies_at m g old in
    let x = old.next in
    let plus : old.next + 1 ≡ suc old.next = add-one old.next in
    let e : copies m.voc m.count g mid.env old.base ≡ q = ap (λ z. copies m.voc m.count g z old.base) h.env in
    let at : mid.next ≡ suc x + size p = omega (arith, h.next) in
    let one = node_clauses m.num (suc x) p in
    let two = node_clauses m.num (suc x + size p) q in
    let la : a ≡ top m.num (suc x) p = h.lit ∙ ap (λ z. top m.num z p) plus in
    let lb : b ≡ top m.num (suc x + size p) q = k.lit ∙ ap₂ (λ z c. top m.num z c) at e in
    let first : mid.out ≡ old.out ++ one = h.clauses ∙ ap (λ z. old.out ++ node_clauses m.num z p) plus in
    let second : new.out ≡ (old.out ++ one) ++ two = k.clauses ∙ ap₂ (λ u v. u ++ v) first (ap₂ (λ z c. node_clauses m.num z c) at e) in
    let third : either_clauses x a b ≡ either_clauses x (top m.num (suc x) p) (top m.num (suc x + size p) q) = ap₂ (λ u v. either_clauses x u v) la lb in
    record {
      lit = refl;
      clauses = wo ∙ ap₂ (λ u v. u ++ v) second third ∙ append_assoc (old.out ++ one) two (either_clauses x (top m.num (suc x) p) (top m.num (suc x + size p) q)) ∙ append_assoc old.out one (two ++ either_clauses x (top m.num (suc x) p) (top m.num (suc x + size p) q));
      next = omega (arith, wn, k.next, h.next, ap size e);
      base = λ s. omega (arith, wb s, h.base s, k.base s);
      env = we ∙ k.env ∙ h.env;
    }

pub exists_added : (m : Ways) (f : Form) (v : VarId) (s : Sort) (a : ℕ) (old mid new : State) (l : Literal) → a ≡ old.base s → mid.env ≡ old.env → ((t : Sort) → mid.base t ≡ old.base t + one_if s t) → mid.next ≡ old.next → mid.out ≡ old.out → AddsBound m f v s a mid new l → AddsCopies m (ForSome v s f) old new l
exists_added m f v s a old mid new l ea ee eb en eo h =
    let e : copies m.voc m.count f ((v.0, (s, a)) ∷ mid.env) mid.base ≡ copies_at m (ForSome v s f) old =
    ap₂ (λ x y. copies m.voc m.count f x y) (ap₂ (λ x y. (v.0, (s, x)) ∷ y) ea ee) (fun_ext eb) in
    record {
      lit = h.lit ∙ ap₂ (λ k c. top m.num k c) en e;
      clauses = h.clauses ∙ ap₂ (λ u v. u ++ v) eo (ap₂ (λ k c. node_clauses m.num k c) en e);
      next = omega (arith, h.next, en, ap size e);
      base = λ t. omega (arith, h.base t, eb t);
      env = h.env ∙ ee;
    }

-- The row of copies.

-- what the row has added after i members
pub record AddsRow (m : Ways) (f : Form) (v : VarId) (s : Sort) (i : ℕ) (old now : State) : Type 0 where
  pub out : now.out ≡ old.out ++ flat_map (λ a. node_clauses m.num (suc old.next + sum_from (λ h. size (copies m.voc m.count f ((v.0, (s, h)) ∷ old.env) old.base)) 0 a) (copies m.voc m.count f ((v.0, (s, a)) ∷ old.env) old.base) ++ member_clause old.next (top m.num (suc old.next + sum_from (λ h. size (copies m.voc m.count f ((v.0, (s, h)) ∷ old.env) old.base)) 0 a) (copies m.voc m.count f ((v.0, (s, a)) ∷ old.env) old.base)) ∷ []) (places_from 0 i)
  pub next : now.next ≡ suc old.next + sum_from (λ h. size (copies m.voc m.count f ((v.0, (s, h)) ∷ old.env) old.base)) 0 i
  pub env : now.env ≡ old.env

pub sum-more : (g : ℕ → ℕ) (i m : ℕ) → sum_from g i (suc m) ≡ sum_from g i m + g (i + m)
sum-more g i zero = omega (arith, ap g (add-zero i))
sum-more g i (suc m) =
    let deep = sum-more g (suc i) m in
    let at : suc i + m ≡ i + suc m = omega arith in
    omega (arith, deep, ap g at)

pub flat-more : {X : Type 0} (g : ℕ → List X) (i m : ℕ) → flat_map g (places_from i (suc m)) ≡ flat_map g (places_from i m) ++ g (i + m)
flat-more g i zero = append-nil (g i) ∙ ap g (sym (add-zero i))
flat-more g i (suc m) =
    let at : suc i + m ≡ i + suc m = omega arith in
    ap (λ z. g i ++ z) (flat-more g (suc i) m ∙ ap (λ k. flat_map g (places_from (suc i) m) ++ g k) at) ∙ sym (append_assoc (g i) (flat_map g (places_from (suc i) m)) (g (i + suc m)))

pub row_begun : (m : Ways) (f : Form) (v : VarId) (s : Sort) (old now : State) → now ≡ numbered old → AddsRow m f v s 0 old now
row_begun m f v s old now e = record {
  out = ap (λ w. w.out) e ∙ sym (append-nil old.out);
  next = ap (λ w. w.next) e ∙ add-one old.next ∙ sym (add-zero (suc old.next));
  env = ap (λ w. w.env) e;
}

pub row_more : (m : Ways) (f : Form) (v : VarId) (s : Sort) (i : ℕ) (old now from new : State) (l : Literal) (outs : List (List Literal)) → AddsRow m f v s i old now → from.env ≡ now.env → ((t : Sort) → from.base t ≡ old.base t) → from.next ≡ now.next → from.out ≡ now.out → AddsBound m f v s i from new l → outs ≡ new.out ++ member_clause old.next l ∷ [] → (w : State) → w.env ≡ new.env → w.next ≡ new.next → w.out ≡ outs → AddsRow m f v s (i + 1) old w
row_more m f v s i old now from new l outs r fe fb fn fo h eo w we wn wo =
    let c : ℕ → Copy = λ a. copies m.voc m.count f ((v.0, (s, a)) ∷ old.env) old.base in
    let g : ℕ → ℕ = λ a. size (c a) in
    let at : ℕ → ℕ = λ a. suc old.next + sum_from g 0 a in
    let part : ℕ → List (List Literal) = λ a. node_clauses m.num (at a) (c a) ++ member_clause old.next (top m.num (at a) (c a)) ∷ [] in
    let e : copies m.voc m.count f ((v.0, (s, i)) ∷ from.env) from.base ≡ c i = ap₂ (λ x y. copies m.voc m.count f ((v.0, (s, i)) ∷ x) y) (fe ∙ r.env) (fun_ext fb) in
    let here : from.next ≡ at i = fn ∙ r.next in
    let lit : l ≡ top m.num (at i) (c i) = h.lit ∙ ap₂ (λ k d. top m.num k d) here e in
    let grown : new.out ≡ now.out ++ node_clauses m.num (at i) (c i) = h.clauses ∙ ap₂ (λ u z. u ++ z) fo (ap₂ (λ k d. node_clauses m.num k d) here e) in
    let zero-i : 0 + i ≡ i = omega arith in
    let one : i + 1 ≡ suc i = add-one i in
    record {
      out = wo ∙ eo ∙ ap₂ (λ u z. u ++ member_clause old.next z ∷ []) grown lit ∙ append_assoc now.out (node_clauses m.num (at i) (c i)) (member_clause old.next (top m.num (at i) (c i)) ∷ []) ∙ ap (λ u. u ++ part i) r.out ∙ append_assoc old.out (flat_map part (places_from 0 i)) (part i)
          ∙ ap (λ u. old.out ++ u) (sym (flat-more part 0 i ∙ ap (λ k. flat_map part (places_from 0 i) ++ part k) zero-i) ∙ ap (λ k. flat_map part (places_from 0 k)) (sym one));
      next = wn ∙ h.next ∙ ap₂ (λ x y. x + y) here (ap size e) ∙ (let more = sum-more g 0 i ∙ ap (λ k. sum_from g 0 i + g k) zero-i in let sums : sum_from g 0 (i + 1) ≡ sum_from g 0 (suc i) = ap (sum_from g 0) one in omega (arith, more, sums));
      env = we ∙ h.env ∙ fe ∙ r.env;
    }

pub each_by : (k : ℕ) (c : ℕ → Copy) → (k ≡ 1 → ⊥) → (k ≡ 0 → ⊥) → each k c ≡ Each k c
each_by zero c h z = absurd (z refl)
each_by (suc zero) c h z = absurd (h refl)
each_by (suc (suc k)) c h z = refl

row_whole : (m : Ways) (f : Form) (v : VarId) (s : Sort) (old now : State) (all : ℕ) → all ≡ m.count s → (all ≡ 1 → ⊥) → (all ≡ 0 → ⊥) → AddsRow m f v s all old now → AddsEach m f v s old now (yes old.next)
row_whole m f v s old now all q ne nz r =
    let c : ℕ → Copy = λ a. copies m.voc m.count f ((v.0, (s, a)) ∷ old.env) old.base in
    let e : each_at m f v s old ≡ Each all c = ap (λ k. each k c) (sym q) ∙ each_by all c ne nz in
    record {
      lit = ap (top m.num old.next) (sym e);
      clauses = r.out ∙ ap (λ d. old.out ++ node_clauses m.num old.next d) (sym e);
      next = omega (arith, r.next, ap size e);
      env = r.env;
    }

-- The same, as the code comes to it.

pub both_from : (m : Ways) (f g : Form) (old start mid new : State) (x : ℕ) → start ≡ numbered old → x ≡ old.next → AddsMember m f start mid x → AddsMember m g mid new x → AddsCopies m (And f g) old new (yes x)
both_from m f g old start mid new x e q a b =
    subst (λ z. AddsCopies m (And f g) old new (yes z)) (sym q)
    (both_added m f g old mid new (subst (λ z. AddsMember m f z mid old.next) e (subst (λ z. AddsMember m f start mid z) q a)) (subst (λ z. AddsMember m g mid new z) q b))

pub either_from : (m : Ways) (f g : Form) (old start mid again new w : State) (x : ℕ) (a b : Literal) → start ≡ numbered old → x ≡ old.next → AddsCopies m f start mid a → again.env ≡ mid.env → again.base ≡ start.base → again.next ≡ mid.next → again.out ≡ mid.out → AddsCopies m g again new b → w.env ≡ new.env → ((s : Sort) → w.base s ≡ max (mid.base s) (new.base s)) → w.next ≡ new.next → w.out ≡ new.out ++ either_clauses x a b → AddsCopies m (Or f g) old w (yes x)
either_from m f g old start mid again new w x a b e q h re rb rn ro k we wb wn wo =
    let same : again ≡ record { env = mid.env; base = old.base; next = mid.next; out = mid.out } =
    (λ i. record { env = re i; base = (rb ∙ ap (λ z. z.base) e) i; next = rn i; out = ro i }) in
    subst (λ z. AddsCopies m (Or f g) old w (yes z)) (sym q)
    (either_added m f g old mid new w a b (subst (λ z. AddsCopies m f z mid a) e h) (subst (λ z. AddsCopies m g z new b) same k) we wb wn (wo ∙ ap (λ z. new.out ++ either_clauses z a b) q))

pub row_from : (m : Ways) (f : Form) (v : VarId) (s : Sort) (old now : State) (all x : ℕ) → x ≡ old.next → all ≡ m.count s → (all ≡ 1 → ⊥) → (all ≡ 0 → ⊥) → AddsRow m f v s all old now → AddsEach m f v s old now (yes x)
row_from m f v s old now all x q e ne nz r = subst (λ z. AddsEach m f v s old now (yes z)) (sym q) (row_whole m f v s old now all e ne nz r)

pub told : {T E : Type 0} (r : Result T E) (x : T) (Q : T → Type 0) → IfOk r (λ l. l ≡ x) → Q x → IfOk r Q
told (Ok l) x Q e h = subst Q (sym e) h
told (Err d) x Q e h = e

pub leaf_added : (m : Ways) (sign : Bool) (r : Pred) (ts : List Term) (w : State) (env : Scope) (f : Form) → f ≡ Atom sign r ts → env ≡ w.env → AddsCopies m f w w (literal_of m sign (tuple_fact m env r ts))
leaf_added m sign r ts w env f e q = subst (λ z. AddsCopies m z w w (literal_of m sign (tuple_fact m env r ts))) (sym e) (record {
  lit = ap (λ z. literal_of m sign (tuple_fact m z r ts)) q;
  clauses = sym (append-nil w.out);
  next = sym (add-zero w.next);
  base = λ s. sym (add-zero (w.base s));
  env = refl;
})
