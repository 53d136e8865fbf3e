-- What one step of the walk over the parts under no `forall` adds.
use Rattle.std.proofs.Common.{◌≡◌, ℕ, zero, suc, ◌+◌, ◌*◌, max, Bool, List, [], ◌∷◌, ◌++◌, refl, sym, ap, ap₂, ◌∙◌, subst, arith, append_assoc, append-nil, add-one, add-zero}
use mathlib.Core.Path.{fun_ext}
use Rattle.csdn_core.specs.declared.terms.Sort.{Sort}
use Rattle.csdn_core.specs.declared.terms.VarId.{VarId}
use Rattle.csdn_core.specs.declared.terms.Pred.{Pred}
use Rattle.csdn_core.specs.declared.terms.Term.{Term}
use Rattle.clause_log.specs.Literals.{Literal}
use Rattle.fol_forms.specs.Forms.{Form, Atom, And, Or, ForAll, ForSome}
use Rattle.fol_forms.specs.Constants.{need, one_if}
use Rattle.decision_laws.specs.Copies.{Copy, Each, each, Scope, copies}
use Rattle.decision_laws.specs.Clauses.{yes, size, top, member_clause, either_clauses}
use Rattle.decision_laws.specs.Weights.{each_weight, weight}
use Rattle.decision_laws.proofs.Weights.{size-copies}
use Rattle.ground_inst.specs.Walk.{Ways, State, tuple_fact, literal_of, numbered, copies_at}
use Rattle.ground_inst.proofs.Steps.{each_by, moved}
use Rattle.lazy_ground.specs.First.{open_clauses}
use Rattle.lazy_ground.specs.Opened.{AddsAt, AddsMember, AddsOpen}

pub both_added : (m : Ways) (f g : Form) (old mid new : State) → AddsMember m f (numbered old) mid old.next → AddsMember m g mid new old.next → AddsOpen m (And f g) old new (yes old.next)
both_added m f g old mid new a b =
    let p = copies_at m f old in
    let plus : old.next + 1 ≡ suc old.next = add-one old.next in
    let q = copies m.voc m.count g old.env (λ t. old.base t + need f t) in
    let e = moved m f g old mid a.env a.base in
    let x = old.next in
    let one = open_clauses m.num (suc x) p ++ member_clause x (top m.num (suc x) p) ∷ [] in
    let two = open_clauses m.num (suc x + size p) q ++ member_clause x (top m.num (suc x + size p) q) ∷ [] in
    let at : mid.next ≡ suc x + size p = omega (arith, a.next) in
    let first : mid.out ≡ old.out ++ one = a.clauses ∙ ap (λ k. old.out ++ (open_clauses m.num k p ++ member_clause x (top m.num k p) ∷ [])) plus in
    let second : open_clauses m.num mid.next (copies_at m g mid) ++ member_clause x (top m.num mid.next (copies_at m g mid)) ∷ [] ≡ two =
    ap₂ (λ k c. open_clauses m.num k c ++ member_clause x (top m.num k c) ∷ []) at e in
    record {
      lit = refl;
      clauses = b.clauses ∙ ap₂ (λ u v. u ++ v) first second ∙ append_assoc old.out one two;
      next = omega (arith, b.next, a.next, ap size e);
      base = λ s. omega (arith, b.base s, a.base s);
      env = b.env ∙ a.env;
    }

pub either_added : (m : Ways) (f g : Form) (old mid new w : State) (a b : Literal) → AddsOpen m f (numbered old) mid a → AddsOpen m g (record { env = mid.env; base = old.base; next = mid.next; out = mid.out }) new b → w.env ≡ new.env → ((s : Sort) → w.base s ≡ max (mid.base s) (new.base s)) → w.next ≡ new.next → w.out ≡ new.out ++ either_clauses old.next a b → AddsOpen m (Or f g) old w (yes old.next)
either_added m f g old mid new w a b h k we wb wn wo =
    let p = copies_at m f old in
    let q = copies_at m g old in
    let x = old.next in
    let plus : old.next + 1 ≡ suc old.next = add-one old.next in
    let e : copies m.voc m.count g mid.env old.base ≡ q = ap (λ z. copies m.voc m.count g z old.base) h.env in
    let at : mid.next ≡ suc x + size p = omega (arith, h.next) in
    let one = open_clauses m.num (suc x) p in
    let two = open_clauses m.num (suc x + size p) q in
    let la : a ≡ top m.num (suc x) p = h.lit ∙ ap (λ z. top m.num z p) plus in
    let lb : b ≡ top m.num (suc x + size p) q = k.lit ∙ ap₂ (λ z c. top m.num z c) at e in
    let first : mid.out ≡ old.out ++ one = h.clauses ∙ ap (λ z. old.out ++ open_clauses m.num z p) plus in
    let second : new.out ≡ (old.out ++ one) ++ two = k.clauses ∙ ap₂ (λ u v. u ++ v) first (ap₂ (λ z c. open_clauses m.num z c) at e) in
    let third : either_clauses x a b ≡ either_clauses x (top m.num (suc x) p) (top m.num (suc x + size p) q) = ap₂ (λ u v. either_clauses x u v) la lb in
    record {
      lit = refl;
      clauses = wo ∙ ap₂ (λ u v. u ++ v) second third ∙ append_assoc (old.out ++ one) two (either_clauses x (top m.num (suc x) p) (top m.num (suc x + size p) q)) ∙ append_assoc old.out one (two ++ either_clauses x (top m.num (suc x) p) (top m.num (suc x + size p) q));
      next = omega (arith, wn, k.next, h.next, ap size e);
      base = λ s. omega (arith, wb s, h.base s, k.base s);
      env = we ∙ k.env ∙ h.env;
    }

pub exists_added : (m : Ways) (f : Form) (v : VarId) (s : Sort) (a : ℕ) (old mid new : State) (l : Literal) → a ≡ old.base s → mid.env ≡ old.env → ((t : Sort) → mid.base t ≡ old.base t + one_if s t) → mid.next ≡ old.next → mid.out ≡ old.out → AddsAt m f v s a mid new l → AddsOpen m (ForSome v s f) old new l
exists_added m f v s a old mid new l ea ee eb en eo h =
    let e : copies m.voc m.count f ((v.0, (s, a)) ∷ mid.env) mid.base ≡ copies_at m (ForSome v s f) old =
    ap₂ (λ x y. copies m.voc m.count f x y) (ap₂ (λ x y. (v.0, (s, x)) ∷ y) ea ee) (fun_ext eb) in
    record {
      lit = h.lit ∙ ap₂ (λ k c. top m.num k c) en e;
      clauses = h.clauses ∙ ap₂ (λ u v. u ++ v) eo (ap₂ (λ k c. open_clauses m.num k c) en e);
      next = omega (arith, h.next, en, ap size e);
      base = λ t. omega (arith, h.base t, eb t);
      env = h.env ∙ ee;
    }

pub both_from : (m : Ways) (f g : Form) (old start mid new : State) (x : ℕ) → start ≡ numbered old → x ≡ old.next → AddsMember m f start mid x → AddsMember m g mid new x → AddsOpen m (And f g) old new (yes x)
both_from m f g old start mid new x e q a b =
    subst (λ z. AddsOpen m (And f g) old new (yes z)) (sym q)
    (both_added m f g old mid new (subst (λ z. AddsMember m f z mid old.next) e (subst (λ z. AddsMember m f start mid z) q a)) (subst (λ z. AddsMember m g mid new z) q b))

pub either_from : (m : Ways) (f g : Form) (old start mid again new w : State) (x : ℕ) (a b : Literal) → start ≡ numbered old → x ≡ old.next → AddsOpen m f start mid a → again.env ≡ mid.env → again.base ≡ start.base → again.next ≡ mid.next → again.out ≡ mid.out → AddsOpen m g again new b → w.env ≡ new.env → ((s : Sort) → w.base s ≡ max (mid.base s) (new.base s)) → w.next ≡ new.next → w.out ≡ new.out ++ either_clauses x a b → AddsOpen m (Or f g) old w (yes x)
either_from m f g old start mid again new w x a b e q h re rb rn ro k we wb wn wo =
    let same : again ≡ record { env = mid.env; base = old.base; next = mid.next; out = mid.out } =
    (λ i. record { env = re i; base = (rb ∙ ap (λ z. z.base) e) i; next = rn i; out = ro i }) in
    subst (λ z. AddsOpen m (Or f g) old w (yes z)) (sym q)
    (either_added m f g old mid new w a b (subst (λ z. AddsOpen m f z mid a) e h) (subst (λ z. AddsOpen m g z new b) same k) we wb wn (wo ∙ ap (λ z. new.out ++ either_clauses z a b) q))

pub leaf_added : (m : Ways) (sign : Bool) (r : Pred) (ts : List Term) (w : State) (env : Scope) (f : Form) → f ≡ Atom sign r ts → env ≡ w.env → AddsOpen m f w w (literal_of m sign (tuple_fact m env r ts))
leaf_added m sign r ts w env f e q = subst (λ z. AddsOpen m z w w (literal_of m sign (tuple_fact m env r ts))) (sym e) (record {
  lit = ap (λ z. literal_of m sign (tuple_fact m z r ts)) q;
  clauses = sym (append-nil w.out);
  next = sym (add-zero w.next);
  base = λ s. sym (add-zero (w.base s));
  env = refl;
})

pub only_added : (m : Ways) (f : Form) (v : VarId) (s : Sort) (old new last : State) (l : Literal) → m.count s ≡ 1 → AddsAt m f v s 0 old new l → last.out ≡ new.out → last.next ≡ new.next → last.env ≡ new.env → last.base ≡ old.base → AddsOpen m (ForAll v s f) old last l
only_added m f v s old new last l one h lo ln le lb =
    let c : ℕ → Copy = λ a. copies m.voc m.count f ((v.0, (s, a)) ∷ old.env) old.base in
    let e : c 0 ≡ each (m.count s) c = ap (λ k. each k c) (sym one) in
    record {
      lit = h.lit ∙ ap (top m.num old.next) e;
      clauses = lo ∙ h.clauses ∙ ap (λ d. old.out ++ open_clauses m.num old.next d) e;
      next = ln ∙ h.next ∙ ap (λ d. old.next + size d) e;
      base = λ t. ap (λ b. b t) lb ∙ sym (add-zero (old.base t));
      env = le ∙ h.env;
    }

each_weighs : (k w : ℕ) → (k ≡ 1 → ⊥) → (k ≡ 0 → ⊥) → each_weight k w ≡ k * w + 1
each_weighs zero w ne nz = absurd (nz refl)
each_weighs (suc zero) w ne nz = absurd (ne refl)
each_weighs (suc (suc k)) w ne nz = sym (add-one (suc (suc k) * w))

pub passed_added : (m : Ways) (f : Form) (v : VarId) (s : Sort) (old last : State) (l : Literal) (count nodes : ℕ) → count ≡ m.count s → (count ≡ 1 → ⊥) → (count ≡ 0 → ⊥) → nodes ≡ weight m.count f → l ≡ yes old.next → last.out ≡ old.out → last.next ≡ old.next + count * nodes + 1 → last.env ≡ old.env → last.base ≡ old.base → AddsOpen m (ForAll v s f) old last l
passed_added m f v s old last l count nodes q ne nz weighs lit lo ln le lb =
    let c : ℕ → Copy = λ a. copies m.voc m.count f ((v.0, (s, a)) ∷ old.env) old.base in
    let n1 : m.count s ≡ 1 → ⊥ = λ z. ne (q ∙ z) in
    let n0 : m.count s ≡ 0 → ⊥ = λ z. nz (q ∙ z) in
    let e : each (m.count s) c ≡ Each (m.count s) c = each_by (m.count s) c n1 n0 in
    let all : size (each (m.count s) c) ≡ m.count s * weight m.count f + 1 = size-copies m.voc m.count (ForAll v s f) old.env old.base ∙ each_weighs (m.count s) (weight m.count f) n1 n0 in
    let same : count * nodes ≡ m.count s * weight m.count f = ap₂ (λ x y. x * y) q weighs in
    record {
      lit = lit ∙ ap (top m.num old.next) (sym e);
      clauses = lo ∙ sym (append-nil old.out) ∙ ap (λ d. old.out ++ open_clauses m.num old.next d) (sym e);
      next = ln ∙ omega (arith, all, same);
      base = λ t. ap (λ b. b t) lb ∙ sym (add-zero (old.base t));
      env = le;
    }
