-- What one step of the walk finds.
use Rattle.std.proofs.Common.{◌≡◌, ◌∙◌, ℕ, zero, suc, ◌+◌, ◌<◌, max, Bool, true, false, not, ◌&&◌, ◌||◌, nat_lt, Option, List, [], ◌∷◌, ◌++◌, flat_map, refl, sym, ap, ap₂, subst, arith, inl, inr, add-one, add-zero}
use mathlib.Core.Path.{fun_ext}
use Rattle.std.proofs.lemmas.Bool.{cases_Bool, false≢true, or_left, or_right}
use Rattle.csdn_core.specs.declared.terms.Sort.{Sort}
use Rattle.csdn_core.specs.declared.terms.VarId.{VarId}
use Rattle.clause_log.specs.Literals.{Literal, clause_true, literal_true}
use Rattle.csdn_core.specs.Members.{IsIn}
use Rattle.fol_forms.specs.Forms.{Form, Fixed, Atom, Same, And, Or, ForAll, ForSome}
use Rattle.fol_forms.specs.Constants.{need, one_if}
use Rattle.decision_laws.specs.Vocabulary.{Vocabulary, places_from}
use Rattle.decision_laws.specs.Copies.{Copy, Each, Leaf, Fact, Scope, copies, each, judge}
use Rattle.decision_laws.specs.Clauses.{yes, size, sum_from, top, node_clauses, member_clause, either_clauses}
use Rattle.decision_laws.specs.Weights.{weight}
use Rattle.decision_laws.proofs.Weights.{size-copies}
use Rattle.ground_inst.specs.Walk.{Ways, State, bound, copies_at, literal_of, numbered, ways_of}
use Rattle.ground_inst.proofs.Steps.{each_by, flat-more, moved, sum-more}
use Rattle.copy_truth.specs.declared.reading.Reading.{Reading}
use Rattle.lazy_ground.specs.declared.looking.Seen.{Seen}
use Rattle.lazy_ground.specs.Readings.{Completes, IsFree, IsGiven, given_unless, makes_node, named_by, node_value}
use Rattle.copy_truth.specs.Said.{said_by}
use Rattle.lazy_ground.specs.Found.{Finds, IsOpen, Looks, LooksAt, LooksBound, LooksInto, LooksMember}
use Rattle.lazy_ground.proofs.FindLaws.{either_false, either_true, finds_both, finds_false, finds_some, finds_true, member_false, member_true, not_more, one_false, one_true, open_at}
use Rattle.lazy_ground.proofs.FreeLaws.{free_top, free_true}

not_false : (b : Bool) → not b ≡ false → b ≡ true
not_false true e = refl
not_false false e = absurd (false≢true (sym e))

and_is : (a b : Bool) → (a && b) ≡ true → (a ≡ true) × (b ≡ true)
and_is true true e = (refl, refl)
and_is true false e = absurd (false≢true e)
and_is false b e = absurd (false≢true e)

not_is : (b : Bool) → not b ≡ true → b ≡ false
not_is true e = absurd (false≢true e)
not_is false e = refl

-- Copies that are one node.

each_top : (num : Fact → ℕ) (x k : ℕ) (c : ℕ → Copy) → nat_lt 1 k ≡ true → top num x (each k c) ≡ yes x
each_top num x zero c h = absurd cc
each_top num x (suc zero) c h = absurd cc
each_top num x (suc (suc k)) c h = refl

pub node_top : (num : Fact → ℕ) (x : ℕ) (voc : Vocabulary) (n : Sort → ℕ) (f : Form) (env : Scope) (base : Sort → ℕ) → makes_node n f ≡ true → top num x (copies voc n f env base) ≡ yes x
node_top num x voc n (Fixed b) env base h = absurd (false≢true h)
node_top num x voc n (Atom sign r ts) env base h = absurd (false≢true h)
node_top num x voc n (Same sign t u) env base h = absurd (false≢true h)
node_top num x voc n (And p q) env base h = refl
node_top num x voc n (Or p q) env base h = refl
node_top num x voc n (ForAll v s p) env base h = each_top num x (n s) (λ a. copies voc n p ((v.0, (s, a)) ∷ env) base) h
node_top num x voc n (ForSome v s p) env base h = absurd (false≢true h)

module _ (r : Reading) where
  each_completes : (w : ℕ → Bool) (x k : ℕ) (c : ℕ → Copy) → nat_lt 1 k ≡ true → Completes r w x (each k c) → w x ≡ node_value r x (each k c)
  each_completes w x zero c h i = absurd cc
  each_completes w x (suc zero) c h i = absurd cc
  each_completes w x (suc (suc k)) c h i = i.0

  node_completes : (w : ℕ → Bool) (x : ℕ) (voc : Vocabulary) (n : Sort → ℕ) (f : Form) (env : Scope) (base : Sort → ℕ) → makes_node n f ≡ true → Completes r w x (copies voc n f env base) → w x ≡ node_value r x (copies voc n f env base)
  node_completes w x voc n (Fixed b) env base h i = absurd (false≢true h)
  node_completes w x voc n (Atom sign rel ts) env base h i = absurd (false≢true h)
  node_completes w x voc n (Same sign t u) env base h i = absurd (false≢true h)
  node_completes w x voc n (And p q) env base h i = i.0
  node_completes w x voc n (Or p q) env base h i = i.0
  node_completes w x voc n (ForAll v s p) env base h i = each_completes w x (n s) (λ a. copies voc n p ((v.0, (s, a)) ∷ env) base) h i
  node_completes w x voc n (ForSome v s p) env base h i = absurd (false≢true h)

  abbrev m : Ways
  m = ways_of r.names

  abbrev num : Fact → ℕ
  num = m.num

  pub leaf_seen : (f : Form) (sign : Bool) (fact : Fact) (given : Option Bool) (old : State) (seen : Seen) → ((s : Sort) → need f s ≡ 0) → copies_at m f old ≡ Leaf sign fact → seen.literal ≡ literal_of m sign fact → ((w : ℕ → Bool) → w (num fact) ≡ said_by r fact → seen.value ≡ literal_true w (literal_of m sign fact)) → Looks r f given old old seen
  leaf_seen f sign fact given old seen none e l v = record {
    moves = record { next = sym (add-zero old.next) ∙ ap (λ c. old.next + size c) (sym e); base = λ s. omega (arith, none s); env = refl };
    lit = l ∙ ap (top num old.next) (sym e);
    value = λ w h g. v w (subst (Completes r w old.next) e h) ∙ ap (λ c. literal_true w (top num old.next c)) (sym e);
    finds = λ w h. finds_true w (node_clauses num old.next (copies_at m f old)) old.out (subst (λ c. (d : List Literal) → IsIn d (node_clauses num old.next c) → clause_true w d ≡ true) (sym e) (λ d i. absurd i));
  }

  pub skipped : (f : Form) (given : Option Bool) (count : ℕ) (old new : State) (seen : Seen) → new.env ≡ old.env → new.base ≡ (λ t. old.base t + need f t) → new.next ≡ old.next + count → new.out ≡ old.out → seen.literal ≡ yes old.next
      → (IsGiven given (judge (said_by r) (copies_at m f old)) → seen.value ≡ judge (said_by r) (copies_at m f old))
      → count ≡ weight m.count f → IsFree (named_by r) old.next count → makes_node m.count f ≡ true → Looks r f given old new seen
  skipped f given count old new seen ne nb nn nout l v weighs free node =
      let c = copies_at m f old in
      let all : count ≡ size c = weighs ∙ sym (size-copies m.voc m.count f old.env old.base) in
      let is_free = subst (IsFree (named_by r) old.next) all free in
      record {
        moves = record { next = nn ∙ ap (λ z. old.next + z) all; base = λ s. ap (λ b. b s) nb; env = ne };
        lit = l ∙ sym (node_top num old.next m.voc m.count f old.env old.base node);
        value = λ w h g. v g ∙ sym (free_top r w old.next c h is_free);
        finds = λ w h. subst (Finds w (node_clauses num old.next c) old.out) (sym nout) (finds_true w (node_clauses num old.next c) old.out (free_true r w old.next c h is_free));
      }

  pub node_seen : (f : Form) (given : Option Bool) (value : Bool) (old mid new : State) (seen : Seen) → mid ≡ old → value ≡ node_value r old.next (copies_at m f old) → LooksInto r f value mid new → seen.literal ≡ yes old.next → seen.value ≡ value → makes_node m.count f ≡ true → Looks r f given old new seen
  node_seen f given value old mid new seen same v into l is node =
      let h : LooksInto r f value old new = subst (λ z. LooksInto r f value z new) same into in
      let t = node_top num old.next m.voc m.count f old.env old.base node in
      record {
        moves = h.moves;
        lit = l ∙ sym t;
        value = λ w c g. is ∙ v ∙ sym (node_completes w old.next m.voc m.count f old.env old.base node c) ∙ ap (literal_true w) (sym t);
        finds = λ w c. h.finds w c (node_completes w old.next m.voc m.count f old.env old.base node c ∙ sym v);
      }

  -- Members.

  pub member_pushed : (f : Form) (x : ℕ) (old mid new : State) (seen : Seen) (value : Bool) → Looks r f (given_unless true) old mid seen → seen.value ≡ value → value ≡ false → new.env ≡ mid.env → new.base ≡ mid.base → new.next ≡ mid.next → new.out ≡ mid.out ++ member_clause x seen.literal ∷ [] → LooksMember r f x true old new false
  member_pushed f x old mid new seen value h sv is ne nb nn nout =
      let c = copies_at m f old in
      let one = member_clause x (top num old.next c) in
      let out : new.out ≡ mid.out ++ one ∷ [] = nout ∙ ap (λ a. mid.out ++ member_clause x a ∷ []) h.lit in
      record {
        moves = record { next = nn ∙ h.moves.next; base = λ s. ap (λ b. b s) nb ∙ h.moves.base s; env = ne ∙ h.moves.env };
        opens = λ w i o. record { on = λ e. absurd (false≢true e); off = λ e t n. not_more mid.out one [] (sym out ∙ n) };
        finds = λ w i o.
            subst (Finds w (node_clauses num old.next c ++ one ∷ []) old.out) (sym out)
            (finds_both w (node_clauses num old.next c) (one ∷ []) old.out mid.out (mid.out ++ one ∷ []) (h.finds w i)
            (finds_false w (one ∷ []) mid.out (one_false w one (member_false w x (top num old.next c) (o.on refl) (sym (h.value w i tt) ∙ sv ∙ is)))));
      }

  pub member_kept : (open' : Bool) (f : Form) (x : ℕ) (old mid : State) (seen : Seen) → Looks r f (given_unless open') old mid seen → (open' && not seen.value) ≡ false → LooksMember r f x open' old mid open'
  member_kept true f x old mid seen h e =
      let c = copies_at m f old in
      let one = member_clause x (top num old.next c) in
      record {
        moves = h.moves;
        opens = λ w i o. record { on = o.on; off = λ q. absurd (false≢true (sym q)) };
        finds = λ w i o.
            finds_both w (node_clauses num old.next c) (one ∷ []) old.out mid.out mid.out (h.finds w i)
            (finds_true w (one ∷ []) mid.out (one_true w one (member_true w x (top num old.next c) (λ t. sym (h.value w i tt) ∙ not_false seen.value e))));
      }
  member_kept false f x old mid seen h e =
      let c = copies_at m f old in
      let one = member_clause x (top num old.next c) in
      record {
        moves = h.moves;
        opens = λ w i o. record { on = λ q. absurd (false≢true q); off = λ q t n. o.off refl t ((h.finds w i).nothing n) };
        finds = λ w i o.
            elim (cases_Bool (w x)) [
              | inl t ↦ finds_some w (node_clauses num old.next c) (one ∷ []) old.out mid.out (h.finds w i) (o.off refl t)
              | inr t ↦ finds_both w (node_clauses num old.next c) (one ∷ []) old.out mid.out mid.out (h.finds w i)
                  (finds_true w (one ∷ []) mid.out (one_true w one (member_true w x (top num old.next c) (λ z. absurd (false≢true (sym t ∙ z))))))
            ];
      }

  pub member_pushed_from : (asked : Bool) (given : Option Bool) (missing : Bool) (f : Form) (x : ℕ) (old mid new : State) (seen : Seen) → given ≡ given_unless asked → missing ≡ (asked && not seen.value) → missing ≡ true → Looks r f given old mid seen → new.env ≡ mid.env → new.base ≡ mid.base → new.next ≡ mid.next → new.out ≡ mid.out ++ member_clause x seen.literal ∷ [] → LooksMember r f x asked old new false
  member_pushed_from asked given missing f x old mid new seen g e t h ne nb nn nout =
      let both = and_is asked (not seen.value) (sym e ∙ t) in
      subst (λ a. LooksMember r f x a old new false) (sym both.0)
      (member_pushed f x old mid new seen seen.value (subst (λ z. Looks r f z old mid seen) (g ∙ ap given_unless both.0) h) refl (not_is seen.value both.1) ne nb nn nout)

  pub member_kept_from : (asked : Bool) (given : Option Bool) (missing : Bool) (f : Form) (x : ℕ) (old mid : State) (seen : Seen) → given ≡ given_unless asked → missing ≡ (asked && not seen.value) → missing ≡ false → Looks r f given old mid seen → LooksMember r f x asked old mid asked
  member_kept_from asked given missing f x old mid seen g e t h = member_kept asked f x old mid seen (subst (λ z. Looks r f z old mid seen) g h) (sym e ∙ t)

  -- what a member finds, at the number and the copies that its conjunction has for it
  member_at : (f : Form) (x : ℕ) (open' still : Bool) (old new : State) → LooksMember r f x open' old new still → (k : ℕ) (c : Copy) → old.next ≡ k → copies_at m f old ≡ c → (w : ℕ → Bool) → Completes r w k c → IsOpen open' (w x) old.out → Finds w (node_clauses num k c ++ member_clause x (top num k c) ∷ []) old.out new.out
  member_at f x open' still old new h k c at e w i o =
      subst (λ z. Finds w (node_clauses num k z ++ member_clause x (top num k z) ∷ []) old.out new.out) e
      (subst (λ z. Finds w (node_clauses num z (copies_at m f old) ++ member_clause x (top num z (copies_at m f old)) ∷ []) old.out new.out) at
      (h.finds w (subst (λ z. Completes r w z (copies_at m f old)) (sym at) (subst (Completes r w k) (sym e) i)) o))

  both_found : (f g : Form) (value s1 s2 : Bool) (old mid new : State) → LooksMember r f old.next value (numbered old) mid s1 → LooksMember r g old.next value mid new s2 → LooksInto r (And f g) value old new
  both_found f g value s1 s2 old mid new a b =
      let p = copies_at m f old in
      let plus : old.next + 1 ≡ suc old.next = add-one old.next in
      let q = copies m.voc m.count g old.env (λ t. old.base t + need f t) in
      let e = moved m f g old mid a.moves.env a.moves.base in
      let at : mid.next ≡ suc old.next + size p = omega (arith, a.moves.next) in
      record {
        moves = record { next = omega (arith, b.moves.next, a.moves.next, ap size e); base = λ s. omega (arith, b.moves.base s, a.moves.base s); env = b.moves.env ∙ a.moves.env };
        finds = λ w h v.
            finds_both w (node_clauses num (suc old.next) p ++ member_clause old.next (top num (suc old.next) p) ∷ []) (node_clauses num (suc old.next + size p) q ++ member_clause old.next (top num (suc old.next + size p) q) ∷ []) old.out mid.out new.out
            (member_at f old.next value s1 (numbered old) mid a (suc old.next) p plus refl w h.1 (open_at value (w old.next) old.out v))
            (member_at g old.next value s2 mid new b (suc old.next + size p) q at e w h.2 (open_at value (w old.next) mid.out v));
      }

  pub both_from : (f g : Form) (value s1 s2 : Bool) (old start mid new : State) (x : ℕ) → start ≡ numbered old → x ≡ old.next → LooksMember r f x value start mid s1 → LooksMember r g x value mid new s2 → LooksInto r (And f g) value old new
  both_from f g value s1 s2 old start mid new x e q a b =
      both_found f g value s1 s2 old mid new (subst (λ z. LooksMember r f old.next value z mid s1) e (subst (λ z. LooksMember r f z value start mid s1) q a)) (subst (λ z. LooksMember r g z value mid new s2) q b)

  -- Sides.

  -- what a side finds, at the number and the copies that its disjunction has for it
  record LooksThere (given : Option Bool) (k : ℕ) (c : Copy) (seen : Seen) (before after : List (List Literal)) : Type 0 where
    lit : seen.literal ≡ top num k c
    value : (w : ℕ → Bool) → Completes r w k c → IsGiven given (judge (said_by r) c) → seen.value ≡ literal_true w (top num k c)
    finds : (w : ℕ → Bool) → Completes r w k c → Finds w (node_clauses num k c) before after

  side_at : (f : Form) (given : Option Bool) (old new : State) (seen : Seen) → Looks r f given old new seen → (k : ℕ) (c : Copy) → old.next ≡ k → copies_at m f old ≡ c → LooksThere given k c seen old.out new.out
  side_at f given old new seen h k c at e =
      subst (λ z. LooksThere given k z seen old.out new.out) e
      (subst (λ z. LooksThere given z (copies_at m f old) seen old.out new.out) at (record { lit = h.lit; value = h.value; finds = h.finds }))

  asked : (wanted : Bool) (b : Bool) → wanted ≡ true → IsGiven (given_unless wanted) b
  asked true b e = tt
  asked false b e = absurd (false≢true e)

  -- the last clauses of a disjunction, found or true
  abbrev Lasts : (k : ℕ) (p q : Copy) (value : Bool) (before after : List (List Literal)) → Type 0
  Lasts k p q value before after =
      (w : ℕ → Bool) → Completes r w (suc k) p → Completes r w (suc k + size p) q → w k ≡ value
      → Finds w (either_clauses k (top num (suc k) p) (top num (suc k + size p) q)) before after

  last_pushed : (k : ℕ) (p q : Copy) (value wanted : Bool) (a b : Seen) (o1 o2 before mid after : List (List Literal)) → LooksThere (given_unless value) (suc k) p a o1 o2 → LooksThere (given_unless wanted) (suc k + size p) q b mid before → wanted ≡ (value && not a.value) → (wanted && not b.value) ≡ true → after ≡ before ++ either_clauses k a.literal b.literal → Lasts k p q value before after
  last_pushed k p q value wanted a b o1 o2 before mid after ha hb e t nout w cp cq v =
      let wb = and_is wanted (not b.value) t in
      let va = and_is value (not a.value) (sym e ∙ wb.0) in
      let la : literal_true w (top num (suc k) p) ≡ false = sym (ha.value w cp (asked value (judge (said_by r) p) va.0)) ∙ not_is a.value va.1 in
      let lb : literal_true w (top num (suc k + size p) q) ≡ false = sym (hb.value w cq (asked wanted (judge (said_by r) q) wb.0)) ∙ not_is b.value wb.1 in
      let out : after ≡ before ++ either_clauses k (top num (suc k) p) (top num (suc k + size p) q) = nout ∙ ap₂ (λ y z. before ++ either_clauses k y z) ha.lit hb.lit in
      subst (Finds w (either_clauses k (top num (suc k) p) (top num (suc k + size p) q)) before) (sym out)
      (finds_false w (either_clauses k (top num (suc k) p) (top num (suc k + size p) q)) before (either_false w k (top num (suc k) p) (top num (suc k + size p) q) (v ∙ va.0) la lb))

  one_of : (x a b v s t wanted : Bool) → (v ≡ true → s ≡ a) → (wanted ≡ true → t ≡ b) → wanted ≡ (v && not s) → (wanted && not t) ≡ false → x ≡ v → x ≡ true → (a || b) ≡ true
  one_of x a b false s t wanted ha hb e k q u = absurd (false≢true (sym q ∙ u))
  one_of x a b true true t wanted ha hb e k q u = or_left a b (sym (ha refl))
  one_of x a b true false true wanted ha hb e k q u = or_right a b (sym (hb e))
  one_of x a b true false false true ha hb e k q u = absurd (false≢true (sym k))
  one_of x a b true false false false ha hb e k q u = absurd (false≢true e)

  last_kept : (k : ℕ) (p q : Copy) (value wanted : Bool) (a b : Seen) (o1 o2 before mid : List (List Literal)) → LooksThere (given_unless value) (suc k) p a o1 o2 → LooksThere (given_unless wanted) (suc k + size p) q b mid before → wanted ≡ (value && not a.value) → (wanted && not b.value) ≡ false → Lasts k p q value before before
  last_kept k p q value wanted a b o1 o2 before mid ha hb e t w cp cq v =
      finds_true w (either_clauses k (top num (suc k) p) (top num (suc k + size p) q)) before
      (either_true w k (top num (suc k) p) (top num (suc k + size p) q)
      (one_of (w k) (literal_true w (top num (suc k) p)) (literal_true w (top num (suc k + size p) q)) value a.value b.value wanted
      (λ z. ha.value w cp (asked value (judge (said_by r) p) z)) (λ z. hb.value w cq (asked wanted (judge (said_by r) q) z)) e t v))

  either_found : (f g : Form) (value wanted : Bool) (old mid new z : State) (a b : Seen) → Looks r f (given_unless value) (numbered old) mid a → Looks r g (given_unless wanted) (record { env = mid.env; base = old.base; next = mid.next; out = mid.out }) new b
      → z.env ≡ new.env → ((s : Sort) → z.base s ≡ max (mid.base s) (new.base s)) → z.next ≡ new.next
      → (LooksThere (given_unless value) (suc old.next) (copies_at m f old) a old.out mid.out → LooksThere (given_unless wanted) (suc old.next + size (copies_at m f old)) (copies_at m g old) b mid.out new.out → Lasts old.next (copies_at m f old) (copies_at m g old) value new.out z.out)
      → LooksInto r (Or f g) value old z
  either_found f g value wanted old mid new z a b h k ze zb zn last =
      let p = copies_at m f old in
      let q = copies_at m g old in
      let x = old.next in
      let plus : old.next + 1 ≡ suc old.next = add-one old.next in
      let e : copies m.voc m.count g mid.env old.base ≡ q = ap (λ y. copies m.voc m.count g y old.base) h.moves.env in
      let at : mid.next ≡ suc x + size p = omega (arith, h.moves.next) in
      let one = side_at f (given_unless value) (numbered old) mid a h (suc x) p plus refl in
      let two = side_at g (given_unless wanted) (record { env = mid.env; base = old.base; next = mid.next; out = mid.out }) new b k (suc x + size p) q at e in
      let ends = last one two in
      record {
        moves = record { next = omega (arith, zn, k.moves.next, h.moves.next, ap size e); base = λ s. omega (arith, zb s, h.moves.base s, k.moves.base s); env = ze ∙ k.moves.env ∙ h.moves.env };
        finds = λ w c v.
            finds_both w (node_clauses num (suc x) p) (node_clauses num (suc x + size p) q ++ either_clauses x (top num (suc x) p) (top num (suc x + size p) q)) old.out mid.out z.out (one.finds w c.1)
            (finds_both w (node_clauses num (suc x + size p) q) (either_clauses x (top num (suc x) p) (top num (suc x + size p) q)) mid.out new.out z.out (two.finds w c.2) (ends w c.1 c.2 v));
      }

  side_from : (f : Form) (given : Option Bool) (old start mid : State) (a : Seen) → start ≡ numbered old → Looks r f given start mid a → Looks r f given (numbered old) mid a
  side_from f given old start mid a e h = subst (λ z. Looks r f given z mid a) e h

  again_from : (g : Form) (given : Option Bool) (old start mid again new : State) (b : Seen) → start ≡ numbered old → again.env ≡ mid.env → again.base ≡ start.base → again.next ≡ mid.next → again.out ≡ mid.out → Looks r g given again new b → Looks r g given (record { env = mid.env; base = old.base; next = mid.next; out = mid.out }) new b
  again_from g given old start mid again new b e re rb rn ro h =
      let same : again ≡ record { env = mid.env; base = old.base; next = mid.next; out = mid.out } =
      (λ i. record { env = re i; base = (rb ∙ ap (λ z. z.base) e) i; next = rn i; out = ro i }) in
      subst (λ z. Looks r g given z new b) same h

  pub either_pushed : (f g : Form) (value wanted : Bool) (old start mid again new z : State) (x : ℕ) (a b : Seen) → start ≡ numbered old → x ≡ old.next → Looks r f (given_unless value) start mid a → again.env ≡ mid.env → again.base ≡ start.base → again.next ≡ mid.next → again.out ≡ mid.out → Looks r g (given_unless wanted) again new b
      → z.env ≡ new.env → ((s : Sort) → z.base s ≡ max (mid.base s) (new.base s)) → z.next ≡ new.next → wanted ≡ (value && not a.value) → (wanted && not b.value) ≡ true → z.out ≡ new.out ++ either_clauses x a.literal b.literal → LooksInto r (Or f g) value old z
  either_pushed f g value wanted old start mid again new z x a b e q h re rb rn ro k ze zb zn u t zo =
      either_found f g value wanted old mid new z a b (side_from f (given_unless value) old start mid a e h) (again_from g (given_unless wanted) old start mid again new b e re rb rn ro k) ze zb zn
      (λ one two. last_pushed old.next (copies_at m f old) (copies_at m g old) value wanted a b old.out mid.out new.out mid.out z.out one two u t (zo ∙ ap (λ y. new.out ++ either_clauses y a.literal b.literal) q))

  pub either_kept : (f g : Form) (value wanted : Bool) (old start mid again new z : State) (a b : Seen) → start ≡ numbered old → Looks r f (given_unless value) start mid a → again.env ≡ mid.env → again.base ≡ start.base → again.next ≡ mid.next → again.out ≡ mid.out → Looks r g (given_unless wanted) again new b
      → z.env ≡ new.env → ((s : Sort) → z.base s ≡ max (mid.base s) (new.base s)) → z.next ≡ new.next → wanted ≡ (value && not a.value) → (wanted && not b.value) ≡ false → z.out ≡ new.out → LooksInto r (Or f g) value old z
  either_kept f g value wanted old start mid again new z a b e h re rb rn ro k ze zb zn u t zo =
      either_found f g value wanted old mid new z a b (side_from f (given_unless value) old start mid a e h) (again_from g (given_unless wanted) old start mid again new b e re rb rn ro k) ze zb zn
      (λ one two. subst (Lasts old.next (copies_at m f old) (copies_at m g old) value new.out) (sym zo) (last_kept old.next (copies_at m f old) (copies_at m g old) value wanted a b old.out mid.out new.out mid.out one two u t))

  -- Quantifiers.

  at_copies : (f : Form) (given : Option Bool) (v : VarId) (s : Sort) (a : ℕ) (old from new last : State) (seen : Seen) (g : Form) → LooksAt r f v s a given from new seen → from.next ≡ old.next → from.out ≡ old.out → copies_at m f (bound v s a from) ≡ copies_at m g old → last.next ≡ new.next → last.out ≡ new.out → last.env ≡ old.env → ((t : Sort) → last.base t ≡ old.base t + need g t) → Looks r g given old last seen
  at_copies f given v s a old from new last seen g h fn fo e ln lo le lb =
      let c = copies_at m g old in
      let there : LooksThere given old.next c seen from.out new.out =
      subst (λ z. LooksThere given old.next z seen from.out new.out) e
      (subst (λ z. LooksThere given z (copies_at m f (bound v s a from)) seen from.out new.out) fn (record { lit = h.lit; value = h.value; finds = h.finds })) in
      record {
        moves = record { next = ln ∙ h.next ∙ ap₂ (λ x y. x + y) fn (ap size e); base = lb; env = le };
        lit = there.lit;
        value = there.value;
        finds = λ w i. subst (λ z. Finds w (node_clauses num old.next c) z last.out) fo (subst (Finds w (node_clauses num old.next c) from.out) (sym lo) (there.finds w i));
      }

  pub free_found : (f : Form) (given : Option Bool) (v : VarId) (s : Sort) (a : ℕ) (old from new : State) (seen : Seen) → a ≡ old.base s → from.env ≡ old.env → ((t : Sort) → from.base t ≡ old.base t + one_if s t) → from.next ≡ old.next → from.out ≡ old.out → LooksAt r f v s a given from new seen → Looks r (ForSome v s f) given old new seen
  free_found f given v s a old from new seen ea ee eb en eo h =
      at_copies f given v s a old from new new seen (ForSome v s f) h en eo
      (ap₂ (λ x y. copies m.voc m.count f x y) (ap₂ (λ x y. (v.0, (s, x)) ∷ y) ea ee) (fun_ext eb)) refl refl (h.env ∙ ee) (λ t. omega (arith, h.base t, eb t))

  each_one : (k : ℕ) (c : ℕ → Copy) → k ≡ 1 → c 0 ≡ each k c
  each_one zero c e = absurd (omega (arith, e))
  each_one (suc zero) c e = refl
  each_one (suc (suc k)) c e = absurd (omega (arith, e))

  pub only_found : (f : Form) (given : Option Bool) (v : VarId) (s : Sort) (old new last : State) (seen : Seen) → m.count s ≡ 1 → LooksAt r f v s 0 given old new seen → last.next ≡ new.next → last.out ≡ new.out → last.env ≡ new.env → last.base ≡ old.base → Looks r (ForAll v s f) given old last seen
  only_found f given v s old new last seen one h ln lo le lb =
      at_copies f given v s 0 old old new last seen (ForAll v s f) h refl refl (each_one (m.count s) (λ a. copies m.voc m.count f ((v.0, (s, a)) ∷ old.env) old.base) one) ln lo (le ∙ h.env) (λ t. ap (λ b. b t) lb ∙ sym (add-zero (old.base t)))

  -- The row of copies.

  module _ (f : Form) (v : VarId) (s : Sort) (old : State) where
    abbrev part_copy : ℕ → Copy
    part_copy a = copies m.voc m.count f ((v.0, (s, a)) ∷ old.env) old.base

    abbrev part_at : ℕ → ℕ
    part_at a = suc old.next + sum_from (λ h. size (part_copy h)) 0 a

    abbrev part_clauses : ℕ → List (List Literal)
    part_clauses a = node_clauses num (part_at a) (part_copy a) ++ member_clause old.next (top num (part_at a) (part_copy a)) ∷ []

    abbrev RowCompletes : (ℕ → Bool) → Type 0
    RowCompletes w = (i : ℕ) → i < m.count s → Completes r w (part_at i) (part_copy i)

    -- what the row has found after i members
    pub record LooksRow (value : Bool) (i : ℕ) (now : State) (open' : Bool) : Type 0 where
      pub next : now.next ≡ part_at i
      pub env : now.env ≡ old.env
      pub opens : (w : ℕ → Bool) → RowCompletes w → w old.next ≡ value → IsOpen open' (w old.next) now.out
      pub finds : (w : ℕ → Bool) → RowCompletes w → w old.next ≡ value → Finds w (flat_map part_clauses (places_from 0 i)) old.out now.out

    pub row_begun : (value : Bool) (now : State) → now.env ≡ old.env → now.next ≡ old.next + 1 → now.out ≡ old.out → LooksRow value 0 now value
    row_begun value now ne nn nout = record {
      next = nn ∙ add-one old.next ∙ sym (add-zero (suc old.next));
      env = ne;
      opens = λ w c u. open_at value (w old.next) now.out u;
      finds = λ w c u. subst (Finds w [] old.out) (sym nout) (finds_true w [] old.out (λ d i. absurd i));
    }

    -- what a member finds, at the number and the copies that the row has for it
    record FindsThere (x : ℕ) (open' still : Bool) (k : ℕ) (c : Copy) (before after : List (List Literal)) : Type 0 where
      opens : (w : ℕ → Bool) → Completes r w k c → IsOpen open' (w x) before → IsOpen still (w x) after
      finds : (w : ℕ → Bool) → Completes r w k c → IsOpen open' (w x) before → Finds w (node_clauses num k c ++ member_clause x (top num k c) ∷ []) before after

    bound_at : (x i : ℕ) (open' still : Bool) (from new : State) → LooksBound r f v s i x open' from new still → (k : ℕ) (c : Copy) → from.next ≡ k → copies_at m f (bound v s i from) ≡ c → FindsThere x open' still k c from.out new.out
    bound_at x i open' still from new h k c at e =
        subst (λ z. FindsThere x open' still k z from.out new.out) e
        (subst (λ z. FindsThere x open' still z (copies_at m f (bound v s i from)) from.out new.out) at (record { opens = h.opens; finds = h.finds }))

    pub row_more : (value : Bool) (i x : ℕ) (open' still : Bool) (now from new last : State) → LooksRow value i now open' → i < m.count s → x ≡ old.next → from.env ≡ now.env → from.base ≡ old.base → from.next ≡ now.next → from.out ≡ now.out → LooksBound r f v s i x open' from new still → last.env ≡ new.env → last.next ≡ new.next → last.out ≡ new.out → LooksRow value (i + 1) last still
    row_more value i x open' still now from new last row l q fe fb fn fo h le ln lo =
        let e : copies_at m f (bound v s i from) ≡ part_copy i = ap₂ (λ y z. copies m.voc m.count f ((v.0, (s, i)) ∷ y) z) (fe ∙ row.env) fb in
        let here : from.next ≡ part_at i = fn ∙ row.next in
        let there = subst (λ y. FindsThere old.next open' still (part_at i) (part_copy i) y new.out) fo
        (subst (λ z. FindsThere z open' still (part_at i) (part_copy i) from.out new.out) q (bound_at x i open' still from new h (part_at i) (part_copy i) here e)) in
        let zero-i : 0 + i ≡ i = omega arith in
        let plus : i + 1 ≡ suc i = add-one i in
        let more : flat_map part_clauses (places_from 0 (i + 1)) ≡ flat_map part_clauses (places_from 0 i) ++ part_clauses i =
        ap (λ k. flat_map part_clauses (places_from 0 k)) plus ∙ flat-more part_clauses 0 i ∙ ap (λ k. flat_map part_clauses (places_from 0 i) ++ part_clauses k) zero-i in
        record {
          next = ln ∙ h.next ∙ ap₂ (λ y z. y + z) here (ap size e) ∙ (let sum = sum-more (λ z. size (part_copy z)) 0 i ∙ ap (λ k. sum_from (λ z. size (part_copy z)) 0 i + size (part_copy k)) zero-i in let sums : sum_from (λ z. size (part_copy z)) 0 (i + 1) ≡ sum_from (λ z. size (part_copy z)) 0 (suc i) = ap (sum_from (λ z. size (part_copy z)) 0) plus in omega (arith, sum, sums));
          env = le ∙ h.env ∙ fe ∙ row.env;
          opens = λ w c u. subst (IsOpen still (w old.next)) (sym lo) (there.opens w (c i l) (row.opens w c u));
          finds = λ w c u.
              subst (λ z. Finds w (flat_map part_clauses (places_from 0 (i + 1))) old.out z) (sym lo)
              (subst (λ z. Finds w z old.out new.out) (sym more)
              (finds_both w (flat_map part_clauses (places_from 0 i)) (part_clauses i) old.out now.out new.out (row.finds w c u) (there.finds w (c i l) (row.opens w c u))));
        }

    pub row_whole : (value : Bool) (all : ℕ) (open' : Bool) (now last : State) → all ≡ m.count s → (m.count s ≡ 1 → ⊥) → (m.count s ≡ 0 → ⊥) → LooksRow value all now open' → last.env ≡ now.env → last.next ≡ now.next → last.out ≡ now.out → last.base ≡ old.base → LooksInto r (ForAll v s f) value old last
    row_whole value all open' now last q ne nz row le ln lo lb =
        let e : each (m.count s) part_copy ≡ Each (m.count s) part_copy = each_by (m.count s) part_copy ne nz in
        record {
          moves = record { next = ln ∙ row.next ∙ (let sizes : size (each (m.count s) part_copy) ≡ suc (sum_from (λ h. size (part_copy h)) 0 (m.count s)) = ap size e in let sums = ap (sum_from (λ h. size (part_copy h)) 0) q in omega (arith, sizes, sums)); base = λ t. ap (λ b. b t) lb ∙ sym (add-zero (old.base t)); env = le ∙ row.env };
          finds = λ w h u.
              subst (λ z. Finds w (node_clauses num old.next z) old.out last.out) (sym e)
              (subst (λ z. Finds w (flat_map part_clauses (places_from 0 (m.count s))) old.out z) (sym lo)
              (subst (λ k. Finds w (flat_map part_clauses (places_from 0 k)) old.out now.out) q (row.finds w (subst (Completes r w old.next) e h).1 u)));
        }
