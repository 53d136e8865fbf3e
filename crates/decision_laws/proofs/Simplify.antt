-- A formula without its truth values says the same.
use Rattle.std.proofs.Common.{Bool, List, None, Option, Some, [], ap, ap₂, arith, false, max, refl, sym, true, ℕ, ◌&&◌, ◌+◌, ◌||◌, ◌∙◌, ◌∷◌, ◌≡◌, ◌≤◌}
use Rattle.std.proofs.lemmas.Bool.{and_from, and_parts, false≢true}
use Rattle.std.specs.List.{list_all, list_any}
use Rattle.std.proofs.Math.Bool.{and-true, and-false, or-true, or-false}
use Rattle.csdn_core.specs.declared.terms.VarId.{VarId}
use Rattle.csdn_core.specs.declared.terms.Sort.{Sort}
use Rattle.csdn_core.specs.Truth.{Assignment, Structure, with_var}
use Rattle.decision_laws.proofs.Basics.{IsStructure}
use Rattle.decision_laws.specs.Vocabulary.{Vocabulary}
use Rattle.decision_laws.proofs.Fits.{fits}
use Rattle.fol_forms.specs.Forms.{And, Atom, Fixed, ForAll, ForSome, Form, Or, Same, form_truth, in_fragment, is_universal}
use Rattle.fol_forms.specs.Constants.{need, one_if}
use Rattle.decision_laws.specs.Simplified.{all_by, and_by, fixed_of, or_by, simplified, some_by}
use Rattle.csdn_core.specs.Members.{IsIn}

-- no truth value in it
abbrev pub is_bare : Form → Bool
is_bare (Fixed b) = false
is_bare (Atom sign r terms) = true
is_bare (Same sign t u) = true
is_bare (And l r) = is_bare l && is_bare r
is_bare (Or l r) = is_bare l && is_bare r
is_bare (ForAll v s body) = is_bare body
is_bare (ForSome v s body) = is_bare body

pub fixed_is : (f : Form) (b : Bool) → fixed_of f ≡ Some b → f ≡ Fixed b
fixed_is (Fixed c) b e = cc
fixed_is (Atom sign r terms) b e = cc
fixed_is (Same sign t u) b e = cc
fixed_is (And l r) b e = cc
fixed_is (Or l r) b e = cc
fixed_is (ForAll v s body) b e = cc
fixed_is (ForSome v s body) b e = cc

form_truth-and_by : (m : Structure) (e : Assignment) (o u : Option Bool) (f g : Form) → fixed_of f ≡ o → fixed_of g ≡ u → form_truth m (and_by o u f g) e ≡ (form_truth m f e && form_truth m g e)
form_truth-and_by m e (Some true) u f g p q = sym (ap (λ h. form_truth m h e && form_truth m g e) (fixed_is f true p))
form_truth-and_by m e (Some false) u f g p q = sym (ap (λ h. form_truth m h e && form_truth m g e) (fixed_is f false p))
form_truth-and_by m e None (Some true) f g p q = sym (ap (λ h. form_truth m f e && form_truth m h e) (fixed_is g true q) ∙ and-true (form_truth m f e))
form_truth-and_by m e None (Some false) f g p q = sym (ap (λ h. form_truth m f e && form_truth m h e) (fixed_is g false q) ∙ and-false (form_truth m f e))
form_truth-and_by m e None None f g p q = refl

form_truth-or_by : (m : Structure) (e : Assignment) (o u : Option Bool) (f g : Form) → fixed_of f ≡ o → fixed_of g ≡ u → form_truth m (or_by o u f g) e ≡ (form_truth m f e || form_truth m g e)
form_truth-or_by m e (Some true) u f g p q = sym (ap (λ h. form_truth m h e || form_truth m g e) (fixed_is f true p))
form_truth-or_by m e (Some false) u f g p q = sym (ap (λ h. form_truth m h e || form_truth m g e) (fixed_is f false p))
form_truth-or_by m e None (Some true) f g p q = sym (ap (λ h. form_truth m f e || form_truth m h e) (fixed_is g true q) ∙ or-true (form_truth m f e))
form_truth-or_by m e None (Some false) f g p q = sym (ap (λ h. form_truth m f e || form_truth m h e) (fixed_is g false q) ∙ or-false (form_truth m f e))
form_truth-or_by m e None None f g p q = refl

all_true : (xs : List ℕ) → list_all (λ _. true) xs ≡ true
all_true [] = refl
all_true (x ∷ xs) = all_true xs

any_false : (xs : List ℕ) → list_any (λ _. false) xs ≡ false
any_false [] = refl
any_false (x ∷ xs) = any_false xs

all_constant : (b : Bool) (xs : List ℕ) (x : ℕ) → IsIn x xs → list_all (λ _. b) xs ≡ b
all_constant b [] x i = elim i [ ]
all_constant true (y ∷ ys) x i = all_true ys
all_constant false (y ∷ ys) x i = refl

any_constant : (b : Bool) (xs : List ℕ) (x : ℕ) → IsIn x xs → list_any (λ _. b) xs ≡ b
any_constant b [] x i = elim i [ ]
any_constant true (y ∷ ys) x i = refl
any_constant false (y ∷ ys) x i = any_false ys

all_same : (p q : ℕ → Bool) → ((x : ℕ) → p x ≡ q x) → (xs : List ℕ) → list_all p xs ≡ list_all q xs
all_same p q h [] = refl
all_same p q h (x ∷ xs) = ap₂ (λ a b. a && b) (h x) (all_same p q h xs)

any_same : (p q : ℕ → Bool) → ((x : ℕ) → p x ≡ q x) → (xs : List ℕ) → list_any p xs ≡ list_any q xs
any_same p q h [] = refl
any_same p q h (x ∷ xs) = ap₂ (λ a b. a || b) (h x) (any_same p q h xs)

form_truth-all_by : (voc : Vocabulary) (m : Structure) → IsStructure voc m → (e : Assignment) (o : Option Bool) (v : VarId) (s : Sort) (f : Form) → fixed_of f ≡ o → form_truth m (all_by o v s f) e ≡ list_all (λ x. form_truth m f (with_var e v x)) (m.elements s)
form_truth-all_by voc m is e (Some b) v s f p =
    sym (ap (λ h. list_all (λ x. form_truth m h (with_var e v x)) (m.elements s)) (fixed_is f b p) ∙ all_constant b (m.elements s) (is.filled s).0 (is.filled s).1)
form_truth-all_by voc m is e None v s f p = refl

form_truth-some_by : (voc : Vocabulary) (m : Structure) → IsStructure voc m → (e : Assignment) (o : Option Bool) (v : VarId) (s : Sort) (f : Form) → fixed_of f ≡ o → form_truth m (some_by o v s f) e ≡ list_any (λ x. form_truth m f (with_var e v x)) (m.elements s)
form_truth-some_by voc m is e (Some b) v s f p =
    sym (ap (λ h. list_any (λ x. form_truth m h (with_var e v x)) (m.elements s)) (fixed_is f b p) ∙ any_constant b (m.elements s) (is.filled s).0 (is.filled s).1)
form_truth-some_by voc m is e None v s f p = refl

pub form_truth-simplified : (voc : Vocabulary) (m : Structure) → IsStructure voc m → (f : Form) (e : Assignment) → form_truth m (simplified f) e ≡ form_truth m f e
form_truth-simplified voc m is (Fixed b) e = refl
form_truth-simplified voc m is (Atom sign r terms) e = refl
form_truth-simplified voc m is (Same sign t u) e = refl
form_truth-simplified voc m is (And l r) e =
    form_truth-and_by m e (fixed_of (simplified l)) (fixed_of (simplified r)) (simplified l) (simplified r) refl refl ∙ ap₂ (λ a b. a && b) (form_truth-simplified voc m is l e) (form_truth-simplified voc m is r e)
form_truth-simplified voc m is (Or l r) e =
    form_truth-or_by m e (fixed_of (simplified l)) (fixed_of (simplified r)) (simplified l) (simplified r) refl refl ∙ ap₂ (λ a b. a || b) (form_truth-simplified voc m is l e) (form_truth-simplified voc m is r e)
form_truth-simplified voc m is (ForAll v s body) e =
    form_truth-all_by voc m is e (fixed_of (simplified body)) v s (simplified body) refl ∙ all_same (λ x. form_truth m (simplified body) (with_var e v x)) (λ x. form_truth m body (with_var e v x)) (λ x. form_truth-simplified voc m is body (with_var e v x)) (m.elements s)
form_truth-simplified voc m is (ForSome v s body) e =
    form_truth-some_by voc m is e (fixed_of (simplified body)) v s (simplified body) refl ∙ any_same (λ x. form_truth m (simplified body) (with_var e v x)) (λ x. form_truth m body (with_var e v x)) (λ x. form_truth-simplified voc m is body (with_var e v x)) (m.elements s)

-- What a connective or quantifier keeps.

fits-and_by : (voc : Vocabulary) (bound : List (ℕ × Sort)) (o u : Option Bool) (f g : Form) → fits voc bound f ≡ true → fits voc bound g ≡ true → fits voc bound (and_by o u f g) ≡ true
fits-and_by voc bound (Some true) u f g p q = q
fits-and_by voc bound (Some false) u f g p q = refl
fits-and_by voc bound None (Some true) f g p q = p
fits-and_by voc bound None (Some false) f g p q = refl
fits-and_by voc bound None None f g p q = and_from (fits voc bound f) (fits voc bound g) p q

fits-or_by : (voc : Vocabulary) (bound : List (ℕ × Sort)) (o u : Option Bool) (f g : Form) → fits voc bound f ≡ true → fits voc bound g ≡ true → fits voc bound (or_by o u f g) ≡ true
fits-or_by voc bound (Some true) u f g p q = refl
fits-or_by voc bound (Some false) u f g p q = q
fits-or_by voc bound None (Some true) f g p q = refl
fits-or_by voc bound None (Some false) f g p q = p
fits-or_by voc bound None None f g p q = and_from (fits voc bound f) (fits voc bound g) p q

fits-all_by : (voc : Vocabulary) (bound : List (ℕ × Sort)) (o : Option Bool) (v : VarId) (s : Sort) (f : Form) → fits voc ((v.0, s) ∷ bound) f ≡ true → fits voc bound (all_by o v s f) ≡ true
fits-all_by voc bound (Some b) v s f p = refl
fits-all_by voc bound None v s f p = p

fits-some_by : (voc : Vocabulary) (bound : List (ℕ × Sort)) (o : Option Bool) (v : VarId) (s : Sort) (f : Form) → fits voc ((v.0, s) ∷ bound) f ≡ true → fits voc bound (some_by o v s f) ≡ true
fits-some_by voc bound (Some b) v s f p = refl
fits-some_by voc bound None v s f p = p

pub fits-simplified : (voc : Vocabulary) (f : Form) (bound : List (ℕ × Sort)) → fits voc bound f ≡ true → fits voc bound (simplified f) ≡ true
fits-simplified voc (Fixed b) bound h = h
fits-simplified voc (Atom sign r terms) bound h = h
fits-simplified voc (Same sign t u) bound h = h
fits-simplified voc (And l r) bound h =
    let p = and_parts (fits voc bound l) (fits voc bound r) h in
    fits-and_by voc bound (fixed_of (simplified l)) (fixed_of (simplified r)) (simplified l) (simplified r) (fits-simplified voc l bound p.0) (fits-simplified voc r bound p.1)
fits-simplified voc (Or l r) bound h =
    let p = and_parts (fits voc bound l) (fits voc bound r) h in
    fits-or_by voc bound (fixed_of (simplified l)) (fixed_of (simplified r)) (simplified l) (simplified r) (fits-simplified voc l bound p.0) (fits-simplified voc r bound p.1)
fits-simplified voc (ForAll v s body) bound h = fits-all_by voc bound (fixed_of (simplified body)) v s (simplified body) (fits-simplified voc body ((v.0, s) ∷ bound) h)
fits-simplified voc (ForSome v s body) bound h = fits-some_by voc bound (fixed_of (simplified body)) v s (simplified body) (fits-simplified voc body ((v.0, s) ∷ bound) h)

universal-and_by : (o u : Option Bool) (f g : Form) → is_universal f ≡ true → is_universal g ≡ true → is_universal (and_by o u f g) ≡ true
universal-and_by (Some true) u f g p q = q
universal-and_by (Some false) u f g p q = refl
universal-and_by None (Some true) f g p q = p
universal-and_by None (Some false) f g p q = refl
universal-and_by None None f g p q = and_from (is_universal f) (is_universal g) p q

universal-or_by : (o u : Option Bool) (f g : Form) → is_universal f ≡ true → is_universal g ≡ true → is_universal (or_by o u f g) ≡ true
universal-or_by (Some true) u f g p q = refl
universal-or_by (Some false) u f g p q = q
universal-or_by None (Some true) f g p q = refl
universal-or_by None (Some false) f g p q = p
universal-or_by None None f g p q = and_from (is_universal f) (is_universal g) p q

universal-all_by : (o : Option Bool) (v : VarId) (s : Sort) (f : Form) → is_universal f ≡ true → is_universal (all_by o v s f) ≡ true
universal-all_by (Some b) v s f p = refl
universal-all_by None v s f p = p

pub universal-simplified : (f : Form) → is_universal f ≡ true → is_universal (simplified f) ≡ true
universal-simplified (Fixed b) h = h
universal-simplified (Atom sign r terms) h = h
universal-simplified (Same sign t u) h = h
universal-simplified (And l r) h =
    let p = and_parts (is_universal l) (is_universal r) h in
    universal-and_by (fixed_of (simplified l)) (fixed_of (simplified r)) (simplified l) (simplified r) (universal-simplified l p.0) (universal-simplified r p.1)
universal-simplified (Or l r) h =
    let p = and_parts (is_universal l) (is_universal r) h in
    universal-or_by (fixed_of (simplified l)) (fixed_of (simplified r)) (simplified l) (simplified r) (universal-simplified l p.0) (universal-simplified r p.1)
universal-simplified (ForAll v s body) h = universal-all_by (fixed_of (simplified body)) v s (simplified body) (universal-simplified body h)
universal-simplified (ForSome v s body) h = absurd (false≢true h)

inside-and_by : (o u : Option Bool) (f g : Form) → in_fragment f ≡ true → in_fragment g ≡ true → in_fragment (and_by o u f g) ≡ true
inside-and_by (Some true) u f g p q = q
inside-and_by (Some false) u f g p q = refl
inside-and_by None (Some true) f g p q = p
inside-and_by None (Some false) f g p q = refl
inside-and_by None None f g p q = and_from (in_fragment f) (in_fragment g) p q

inside-or_by : (o u : Option Bool) (f g : Form) → in_fragment f ≡ true → in_fragment g ≡ true → in_fragment (or_by o u f g) ≡ true
inside-or_by (Some true) u f g p q = refl
inside-or_by (Some false) u f g p q = q
inside-or_by None (Some true) f g p q = refl
inside-or_by None (Some false) f g p q = p
inside-or_by None None f g p q = and_from (in_fragment f) (in_fragment g) p q

inside-all_by : (o : Option Bool) (v : VarId) (s : Sort) (f : Form) → is_universal f ≡ true → in_fragment (all_by o v s f) ≡ true
inside-all_by (Some b) v s f p = refl
inside-all_by None v s f p = p

inside-some_by : (o : Option Bool) (v : VarId) (s : Sort) (f : Form) → in_fragment f ≡ true → in_fragment (some_by o v s f) ≡ true
inside-some_by (Some b) v s f p = refl
inside-some_by None v s f p = p

pub inside-simplified : (f : Form) → in_fragment f ≡ true → in_fragment (simplified f) ≡ true
inside-simplified (Fixed b) h = h
inside-simplified (Atom sign r terms) h = h
inside-simplified (Same sign t u) h = h
inside-simplified (And l r) h =
    let p = and_parts (in_fragment l) (in_fragment r) h in
    inside-and_by (fixed_of (simplified l)) (fixed_of (simplified r)) (simplified l) (simplified r) (inside-simplified l p.0) (inside-simplified r p.1)
inside-simplified (Or l r) h =
    let p = and_parts (in_fragment l) (in_fragment r) h in
    inside-or_by (fixed_of (simplified l)) (fixed_of (simplified r)) (simplified l) (simplified r) (inside-simplified l p.0) (inside-simplified r p.1)
inside-simplified (ForAll v s body) h = inside-all_by (fixed_of (simplified body)) v s (simplified body) (universal-simplified body h)
inside-simplified (ForSome v s body) h = inside-some_by (fixed_of (simplified body)) v s (simplified body) (inside-simplified body h)

need-and_by : (o u : Option Bool) (f g : Form) (s : Sort) → need (and_by o u f g) s ≤ need f s + need g s
need-and_by (Some true) u f g s = omega arith
need-and_by (Some false) u f g s = omega arith
need-and_by None (Some true) f g s = omega arith
need-and_by None (Some false) f g s = omega arith
need-and_by None None f g s = omega arith

need-or_by : (o u : Option Bool) (f g : Form) (s : Sort) → need (or_by o u f g) s ≤ max (need f s) (need g s)
need-or_by (Some true) u f g s = omega arith
need-or_by (Some false) u f g s = omega arith
need-or_by None (Some true) f g s = omega arith
need-or_by None (Some false) f g s = omega arith
need-or_by None None f g s = omega arith

need-all_by : (o : Option Bool) (v : VarId) (t : Sort) (f : Form) (s : Sort) → need (all_by o v t f) s ≡ 0
need-all_by (Some b) v t f s = refl
need-all_by None v t f s = refl

need-some_by : (o : Option Bool) (v : VarId) (t : Sort) (f : Form) (s : Sort) → need (some_by o v t f) s ≤ need f s + one_if t s
need-some_by (Some b) v t f s = omega arith
need-some_by None v t f s = omega arith

pub need-simplified : (f : Form) (s : Sort) → need (simplified f) s ≤ need f s
need-simplified (Fixed b) s = omega arith
need-simplified (Atom sign r terms) s = omega arith
need-simplified (Same sign t u) s = omega arith
need-simplified (And l r) s = omega (arith, need-and_by (fixed_of (simplified l)) (fixed_of (simplified r)) (simplified l) (simplified r) s, need-simplified l s, need-simplified r s)
need-simplified (Or l r) s = omega (arith, need-or_by (fixed_of (simplified l)) (fixed_of (simplified r)) (simplified l) (simplified r) s, need-simplified l s, need-simplified r s)
need-simplified (ForAll v t body) s = omega (arith, need-all_by (fixed_of (simplified body)) v t (simplified body) s)
need-simplified (ForSome v t body) s = omega (arith, need-some_by (fixed_of (simplified body)) v t (simplified body) s, need-simplified body s)

bare-and_by : (o u : Option Bool) (f g : Form) → fixed_of f ≡ o → fixed_of g ≡ u → (fixed_of f ≡ None → is_bare f ≡ true) → (fixed_of g ≡ None → is_bare g ≡ true) → fixed_of (and_by o u f g) ≡ None → is_bare (and_by o u f g) ≡ true
bare-and_by (Some true) u f g p q hf hg e = hg e
bare-and_by (Some false) u f g p q hf hg e = cc
bare-and_by None (Some true) f g p q hf hg e = hf e
bare-and_by None (Some false) f g p q hf hg e = cc
bare-and_by None None f g p q hf hg e = and_from (is_bare f) (is_bare g) (hf p) (hg q)

bare-or_by : (o u : Option Bool) (f g : Form) → fixed_of f ≡ o → fixed_of g ≡ u → (fixed_of f ≡ None → is_bare f ≡ true) → (fixed_of g ≡ None → is_bare g ≡ true) → fixed_of (or_by o u f g) ≡ None → is_bare (or_by o u f g) ≡ true
bare-or_by (Some true) u f g p q hf hg e = cc
bare-or_by (Some false) u f g p q hf hg e = hg e
bare-or_by None (Some true) f g p q hf hg e = cc
bare-or_by None (Some false) f g p q hf hg e = hf e
bare-or_by None None f g p q hf hg e = and_from (is_bare f) (is_bare g) (hf p) (hg q)

bare-all_by : (o : Option Bool) (v : VarId) (s : Sort) (f : Form) → fixed_of f ≡ o → (fixed_of f ≡ None → is_bare f ≡ true) → fixed_of (all_by o v s f) ≡ None → is_bare (all_by o v s f) ≡ true
bare-all_by (Some b) v s f p h e = cc
bare-all_by None v s f p h e = h p

bare-some_by : (o : Option Bool) (v : VarId) (s : Sort) (f : Form) → fixed_of f ≡ o → (fixed_of f ≡ None → is_bare f ≡ true) → fixed_of (some_by o v s f) ≡ None → is_bare (some_by o v s f) ≡ true
bare-some_by (Some b) v s f p h e = cc
bare-some_by None v s f p h e = h p

pub bare-simplified : (f : Form) → fixed_of (simplified f) ≡ None → is_bare (simplified f) ≡ true
bare-simplified (Fixed b) e = cc
bare-simplified (Atom sign r terms) e = refl
bare-simplified (Same sign t u) e = refl
bare-simplified (And l r) e = bare-and_by (fixed_of (simplified l)) (fixed_of (simplified r)) (simplified l) (simplified r) refl refl (bare-simplified l) (bare-simplified r) e
bare-simplified (Or l r) e = bare-or_by (fixed_of (simplified l)) (fixed_of (simplified r)) (simplified l) (simplified r) refl refl (bare-simplified l) (bare-simplified r) e
bare-simplified (ForAll v s body) e = bare-all_by (fixed_of (simplified body)) v s (simplified body) refl (bare-simplified body) e
bare-simplified (ForSome v s body) e = bare-some_by (fixed_of (simplified body)) v s (simplified body) refl (bare-simplified body) e
