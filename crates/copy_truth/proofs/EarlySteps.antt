-- Where a matrix is true, whatever open variables stand for.
use Rattle.std.proofs.Common.{◌≡◌, ◌∙◌, ℕ, ◌+◌, ◌<◌, ◌==◌, Bool, true, false, not, List, [], ◌∷◌, refl, sym, ap, ap₂, cond, subst, arith, inl, inr, min, ◌||◌}
use Rattle.std.proofs.lemmas.Bool.{and_from, and_parts, cases_Bool, cases_eq, false≢true, ne_eqb, or_left, or_parts, or_right}
use Rattle.std.specs.List.{list_all}
use Rattle.csdn_core.specs.declared.terms.Sort.{Sort}
use Rattle.csdn_core.specs.declared.terms.Term.{Term}
use Rattle.csdn_core.specs.declared.terms.Term.TheVariants.{Const, Port, Var}
use Rattle.fol_forms.specs.Forms.{And, Form, Or, signed}
use Rattle.decision_laws.specs.Vocabulary.{Vocabulary, find_or}
use Rattle.decision_laws.specs.Copies.{Equation, Scope, Tuple, nothing, place, place_sort}
use Rattle.ground_inst.specs.Walk.{ways_of}
use Rattle.copy_truth.specs.declared.opened.TheConstants.{OPEN}
use Rattle.copy_truth.specs.declared.reading.Reading.{Reading}
use Rattle.copy_truth.specs.declared.candidates.Candidates.{Candidates}
use Rattle.copy_truth.specs.declared.facts.Leaf.{Leaf}
use Rattle.copy_truth.specs.declared.facts.Leaf.TheVariants as leaf
use Rattle.copy_truth.specs.declared.opened.Variable.{Variable}
use Rattle.copy_truth.specs.Candidates.{has_place}
use Rattle.copy_truth.specs.Early.{Fits, HoldsElsewhere, at_constant, is_known, is_known_leaf, leaf_form}
use Rattle.copy_truth.specs.Matrix.{matrix}
use Rattle.copy_truth.specs.Said.{said_by}
use Rattle.copy_truth.proofs.FitsLaws.{fits_at, lacking_small, same_place, same_place_sort, same_places}

leaf_same : (r : Reading) (env full : Scope) (sign : Bool) (l : Leaf) → Fits (ways_of r.names).count env full → is_known_leaf (ways_of r.names).voc env l ≡ true → matrix r (leaf_form sign l) env ≡ matrix r (leaf_form sign l) full
leaf_same r env full sign (leaf.Tuple rel ts) fits known =
    ap (λ xs. signed sign (said_by r (Tuple rel xs))) (same_places (ways_of r.names).count (ways_of r.names).voc env full fits ts.now known)
leaf_same r env full sign (leaf.Equation t u) fits known =
    let voc = (ways_of r.names).voc in
    let n = (ways_of r.names).count in
    let parts = and_parts (is_known voc env t) (is_known voc env u) known in
    ap (λ s. signed sign (said_by r (Equation s (place voc env t) (place voc env u)))) (same_place_sort n voc env full fits t)
    ∙ ap₂ (λ x y. signed sign (said_by r (Equation (place_sort voc full t) x y))) (same_place n voc env full fits t parts.0) (same_place n voc env full fits u parts.1)

-- a leaf that is known is the same whatever open variables stand for
pub known_throughout : (r : Reading) (env : Scope) (sign : Bool) (l : Leaf) (b c : Bool) → is_known_leaf (ways_of r.names).voc env l ≡ true → b ≡ matrix r (leaf_form sign l) env → b ≡ c → (full : Scope) → Fits (ways_of r.names).count env full → matrix r (leaf_form sign l) full ≡ c
known_throughout r env sign l b c known e is full fits = sym (leaf_same r env full sign l fits known) ∙ sym e ∙ is

-- what is known where the variable stands for one constant is known where it stands for another

small_known : (k : ℕ) → k < 128 → not (k == OPEN) ≡ true
small_known k l = ap not (ne_eqb k OPEN (λ e. absurd (omega (arith, l, e))))

known_first : (b : Bool) (s : Sort) (j k : ℕ) (q : Sort × ℕ) → k < 128 → not ((cond b (s, j) q).1 == OPEN) ≡ true → not ((cond b (s, k) q).1 == OPEN) ≡ true
known_first true s j k q l h = small_known k l
known_first false s j k q l h = h

module _ (voc : Vocabulary) (env : Scope) (x : Variable) (k : ℕ) (small : k < 128) where
  known_there : (t : Term) → is_known voc (at_constant x 0 env) t ≡ true → is_known voc (at_constant x k env) t ≡ true
  known_there (Var v) h = known_first (v.0 == x.var.0) x.sort 0 k (find_or nothing env v.0) small h
  known_there (Const c) h = h
  known_there (Port p) h = h

  all_known_there : (ts : List Term) → list_all (is_known voc (at_constant x 0 env)) ts ≡ true → list_all (is_known voc (at_constant x k env)) ts ≡ true
  all_known_there [] h = refl
  all_known_there (t ∷ ts) h =
      let parts = and_parts (is_known voc (at_constant x 0 env) t) (list_all (is_known voc (at_constant x 0 env)) ts) h in
      and_from (is_known voc (at_constant x k env) t) (list_all (is_known voc (at_constant x k env)) ts) (known_there t parts.0) (all_known_there ts parts.1)

  leaf_known_there : (l : Leaf) → is_known_leaf voc (at_constant x 0 env) l ≡ true → is_known_leaf voc (at_constant x k env) l ≡ true
  leaf_known_there (leaf.Tuple rel ts) h = all_known_there ts.now h
  leaf_known_there (leaf.Equation t u) h =
      let parts = and_parts (is_known voc (at_constant x 0 env) t) (is_known voc (at_constant x 0 env) u) h in
      and_from (is_known voc (at_constant x k env) t) (is_known voc (at_constant x k env) u) (known_there t parts.0) (known_there u parts.1)

module _ (r : Reading) (env : Scope) (x : Variable) (within : Candidates) where
  pub all_missed : (f : Form) → HoldsElsewhere r f env x within within
  all_missed f full fits at = absurd (false≢true (sym at.outside ∙ at.inside))

  pub known_elsewhere : (sign : Bool) (l : Leaf) (missed : Candidates) (b : Bool) → is_known_leaf (ways_of r.names).voc env l ≡ true → b ≡ matrix r (leaf_form sign l) env → b ≡ true → HoldsElsewhere r (leaf_form sign l) env x within missed
  known_elsewhere sign l missed b known e is full fits at = sym (leaf_same r env full sign l fits known) ∙ sym e ∙ is

  -- each constant below a place was tried
  abbrev pub AreTried : Bool → Leaf → Candidates → ℕ → Type 0
  AreTried sign l missed i = (k : ℕ) → k < i → has_place missed k ≡ false → has_place within k ≡ true → matrix r (leaf_form sign l) (at_constant x k env) ≡ true

  pub tried_one : (sign : Bool) (l : Leaf) (old new : Candidates) (i : ℕ) (b : Bool) → AreTried sign l old i → ((k : ℕ) → has_place new k ≡ false → has_place old k ≡ false) → ((k : ℕ) → has_place new k ≡ false → k ≡ i → b ≡ true) → (b ≡ true → has_place within i ≡ true → matrix r (leaf_form sign l) (at_constant x i env) ≡ true) → AreTried sign l new (i + 1)
  tried_one sign l old new i b h kept one value k lt lacks inside =
      elim (cases_eq k i) [
        | inl e ↦ subst (λ j. matrix r (leaf_form sign l) (at_constant x j env) ≡ true) (sym e) (value (one k lacks e) (subst (λ j. has_place within j ≡ true) e inside))
        | inr ne ↦ h k (omega (arith, lt, ne)) (kept k lacks) inside
      ]

  pub tried_elsewhere : (sign : Bool) (l : Leaf) (missed : Candidates) (i : ℕ) → is_known_leaf (ways_of r.names).voc (at_constant x 0 env) l ≡ true → i ≡ min ((ways_of r.names).count x.sort) 128 → AreTried sign l missed i → HoldsElsewhere r (leaf_form sign l) env x within missed
  tried_elsewhere sign l missed i known last h full fits at =
      let p = find_or nothing full x.var.0 in
      let small = lacking_small missed p.1 at.outside in
      sym (leaf_same r (at_constant x p.1 env) full sign l (fits_at (ways_of r.names).count env full x.var.0 x.sort fits at.sort at.below) (leaf_known_there (ways_of r.names).voc env x p.1 small l known))
      ∙ h p.1 (omega (arith, last, small, at.below)) at.outside at.inside

  pub both_elsewhere : (f g : Form) (c d e : Candidates) → HoldsElsewhere r f env x within c → HoldsElsewhere r g env x within d → ((k : ℕ) → has_place e k ≡ (has_place c k || has_place d k)) → HoldsElsewhere r (And f g) env x within e
  both_elsewhere f g c d e h k is full fits at =
      let p = find_or nothing full x.var.0 in
      let parts = or_parts (has_place c p.1) (has_place d p.1) (sym (is p.1) ∙ at.outside) in
      and_from (matrix r f full) (matrix r g full)
      (h full fits (record { sort = at.sort; below = at.below; inside = at.inside; outside = parts.0 })) (k full fits (record { sort = at.sort; below = at.below; inside = at.inside; outside = parts.1 }))

  pub first_elsewhere : (f g : Form) (c : Candidates) → HoldsElsewhere r f env x within c → HoldsElsewhere r (Or f g) env x within c
  first_elsewhere f g c h full fits at = or_left (matrix r f full) (matrix r g full) (h full fits at)

  pub either_elsewhere : (f g : Form) (c d : Candidates) → HoldsElsewhere r f env x within c → HoldsElsewhere r g env x c d → HoldsElsewhere r (Or f g) env x within d
  either_elsewhere f g c d h k full fits at =
      let p = find_or nothing full x.var.0 in
      elim (cases_Bool (has_place c p.1)) [
        | inl t ↦ or_right (matrix r f full) (matrix r g full) (k full fits (record { sort = at.sort; below = at.below; inside = t; outside = at.outside }))
        | inr o ↦ or_left (matrix r f full) (matrix r g full) (h full fits (record { sort = at.sort; below = at.below; inside = at.inside; outside = o }))
      ]
