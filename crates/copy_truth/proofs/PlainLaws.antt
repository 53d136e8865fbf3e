-- Plain forms, all their variables left open.
use Rattle.std.proofs.Common.{◌≡◌, ◌∙◌, ℕ, ◌-◌, ◌^◌, ◌<◌, ◌==◌, Bool, true, false, not, List, [], ◌∷◌, ◌++◌, refl, sym, ap, ap₂, cond, subst, inl, inr, eq-eqb}
use Rattle.std.proofs.lemmas.Bool.{cases_Bool, false≢true}
use Rattle.std.proofs.lemmas.List.{append-nil, append_assoc}
use Rattle.std.specs.List.{list_all}
use Rattle.csdn_core.specs.declared.terms.Sort.{Sort}
use Rattle.fol_forms.specs.Forms.{And, Atom, Fixed, ForAll, ForSome, Form, Or, Same}
use Rattle.form_trees.specs.Plain.{IsPlain, IsRectified, binds_variable}
use Rattle.decision_laws.specs.Copies.{Scope}
use Rattle.ground_inst.specs.Walk.{scope, ways_of}
use Rattle.ground_inst.specs.declared.places.Binding.{Binding}
use Rattle.ground_inst.proofs.Scopes.{scope_more}
use Rattle.copy_truth.specs.declared.opened.TheConstants.{OPEN}
use Rattle.copy_truth.specs.declared.opened.Variable.{Variable}
use Rattle.copy_truth.specs.declared.candidates.Candidates.{Candidates}
use Rattle.copy_truth.specs.declared.reading.Reading.{Reading}
use Rattle.copy_truth.specs.Breaking.{AreCandidates}
use Rattle.copy_truth.specs.Candidates.{has_place}
use Rattle.copy_truth.specs.Early.{Fits, HoldsOutside, IsFalseSomewhere, IsTrueThroughout, Stands}
use Rattle.copy_truth.specs.Judged.{judged_copies}
use Rattle.copy_truth.specs.Matrix.{binders}
use Rattle.copy_truth.proofs.FitsLaws.{all_known, fits_itself, fits_open, scope_known}
use Rattle.copy_truth.proofs.PrenexLaws.{Agrees, IsOf, Reaches, binder_of, bound_at, bound_there, constant_of, fails_matrix, free_there, plain_inner, true_matrix}
use Rattle.copy_truth.proofs.SetLaws.{has_ones}

-- no variable is open
abbrev pub AreKnown : List Binding → Type 0
AreKnown bs = list_all (λ b. not (b.place == OPEN)) bs ≡ true

pub opened_scope : (f : Form) (bs : List Binding) → scope (bs ++ binders f) ≡ bound_at OPEN f (scope bs)
opened_scope (Fixed b) bs = ap scope (append-nil bs)
opened_scope (Atom sign r ts) bs = ap scope (append-nil bs)
opened_scope (Same sign t u) bs = ap scope (append-nil bs)
opened_scope (And p q) bs = ap scope (sym (append_assoc bs (binders p) (binders q))) ∙ opened_scope q (bs ++ binders p) ∙ ap (bound_at OPEN q) (opened_scope p bs)
opened_scope (Or p q) bs = ap scope (sym (append_assoc bs (binders p) (binders q))) ∙ opened_scope q (bs ++ binders p) ∙ ap (bound_at OPEN q) (opened_scope p bs)
opened_scope (ForAll u s p) bs =
    let b : Binding = record { var = u; sort = s; place = OPEN } in
    ap scope (sym (append_assoc bs (b ∷ []) (binders p))) ∙ opened_scope p (bs ++ b ∷ []) ∙ ap (bound_at OPEN p) (scope_more bs b)
opened_scope (ForSome u s p) bs =
    let b : Binding = record { var = u; sort = s; place = OPEN } in
    ap scope (sym (append_assoc bs (b ∷ []) (binders p))) ∙ opened_scope p (bs ++ b ∷ []) ∙ ap (bound_at OPEN p) (scope_more bs b)

stands_open : (n : Sort → ℕ) (s : Sort) (p : Sort × ℕ) → IsOf n s p → Stands n (s, OPEN) p
stands_open n s p h = record { sort = sym h.sort; place = λ e. absurd (false≢true e); below = λ e. subst (λ t. p.1 < n t) (sym h.sort) h.below }

constant_open : (n : Sort → ℕ) (s : Sort) (p : Sort × ℕ) → Stands n (s, OPEN) p → IsOf n s p
constant_open n s p h = record { sort = sym h.sort; below = subst (λ t. p.1 < n t) (sym h.sort) (h.below refl) }

constant_known : (n : Sort → ℕ) (p q : Sort × ℕ) → not (p.1 == OPEN) ≡ true → Stands n p q → q ≡ p
constant_known n p q e h = ap₂ (λ s k. (s, k)) (sym h.sort) (sym (h.place e))

module _ (n : Sort → ℕ) (f : Form) (rectified : IsRectified f) where
  -- what stands in a scope where the variables are open, those that the form binds too
  pub fits_reached : (open' env full : Scope) → Fits n open' env → Reaches n f env full → Fits n (bound_at OPEN f open') full
  fits_reached open' env full h a v = elim (cases_Bool (binds_variable f v)) [
    | inl t ↦ (let w = binder_of f v t in subst (λ p. Stands n p (constant_of full v)) (sym (bound_there OPEN f open' rectified v w.0 w.1)) (stands_open n w.0 (constant_of full v) (a.bound v w.0 w.1)))
    | inr e ↦ subst (λ p. Stands n p (constant_of full v)) (sym (free_there OPEN f open' v e)) (subst (Stands n (constant_of open' v)) (sym (a.free v e)) (h v))
  ]

  pub agrees_fitting : (bs : List Binding) (full : Scope) → AreKnown bs → Fits n (bound_at OPEN f (scope bs)) full → Agrees n f (scope bs) full
  agrees_fitting bs full known fits = record {
    named = λ v e b. sym (constant_known n (constant_of (scope bs) v) (constant_of full v) (all_known (scope bs) (scope_known bs known) v) (subst (λ p. Stands n p (constant_of full v)) (free_there OPEN f (scope bs) v b) (fits v)));
    bound = λ v s i. constant_open n s (constant_of full v) (subst (λ p. Stands n p (constant_of full v)) (bound_there OPEN f (scope bs) rectified v s i) (fits v));
  }

module _ (r : Reading) (f : Form) (bs : List Binding) (base : Sort → ℕ) (known : AreKnown bs) where
  true_throughout : ((s : Sort) → 0 < (ways_of r.names).count s) → IsPlain f → IsTrueThroughout r f (bound_at OPEN f (scope bs)) → true ≡ judged_copies r f (scope bs) base
  true_throughout filled plain h = elim (cases_Bool (judged_copies r f (scope bs) base)) [
    | inl t ↦ sym t
    | inr e ↦ (let n = (ways_of r.names).count in
        let w = fails_matrix r filled f (scope bs) base plain e in
        absurd (false≢true (sym w.fails ∙ h w.full (fits_reached n f plain.rectified (scope bs) (scope bs) w.full (fits_itself n bs known) w.reaches))))
  ]

  false_somewhere : IsPlain f → IsFalseSomewhere r f (bound_at OPEN f (scope bs)) → false ≡ judged_copies r f (scope bs) base
  false_somewhere plain h = elim (cases_Bool (judged_copies r f (scope bs) base)) [
    | inl t ↦ absurd (false≢true (sym h.fails ∙ true_matrix r f (scope bs) h.full base plain (agrees_fitting (ways_of r.names).count f plain.rectified bs h.full known h.fits) t))
    | inr e ↦ sym e
  ]

  -- the copies are false exactly where the matrix is false somewhere
  pub plain_judged : ((s : Sort) → 0 < (ways_of r.names).count s) → IsPlain f → (b : Bool) (xs : List Binding) → xs ≡ bs ++ binders f → (b ≡ true → IsFalseSomewhere r f (scope xs)) → (b ≡ false → IsTrueThroughout r f (scope xs)) → not b ≡ judged_copies r f (scope bs) base
  plain_judged filled plain true xs e on off = false_somewhere plain (subst (IsFalseSomewhere r f) (ap scope e ∙ opened_scope f bs) (on refl))
  plain_judged filled plain false xs e on off = true_throughout filled plain (subst (IsTrueThroughout r f) (ap scope e ∙ opened_scope f bs) (off refl))

-- the constants at which a body may be false, found with its variable open
pub plain_candidates : (r : Reading) (f : Form) (x : Variable) (bs xs : List Binding) (c : Candidates) → ((s : Sort) → 0 < (ways_of r.names).count s) → AreKnown bs → IsPlain (ForAll x.var x.sort f) → xs ≡ (bs ++ record { var = x.var; sort = x.sort; place = OPEN } ∷ []) ++ binders f → HoldsOutside r f (scope xs) x c → AreCandidates r f x.var x.sort (scope bs) c
plain_candidates r f x bs xs c filled known plain e holds place below out base = elim (cases_Bool (judged_copies r f ((x.var.0, (x.sort, place)) ∷ scope bs) base)) [
  | inl t ↦ t
  | inr fails ↦ (let n = (ways_of r.names).count in
      let v = x.var.0 in
      let here : Scope = (v, (x.sort, place)) ∷ scope bs in
      let w = fails_matrix r filled f here base (plain_inner x.var x.sort f plain) fails in
      let is : constant_of w.full v ≡ (x.sort, place) = w.reaches.free v plain.rectified.1 ∙ ap (λ b. cond b (x.sort, place) (constant_of (scope bs) v)) (eq-eqb v v refl) in
      let opens : scope xs ≡ bound_at OPEN f ((v, (x.sort, OPEN)) ∷ scope bs) =
      ap scope e ∙ opened_scope f (bs ++ record { var = x.var; sort = x.sort; place = OPEN } ∷ []) ∙ ap (bound_at OPEN f) (scope_more bs (record { var = x.var; sort = x.sort; place = OPEN })) in
      let fits : Fits n (scope xs) w.full =
      subst (λ env. Fits n env w.full) (sym opens) (fits_reached n f plain.rectified.0 ((v, (x.sort, OPEN)) ∷ scope bs) here w.full (fits_open n (scope bs) (scope bs) v x.sort place below (fits_itself n bs known)) w.reaches) in
      absurd (false≢true (sym w.fails ∙ holds (record { bits = 2 ^ 128 - 1 }) w.full fits (record {
        sort = ap (λ p. p.0) is;
        below = subst (λ p. p.1 < n x.sort) (sym is) below;
        inside = has_ones (constant_of w.full v).1;
        outside = subst (λ p. has_place c p.1 ≡ false) (sym is) out;
      }))))
]
