-- The atoms of clauses as a list.
use Rattle.std.proofs.Common.{◌≡◌, ◌∙◌, ℕ, Bool, true, false, ◌||◌, ◌&&◌, eqb, List, [], ◌∷◌, ◌++◌, filter, flat_map, refl, sym, ap, ap₂, eqb-true, if◌then◌else◌}
use Rattle.std.proofs.Math.Bool.{or_assoc}
use Rattle.std.specs.List.{list_any}
use Rattle.clause_log.specs.Literals.{Literal, has_atom, truths}
use Rattle.general_facts.proofs.Numbers.{eqb-turned}
use Rattle.lazy_ground.specs.Completed.{atoms_in, is_named}

any_both : {X : Type 0} (p : X → Bool) (xs ys : List X) → list_any p (xs ++ ys) ≡ (list_any p xs || list_any p ys)
any_both p [] ys = refl
any_both p (x ∷ xs) ys = ap (λ b. p x || b) (any_both p xs ys) ∙ sym (or_assoc (p x) (list_any p xs) (list_any p ys))

in_clause : (c : List Literal) (x : ℕ) → truths (atoms_in c) x ≡ has_atom x c
in_clause [] x = refl
in_clause (l ∷ c) x = ap₂ (λ a b. a || b) (eqb-turned l.atom x) (in_clause c x)

pub atoms_named : (cs : List (List Literal)) (x : ℕ) → truths (flat_map atoms_in cs) x ≡ is_named cs x
atoms_named [] x = refl
atoms_named (c ∷ cs) x = any_both (λ t. eqb t x) (atoms_in c) (flat_map atoms_in cs) ∙ ap₂ (λ a b. a || b) (in_clause c x) (atoms_named cs x)

kept_step : (p : ℕ → Bool) (t x : ℕ) (k e : Bool) (rest : List ℕ) (r : Bool) → p t ≡ k → eqb t x ≡ e → truths rest x ≡ (p x && r) → truths (if k then t ∷ rest else rest) x ≡ (p x && (e || r))
kept_step p t x true true rest r k e h = ap (λ b. b || truths rest x) e ∙ sym (ap (λ b. b && true) (sym (ap p (eqb-true t x e)) ∙ k))
kept_step p t x true false rest r k e h = ap (λ b. b || truths rest x) e ∙ h
kept_step p t x false true rest r k e h = h ∙ ap (λ b. b && r) (sym (ap p (eqb-true t x e)) ∙ k) ∙ sym (ap (λ b. b && true) (sym (ap p (eqb-true t x e)) ∙ k))
kept_step p t x false false rest r k e h = h

pub kept_true : (p : ℕ → Bool) (ts : List ℕ) (x : ℕ) → truths (filter p ts) x ≡ (p x && truths ts x)
kept_true p [] x = none (p x) where
  none : (b : Bool) → false ≡ (b && false)
  none true = refl
  none false = refl
kept_true p (t ∷ ts) x = kept_step p t x (p t) (eqb t x) (filter p ts) (truths ts x) refl refl (kept_true p ts x)
