-- From the rules of programs to scopes.
use Rattle.std.proofs.Common.{◌≡◌, ◌<◌, ◌⊎◌, inl, inr, ℕ, ◌==◌, Bool, true, false, cond, List, [], ◌∷◌, ◌++◌, map, Some, None, refl, ap, sym, subst, ◌∙◌, Contains, arith}
use Rattle.std.proofs.lemmas.List.Elements.{Contains-append_cases}
use Rattle.std.proofs.lemmas.Option.{none-some}
use Rattle.std.proofs.lemmas.List.{append_assoc, append-nil}
use Rattle.general_facts.proofs.Numbers.{self_equal}
use Rattle.csdn_core.specs.declared.terms.VarId.{VarId}
use Rattle.csdn_core.specs.declared.terms.Sort.{Sort}
use Rattle.csdn_core.specs.Sorted.{Bind}
use Rattle.csdn_core.specs.SortedIn.{Scope, no_scope, with_sort, with_binds}
use Rattle.csdn_core.specs.Members.{IsIn, AreDistinct}
use Rattle.csdn_core.proofs.Members.{in_left, in_right, distinct_left, distinct_right, contains_in}

-- numbers that are new

-- the numbers are distinct, and none is in scope
pub record AreNew (Γ : Scope) (ns : List ℕ) : Type 0 where
  pub distinct : AreDistinct ns
  pub new : (n : ℕ) → IsIn n ns → Γ n ≡ None

pub AreNew-left : (Γ : Scope) (ms ns : List ℕ) → AreNew Γ (ms ++ ns) → AreNew Γ ms
AreNew-left Γ ms ns own = record { distinct = distinct_left ms ns own.distinct; new = λ n i. own.new n (in_left ms ns n i) }

pub AreNew-right : (Γ : Scope) (ms ns : List ℕ) → AreNew Γ (ms ++ ns) → AreNew Γ ns
AreNew-right Γ ms ns own = record { distinct = distinct_right ms ns own.distinct; new = λ n i. own.new n (in_right ms ns n i) }

pub AreNew-tail : (Γ : Scope) (n : ℕ) (ns : List ℕ) → AreNew Γ (n ∷ ns) → AreNew Γ ns
AreNew-tail Γ n ns own = record { distinct = own.distinct.1; new = λ m i. own.new m (inr i) }

-- another variable is as it was
pub still_none : (Γ : Scope) (v : VarId) (s : Sort) (n : ℕ) → (n ≡ v.0 → ⊥) → Γ n ≡ None → with_sort Γ v s n ≡ None
still_none Γ v s n other none = go (n == v.0) refl
  where
    go : (b : Bool) → (n == v.0) ≡ b → cond b (Some s) (Γ n) ≡ None
    go true is = absurd (other (grind arith))
    go false isnt = none

pub AreNew-under : (Γ : Scope) (v : VarId) (s : Sort) (ns : List ℕ) → AreNew Γ (v.0 ∷ ns) → AreNew (with_sort Γ v s) ns
AreNew-under Γ v s ns own = record {
  distinct = own.distinct.1;
  new = λ n i. still_none Γ v s n (λ is. own.distinct.0 (subst (λ m. IsIn m ns) is i)) (own.new n (inr i));
}

-- nothing is in scope yet
pub AreNew-none : (ns : List ℕ) → AreDistinct ns → AreNew no_scope ns
AreNew-none ns distinct = record { distinct = distinct; new = λ n i. refl }

-- lists of variables and scopes

abbrev pub bind : VarId → Sort → Bind
bind v s = record { var = v; sort = s }

abbrev pub numbers_of : List Bind → List ℕ
numbers_of bs = map (λ b. b.var.0) bs

-- each variable of the list is in scope with its sort
abbrev pub AreInScope : List Bind → Scope → Type 0
AreInScope bs Γ = (b : Bind) → Contains bs b → Γ b.var.0 ≡ Some b.sort

pub AreInScope-none : (Γ : Scope) → AreInScope [] Γ
AreInScope-none Γ b there = absurd (let within : there.0 < 0 = there.1 in omega arith)

pub AreInScope-more : (bs : List Bind) (Γ : Scope) (v : VarId) (s : Sort) → Γ v.0 ≡ None → AreInScope bs Γ → AreInScope (bs ++ bind v s ∷ []) (with_sort Γ v s)
AreInScope-more bs Γ v s new all b there = by_case b (Contains-append_cases bs (bind v s ∷ []) b there)
  where
    earlier : (b : Bind) → Γ b.var.0 ≡ Some b.sort → (t : Bool) → (b.var.0 == v.0) ≡ t → cond t (Some s) (Γ b.var.0) ≡ Some b.sort
    earlier b has false other = has
    earlier b has true is = absurd (none-some b.sort (sym new ∙ ap Γ (let e : v.0 ≡ b.var.0 = grind arith in e) ∙ has))

    by_case : (b : Bind) → Contains bs b ⊎ Contains (bind v s ∷ []) b → with_sort Γ v s b.var.0 ≡ Some b.sort
    by_case b (inl before) = earlier b (all b before) (b.var.0 == v.0) refl
    by_case b (inr here) = elim (contains_in (bind v s ∷ []) b here) [
      | inl is ↦ subst (λ (c : Bind). with_sort Γ v s c.var.0 ≡ Some c.sort) (sym is) (rw (self_equal v.0))
      | inr more ↦ absurd more
    ]

pub AreNew-binds : (bs : List Bind) (Γ : Scope) (ns : List ℕ) → AreNew Γ (numbers_of bs ++ ns) → AreNew (with_binds Γ bs) ns
AreNew-binds [] Γ ns own = own
AreNew-binds (b ∷ bs) Γ ns own = AreNew-binds bs (with_sort Γ b.var b.sort) ns (AreNew-under Γ b.var b.sort (numbers_of bs ++ ns) own)

pub AreInScope-binds : (front bs : List Bind) (Γ : Scope) (ns : List ℕ) → AreNew Γ (numbers_of bs ++ ns) → AreInScope front Γ → AreInScope (front ++ bs) (with_binds Γ bs)
AreInScope-binds front [] Γ ns own all = subst (λ cs. AreInScope cs Γ) (sym (append-nil front)) all
AreInScope-binds front (b ∷ bs) Γ ns own all =
    subst (λ cs. AreInScope cs (with_binds (with_sort Γ b.var b.sort) bs)) (append_assoc front (b ∷ []) bs)
    (AreInScope-binds (front ++ b ∷ []) bs (with_sort Γ b.var b.sort) ns (AreNew-under Γ b.var b.sort (numbers_of bs ++ ns) own) (AreInScope-more front Γ b.var b.sort (own.new b.var.0 (inl refl)) all))
