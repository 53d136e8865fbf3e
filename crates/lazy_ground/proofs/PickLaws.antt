-- Some of the clauses that are found.
use Rattle.std.proofs.Common.{◌≡◌, ◌∙◌, ℕ, zero, suc, ◌+◌, ◌<◌, Bool, true, false, List, [], ◌∷◌, ◌++◌, length, get_or, refl, sym, ap, subst, arith, inl, inr}
use Rattle.std.proofs.lemmas.Bool.{false≢true}
use Rattle.csdn_core.specs.Members.{IsIn}
use Rattle.csdn_core.proofs.Members.{in_both, one_in}
use Rattle.clause_log.specs.Literals.{ClauseList, Literal}
use Rattle.lazy_ground.specs.Found.{PutsIf}
use Rattle.lazy_ground.proofs.FindLaws.{not_more}

pub item_in : {X : Type 0} (xs : List X) (k : ℕ) (d : X) → k < length xs → IsIn (get_or xs k d) xs
item_in [] k d l = absurd (omega (arith, l))
item_in (x ∷ xs) zero d l = inl refl
item_in (x ∷ xs) (suc k) d l = inr (item_in xs k d (omega (arith, l)))

-- so far these were taken, and the first one
pub record ArePicked (found : ClauseList) (at : ℕ) (some : ClauseList) : Type 0 where
  pub atoms : some.atoms ≡ found.atoms
  pub within : (c : List Literal) → IsIn c some.clauses → IsIn c found.clauses
  pub first : 0 < at → some.clauses ≡ [] → ⊥

put_picked : (found some new : ClauseList) (at : ℕ) (c : List Literal) → ArePicked found at some → IsIn c found.clauses → new ≡ record { atoms = some.atoms; clauses = some.clauses ++ c ∷ [] } → ArePicked found (at + 1) new
put_picked found some new at c h i e = record {
  atoms = ap (λ z. z.atoms) e ∙ h.atoms;
  within = λ d j. elim (in_both some.clauses (c ∷ []) d (subst (λ z. IsIn d z.clauses) e j)) [ inl x ↦ h.within d x | inr y ↦ subst (λ z. IsIn z found.clauses) (sym (one_in d c y)) i ];
  first = λ l q. not_more some.clauses c [] (sym (ap (λ z. z.clauses) e) ∙ q);
}

kept_picked : (found some new : ClauseList) (at : ℕ) → ArePicked found at some → (at ≡ 0 → ⊥) → new ≡ some → ArePicked found (at + 1) new
kept_picked found some new at h ne e = record {
  atoms = ap (λ z. z.atoms) e ∙ h.atoms;
  within = λ d j. h.within d (subst (λ z. IsIn d z.clauses) e j);
  first = λ l q. h.first (omega (arith, ne)) (sym (ap (λ z. z.clauses) e) ∙ q);
}

pub more_picked : (found some new : ClauseList) (at : ℕ) (c : List Literal) (wanted : Bool) → ArePicked found at some → IsIn c found.clauses → (at ≡ 0 → wanted ≡ true) → PutsIf wanted some new c → ArePicked found (at + 1) new
more_picked found some new at c true h i f p = put_picked found some new at c h i p
more_picked found some new at c false h i f p = kept_picked found some new at h (λ e. false≢true (f e)) p

pub none_empty : (found some : ClauseList) (at : ℕ) → ArePicked found at some → at ≡ length found.clauses → some.clauses ≡ [] → found.clauses ≡ []
none_empty found some at h e q = empty_by found.clauses at e (λ l. h.first l q) where
  empty_by : (cs : List (List Literal)) (n : ℕ) → n ≡ length cs → (0 < n → ⊥) → cs ≡ []
  empty_by [] n e f = refl
  empty_by (c ∷ cs) n e f = absurd (f (omega (arith, e)))
