-- What the tests of sameness say: of sorts, terms, relations and the cells of tuples.
use Rattle.std.proofs.Common.{◌≡◌, ap, ap₂, refl, ℕ, true, List, [], ◌∷◌, ◌==◌, ◌&&◌, eqb-true}
use Rattle.std.proofs.lemmas.Bool.{and_from, and_parts, false≢true}
use Rattle.general_facts.proofs.Numbers.{self_equal, eqb-turned}
use Rattle.csdn_core.specs.declared.terms.Sort.{Sort}
use Rattle.csdn_core.specs.declared.terms.Sort.TheVariants.{Sw, Ho, Pr}
use Rattle.csdn_core.specs.declared.terms.Term.{Term}
use Rattle.csdn_core.specs.declared.terms.Term.TheVariants.{Var, Const, Port}
use Rattle.csdn_core.specs.declared.terms.Pred.{Pred}
use Rattle.csdn_core.specs.declared.terms.Pred.TheVariants.{Stored, Ft, Sent, RcvThis}
use Rattle.csdn_core.specs.Network.{same_cells, same_pred}
use Rattle.csdn_core.specs.Same.{same_sort, same_term}

pub same_sort-refl : (s : Sort) → same_sort s s ≡ true
same_sort-refl Sw = refl
same_sort-refl Ho = refl
same_sort-refl Pr = refl

pub same_sort-is : (s t : Sort) → same_sort s t ≡ true → s ≡ t
same_sort-is Sw Sw e = refl
same_sort-is Ho Ho e = refl
same_sort-is Pr Pr e = refl
same_sort-is _ _ e = absurd (false≢true e)

pub same_term-refl : (t : Term) → same_term t t ≡ true
same_term-refl (Var v) = self_equal v.0
same_term-refl (Const v) = self_equal v.0
same_term-refl (Port v) = self_equal v

pub same_term-is : (t u : Term) → same_term t u ≡ true → t ≡ u
same_term-is (Var v) (Var w) e = ap (λ k. Var (record { 0 = k })) (eqb-true v.0 w.0 e)
same_term-is (Const v) (Const w) e = ap (λ k. Const (record { 0 = k })) (eqb-true v.0 w.0 e)
same_term-is (Port v) (Port w) e = ap Port (eqb-true v w e)
same_term-is _ _ e = absurd (false≢true e)

pub same_pred-refl : (r : Pred) → same_pred r r ≡ true
same_pred-refl (Stored r) = self_equal r.0
same_pred-refl Ft = refl
same_pred-refl Sent = refl
same_pred-refl RcvThis = refl

pub same_pred-is : (r q : Pred) → same_pred r q ≡ true → r ≡ q
same_pred-is (Stored r) (Stored q) e = ap (λ (n : ℕ). Stored (record { 0 = n })) (eqb-true r.0 q.0 e)
same_pred-is Ft Ft e = refl
same_pred-is Sent Sent e = refl
same_pred-is RcvThis RcvThis e = refl
same_pred-is _ _ e = absurd (false≢true e)

pub same_cells-refl : (ms : List ℕ) → same_cells ms ms ≡ true
same_cells-refl [] = refl
same_cells-refl (m ∷ ms) = and_from (m == m) (same_cells ms ms) (self_equal m) (same_cells-refl ms)

pub same_cells-is : (ms ns : List ℕ) → same_cells ms ns ≡ true → ms ≡ ns
same_cells-is [] [] e = refl
same_cells-is [] (n ∷ ns) e = absurd (false≢true e)
same_cells-is (m ∷ ms) [] e = absurd (false≢true e)
same_cells-is (m ∷ ms) (n ∷ ns) e =
    let parts = and_parts (m == n) (same_cells ms ns) e in
    ap₂ (λ k ks. k ∷ ks) (eqb-true m n parts.0) (same_cells-is ms ns parts.1)

pub same_cells-turned : (ms ns : List ℕ) → same_cells ms ns ≡ same_cells ns ms
same_cells-turned [] [] = refl
same_cells-turned [] (n ∷ ns) = refl
same_cells-turned (m ∷ ms) [] = refl
same_cells-turned (m ∷ ms) (n ∷ ns) = ap₂ (λ a b. a && b) (eqb-turned m n) (same_cells-turned ms ns)
