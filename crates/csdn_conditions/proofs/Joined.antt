-- Lists of formulas, joined from the end.
use Rattle.std.proofs.Common.{◌≡◌, ◌∙◌, sym, ap, subst, refl, List, [], ◌∷◌, ◌++◌, append_assoc}
use Rattle.csdn_core.specs.declared.syntax.Formula.{Formula}
use Rattle.csdn_conditions.specs.declared.lists.Join.{Join}
use Rattle.csdn_conditions.specs.Lists.{joined, two_joined}

joined-last : (j : Join) (ps : List Formula) (p q : Formula) → joined j (ps ++ two_joined j p q ∷ []) ≡ joined j (ps ++ p ∷ q ∷ [])
joined-last j [] p q = refl
joined-last j (r ∷ []) p q = refl
joined-last j (r ∷ s ∷ ps) p q = ap (two_joined j r) (joined-last j (s ∷ ps) p q)

-- the last two as one
pub joined_before : (j : Join) (whole before rest : List Formula) (p q : Formula) → before ≡ rest ++ p ∷ [] → joined j (before ++ q ∷ []) ≡ joined j whole → joined j (rest ++ two_joined j p q ∷ []) ≡ joined j whole
joined_before j whole before rest p q is so_far =
    joined-last j rest p q ∙ sym (ap (joined j) (append_assoc rest (p ∷ []) (q ∷ [])))
    ∙ subst (λ (z : List Formula). joined j (z ++ q ∷ []) ≡ joined j whole) is so_far
