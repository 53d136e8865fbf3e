-- Formulas in which atoms are replaced.
use Rattle.std.specs.Prelude.{List, [], ◌∷◌, if◌then◌else◌}
use Rattle.csdn_core.specs.declared.terms.Term.{Term}
use Rattle.csdn_core.specs.declared.terms.Pred.{Pred}
use Rattle.csdn_core.specs.declared.terms.Pred.TheVariants.{Ft, Sent, RcvThis}
use Rattle.csdn_core.specs.declared.syntax.Formula.{Formula}
use Rattle.csdn_core.specs.declared.syntax.Formula.TheVariants as f
use Rattle.csdn_core.specs.Tree.{negation, conjunction, disjunction, implication, equivalence, universal, existential}
use Rattle.csdn_core.specs.Network.{same_pred}

-- the formula with g of each atom in the atom's place
unfoldable pub replace : (Pred → List Term → Formula) → Formula → Formula
replace g f.True = f.True
replace g f.False = f.False
replace g (f.Atom r us) = g r us
replace g (f.Same t u) = f.Same t u
replace g (negation p) = negation (replace g p)
replace g (conjunction p q) = conjunction (replace g p) (replace g q)
replace g (disjunction p q) = disjunction (replace g p) (replace g q)
replace g (implication p q) = implication (replace g p) (replace g q)
replace g (equivalence p q) = equivalence (replace g p) (replace g q)
replace g (universal v s p) = universal v s (replace g p)
replace g (existential v s p) = existential v s (replace g p)

-- the equations of two lists of terms, one after another, which have as many
abbrev pub same : List Term → List Term → Formula
same (u ∷ []) (t ∷ []) = f.Same u t
same (u ∷ us) (t ∷ ts) = conjunction (f.Same u t) (same us ts)
same _ _ = f.True

-- the atom, or the tuple is the one put in
abbrev pub or_row : Pred → List Term → Pred → List Term → Formula
or_row r ts q us = if same_pred q r then disjunction (f.Atom q us) (same us ts) else f.Atom q us

-- the atom, and the tuple isn't the one taken out
abbrev pub not_row : Pred → List Term → Pred → List Term → Formula
not_row r ts q us = if same_pred q r then conjunction (f.Atom q us) (negation (same us ts)) else f.Atom q us

-- the first four of five terms are these
abbrev pub rule_of : List Term → List Term → Formula
rule_of (s ∷ a ∷ b ∷ i ∷ []) (u ∷ v ∷ w ∷ j ∷ o ∷ []) = same (u ∷ v ∷ w ∷ j ∷ []) (s ∷ a ∷ b ∷ i ∷ [])
rule_of _ _ = f.False

-- the atom, and the tuple isn't a rule of the match
abbrev pub not_match : List Term → Pred → List Term → Formula
not_match ts q us = if same_pred q Ft then conjunction (f.Atom q us) (negation (rule_of ts us)) else f.Atom q us

-- the tuple is the packet
abbrev pub is_row : List Term → Pred → List Term → Formula
is_row ts q us = if same_pred q RcvThis then same us ts else f.Atom q us

-- no tuple is the packet
abbrev pub no_row : Pred → List Term → Formula
no_row q us = if same_pred q RcvThis then f.False else f.Atom q us

-- the packet's own four terms, and another port
abbrev pub floods : List Term → List Term → Formula
floods (s ∷ a ∷ b ∷ i ∷ []) (u ∷ v ∷ w ∷ j ∷ o ∷ []) =
    conjunction (same (u ∷ v ∷ w ∷ j ∷ []) (s ∷ a ∷ b ∷ i ∷ [])) (negation (f.Same o i))
floods _ _ = f.False

-- the atom, or the tuple is one that the flood puts in
abbrev pub or_flood : List Term → Pred → List Term → Formula
or_flood ts q us = if same_pred q Sent then disjunction (f.Atom q us) (floods ts us) else f.Atom q us

-- what is true where the formula is true once the tuple is in the relation
abbrev pub add_row : Formula → Pred → List Term → Formula
add_row p r ts = replace (or_row r ts) p

-- .. once the tuple is out of the relation
abbrev pub drop_row : Formula → Pred → List Term → Formula
drop_row p r ts = replace (not_row r ts) p

-- .. once every rule of a match, of four terms, is out of `ft`
abbrev pub drop_match : Formula → List Term → Formula
drop_match p ts = replace (not_match ts) p

-- .. once the packet of four terms was sent from every port but its own
abbrev pub add_flood : Formula → List Term → Formula
add_flood p ts = replace (or_flood ts) p

-- .. when the packet is the tuple
abbrev pub fix_packet : Formula → List Term → Formula
fix_packet p ts = replace (is_row ts) p

-- .. when there is no packet
abbrev pub no_packet : Formula → Formula
no_packet p = replace no_row p
